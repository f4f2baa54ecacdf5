-- What a pen has written.
use Rattle.std.specs.Prelude.{◌≡◌, ℕ, false, List, ◌++◌, string_bytes}
use Rattle.pg_script_diagram.specs.declared.pen.Pen.{Pen}

-- the bytes so far
abbrev pub written : Pen → List ℕ
written pen = string_bytes pen.out

-- a pen wrote these bytes at its end, where memory was never short
abbrev pub Writes : List ℕ → Pen → Pen → Type 0
Writes text old new = new.is_short ≡ false → (old.is_short ≡ false) × (written new ≡ written old ++ text)
