-- What is written where a write may fail.
use Rattle.std.specs.Prelude.{◌≡◌, ℕ, List, ◌++◌, Option, Result, Ok, Err, codes, decimal}
use Rattle.std.specs.Io.KnownBytes.{Appends}
use Rattle.pg_cluster.specs.PgNode.Replicas.Causes.{FailedAt}
use Rattle.pg_script.specs.declared.fault.RunFault.{RunFault}

-- a prefix of the text was written
abbrev pub WritesSome : Option (List ℕ) → Option (List ℕ) → List ℕ → Type 0
WritesSome before after text = (part : List ℕ) × (behind : List ℕ) × (part ++ behind ≡ text) × Appends before after part

-- the whole text was written; or a write failed, and a prefix of it was
abbrev pub WritesOut : {W : Type 0} → (W → W → Type 0) → Option (List ℕ) → Option (List ℕ) → W → List ℕ → Result (Unit {0}) RunFault → Type 0
WritesOut fails before after now text (Ok done) = Appends before after text
WritesOut fails before after now text (Err fault) = WritesSome before after text × FailedAt fails now

-- ---- the lines

-- `N`, and a line feed
abbrev pub number_end : ℕ → List ℕ
number_end number = decimal number ++ codes "\n"

-- `refused N`, and a line feed
abbrev pub refused_line : ℕ → List ℕ
refused_line number = codes "refused " ++ number_end number

-- ` refused N`, and a line feed
abbrev pub behind_refused : ℕ → List ℕ
behind_refused number = codes " " ++ refused_line number

-- `L refused N`, and a line feed
abbrev pub number_refused : ℕ → ℕ → List ℕ
number_refused line number = decimal line ++ behind_refused number

-- `line L refused N`, and a line feed
abbrev pub line_refused : ℕ → ℕ → List ℕ
line_refused line number = codes "line " ++ number_refused line number
