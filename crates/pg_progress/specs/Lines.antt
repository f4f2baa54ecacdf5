-- The line that tells how far some work is.
use Rattle.std.specs.Prelude.{ℕ, List, ◌++◌, codes, decimal}

-- back to the start of the line, and `WORD X of Y`
abbrev pub progress_line : List ℕ → ℕ → ℕ → List ℕ
progress_line word done all = codes "\r" ++ word ++ codes " " ++ decimal done ++ codes " of " ++ decimal all

-- back to the start of the line, and what erases it (ECMA-48: Erase in Line)
abbrev pub wiped_line : List ℕ
wiped_line = codes "\r\u{1b}[K"
