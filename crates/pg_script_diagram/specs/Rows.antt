-- Where rows and lifelines stand, in pixels. A number that would be too large stays at the greatest.
use Rattle.std.specs.Prelude.{ℕ, ◌+◌, ◌-◌, ◌*◌, ◌/◌, ◌^◌, min}

-- twenty pixels a row, and fifty for the names above each forty
abbrev pub row_y : ℕ → ℕ
row_y row = 20 * row + 50 * (row / 40 + 1)

-- a row, where the first line of names begins so far below
abbrev pub y_of : (top row : ℕ) → ℕ
y_of top row = min (top + row_y row) (2 ^ 128 - 1)

-- the lifeline of a node, where there is so much between two
abbrev pub x_of : (gap node : ℕ) → ℕ
x_of gap node = min (116 + min (gap * node) (2 ^ 128 - 1)) (2 ^ 128 - 1)
