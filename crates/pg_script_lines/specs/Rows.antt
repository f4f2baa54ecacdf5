-- Lines of cells that line up.
use Rattle.std.specs.Prelude.{ℕ, List, [], ◌∷◌, ◌++◌, ◌-◌, replicate, length, codes, string_bytes}
use Rattle.std.specs.Str.{chars}
use Rattle.pg_script_lines.specs.declared.rows.Row.{Row}
use Rattle.pg_script_lines.specs.declared.rows.Widths.{Widths}

-- a text, and spaces behind it up to a width, and two more
abbrev pub left_cell : ℕ → List ℕ → List ℕ
left_cell width text = text ++ (replicate (width - length text) 32 ++ replicate 2 32)

-- spaces up to a width, and a text behind them, and two more spaces
abbrev pub right_cell : ℕ → List ℕ → List ℕ
right_cell width text = replicate (width - length text) 32 ++ (text ++ replicate 2 32)

-- `%`, the cells, and a line feed
abbrev pub row_line : Widths → Row → List ℕ
row_line widths row =
    codes "% " ++ (right_cell widths.line (chars (string_bytes row.line))
    ++ (left_cell widths.node (chars (string_bytes row.node))
    ++ (right_cell widths.clock (chars (string_bytes row.clock))
    ++ (left_cell widths.event (chars (string_bytes row.event))
    ++ (left_cell widths.way (chars (string_bytes row.way))
    ++ (chars (string_bytes row.what) ++ 10 ∷ []))))))
