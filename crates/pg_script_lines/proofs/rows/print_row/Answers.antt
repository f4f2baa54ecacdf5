use Rattle.std.proofs.Common.{◌≡◌, ℕ, List, [], ◌∷◌, ◌++◌, subst}
use Rattle.std.specs.Prelude.{codes, string_bytes}
use Rattle.std.specs.Str.{chars}
use Rattle.pg_text.specs.Writing.{GrowsBy}
use Rattle.pg_script_lines.specs.Rows.{left_cell, right_cell}
use Rattle.pg_script_lines.proofs.Adds.{adds_both}
use Rattle.pg_script_lines.proofs.rows.print_row.Goals as goal

-- a cell of the same text
cell : (f : List ℕ → List ℕ) (x y : List ℕ) {a b : List ℕ} → x ≡ y → GrowsBy (f (chars x)) a b → GrowsBy (f (chars y)) a b
cell f x y {a} {b} e h = subst (λ t. GrowsBy (f (chars t)) a b) e h

pub returns : goal.returns
unfolding chars
returns c =
    (adds_both (codes "% ") ((right_cell c.args.widths.line (chars (string_bytes c.args.row.now.line))) ++ ((left_cell c.args.widths.node (chars (string_bytes c.args.row.now.node))) ++ ((right_cell c.args.widths.clock (chars (string_bytes c.args.row.now.clock))) ++ ((left_cell c.args.widths.event (chars (string_bytes c.args.row.now.event))) ++ ((left_cell c.args.widths.way (chars (string_bytes c.args.row.now.way))) ++ ((chars (string_bytes c.args.row.now.what)) ++ ((10 ∷ [])))))))) c.in_ok-add_text.ensures
    (adds_both (right_cell c.args.widths.line (chars (string_bytes c.args.row.now.line))) ((left_cell c.args.widths.node (chars (string_bytes c.args.row.now.node))) ++ ((right_cell c.args.widths.clock (chars (string_bytes c.args.row.now.clock))) ++ ((left_cell c.args.widths.event (chars (string_bytes c.args.row.now.event))) ++ ((left_cell c.args.widths.way (chars (string_bytes c.args.row.now.way))) ++ ((chars (string_bytes c.args.row.now.what)) ++ ((10 ∷ []))))))) (cell (right_cell c.args.widths.line) c.as_str.result.now _ c.as_str.ensures.value c.in_ok-add_right.ensures)
    (adds_both (left_cell c.args.widths.node (chars (string_bytes c.args.row.now.node))) ((right_cell c.args.widths.clock (chars (string_bytes c.args.row.now.clock))) ++ ((left_cell c.args.widths.event (chars (string_bytes c.args.row.now.event))) ++ ((left_cell c.args.widths.way (chars (string_bytes c.args.row.now.way))) ++ ((chars (string_bytes c.args.row.now.what)) ++ ((10 ∷ [])))))) (cell (left_cell c.args.widths.node) c.as_str-2.result.now _ c.as_str-2.ensures.value c.in_ok-add_left.ensures)
    (adds_both (right_cell c.args.widths.clock (chars (string_bytes c.args.row.now.clock))) ((left_cell c.args.widths.event (chars (string_bytes c.args.row.now.event))) ++ ((left_cell c.args.widths.way (chars (string_bytes c.args.row.now.way))) ++ ((chars (string_bytes c.args.row.now.what)) ++ ((10 ∷ []))))) (cell (right_cell c.args.widths.clock) c.as_str-3.result.now _ c.as_str-3.ensures.value c.in_ok-add_right-2.ensures)
    (adds_both (left_cell c.args.widths.event (chars (string_bytes c.args.row.now.event))) ((left_cell c.args.widths.way (chars (string_bytes c.args.row.now.way))) ++ ((chars (string_bytes c.args.row.now.what)) ++ ((10 ∷ [])))) (cell (left_cell c.args.widths.event) c.as_str-4.result.now _ c.as_str-4.ensures.value c.in_ok-add_left-2.ensures)
    (adds_both (left_cell c.args.widths.way (chars (string_bytes c.args.row.now.way))) ((chars (string_bytes c.args.row.now.what)) ++ ((10 ∷ []))) (cell (left_cell c.args.widths.way) c.as_str-5.result.now _ c.as_str-5.ensures.value c.in_ok-add_left-3.ensures)
    (adds_both (chars (string_bytes c.args.row.now.what)) ((10 ∷ [])) (cell (λ t. t) c.as_str-6.result.now _ c.as_str-6.ensures.value c.in_ok-add_text-2.ensures)
    c.in_ok-add_char.ensures)))))))
