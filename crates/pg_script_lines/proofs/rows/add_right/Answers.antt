use Rattle.std.proofs.Common.{◌≡◌, ℕ, List, [], ◌∷◌, ◌++◌, ◌-◌, length, replicate, ap, ◌∙◌}
use Rattle.std.specs.Str.{chars}
use Rattle.pg_script_lines.proofs.Adds.{adds_both, adds_as}
use Rattle.pg_script_lines.proofs.rows.add_right.Goals as goal

pub returns : goal.returns
returns c =
    let text = chars c.args.text.now in
    let n = c.saturating_sub.result in
    let e : n ≡ c.args.width - length text = c.saturating_sub.ensures ∙ ap (λ k. c.args.width - k) c.char_count.ensures in
    adds_as (replicate n 32 ++ (text ++ replicate 2 32)) _
    (adds_both (replicate n 32) (text ++ replicate 2 32) c.in_ok-add_spaces.ensures
    (adds_both text (replicate 2 32) c.in_ok-add_text.ensures c.in_ok-add_spaces-2.ensures))
    (ap (λ k. replicate k 32 ++ (text ++ replicate 2 32)) e)
