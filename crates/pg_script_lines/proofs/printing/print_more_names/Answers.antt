use Rattle.std.proofs.Common.{◌≡◌, ℕ, List, [], ◌∷◌, ◌++◌, take, add-one, sym}
use Rattle.pg_text.specs.Writing.{GrowsBy, pid_text, term_text}
use Rattle.pg_script_lines.specs.Printing.{more_pids, more_names}
use Rattle.pg_script_lines.proofs.Adds.{adds_both, adds_as, more_at}
use Rattle.pg_script_lines.proofs.printing.print_more_names.Goals as goal

pub loop-name-preserved : goal.loop-name-preserved
loop-name-preserved c =
    adds_as (more_names (take c.loop-name.name-index c.args.names.now) ++ ((44 ∷ []) ++ term_text c.name-item.result)) _
    (adds_both (more_names (take c.loop-name.name-index c.args.names.now)) ((44 ∷ []) ++ term_text c.name-item.result) c.loop-name.invariant
    (adds_both (44 ∷ []) (term_text c.name-item.result) c.in_ok-add_char.ensures c.in_ok-write_term.ensures.text))
    (rw add-one (sym (more_at (λ x. 44 ∷ term_text x) c.args.names.now c.loop-name.name-index c.name-item.result c.loop-name-test.true c.name-item.is)))
