use Rattle.std.proofs.Common.{◌≡◌, ℕ, List, [], ◌∷◌, ◌++◌, take, add-one, sym}
use Rattle.pg_text.specs.Writing.{GrowsBy, pid_text, term_text}
use Rattle.pg_script_lines.specs.Printing.{more_pids, more_names}
use Rattle.pg_script_lines.proofs.Adds.{adds_both, adds_as, more_at}
use Rattle.pg_script_lines.proofs.printing.print_more_pids.Goals as goal

pub loop-pid-preserved : goal.loop-pid-preserved
loop-pid-preserved c =
    adds_as (more_pids (take c.loop-pid.pid-index c.args.pids.now) ++ ((44 ∷ []) ++ pid_text c.pid-item.result)) _
    (adds_both (more_pids (take c.loop-pid.pid-index c.args.pids.now)) ((44 ∷ []) ++ pid_text c.pid-item.result) c.loop-pid.invariant
    (adds_both (44 ∷ []) (pid_text c.pid-item.result) c.in_ok-add_char.ensures c.in_ok-write_pid.ensures))
    (rw add-one (sym (more_at (λ x. 44 ∷ pid_text x) c.args.pids.now c.loop-pid.pid-index c.pid-item.result c.loop-pid-test.true c.pid-item.is)))
