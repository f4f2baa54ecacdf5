use Rattle.std.proofs.Common.{◌≡◌, ℕ, List, [], ◌∷◌, ◌++◌, ◌-◌, take, drop, length}
use Rattle.std.proofs.lemmas.Result.{on_ok_weaker}
use Rattle.pg_text.specs.Writing.{GrowsBy, pid_text, term_text}
use Rattle.pg_script_lines.specs.Printing.{more_pids, more_names, listed_pids, listed_names}
use Rattle.pg_script_lines.proofs.Adds.{adds_both, adds_as}
use Rattle.pg_script_lines.proofs.Lists.{listed_pids_are}
use Rattle.pg_script_lines.proofs.printing.print_listed_pids.Goals as goal

pub returns-in-len1-up : goal.returns-in-len1-up
returns-in-len1-up c =
    on_ok_weaker c.print_more_pids.result (λ h. adds_as (pid_text c.first-item.result ++ _) _ (adds_both (pid_text c.first-item.result) _ c.in_ok-write_pid.ensures h) (listed_pids_are c.args.pids.now c.first-item.result c.in-len1-up.len_at_least c.first-item.is)) c.print_more_pids.ensures
