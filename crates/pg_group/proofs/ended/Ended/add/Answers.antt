use Rattle.std.proofs.Common.{true, ap, ◌∙◌}
use Rattle.pg_term.specs.Same.{same_pid}
use Rattle.pg_group.specs.Ended.{ended_of}
use Rattle.pg_group.specs.Ends.{Ends, all_pids, has_pid}
use Rattle.pg_group.specs.Functions.{upd}
use Rattle.pg_group.proofs.EndedCounts.{absent_from, one_counted}
use Rattle.pg_group.proofs.EndedSets.{pid_put}
use Rattle.pg_group.proofs.ended.Ended.add.Goals as goal

pub returns-clause-ok : goal.returns-clause-ok
returns-clause-ok c =
    pid_put c.self.inside.nodes.keys (all_pids c.self.inside.numbers.entries) (all_pids c.put.new.numbers.entries) c.args.pid c.in_ok-put.ensures.ok
    ∙ ap (λ (e : Ends). upd same_pid (ended_of e) c.args.pid true) c.self.view_is

pub invariant_of-self-2 : goal.invariant_of-self-2
invariant_of-self-2 c =
    one_counted (all_pids c.self.inside.numbers.entries) (all_pids c.put.new.numbers.entries) c.args.pid c.self.inside.count c.from-more.result c.saturating_add-self-inside.result
    c.self.invariant c.in_ok-put.ensures.ok
    (c.from-more.ensures ∙ absent_from (has_pid (all_pids c.self.inside.numbers.entries) c.args.pid) c.has_pid.result c.has_pid.ensures) c.saturating_add-self-inside.ensures
