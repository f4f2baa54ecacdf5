use Rattle.std.proofs.Common.{◌∙◌, ap}
use Rattle.pg_term.specs.Same.{same_pid}
use Rattle.pg_group.specs.Functions.{upd}
use Rattle.pg_group.specs.Value.{Counts}
use Rattle.pg_index.specs.Groups.{counts_by_number, counts_at}
use Rattle.pg_index.proofs.Numbers.{written, nobody_there, nobody_less}
use Rattle.pg_index.proofs.groups.remove.Goals as goal

pub returns-in-Some-clause-counts : goal.returns-in-Some-clause-counts
returns-in-Some-clause-counts c =
    written c.args.groups.now c.args.group c.in-Some.members.now c.remove.new.self (upd same_pid (counts_by_number c.args.groups.now c.args.group) c.args.pid.now 0) c.in-Some.ensures.value
    (c.remove.ensures ∙ ap (λ o. upd same_pid (counts_at o) c.args.pid.now 0) c.in-Some.ensures.value)

pub returns-in-None-clause-counts : goal.returns-in-None-clause-counts
returns-in-None-clause-counts c = nobody_there c.args.groups.now c.args.group (λ (counts : Counts). upd same_pid counts c.args.pid.now 0) c.in-None.ensures.value (nobody_less c.args.pid.now)
