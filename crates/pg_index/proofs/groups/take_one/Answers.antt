use Rattle.std.proofs.Common.{◌∙◌, ap}
use Rattle.pg_group.specs.Value.{Counts, with_one_less}
use Rattle.pg_index.specs.Groups.{counts_by_number, counts_at}
use Rattle.pg_index.proofs.Numbers.{written, nobody_there, nobody_less}
use Rattle.pg_index.proofs.groups.take_one.Goals as goal

pub returns-in-Some-clause-counts : goal.returns-in-Some-clause-counts
returns-in-Some-clause-counts c =
    written c.args.groups.now c.args.group c.in-Some.members.now c.take_one.new.self (with_one_less (counts_by_number c.args.groups.now c.args.group) c.args.pid.now) c.in-Some.ensures.value
    (c.take_one.ensures.counts ∙ ap (λ o. with_one_less (counts_at o) c.args.pid.now) c.in-Some.ensures.value)

pub returns-in-None-clause-counts : goal.returns-in-None-clause-counts
returns-in-None-clause-counts c = nobody_there c.args.groups.now c.args.group (λ (counts : Counts). with_one_less counts c.args.pid.now) c.in-None.ensures.value (nobody_less c.args.pid.now)
