use Rattle.pg_index.proofs.Numbers.{added_at}
use Rattle.pg_index.proofs.groups.add.Goals as goal

pub returns-clause-ok : goal.returns-clause-ok
returns-clause-ok c = added_at c.args.groups.now c.args.group c.in-Some.members.now c.add.new.self c.args.pid.now c.args.more c.add.result c.in-Some.ensures.value c.add.ensures.ok
