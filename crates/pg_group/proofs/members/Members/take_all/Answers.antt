use Rattle.pg_group.proofs.Maps.{counted_out}
use Rattle.pg_group.proofs.members.Members.take_all.Goals as goal

pub returns : goal.returns
returns c = counted_out c.args.self.now.counts c.remove.new.self c.args.pid.now c.remove.ensures.updates
