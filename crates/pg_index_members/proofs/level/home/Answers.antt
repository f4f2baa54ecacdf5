use Rattle.pg_index_members.proofs.Parts.{home_at}
use Rattle.pg_index_members.proofs.level.home.Goals as goal

pub returns : goal.returns
returns g c = home_at g.P.Part.rows c.args.pid.now c.args.parts.now c.choose.result c.requires.in_order c.choose.ensures
