use Rattle.std.proofs.Common.{None}
use Rattle.pg_group.proofs.Maps.{table_updated}
use Rattle.pg_group.proofs.rows.delete.Goals as goal

pub returns : goal.returns
returns c = table_updated c.args.rows.now c.remove.new.self c.args.name.now None c.remove.ensures.updates
