use Rattle.pg_process.proofs.Delayed.{no_port_keeps_for_long}
use Rattle.pg_process.proofs.laws.no_port_keeps_for_long.Goals as goal

pub returns : goal.returns
returns c = no_port_keeps_for_long
