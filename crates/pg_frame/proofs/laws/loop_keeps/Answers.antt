use Rattle.pg_frame.proofs.Readings.{loop_keeps}
use Rattle.pg_frame.proofs.laws.loop_keeps.Goals as goal

pub returns : goal.returns
returns c = loop_keeps
