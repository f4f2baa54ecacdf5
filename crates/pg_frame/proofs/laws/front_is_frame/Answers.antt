use Rattle.pg_frame.proofs.Readings.{front_is_frame}
use Rattle.pg_frame.proofs.laws.front_is_frame.Goals as goal

pub returns : goal.returns
returns c = front_is_frame
