use Rattle.pg_frame.proofs.Readings.{one_reading}
use Rattle.pg_frame.proofs.laws.one_reading.Goals as goal

pub returns : goal.returns
returns c = one_reading
