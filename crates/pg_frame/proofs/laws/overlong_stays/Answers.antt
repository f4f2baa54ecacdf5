use Rattle.pg_frame.proofs.Readings.{overlong_stays}
use Rattle.pg_frame.proofs.laws.overlong_stays.Goals as goal

pub returns : goal.returns
returns c = overlong_stays
