use Rattle.pg_frame.proofs.Readings.{rest_begins_no_frame}
use Rattle.pg_frame.proofs.laws.rest_begins_no_frame.Goals as goal

pub returns : goal.returns
returns c = rest_begins_no_frame
