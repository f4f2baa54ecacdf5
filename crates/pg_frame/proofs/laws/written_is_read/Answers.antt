use Rattle.pg_frame.proofs.Readings.{written_is_read}
use Rattle.pg_frame.proofs.laws.written_is_read.Goals as goal

pub returns : goal.returns
returns c = written_is_read
