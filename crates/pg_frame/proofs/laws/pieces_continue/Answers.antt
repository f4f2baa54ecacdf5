use Rattle.pg_frame.proofs.Readings.{pieces_continue}
use Rattle.pg_frame.proofs.laws.pieces_continue.Goals as goal

pub returns : goal.returns
returns c = pieces_continue
