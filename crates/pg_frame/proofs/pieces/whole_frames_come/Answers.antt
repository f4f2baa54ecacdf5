use Rattle.pg_frame.proofs.Read.{whole_frame}
use Rattle.pg_frame.proofs.pieces.whole_frames_come.Goals as goal

pub returns : goal.returns
returns g c = whole_frame c.written_is_read.ensures
