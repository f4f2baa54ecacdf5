use Rattle.pg_frame.proofs.Moved.{sent_packets}
use Rattle.pg_frame.proofs.pieces.sending_adds_packets.Goals as goal

pub returns : goal.returns
returns g c = sent_packets
