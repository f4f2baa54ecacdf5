use Rattle.pg_frame.proofs.Moved.{put_packets, pull_packets}
use Rattle.pg_frame.proofs.pieces.moving_keeps_packets.Goals as goal

pub returns-clause-put : goal.returns-clause-put
returns-clause-put g c = put_packets

pub returns-clause-pull : goal.returns-clause-pull
returns-clause-pull g c = pull_packets
