use Rattle.pg_frame.proofs.Read.{first_packets}
use Rattle.pg_frame.proofs.pieces.packets_cross_in_order.Goals as goal

pub returns : goal.returns
returns g c = first_packets c.written_is_read.ensures
