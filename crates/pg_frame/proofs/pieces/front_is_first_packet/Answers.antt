use Rattle.pg_frame.proofs.Read.{first_packet, lawful_front}
use Rattle.pg_frame.proofs.pieces.front_is_first_packet.Goals as goal

pub returns-clause-first : goal.returns-clause-first
returns-clause-first g c = first_packet c.pieces_continue.ensures c.taking_leaves_others.ensures c.written_is_read.ensures

pub returns-clause-lawful : goal.returns-clause-lawful
returns-clause-lawful g c = lawful_front c.pieces_continue.ensures c.written_is_read.ensures
