use Rattle.pg_frame.proofs.Cut.{cut_short, cut_pulled}
use Rattle.pg_frame.proofs.pieces.loss_cuts_packets.Goals as goal

pub returns-clause-cut : goal.returns-clause-cut
returns-clause-cut g c = cut_short c.pieces_continue.ensures c.written_is_read.ensures

pub returns-clause-pull : goal.returns-clause-pull
returns-clause-pull g c = cut_pulled
