use Rattle.pg_frame.proofs.Cut.{first_of_cut, lawful_cut, whole_of_cut}
use Rattle.pg_frame.proofs.pieces.front_is_first_of_cut.Goals as goal

pub returns-clause-first : goal.returns-clause-first
returns-clause-first g c = first_of_cut c.pieces_continue.ensures c.taking_leaves_others.ensures c.written_is_read.ensures

pub returns-clause-lawful : goal.returns-clause-lawful
returns-clause-lawful g c = lawful_cut c.pieces_continue.ensures c.written_is_read.ensures

pub returns-clause-whole : goal.returns-clause-whole
returns-clause-whole g c = whole_of_cut c.written_is_read.ensures
