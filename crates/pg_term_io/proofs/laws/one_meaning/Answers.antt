use Rattle.pg_term_io.proofs.Decoding as decoding
use Rattle.pg_term_io.proofs.laws.one_meaning.Goals as goal

pub returns-clause-some : goal.returns-clause-some
returns-clause-some c = decoding.some_meaning

pub returns-clause-one_term : goal.returns-clause-one_term
returns-clause-one_term c = decoding.one_term

pub returns-clause-one_fault : goal.returns-clause-one_fault
returns-clause-one_fault c = decoding.one_fault

pub returns-clause-never_both : goal.returns-clause-never_both
returns-clause-never_both c = decoding.never_both
