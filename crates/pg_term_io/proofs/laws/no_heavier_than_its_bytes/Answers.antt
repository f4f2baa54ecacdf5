use Rattle.pg_term_io.proofs.Weighed as weighed
use Rattle.pg_term_io.proofs.laws.no_heavier_than_its_bytes.Goals as goal

pub returns : goal.returns
returns c = weighed.light
