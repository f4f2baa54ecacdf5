use Rattle.pg_laws.proofs.places.Clauses.{exclusive}
use Rattle.pg_laws.proofs.laws.locks_are_exclusive.Goals as goal

pub returns : goal.returns
returns c = λ config w events apart l. exclusive config apart events w l
