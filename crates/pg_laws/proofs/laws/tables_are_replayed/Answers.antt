use Rattle.pg_laws.proofs.places.Clauses.{tables}
use Rattle.pg_laws.proofs.laws.tables_are_replayed.Goals as goal

pub returns : goal.returns
returns c = λ config w events apart l. tables config apart events w l
