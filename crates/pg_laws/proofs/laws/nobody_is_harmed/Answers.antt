use Rattle.pg_laws.proofs.places.Clauses.{harmless}
use Rattle.pg_laws.proofs.laws.nobody_is_harmed.Goals as goal

pub returns : goal.returns
returns c = λ config w events apart l. harmless config apart events w l
