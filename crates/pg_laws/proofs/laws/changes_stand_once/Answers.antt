use Rattle.pg_laws.proofs.places.Clauses.{changes_held}
use Rattle.pg_laws.proofs.laws.changes_stand_once.Goals as goal

pub returns : goal.returns
returns c = λ config w events apart l. changes_held config apart events w l
