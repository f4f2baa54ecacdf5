use Rattle.pg_laws.proofs.places.Clauses.{in_real_time}
use Rattle.pg_laws.proofs.laws.updates_go_by_real_time.Goals as goal

pub returns : goal.returns
returns c = λ config w events apart l. in_real_time config apart events w l
