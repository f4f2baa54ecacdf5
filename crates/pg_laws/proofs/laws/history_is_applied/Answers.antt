use Rattle.pg_step.specs.Machines.Clocked.{plain}
use Rattle.pg_laws.proofs.places.Clauses.{bridge, applies}
use Rattle.pg_laws.proofs.laws.history_is_applied.Goals as goal

pub returns : goal.returns
returns c = λ config w events apart l. applies config apart (plain w) (bridge config apart events w l)
