use Rattle.pg_laws.proofs.places.Unlocked.{unlocked_timed}
use Rattle.pg_laws.proofs.laws.unformed_hold_no_lock.Goals as goal

pub returns : goal.returns
returns c = λ config w events i name l unformed. unlocked_timed config events w l i unformed name
