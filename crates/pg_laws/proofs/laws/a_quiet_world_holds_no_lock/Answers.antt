use Rattle.pg_step.specs.Machines.Clocked.{plain}
use Rattle.pg_laws.proofs.quiet.Rest.{no_lock_held}
use Rattle.pg_laws.proofs.quiet.Runs.{rested_timed}
use Rattle.pg_laws.proofs.laws.a_quiet_world_holds_no_lock.Goals as goal

pub returns : goal.returns
returns c = λ config w events apart l quiet. no_lock_held config apart (plain w) (rested_timed config apart events w l) quiet
