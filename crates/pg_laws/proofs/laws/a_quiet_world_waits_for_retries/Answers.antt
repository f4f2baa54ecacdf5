use Rattle.pg_step.specs.Machines.Clocked.{plain}
use Rattle.pg_laws.proofs.quiet.Rest.{nothing_under_way}
use Rattle.pg_laws.proofs.quiet.Runs.{rested_timed}
use Rattle.pg_laws.proofs.laws.a_quiet_world_waits_for_retries.Goals as goal

pub returns : goal.returns
returns c = λ config w events i apart l quiet here. nothing_under_way config apart (plain w) (rested_timed config apart events w l) quiet i here
