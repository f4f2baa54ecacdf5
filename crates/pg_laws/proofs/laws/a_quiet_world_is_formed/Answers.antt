use Rattle.pg_step.specs.Machines.Clocked.{plain}
use Rattle.pg_laws.proofs.ends.Posts.{posted_timed}
use Rattle.pg_laws.proofs.quiet.Rest.{all_formed}
use Rattle.pg_laws.proofs.quiet.Runs.{rested_timed}
use Rattle.pg_laws.proofs.laws.a_quiet_world_is_formed.Goals as goal

pub returns : goal.returns
returns c = λ config w events apart l quiet. all_formed config apart (plain w) (rested_timed config apart events w l) quiet (posted_timed config apart events w l)
