use Rattle.pg_laws.proofs.ends.Finished.{finished_timed}
use Rattle.pg_laws.proofs.laws.ended_processes_were_finished.Goals as goal

pub returns : goal.returns
returns c = λ config w events i pid apart l own ended. (finished_timed config apart events w l).finished i pid own ended
