use Rattle.pg_laws_losses.proofs.Readiness.Silence.{among_live, from_among}
use Rattle.pg_laws_losses.proofs.ready.laws.quiet_nodes_saw_the_losses.Goals as goal

pub returns : goal.returns
returns c = λ config w events apart l. (among_live config apart events w l, from_among config apart events w l)
