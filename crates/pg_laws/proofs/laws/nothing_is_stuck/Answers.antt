use Rattle.pg_laws.proofs.quiet.Unstuck.{unstuck}
use Rattle.pg_laws.proofs.laws.nothing_is_stuck.Goals as goal

pub returns : goal.returns
returns c = λ config w events apart l. unstuck config apart events w l
