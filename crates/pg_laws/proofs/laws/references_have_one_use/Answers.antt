use Rattle.pg_laws.proofs.references.FittingRuns.{fitting_timed}
use Rattle.pg_laws.proofs.references.UsedOnce.{follows_timed}
use Rattle.pg_laws.proofs.laws.references_have_one_use.Goals as goal

pub returns-clause-fitting : goal.returns-clause-fitting
returns-clause-fitting c = λ config w events i l. fitting_timed config events w l i

pub returns-clause-later : goal.returns-clause-later
returns-clause-later c = follows_timed
