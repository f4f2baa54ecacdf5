use Rattle.pg_step.proofs.Machines.Steps.{changes, same_whether}
use Rattle.pg_step.proofs.machine.laws.locality.Goals as goal

pub returns-clause-changes : goal.returns-clause-changes
returns-clause-changes g c = changes

pub returns-clause-whether : goal.returns-clause-whether
returns-clause-whether g c = same_whether
