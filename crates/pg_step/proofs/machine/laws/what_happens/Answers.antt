use Rattle.pg_step.proofs.Machines.Steps.{happened, happens_so, took, did}
use Rattle.pg_step.proofs.machine.laws.what_happens.Goals as goal

pub returns-clause-happened : goal.returns-clause-happened
returns-clause-happened g c = λ m w v e. (happened m w v e, happens_so m w v e)

pub returns-clause-took : goal.returns-clause-took
returns-clause-took g c = took

pub returns-clause-did : goal.returns-clause-did
returns-clause-did g c = did
