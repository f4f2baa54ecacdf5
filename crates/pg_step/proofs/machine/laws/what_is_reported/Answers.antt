use Rattle.pg_step.proofs.Machines.Sequences.{tells, tells_by}
use Rattle.pg_step.proofs.machine.laws.what_is_reported.Goals as goal

pub returns-clause-reported : goal.returns-clause-reported
returns-clause-reported g c = λ m w v es. tells m es w v

pub returns-clause-reported_by : goal.returns-clause-reported_by
returns-clause-reported_by g c = λ m w v es i. tells_by m i es w v
