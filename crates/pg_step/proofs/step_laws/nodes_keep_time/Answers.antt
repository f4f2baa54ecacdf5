use Rattle.pg_step.specs.Step.{CLOCK_LIMIT}
use Rattle.pg_step.specs.FrameMachine.{machine_of}
use Rattle.pg_step.proofs.Machines.Timing.{keeps_time, timely_start, timely_run}
use Rattle.pg_step.proofs.Machines.Plain.{plain_from_start}
use Rattle.pg_step.proofs.step_laws.nodes_keep_time.Goals as goal

pub returns-clause-steps : goal.returns-clause-steps
returns-clause-steps c = λ config. keeps_time (machine_of config) CLOCK_LIMIT

pub returns-clause-timely : goal.returns-clause-timely
returns-clause-timely c = λ config v es l. timely_run (machine_of config) CLOCK_LIMIT es _ v l (timely_start (machine_of config) CLOCK_LIMIT)

pub returns-clause-plain : goal.returns-clause-plain
returns-clause-plain c = λ config v es l. plain_from_start (machine_of config) CLOCK_LIMIT es v l
