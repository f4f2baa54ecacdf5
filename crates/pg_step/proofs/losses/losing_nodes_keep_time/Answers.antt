use Rattle.pg_step.specs.Step.{CLOCK_LIMIT}
use Rattle.pg_step.specs.FrameMachine.{losing_machine_of}
use Rattle.pg_step.proofs.Machines.Timing.{keeps_time}
use Rattle.pg_step.proofs.losses.losing_nodes_keep_time.Goals as goal

pub returns : goal.returns
returns c = λ config. keeps_time (losing_machine_of config) CLOCK_LIMIT
