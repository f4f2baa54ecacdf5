use Rattle.pg_step.proofs.Machines.Timing.{keeps_time, ticks, later_run, timely_start, timely_run}
use Rattle.pg_step.proofs.machine.laws.clocks.Goals as goal

pub returns-clause-steps : goal.returns-clause-steps
returns-clause-steps g c = λ limit m. keeps_time m limit

pub returns-clause-event : goal.returns-clause-event
returns-clause-event g c = λ limit m w v e. ticks m limit w v e

pub returns-clause-later : goal.returns-clause-later
returns-clause-later g c = λ limit m w v es i. later_run m limit i es w v

pub returns-clause-kept : goal.returns-clause-kept
returns-clause-kept g c = λ limit m w v es. timely_run m limit es w v

pub returns-clause-timely : goal.returns-clause-timely
returns-clause-timely g c = λ limit m v es l. timely_run m limit es _ v l (timely_start m limit)
