use Rattle.pg_step.proofs.Peers.{step_sends_one, event_sends_one}
use Rattle.pg_step.proofs.step_laws.one_packet_each.Goals as goal

pub returns-clause-step : goal.returns-clause-step
returns-clause-step c = λ config i s input t apart. step_sends_one config apart i s input t

pub returns-clause-event : goal.returns-clause-event
returns-clause-event c = event_sends_one
