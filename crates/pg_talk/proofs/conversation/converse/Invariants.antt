use Rattle.pg_cluster.specs.Running.{RunningGoes, clients_in}
use Rattle.pg_talk.specs.Asking.{AllKeep}
use Rattle.pg_talk.proofs.conversation.converse.Given as goal

abbrev pub invariant-loop : goal.invariant-loop
invariant-loop g l = RunningGoes l.fn.running l.running × AllKeep l.fn.asked.rounds l.speakers.items (clients_in l.running)
