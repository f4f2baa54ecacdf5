use Rattle.std.proofs.Common.{ℕ}
use Rattle.pg_cluster.specs.Running.{RunningGoes, clients_in}
use Rattle.pg_talk.specs.Asking.{AllKeep}
use Rattle.pg_talk.proofs.conversation.speak_all.Given as goal

abbrev pub invariant-loop-place : goal.invariant-loop-place
invariant-loop-place l = RunningGoes l.fn.running l.running × ((rounds : ℕ) → AllKeep rounds l.fn.speakers.items (clients_in l.fn.running) → AllKeep rounds l.speakers.items (clients_in l.running))
