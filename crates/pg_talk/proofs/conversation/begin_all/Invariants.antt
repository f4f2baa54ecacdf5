use Rattle.std.proofs.Common.{ℕ, List}
use Rattle.pg_cluster.specs.PgNodeRun.declared.port.Client.{Client}
use Rattle.pg_talk.specs.Asking.{AllKeep}
use Rattle.pg_talk.proofs.conversation.begin_all.Given as goal

abbrev pub invariant-loop-place : goal.invariant-loop-place
invariant-loop-place l = (rounds : ℕ) (clients : List Client) → AllKeep rounds l.fn.speakers.items clients → AllKeep rounds l.speakers.items clients
