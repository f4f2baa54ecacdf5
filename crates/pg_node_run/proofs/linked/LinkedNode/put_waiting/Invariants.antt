use Rattle.std.proofs.Common.{[]}
use Rattle.std.specs.Prelude.{◌≡◌}
use Rattle.pg_node_run.specs.Follows.{Follows, log_of}
use Rattle.pg_node_run.proofs.linked.LinkedNode.put_waiting.Given as goal

abbrev pub invariant-loop-peer : goal.invariant-loop-peer
invariant-loop-peer g l = Follows g.L.Link.accepts g.I.Inlet.gives [] l.initial.self l.self × (log_of l.self ≡ log_of l.initial.self)
