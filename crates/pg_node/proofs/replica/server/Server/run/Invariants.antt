use Rattle.std.proofs.Common.{◌≡◌, List, ℕ, length}
use Rattle.pg_node.specs.Replicas.Causes.{GaveChunks, IsFlushed}
use Rattle.pg_node.specs.Replicas.Progress.{Serving}
use Rattle.pg_node.specs.Replicas.Replica.{pair_of}
use Rattle.pg_node_state.specs.States.{state_of}
use Rattle.pg_node.proofs.replica.server.Server.run.Given as goal

-- what came in since the start, a piece a turn, was answered, and the replies were flushed
abbrev pub invariant-loop : goal.invariant-loop
invariant-loop g l =
    (pair_of l.self.node ≡ pair_of l.fn.self.node)
    × Serving (pair_of l.fn.self.node) (λ (pieces : List (List ℕ)). GaveChunks g.R.Source.gives l.fn.reader pieces l.reader × (length pieces ≡ l.counter))
    (g.R.Source.remaining l.fn.reader) (g.R.Source.remaining l.reader) l.self.deframer.unread
    (state_of l.self.node) (g.W.Sink.contents l.fn.writer) (g.W.Sink.contents l.writer)
    × IsFlushed g.W.Sink.flushed l.fn.writer l.writer
