use Rattle.std.proofs.Common.{◌≡◌, length}
use Rattle.pg_node.specs.Replicas.Progress.{HasServed}
use Rattle.pg_node.specs.Replicas.Replica.{pair_of}
use Rattle.pg_node_state.specs.States.{state_of}
use Rattle.pg_node.proofs.replica.server.Server.answer_all.Given as goal

-- some packets were answered
abbrev pub invariant-loop : goal.invariant-loop
invariant-loop g l =
    (pair_of l.self.node ≡ pair_of l.fn.self.node)
    × HasServed (pair_of l.fn.self.node) l.fn.self.deframer.unread l.self.deframer.unread
    (state_of l.fn.self.node) (state_of l.self.node) (g.W.Sink.contents l.fn.writer) (g.W.Sink.contents l.writer)

abbrev pub decreases-loop : goal.decreases-loop
decreases-loop g l = length l.self.deframer.unread
