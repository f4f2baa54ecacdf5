use Rattle.std.proofs.Common.{refl, subst, ◌∙◌}
use Rattle.pg_node.specs.Replicas.Progress.{HasServed}
use Rattle.pg_node.specs.Replicas.Replica.{Pair, pair_of}
use Rattle.pg_node_state.specs.States.{state_of}
use Rattle.pg_node.proofs.Replicas.Streams.{stay, onward}
use Rattle.pg_node.proofs.replica.server.Server.answer_all.Goals as goal

pub loop-init : goal.loop-init
loop-init g c = (refl, stay (pair_of c.args.self.now.node) c.args.self.now.deframer.unread (state_of c.args.self.now.node) (g.W.Sink.contents c.args.writer.now))

pub loop-preserved : goal.loop-preserved
loop-preserved g c =
    let first = c.args.self.now in
    let now = c.loop.self in
    let new = c.answer_next.new.self in
    let contents = g.W.Sink.contents in
    let next = subst (λ (pair : Pair). HasServed pair now.deframer.unread new.deframer.unread (state_of now.node) (state_of new.node) (contents c.loop.writer) (contents c.answer_next.new.writer)) c.loop.invariant.0 c.in_ok-answer_next.ensures.progress in (
      c.answer_next.ensures.pair ∙ c.loop.invariant.0,
      onward (pair_of first.node) first.deframer.unread now.deframer.unread new.deframer.unread (state_of first.node) (state_of now.node) (state_of new.node)
          (contents c.args.writer.now) (contents c.loop.writer) (contents c.answer_next.new.writer) c.loop.invariant.1 next,
    )

pub returns-clause-progress : goal.returns-clause-progress
returns-clause-progress g c =
    let first = c.args.self.now in
    let now = c.loop.self in
    let new = c.answer_next.new.self in
    let contents = g.W.Sink.contents in
    let next = subst (λ (pair : Pair). HasServed pair now.deframer.unread new.deframer.unread (state_of now.node) (state_of new.node) (contents c.loop.writer) (contents c.answer_next.new.writer)) c.loop.invariant.0 c.in_ok-answer_next.ensures.progress in
    onward (pair_of first.node) first.deframer.unread now.deframer.unread new.deframer.unread (state_of first.node) (state_of now.node) (state_of new.node)
    (contents c.args.writer.now) (contents c.loop.writer) (contents c.answer_next.new.writer) c.loop.invariant.1 next
