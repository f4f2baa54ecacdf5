use Rattle.pg_cluster.specs.PgRing.Slots.{taken}
use Rattle.pg_talk.proofs.Passing.{passed_same}
use Rattle.pg_talk.proofs.Turns.{advances_empty, advances_took, inlet_itself, inlet_on}
use Rattle.pg_talk.proofs.service.serving.Serving.take_rest.Goals as goal

pub loop-init : goal.loop-init
loop-init g c = (inlet_itself c.args.inlet.now, λ given first s. s, λ first h. h)

pub loop-preserved : goal.loop-preserved
loop-preserved g c =
    let self = c.loop.self in
    let contents = g.W.Sink.contents in (
      inlet_on c.args.inlet.now c.loop.inlet c.next_input.new.inlet c.loop.invariant.0 c.in-Some.ensures.same,
      λ given first s. advances_took self c.take_input.new.self (taken c.loop.inlet) (taken c.next_input.new.inlet) (contents c.loop.writer) (contents c.take_input.new.writer) c.in-Some.input c.next_input.new.self
          c.in-Some.ensures.view c.in-Some.ensures.kept c.in-Some.ensures.came c.in_ok-take_input.ensures.serves given first (c.loop.invariant.1 given first s),
      λ first h. c.in_ok-take_input.ensures.passed first (passed_same g.W.Sink.flushed self.outlet c.next_input.new.self.outlet c.loop.writer c.in-Some.ensures.outlet first (c.loop.invariant.2 first h)),
    )

pub returns-in_default-clause-advances : goal.returns-in_default-clause-advances
returns-in_default-clause-advances g c given first s =
    let self = c.loop.self in
    let same = g.W.Sink.contents c.loop.writer in
    advances_empty self c.next_input.new.self (taken c.loop.inlet) (taken c.next_input.new.inlet) same same c.in_default.ensures.view c.in_default.ensures.kept c.in_default.ensures.came given first
    (c.loop.invariant.1 given first s)

pub returns-in_default-clause-passed : goal.returns-in_default-clause-passed
returns-in_default-clause-passed g c = λ first h. passed_same g.W.Sink.flushed c.loop.self.outlet c.next_input.new.self.outlet c.loop.writer c.in_default.ensures.outlet first (c.loop.invariant.2 first h)
