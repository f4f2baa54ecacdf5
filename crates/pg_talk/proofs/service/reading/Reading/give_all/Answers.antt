use Rattle.std.proofs.Common.{refl, sym, ◌∙◌}
use Rattle.pg_talk.proofs.ThreadReads.{ends_then, goes_ends, goes_itself, goes_then, turn_ends, turn_goes, turn_stops}
use Rattle.pg_talk.proofs.service.reading.Reading.give_all.Goals as goal

pub loop-init : goal.loop-init
loop-init g c = goes_itself g.S.Source.remaining g.S.Source.fails c.args.self.now

-- nobody takes more
pub returns-then-not-give-clause-end : goal.returns-then-not-give-clause-end
returns-then-not-give-clause-end g c ended =
    let remaining = g.S.Source.remaining in
    let fails = g.S.Source.fails in
    ends_then remaining fails c.args.self.now c.loop.self c.give.new.self c.loop.invariant
    (turn_stops remaining fails c.loop.self c.front.new.self c.count.new.self c.give.new.self c.in-Some.input c.in-Some.ensures.some c.in-Some.ensures.rest c.count.ensures c.if-not-give.ensures.rest
    c.if-not-give.ensures.same (c.if-not-give.ensures.err refl))

-- a frame ends it
pub returns-then-is_last-clause-end : goal.returns-then-is_last-clause-end
returns-then-is_last-clause-end g c ended =
    let remaining = g.S.Source.remaining in
    let fails = g.S.Source.fails in
    ends_then remaining fails c.args.self.now c.loop.self c.give.new.self c.loop.invariant
    (turn_ends remaining fails c.loop.self c.front.new.self c.count.new.self c.give.new.self c.in-Some.input c.in-Some.ensures.some c.in-Some.ensures.rest c.count.ensures c.if-not-give.ensures.rest
    c.if-not-give.ensures.same (sym c.breaks-is_last.ensures ∙ c.if-is_last.true) c.if-self-eq0.false (c.if-not-give.ensures.ok refl))

pub loop-preserved : goal.loop-preserved
loop-preserved g c =
    let remaining = g.S.Source.remaining in
    let fails = g.S.Source.fails in
    goes_then remaining fails c.args.self.now c.loop.self c.give.new.self c.loop.invariant
    (turn_goes remaining fails c.loop.self c.front.new.self c.count.new.self c.give.new.self c.in-Some.input c.in-Some.ensures.some c.in-Some.ensures.rest c.count.ensures c.if-not-give.ensures.rest
    c.if-not-give.ensures.same (sym c.breaks-is_last.ensures ∙ c.if-is_last.false) c.if-self-eq0.false (c.if-not-give.ensures.ok refl))

pub returns-clause-end : goal.returns-clause-end
returns-clause-end g c ended = goes_ends g.S.Source.remaining g.S.Source.fails c.args.self.now c.loop.self c.loop.invariant
