use Rattle.std.proofs.Common.{refl, rules, ◌∙◌}
use Rattle.pg_talk.proofs.ThreadReads.{ends_then, goes_ends, goes_itself, goes_then}
use Rattle.pg_talk.proofs.service.reading.Reading.run.Goals as goal

pub loop-init : goal.loop-init
loop-init g c = (goes_itself g.S.Source.remaining g.S.Source.fails c.args.self.now, search rules)

pub returns-then-not-give_all : goal.returns-then-not-give_all
returns-then-not-give_all g c =
    ends_then g.S.Source.remaining g.S.Source.fails c.args.self.now c.loop.self c.give_all.new.self c.loop.invariant.0 (c.if-not-give_all.ensures.end refl)

-- no more is to be read
pub returns-then-load : goal.returns-then-load
returns-then-load g c =
    let remaining = g.S.Source.remaining in
    let fails = g.S.Source.fails in
    goes_ends remaining fails c.args.self.now c.give_all.new.self
    (goes_then remaining fails c.args.self.now c.loop.self c.give_all.new.self c.loop.invariant.0 (c.if-not-give_all.ensures.on refl))

pub returns-then-not-read : goal.returns-then-not-read
returns-then-not-read g c =
    let remaining = g.S.Source.remaining in
    let fails = g.S.Source.fails in
    let self = c.args.self.now in
    ends_then remaining fails self c.loop.self c.read.new.self c.loop.invariant.0
    (ends_then remaining fails c.loop.self c.give_all.new.self c.read.new.self (c.if-not-give_all.ensures.on refl) (c.if-not-read.ensures.end refl))

pub loop-preserved : goal.loop-preserved
loop-preserved g c =
    let remaining = g.S.Source.remaining in
    let fails = g.S.Source.fails in
    let self = c.args.self.now in (
      goes_then remaining fails self c.loop.self c.read.new.self c.loop.invariant.0
          (goes_then remaining fails c.loop.self c.give_all.new.self c.read.new.self (c.if-not-give_all.ensures.on refl) (c.if-not-read.ensures.on refl)),
      c.if-not-read.ensures.len ∙ c.loop.invariant.1,
    )

pub returns : goal.returns
returns g c = goes_ends g.S.Source.remaining g.S.Source.fails c.args.self.now c.loop.self c.loop.invariant.0
