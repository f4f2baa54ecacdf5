use Rattle.std.proofs.Common.{ap, refl, ◌∙◌}
use Rattle.pg_talk.specs.Written.{is_full_end}
use Rattle.pg_talk.proofs.Turns.{goes_itself, goes_then}
use Rattle.pg_talk.proofs.service.serving.Serving.close_desks.Goals as goal

pub loop-init : goal.loop-init
loop-init g c = (goes_itself c.args.self.now (g.W.Sink.contents c.args.writer.now), refl, λ first h. h)

pub close_some-requires : goal.close_some-requires
close_some-requires g c = ap is_full_end c.loop.invariant.1 ∙ c.requires

pub loop-preserved : goal.loop-preserved
loop-preserved g c = (
  goes_then c.args.self.now c.loop.self c.close_some.new.self (g.W.Sink.contents c.args.writer.now) (g.W.Sink.contents c.loop.writer) (g.W.Sink.contents c.close_some.new.writer)
      c.loop.invariant.0 c.in_ok-close_some.ensures.goes,
  c.in_ok-close_some.ensures.end ∙ c.loop.invariant.1,
  λ first h. c.in_ok-close_some.ensures.passed first (c.loop.invariant.2 first h),
)

pub returns-then-branch-clause-passed : goal.returns-then-branch-clause-passed
returns-then-branch-clause-passed g c = λ first h. c.in_ok-close_some.ensures.passed first (c.loop.invariant.2 first h)
