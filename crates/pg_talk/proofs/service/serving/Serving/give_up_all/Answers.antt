use Rattle.std.proofs.Common.{ap, refl, ◌∙◌}
use Rattle.pg_talk.specs.Written.{is_full_end}
use Rattle.pg_talk.proofs.Turns.{goes_itself, goes_then}
use Rattle.pg_talk.proofs.service.serving.Serving.give_up_all.Goals as goal

pub loop-client-init : goal.loop-client-init
loop-client-init g c = (goes_itself c.args.self.now (g.W.Sink.contents c.args.writer.now), refl, λ first h. h)

pub give_up-requires : goal.give_up-requires
give_up-requires g c = ap is_full_end c.loop-client.invariant.1 ∙ c.requires

pub loop-client-preserved : goal.loop-client-preserved
loop-client-preserved g c = (
  goes_then c.args.self.now c.loop-client.self c.give_up.new.self (g.W.Sink.contents c.args.writer.now) (g.W.Sink.contents c.loop-client.writer) (g.W.Sink.contents c.give_up.new.writer)
      c.loop-client.invariant.0 c.in_ok-give_up.ensures.goes,
  c.in_ok-give_up.ensures.end ∙ c.loop-client.invariant.1,
  λ first h. c.in_ok-give_up.ensures.passed first (c.loop-client.invariant.2 first h),
)
