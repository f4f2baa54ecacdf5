use Rattle.pg_talk.proofs.Turns.{inlet_itself, inlet_on}
use Rattle.pg_talk.proofs.service.serving.Serving.run.Goals as goal

pub loop-init : goal.loop-init
loop-init g c = (inlet_itself c.args.inlet.now, λ given first s. s, λ first h. h)

pub loop-preserved : goal.loop-preserved
loop-preserved g c = (
  inlet_on c.args.inlet.now c.loop.inlet c.turn.new.inlet c.loop.invariant.0 c.in_ok-turn.ensures.same,
  λ given first s. c.in_ok-turn.ensures.advances given first (c.loop.invariant.1 given first s),
  λ first h. c.in_ok-turn.ensures.passed first (c.loop.invariant.2 first h),
)

pub returns-then-branch-clause-passed : goal.returns-then-branch-clause-passed
returns-then-branch-clause-passed g c = λ first h. c.in_ok-turn.ensures.passed first (c.loop.invariant.2 first h)
