use Rattle.pg_explore.proofs.Expanding.{SoFar}
use Rattle.pg_explore.proofs.explored.Explored.expand.Given as goal

abbrev pub invariant-loop-step : goal.invariant-loop-step
invariant-loop-step l =
    SoFar l.config.starts.items l.plans l.limits.retries l.limits.worlds l.place l.step-items l.step-index l.initial.self.met.items l.initial.self.lent l.self.lent l.self.bins l.self.met.items l.led.items
