use Rattle.pg_explore.proofs.Lending.{Lent}
use Rattle.pg_explore.proofs.exploration.lend_all.Given as goal

abbrev pub invariant-loop-turn : goal.invariant-loop-turn
invariant-loop-turn g l =
    Lent l.config.starts.items l.plans l.limits.retries l.limits.worlds l.turn (g.V.Visitor.lent l.initial.visitor) (g.V.Visitor.lent l.visitor) (g.V.Visitor.ways l.initial.visitor) (g.V.Visitor.ways l.visitor) l.explored
