use Rattle.std.proofs.Common.{subst}
use Rattle.pg_group.specs.Ends.{AreCounted, Ends}
use Rattle.pg_group.proofs.EndedCounts.{counts_ended}
use Rattle.pg_group.proofs.ended.Ended.count.Goals as goal

pub returns-clause-pids : goal.returns-clause-pids
returns-clause-pids c = subst (λ (e : Ends). AreCounted e.pids c.self.inside.count) c.self.view_is c.self.invariant

pub returns-clause-ended : goal.returns-clause-ended
returns-clause-ended c = counts_ended c.args.self.now c.self.inside.count (subst (λ (e : Ends). AreCounted e.pids c.self.inside.count) c.self.view_is c.self.invariant)
