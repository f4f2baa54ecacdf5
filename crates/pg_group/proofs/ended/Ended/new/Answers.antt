use Rattle.std.proofs.Common.{subst, sym}
use Rattle.pg_group.specs.Ends.{AreCounted, all_pids}
use Rattle.pg_group.proofs.EndedCounts.{none_counted}
use Rattle.pg_group.proofs.ended.Ended.new.Goals as goal

pub invariant_of-result : goal.invariant_of-result
invariant_of-result c = subst (λ es. AreCounted (all_pids es) 0) (sym c.new-2.ensures.empty) none_counted
