use Rattle.std.proofs.Common.{take}
use Rattle.pg_explore.specs.Listings.{ListsWanted}
use Rattle.pg_explore.specs.Moments.{sight_of}
use Rattle.pg_explore.proofs.Opening.{IsRetryIn}
use Rattle.pg_explore.proofs.listing.add_retries.Given as goal

-- those of the commands so far
abbrev pub invariant-loop-op : goal.invariant-loop-op
invariant-loop-op l = ListsWanted (IsRetryIn l.plans l.limits.retries (sight_of l.moment) l.node (take l.op-index l.op-items)) l.initial.moves.items l.moves.items
