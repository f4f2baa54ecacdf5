use Rattle.std.proofs.Common.{[]}
use Rattle.pg_explore.specs.Listings.{ListsWanted}
use Rattle.pg_explore.specs.Moments.{sight_of}
use Rattle.pg_explore.proofs.Listed.{IsBelow}
use Rattle.pg_explore.proofs.listing.moves_of.Given as goal

-- those of the nodes so far
abbrev pub invariant-loop-node : goal.invariant-loop-node
invariant-loop-node l = ListsWanted (IsBelow l.plans l.limits.retries (sight_of l.moment) l.node) [] l.moves.items
