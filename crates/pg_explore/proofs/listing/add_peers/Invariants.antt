use Rattle.pg_explore.specs.Listings.{ListsWanted}
use Rattle.pg_explore.specs.Moments.{sight_of}
use Rattle.pg_explore.proofs.Listed.{IsOfBelow}
use Rattle.pg_explore.proofs.listing.add_peers.Given as goal

-- those of the peers so far
abbrev pub invariant-loop-peer : goal.invariant-loop-peer
invariant-loop-peer l = ListsWanted (IsOfBelow l.plans l.limits.retries (sight_of l.moment) l.node l.peer) l.initial.moves.items l.moves.items
