use Rattle.std.proofs.Common.{take}
use Rattle.pg_explore.specs.Listings.{ListsWanted}
use Rattle.pg_explore.proofs.Opening.{IsLossIn}
use Rattle.pg_explore.proofs.losses.add_losses.Given as goal

-- those so far
abbrev pub invariant-loop-keep : goal.invariant-loop-keep
invariant-loop-keep l = ListsWanted (IsLossIn l.node (take l.keep-index l.keep-items)) l.initial.moves.items l.moves.items
