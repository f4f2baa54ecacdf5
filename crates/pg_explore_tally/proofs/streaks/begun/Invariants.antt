use Rattle.std.proofs.Common.{◌≡◌, map, take}
use Rattle.pg_explore_tally.specs.Runs.{alone_of}
use Rattle.pg_explore_tally.proofs.streaks.begun.Given as goal

abbrev pub invariant-loop-mark : goal.invariant-loop-mark
invariant-loop-mark l = l.streaks.items ≡ map alone_of (take l.mark-index l.marks)
