use Rattle.pg_explore_tally.specs.Runs.{AreStreaks}
use Rattle.pg_explore_tally.proofs.streaks.streaks.Given as goal

abbrev pub invariant-loop : goal.invariant-loop
invariant-loop l = AreStreaks l.worlds l.marks l.streaks.items
