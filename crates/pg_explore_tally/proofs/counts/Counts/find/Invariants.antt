use Rattle.pg_explore_tally.proofs.Counting.{NoneBefore}
use Rattle.pg_explore_tally.proofs.counts.Counts.find.Given as goal

abbrev pub invariant-loop-place : goal.invariant-loop-place
invariant-loop-place l = NoneBefore l.self.rows.items l.text l.place
