use Rattle.pg_explore_tally.specs.Takes.{AreKept}
use Rattle.pg_explore_tally.proofs.takes.takes_to.Given as goal

abbrev pub invariant-loop : goal.invariant-loop
invariant-loop l = AreKept l.worlds l.takes.items
