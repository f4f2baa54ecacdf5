use Rattle.std.proofs.Common.{List, Bool}
use Rattle.std.specs.Global.{Vec}
use Rattle.pg_explore_tally.specs.declared.ways.Way.{Way}
use Rattle.pg_explore_tally.specs.Runs.{AreSettled, AreStreaks, IsMarked}
use Rattle.pg_explore_tally.proofs.Passing.{IsBack}
use Rattle.pg_explore_tally.proofs.runs.chain.Given as goal

-- the run is walked back so far
abbrev pub invariant-loop : goal.invariant-loop
invariant-loop l = (worlds : List (Vec Way)) (marks : List Bool) → AreStreaks worlds marks l.streaks → AreSettled worlds l.streaks → IsMarked marks l.last → IsBack worlds marks l.streaks l.last l.reached l.hops.items
