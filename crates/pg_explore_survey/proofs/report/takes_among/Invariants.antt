use Rattle.std.proofs.Common.{List, take}
use Rattle.std.specs.Global.{Vec}
use Rattle.pg_explore_tally.specs.declared.ways.Way.{Way}
use Rattle.pg_explore_tally.specs.Takes.{AreTakes}
use Rattle.pg_explore_survey.specs.Findings.{AreAmong}
use Rattle.pg_explore_survey.proofs.report.takes_among.Given as goal

-- those of the first places
abbrev pub invariant-loop-place : goal.invariant-loop-place
invariant-loop-place l = (worlds : List (Vec Way)) → AreTakes worlds l.takes → AreAmong worlds (take l.place-index l.places) l.among
