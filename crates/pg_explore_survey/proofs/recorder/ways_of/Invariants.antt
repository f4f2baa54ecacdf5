use Rattle.std.proofs.Common.{◌≡◌, map, take}
use Rattle.pg_explore_survey.specs.Ways.{way_of}
use Rattle.pg_explore_survey.proofs.recorder.ways_of.Given as goal

-- those of the first
abbrev pub invariant-loop-way : goal.invariant-loop-way
invariant-loop-way l = l.ways.items ≡ map way_of (take l.way-index l.led)
