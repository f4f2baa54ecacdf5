use Rattle.std.proofs.Common.{take}
use Rattle.pg_explore_survey.specs.Ways.{AreWaysOf, all_led}
use Rattle.pg_explore_survey.proofs.recorder.all_ways.Given as goal

-- those of the first worlds
abbrev pub invariant-loop-row : goal.invariant-loop-row
invariant-loop-row l = AreWaysOf (all_led (take l.row-index l.led)) l.all.items
