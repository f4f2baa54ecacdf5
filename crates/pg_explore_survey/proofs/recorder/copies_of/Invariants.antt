use Rattle.std.proofs.Common.{◌≡◌, take}
use Rattle.pg_explore_survey.proofs.recorder.copies_of.Given as goal

-- those of the first
abbrev pub invariant-loop-way : goal.invariant-loop-way
invariant-loop-way l = l.copies.items ≡ take l.way-index l.led
