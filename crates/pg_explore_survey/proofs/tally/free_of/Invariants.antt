use Rattle.std.proofs.Common.{take}
use Rattle.pg_explore_survey.specs.Findings.{AreMarks, DiffersFreeIn}
use Rattle.pg_explore_survey.proofs.tally.free_of.Given as goal

-- of the first worlds
abbrev pub invariant-loop-met : goal.invariant-loop-met
invariant-loop-met l = AreMarks (DiffersFreeIn l.names) (take l.met-index l.mets) l.marks.items
