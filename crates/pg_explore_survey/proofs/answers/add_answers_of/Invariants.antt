use Rattle.std.proofs.Common.{map}
use Rattle.std.specs.List.{range_with_len}
use Rattle.pg_explore_survey.specs.Texts.{AddSections, answer_counting}
use Rattle.pg_explore_survey.proofs.answers.add_answers_of.Given as goal

-- those of the first commands
abbrev pub invariant-loop-place : goal.invariant-loop-place
invariant-loop-place l = AddSections (map (answer_counting l.scenario l.mets l.ends l.node) (range_with_len 0 l.place)) l.initial.sections.items l.sections.items
