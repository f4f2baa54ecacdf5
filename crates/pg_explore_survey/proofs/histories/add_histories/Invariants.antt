use Rattle.std.proofs.Common.{map, take}
use Rattle.pg_explore_survey.specs.Texts.{AddSections, history_counting}
use Rattle.pg_explore_survey.proofs.histories.add_histories.Given as goal

-- those of the first
abbrev pub invariant-loop-group : goal.invariant-loop-group
invariant-loop-group l = AddSections (map (history_counting l.scenario l.mets l.ends) (take l.group-index l.groups)) l.initial.sections.items l.sections.items
