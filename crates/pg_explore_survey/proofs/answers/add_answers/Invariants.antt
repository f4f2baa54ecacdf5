use Rattle.std.specs.List.{flat_map, range_with_len}
use Rattle.pg_explore_survey.specs.Texts.{AddSections, answer_countings}
use Rattle.pg_explore_survey.proofs.answers.add_answers.Given as goal

-- those of the first nodes
abbrev pub invariant-loop-node : goal.invariant-loop-node
invariant-loop-node l = AddSections (flat_map (answer_countings l.scenario l.mets l.ends) (range_with_len 0 l.node)) l.initial.sections.items l.sections.items
