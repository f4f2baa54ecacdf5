use Rattle.std.proofs.Common.{take}
use Rattle.std.specs.List.{flat_map}
use Rattle.pg_explore_survey.specs.Names.{AddsNames, changed_by}
use Rattle.pg_explore_survey.proofs.commands.add_planned.Given as goal

-- those of the first
abbrev pub invariant-loop-planned : goal.invariant-loop-planned
invariant-loop-planned l = AddsNames (flat_map changed_by (take l.planned-index l.steps)) l.initial.names.items l.names.items
