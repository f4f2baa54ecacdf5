use Rattle.std.proofs.Common.{take}
use Rattle.std.specs.List.{flat_map}
use Rattle.pg_explore_survey.specs.Names.{AddsNames, known_by}
use Rattle.pg_explore_survey.proofs.commands.add_groups.Given as goal

-- those of the first
abbrev pub invariant-loop-group : goal.invariant-loop-group
invariant-loop-group l = AddsNames (flat_map known_by (take l.group-index l.groups)) l.initial.names.items l.names.items
