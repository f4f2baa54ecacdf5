use Rattle.std.proofs.Common.{take}
use Rattle.std.specs.List.{flat_map}
use Rattle.pg_script.specs.PgStep.declared.start.Start.{Start}
use Rattle.pg_explore_survey.specs.Names.{AddsNames, known_by}
use Rattle.pg_explore_survey.proofs.commands.add_known.Given as goal

-- those of the first
abbrev pub invariant-loop-start : goal.invariant-loop-start
invariant-loop-start l = AddsNames (flat_map (λ (start : Start). flat_map known_by start.groups) (take l.start-index l.starts)) l.initial.names.items l.names.items
