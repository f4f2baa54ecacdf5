use Rattle.pg_explore_survey.specs.Scenarios.{AreCommands}
use Rattle.pg_explore_survey.proofs.scenario.commands_of.Given as goal

-- those of the first nodes
abbrev pub invariant-loop-place : goal.invariant-loop-place
invariant-loop-place l = AreCommands l.lines l.place l.commands.items
