use Rattle.std.proofs.Common.{◌≡◌, ◌++◌, drop}
use Rattle.pg_explore_survey.specs.Scenarios.{command_lines}
use Rattle.pg_explore_survey.proofs.scenario.commands_at.Given as goal

-- those so far, and those of the rest
abbrev pub invariant-loop-line : goal.invariant-loop-line
invariant-loop-line l = l.commands.items ++ command_lines l.place (drop l.line-index l.lines) ≡ command_lines l.place l.lines
