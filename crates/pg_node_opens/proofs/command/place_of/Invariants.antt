use Rattle.std.proofs.Common.{◌≡◌, drop}
use Rattle.std.specs.List.{list_any}
use Rattle.pg_node_opens.specs.Commands.{has_in}
use Rattle.pg_node_opens.proofs.command.place_of.Given as goal

-- what is left of the list says what all of it says
abbrev pub invariant-loop-place : goal.invariant-loop-place
invariant-loop-place l = list_any (λ command. has_in command.phase l.fn.number) (drop l.place l.fn.commands) ≡ list_any (λ command. has_in command.phase l.fn.number) l.fn.commands
