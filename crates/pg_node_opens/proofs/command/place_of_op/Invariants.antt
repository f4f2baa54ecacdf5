use Rattle.std.proofs.Common.{◌≡◌, drop}
use Rattle.std.specs.List.{list_any}
use Rattle.pg_step.specs.Attempts.{same_op}
use Rattle.pg_node_opens.proofs.command.place_of_op.Given as goal

-- what is left of the list says what all of it says
abbrev pub invariant-loop-place : goal.invariant-loop-place
invariant-loop-place l = list_any (λ command. same_op command.op l.fn.op) (drop l.place l.fn.commands) ≡ list_any (λ command. same_op command.op l.fn.op) l.fn.commands
