use Rattle.std.proofs.Common.{◌≡◌, drop}
use Rattle.pg_step.specs.PgEnds.Processes.{made_of, node_of}
use Rattle.pg_node_process.specs.Groups.{are_own}
use Rattle.pg_node_process.proofs.groups.are_own.Given as goal

-- what is left of the list says what all of it says
abbrev pub invariant-loop-group : goal.invariant-loop-group
invariant-loop-group l = are_own (node_of l.processes) (made_of l.processes) (drop l.group-index l.groups) ≡ are_own (node_of l.processes) (made_of l.processes) l.groups
