use Rattle.std.proofs.Common.{◌≡◌, drop}
use Rattle.pg_node_process.specs.Groups.{are_names}
use Rattle.pg_node_process.proofs.groups.are_names.Given as goal

-- what is left of the list says what all of it says
abbrev pub invariant-loop-group : goal.invariant-loop-group
invariant-loop-group l = are_names (drop l.group-index l.groups) ≡ are_names l.groups
