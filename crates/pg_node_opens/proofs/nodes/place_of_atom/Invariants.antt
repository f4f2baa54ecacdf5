use Rattle.std.proofs.Common.{◌≡◌, drop}
use Rattle.std.specs.List.{list_any}
use Rattle.pg_term.specs.Same.{same_atom}
use Rattle.pg_node_opens.proofs.nodes.place_of_atom.Given as goal

-- what is left of the list says what all of it says
abbrev pub invariant-loop-place : goal.invariant-loop-place
invariant-loop-place l = list_any (same_atom l.fn.name) (drop l.place l.fn.names) ≡ list_any (same_atom l.fn.name) l.fn.names
