use Rattle.std.proofs.Common.{◌≡◌, drop}
use Rattle.std.specs.List.{list_any}
use Rattle.pg_term.specs.Same.{same_atom}
use Rattle.pg_node_process.proofs.config.has_name.Given as goal

-- what is left of the list says what all of it says
abbrev pub invariant-loop-other : goal.invariant-loop-other
invariant-loop-other l = list_any (same_atom l.name) (drop l.other-index l.names) ≡ list_any (same_atom l.name) l.names
