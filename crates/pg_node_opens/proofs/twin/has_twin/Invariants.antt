use Rattle.std.proofs.Common.{◌≡◌, drop}
use Rattle.std.specs.List.{list_any}
use Rattle.pg_node_opens.specs.Twins.{is_twin}
use Rattle.pg_node_opens.proofs.twin.has_twin.Given as goal

-- what is left of the list says what all of it says
abbrev pub invariant-loop-other : goal.invariant-loop-other
invariant-loop-other l = list_any (is_twin l.fn.command) (drop l.other-index l.fn.others) ≡ list_any (is_twin l.fn.command) l.fn.others
