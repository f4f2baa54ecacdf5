use Rattle.std.proofs.Common.{◌≡◌, drop}
use Rattle.std.specs.List.{list_any}
use Rattle.pg_term.specs.Same.{same_atom}
use Rattle.pg_world_config.proofs.config.has_node.Given as goal

-- what is left of the list says what all of it says
abbrev pub invariant-loop-start : goal.invariant-loop-start
invariant-loop-start l = list_any (λ start. same_atom l.name start.name) (drop l.start-index l.starts) ≡ list_any (λ start. same_atom l.name start.name) l.starts
