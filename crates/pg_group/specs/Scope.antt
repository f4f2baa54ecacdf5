-- Which members of a group are asked for.
use Rattle.std.specs.Prelude.{ℕ, Bool, true, List}
use Rattle.pg_term.specs.declared.pid.Pid.{Pid}
use Rattle.pg_term.specs.Same.{same_atom}
use Rattle.pg_group.specs.declared.scope.Scope.{Scope}
use Rattle.pg_group.specs.declared.scope.Scope.TheVariants.{All, At}

-- a pid of any node
abbrev pub anywhere : Pid → Bool
anywhere pid = true

-- a pid of this node
abbrev pub at_node : List ℕ → Pid → Bool
at_node node pid = same_atom node pid.node

abbrev pub in_scope : Scope → Pid → Bool
in_scope All = anywhere
in_scope (At node) = at_node node.now
