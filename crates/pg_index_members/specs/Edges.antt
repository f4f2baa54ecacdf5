-- Where a search in rows stops.
use Rattle.std.specs.Prelude.{◌≡◌, Bool, true}
use Rattle.std.specs.Ordering.{is_lt, is_le}
use Rattle.std.specs.declared.cmp.Ordering.TheVariants.{Less}
use Rattle.pg_term.specs.declared.pid.Pid.{Pid}
use Rattle.pg_term.specs.Same.{pid_cmp, atom_cmp}
use Rattle.pg_index_members.specs.declared.edge.Edge.{Edge}
use Rattle.pg_index_members.specs.declared.edge.Edge.TheVariants.{AtPid, AtNode, PastNode}

-- whether a pid stands before an edge
abbrev pub before : Edge → Pid → Bool
before (AtPid edge) pid = is_lt (pid_cmp pid edge.now)
before (AtNode node) pid = is_lt (atom_cmp pid.node node.now)
before (PastNode node) pid = is_le (atom_cmp pid.node node.now)

-- the edge is at a pid, of the node of this one
abbrev pub IsOnNode : Edge → Pid → Type 0
IsOnNode (AtPid edge) pid = pid.node ≡ edge.now.node
IsOnNode (AtNode node) pid = ⊥
IsOnNode (PastNode node) pid = ⊥

-- what is less than a pid that passes, passes
abbrev pub IsDownward : (Pid → Bool) → Type 0
IsDownward p = (x y : Pid) → pid_cmp x y ≡ Less → p y ≡ true → p x ≡ true
