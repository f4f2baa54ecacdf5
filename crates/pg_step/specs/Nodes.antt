-- The nodes of a set, as one of them knows them.
use Rattle.std.specs.Prelude.{ℕ, Bool, ◌&&◌, cond, List, [], ◌∷◌}
use Rattle.std.specs.List.{list_all, list_any}
use Rattle.std.specs.Ordering.{is_gt}
use Rattle.pg_term.specs.Same.{same_atom, atom_cmp}
use Rattle.pg_message_types.specs.declared.message.Message.{Message}

-- a node, by its name: the characters of an atom
abbrev pub Node : Type 0
Node = List ℕ

-- some nodes of a set, as one of them knows them: itself, and its peers
pub record Nodes : Type 0 where
  pub own : Node
  pub peers : List Node

abbrev pub all_of : Nodes → List Node
all_of m = m.own ∷ m.peers

abbrev pub is_peer : Nodes → Node → Bool
is_peer m q = list_any (same_atom q) m.peers

abbrev pub is_node : Nodes → Node → Bool
is_node m q = list_any (same_atom q) (all_of m)

-- whether all of them pass a test
abbrev pub every : Nodes → (Node → Bool) → Bool
every m test = list_all test (all_of m)

-- the greatest of some nodes, by the order of atoms
abbrev pub greatest_of : Node → List Node → Node
greatest_of node [] = node
greatest_of node (next ∷ nodes) = greatest_of (cond (is_gt (atom_cmp next node)) next node) nodes

abbrev pub greatest : Nodes → Node
greatest m = greatest_of m.own m.peers

-- ---- what is sent

-- nothing to anybody
abbrev pub to_nobody : Node → List Message
to_nobody q = []

-- one message, to one node
abbrev pub to_one : Node → Message → Node → List Message
to_one p message q = cond (same_atom p q) (message ∷ []) []

-- one message to each peer that passes a test
abbrev pub to_peers : Nodes → (Node → Bool) → Message → Node → List Message
to_peers m test message q = cond (is_peer m q && test q) (message ∷ []) []
