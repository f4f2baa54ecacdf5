-- Which clients the ports of nodes have.
use Rattle.std.specs.Prelude.{ℕ, ◌+◌, ◌-◌, ◌^◌, suc, min, nat_le, ◌&&◌, List}
use Rattle.std.specs.Prelude.{[], ◌∷◌, Option, Some, None, if◌then◌else◌}
use Rattle.std.specs.Option.{option_map, option_and_then}
use Rattle.pg_step.specs.declared.start.Start.{Start}
use Rattle.pg_term.specs.Same.{same_atom}
use Rattle.pg_node_requests.specs.declared.layout.NodePorts.{NodePorts}

-- the place of the node of this name
abbrev pub place_of : List ℕ → List NodePorts → Option ℕ
place_of name [] = None
place_of name (node ∷ nodes) = if same_atom name node.name then Some 0 else option_map suc (place_of name nodes)

-- the node of this name
abbrev pub node_of : List ℕ → List NodePorts → Option NodePorts
node_of name [] = None
node_of name (node ∷ nodes) = if same_atom name node.name then Some node else node_of name nodes

-- the place of the client at a port of a node, by its number from 1
abbrev pub client_of : NodePorts → ℕ → Option ℕ
client_of node port = if nat_le 1 port && nat_le port node.ports then Some (min (node.first + (port - 1)) (2 ^ 64 - 1)) else None

-- the same of a node by its name
abbrev pub client_at : List NodePorts → List ℕ → ℕ → Option ℕ
client_at nodes name port = option_and_then (λ node. client_of node port) (node_of name nodes)

-- nodes as they start, where the clients of the first of them come first, behind so many others
abbrev pub layout_of : ℕ → List Start → List NodePorts
layout_of first [] = []
layout_of first (start ∷ starts) = record { name = start.name; ports = start.ports; first = first } ∷ layout_of (min (first + start.ports) (2 ^ 64 - 1)) starts
