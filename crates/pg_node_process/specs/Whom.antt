-- Whom bodies are of.
use Rattle.std.specs.Prelude.{ℕ, List, [], ◌∷◌, refl}
use Rattle.std.specs.Coded.{Coded, code_by, coded×, coded_list, coded_ℕ}
use Rattle.pg_node_requests.specs.declared.layout.NodePorts.{NodePorts}

-- a node by its name, how many ports it has, and how many peers
pub record Whom : Type 0 where
  pub name : List ℕ
  pub ports : ℕ
  pub peers : ℕ

-- it is stored as its fields
abbrev pub whom_code : Coded Whom
whom_code = code_by (List ℕ × (ℕ × ℕ)) (coded× (coded_list coded_ℕ) (coded× coded_ℕ coded_ℕ)) (λ w. (w.name, (w.ports, w.peers))) (λ p. record { name = p.0; ports = p.1.0; peers = p.1.1 }) (λ _. refl)

-- the ports of a node, whose clients come first
abbrev pub ports_of : List ℕ → ℕ → NodePorts
ports_of name ports = record { name = name; ports = ports; first = 0 }

-- the name of the first of some nodes
abbrev pub first_name : List NodePorts → List ℕ
first_name [] = []
first_name (node ∷ nodes) = node.name
