-- What a list says of nodes that another list names, place by place.
use Rattle.std.specs.Prelude.{◌≡◌, ℕ, ◌<◌, ◌≤◌, Bool, false, not, cond, length, get_or, drop, List, [], ◌∷◌}
use Rattle.std.specs.List.{filter}
use Rattle.pg_term.specs.Same.{same_atom}
use Rattle.pg_step.specs.Nodes.{Node, Nodes}

abbrev pub name_at : List Node → ℕ → Node
name_at names place = get_or names place []

-- of a node the list says what stands at the place of its name, and of all others the default
abbrev pub reads : {A B : Type 0} → (A → B) → B → List Node → List A → Node → B
reads view default [] xs q = default
reads view default (n ∷ ns) [] q = default
reads view default (n ∷ ns) (x ∷ xs) q = cond (same_atom n q) (view x) (reads view default ns xs q)

-- whose loss was seen
abbrev pub lost_in : List Node → List Bool → Node → Bool
lost_in names lost = reads (λ b. b) false names lost

-- the set of nodes, of which the own one is named first
abbrev pub whole_in : List Node → Nodes
whole_in names = record { own = name_at names 0; peers = drop 1 names }

-- the nodes that count
abbrev pub live_in : List Node → List Bool → Nodes
live_in names lost = record { own = name_at names 0; peers = filter (λ q. not (lost_in names lost q)) (drop 1 names) }

-- each node has a place, of 16 at most, and the own one counts
pub record ArePlaces (names : List Node) (lost : List Bool) : Type 0 where
  pub some : 0 < length names
  pub few : length names ≤ 16
  pub flags : length lost ≡ length names
  pub own : get_or lost 0 false ≡ false
