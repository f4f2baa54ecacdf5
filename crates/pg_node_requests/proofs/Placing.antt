-- A node is looked for by its name, one place after another.
use Rattle.std.proofs.Common.{◌≡◌, ◌<◌, ◌+◌, ℕ, List, drop, length, true}
use Rattle.std.proofs.Common.{false, Option, Some, None, ap, refl, suc, arith}
use Rattle.std.specs.Prelude.{get_or}
use Rattle.std.specs.Option.{option_map}
use Rattle.std.proofs.lemmas.List.{drop_more, drop_all}
use Rattle.pg_term.specs.Same.{same_atom}
use Rattle.pg_node_requests.specs.declared.layout.NodePorts.{NodePorts}
use Rattle.pg_step.specs.declared.start.Start.{Start}
use Rattle.pg_node_requests.specs.Members.{place_among}
use Rattle.pg_node_requests.specs.Layouts.{client_at, client_of, place_of}

-- the place of a name among nodes that begin at a place of others
abbrev pub later_by : ℕ → Option ℕ → Option ℕ
later_by k place = option_map (λ j. k + j) place

pub later_by_none : (place : Option ℕ) → later_by 0 place ≡ place
later_by_none None = refl
later_by_none (Some j) = ap Some (omega arith)

later_by_suc : (k : ℕ) (place : Option ℕ) → later_by k (option_map suc place) ≡ later_by (k + 1) place
later_by_suc k None = refl
later_by_suc k (Some j) = ap Some (omega arith)

-- another name at the place
pub place_passed : (name : List ℕ) (nodes : List NodePorts) (k : ℕ) (d : NodePorts) → k < length nodes → same_atom name (get_or nodes k d).name ≡ false
    → later_by k (place_of name (drop k nodes)) ≡ later_by (k + 1) (place_of name (drop (k + 1) nodes))
place_passed name nodes k d low other =
    rw (drop_more nodes k d low, other) (later_by_suc k (place_of name (drop (k + 1) nodes)))

-- this name at the place
pub place_found : (name : List ℕ) (nodes : List NodePorts) (k : ℕ) (d : NodePorts) → k < length nodes → same_atom name (get_or nodes k d).name ≡ true
    → later_by k (place_of name (drop k nodes)) ≡ Some k
place_found name nodes k d low same = rw (drop_more nodes k d low, same) (ap Some (omega arith))

-- the end of the nodes
pub place_none : (name : List ℕ) (nodes : List NodePorts) (k : ℕ) → length nodes ≡ k → later_by k (place_of name (drop k nodes)) ≡ None
place_none name nodes k end = rw (drop_all k nodes (omega (arith, end))) refl

-- ---- the client at a port of the node

pub client_passed : (nodes : List NodePorts) (name : List ℕ) (port k : ℕ) (d : NodePorts) → k < length nodes → same_atom name (get_or nodes k d).name ≡ false
    → client_at (drop k nodes) name port ≡ client_at (drop (k + 1) nodes) name port
client_passed nodes name port k d low other = rw (drop_more nodes k d low, other) refl

pub client_found : (nodes : List NodePorts) (name : List ℕ) (port k : ℕ) (d : NodePorts) → k < length nodes → same_atom name (get_or nodes k d).name ≡ true
    → client_at (drop k nodes) name port ≡ client_of (get_or nodes k d) port
client_found nodes name port k d low same = rw (drop_more nodes k d low, same) refl

pub client_none : (nodes : List NodePorts) (name : List ℕ) (port k : ℕ) → length nodes ≡ k → client_at (drop k nodes) name port ≡ None
client_none nodes name port k end = rw (drop_all k nodes (omega (arith, end))) refl

-- ---- the place of a node among those that start

pub start_passed : (name : List ℕ) (starts : List Start) (k : ℕ) (d : Start) → k < length starts → same_atom name (get_or starts k d).name ≡ false
    → later_by k (place_among name (drop k starts)) ≡ later_by (k + 1) (place_among name (drop (k + 1) starts))
start_passed name starts k d low other = rw (drop_more starts k d low, other) (later_by_suc k (place_among name (drop (k + 1) starts)))

pub start_found : (name : List ℕ) (starts : List Start) (k : ℕ) (d : Start) → k < length starts → same_atom name (get_or starts k d).name ≡ true
    → later_by k (place_among name (drop k starts)) ≡ Some k
start_found name starts k d low same = rw (drop_more starts k d low, same) (ap Some (omega arith))

pub start_none : (name : List ℕ) (starts : List Start) (k : ℕ) → length starts ≡ k → later_by k (place_among name (drop k starts)) ≡ None
start_none name starts k end = rw (drop_all k starts (omega (arith, end))) refl
