-- A node that has a port is there.
use Rattle.std.proofs.Common.{◌≡◌, ◌<◌, ◌∙◌, ℕ, Bool, true, false, length, map}
use Rattle.std.proofs.Common.{nat_lt, List, Option, Some, None, refl, sym, ap, arith}
use Rattle.std.specs.Prelude.{slice_get}
use Rattle.std.specs.Option.{option_map_or}
use Rattle.std.proofs.lemmas.Bool.{ltb-true}
use Rattle.std.proofs.lemmas.Option.{slice_get_within}
use Rattle.std.proofs.lemmas.List.{length-map}
use Rattle.pg_node_state.specs.PgGroup.declared.table.GroupTable.{Ghosts}
use Rattle.pg_node_state.specs.declared.state.NodeState.{NodeState}
use Rattle.pg_node_state.specs.Issued.{ports_of}
use Rattle.pg_world_config.specs.Seen.{Seen, seen_of}

-- what a test of an element says where it holds
pub test_of : {A : Type 0} (test : A → Bool) (o : Option A) → option_map_or test o false ≡ true → (x : A) × (o ≡ Some x) × (test x ≡ true)
test_of test None e = absurd (cc)
test_of test (Some x) e = (x, refl, e)

module _ {T : Type 0} {g : Ghosts T} (nodes : List (NodeState T g)) (i port : ℕ) (has : option_map_or (λ (node : Seen). nat_lt port node.ports) (slice_get (map seen_of nodes) i) false ≡ true) where
  pub port_there : i < length nodes
  port_there = let found = test_of (λ (node : Seen). nat_lt port node.ports) (slice_get (map seen_of nodes) i) has in
      let l = slice_get_within (map seen_of nodes) i found.0 found.1 in omega (arith, l, length-map nodes seen_of)

  pub port_place : (state : NodeState T g) → slice_get (map seen_of nodes) i ≡ Some (seen_of state) → port < ports_of state
  port_place state here = ltb-true port (ports_of state) (ap (λ o. option_map_or (λ (node : Seen). nat_lt port node.ports) o false) (sym here) ∙ has)
