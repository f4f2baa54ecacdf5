-- A world whose parts were copied is the same world.
use Rattle.std.proofs.Common.{◌≡◌, ℕ, List, [], ◌∷◌, map, refl, sym, subst}
use Rattle.std.specs.List.{AllZip}
use Rattle.pg_node_state.specs.PgGroup.declared.table.GroupTable.{Ghosts}
use Rattle.pg_node_state.specs.declared.state.NodeState.{NodeState}
use Rattle.pg_node_state.specs.Same.{AreSameNodes}
use Rattle.pg_node_state.specs.PgStep.Config.{Config}
use Rattle.pg_world_packets.specs.Past.{FramesHavePast}
use Rattle.pg_world_config.specs.Seen.{seen_of}
use Rattle.pg_world_packets.specs.Views.{Traffic, View, IsWhole}

-- ---- nodes

module _ {T : Type 0} {g : Ghosts T} where
  same_seen : (node copy : NodeState T g) → AreSameNodes node copy → seen_of copy ≡ seen_of node
  same_seen node copy h = λ i. record { names = sym h.names i; ports = sym h.ports i; state = sym h.state i; answers = sym h.answers i }

  -- nodes that were copied one by one
  pub copies_seen : (nodes copies : List (NodeState T g)) → AllZip AreSameNodes nodes copies → map seen_of copies ≡ map seen_of nodes
  copies_seen [] [] zip = refl
  copies_seen [] (copy ∷ copies) zip = absurd zip
  copies_seen (node ∷ nodes) [] zip = absurd zip
  copies_seen (node ∷ nodes) (copy ∷ copies) zip = λ i. same_seen node copy zip.0 i ∷ copies_seen nodes copies zip.1 i

-- ---- worlds

pub whole_too : (one other : Traffic) → other ≡ one → IsWhole one → IsWhole other
whole_too one other same whole = subst IsWhole (sym same) whole

pub past_too : (given lent : Config) (view copy : View) (lost gone : List ℕ) → lent ≡ given → copy ≡ view → gone ≡ lost → FramesHavePast given view lost → FramesHavePast lent copy gone
past_too given lent view copy lost gone same seen away past =
    subst (λ (c : Config). FramesHavePast c copy gone) (sym same)
    (subst (λ (v : View). FramesHavePast given v gone) (sym seen)
    (subst (λ (l : List ℕ). FramesHavePast given view l) (sym away) past))
