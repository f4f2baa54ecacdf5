-- Where a packet is taken from in a world, and what is left there.
use Rattle.std.proofs.Common.{◌≡◌, ◌≢◌, ℕ, ◌+◌, ◌<◌, true, map, get_or, drop, length}
use Rattle.std.proofs.Common.{List, [], sym, ap, ◌∙◌, inl, inr, ◌⊎◌, arith, subst}
use Rattle.std.specs.Prelude.{slice_set}
use Rattle.std.proofs.lemmas.Bool.{cases_eq}
use Rattle.std.proofs.lemmas.List.{get_or-set_same, get_or-set_other, map-set, length-map, length-set}
use Rattle.pg_node_state.specs.PgGroup.declared.table.GroupTable.{Ghosts}
use Rattle.pg_node_state.specs.PgMessageTypes.declared.message.Message.{Message}
use Rattle.pg_node_state.specs.PgStep.Machines.Places.{is_pair}
use Rattle.pg_node_state.specs.PgStep.Machines.Clocked.{Stamped}
use Rattle.pg_node_state.specs.declared.state.NodeState.{NodeState}
use Rattle.pg_node_state.specs.States.{names_of}
use Rattle.pg_world_packets.specs.declared.ways.Ways.{Ways}
use Rattle.pg_world_config.specs.Seen.{seen_of}
use Rattle.pg_world_packets.specs.Views.{ways_of, traffic_in, IsWhole, peer_place}
use Rattle.pg_world_packets.proofs.Peering.{place_within}
use Rattle.pg_world_packets.proofs.Turning.{way_at, pair_is}
use Rattle.pg_world_packets.proofs.Viewing.{read_here, seen_here, whole_row}

module _ {T : Type 0} {g : Ghosts T} (nodes : List (NodeState T g)) (outs : List Ways) (whole : IsWhole (traffic_in nodes outs)) (i p : ℕ) (pair : is_pair (length (map seen_of nodes)) i p ≡ true) where
  pub taker_there : i < length nodes
  taker_there = let l = (pair_is (length (map seen_of nodes)) i p pair).0 in omega (arith, l, length-map nodes seen_of)

  pub peer_there : p < length nodes
  peer_there = let l = (pair_is (length (map seen_of nodes)) i p pair).1 in omega (arith, l, length-map nodes seen_of)

  pub apart : p ≢ i
  apart = (pair_is (length (map seen_of nodes)) i p pair).2

  rows : length outs ≡ length nodes
  rows = omega (arith, whole.rows, length-map outs ways_of, length-map nodes seen_of)

  pub row_there : i < length outs
  row_there = omega (arith, taker_there, rows)

  pub peer_row : p < length outs
  peer_row = omega (arith, peer_there, rows)

  pub taker_place : (state : NodeState T g) → state ≡ get_or nodes i state → peer_place i p + 1 < length (names_of state)
  taker_place state here =
      let known = whole.known i (seen_of state) (seen_here nodes outs i whole taker_there state here) in
      let l = place_within i p (length nodes) taker_there peer_there apart in
      omega (arith, known, l, length-map nodes seen_of)

  module _ (sender : Ways) (there : sender ≡ get_or outs p sender) where
    pub sender_row : get_or (map ways_of outs) p [] ≡ ways_of sender
    sender_row = read_here ways_of outs p sender [] peer_row there

    pub sender_place : peer_place p i < length (ways_of sender)
    sender_place =
        let row : length (ways_of sender) + 1 ≡ length (map seen_of nodes) = ap (λ (r : List (List (Stamped Message))). length r + 1) (sym sender_row) ∙ whole.others p (pair_is (length (map seen_of nodes)) i p pair).1 in
        let l = place_within p i (length nodes) peer_there taker_there (λ e. apart (sym e)) in
        omega (arith, row, l, length-map nodes seen_of)

    pub sender_way : get_or (ways_of sender) (peer_place p i) [] ≡ way_at (traffic_in nodes outs) p (peer_place p i)
    sender_way = ap (λ (r : List (List (Stamped Message))). get_or r (peer_place p i) []) (sym sender_row)

    -- the first packet was taken off its way
    module _ (passed : Ways) (is : ways_of passed ≡ slice_set (ways_of sender) (peer_place p i) (drop 1 (get_or (ways_of sender) (peer_place p i) []))) where
      ways : map ways_of (slice_set outs p passed) ≡ slice_set (map ways_of outs) p (ways_of passed)
      ways = map-set ways_of outs p passed

      inside : p < length (map ways_of outs)
      inside = omega (arith, peer_row, length-map outs ways_of)

      row_now : get_or (map ways_of (slice_set outs p passed)) p [] ≡ ways_of passed
      row_now = ap (λ (rs : List (List (List (Stamped Message)))). get_or rs p []) ways ∙ get_or-set_same (map ways_of outs) p (ways_of passed) [] inside

      pub passed_whole : IsWhole (traffic_in nodes (slice_set outs p passed))
      passed_whole = subst IsWhole (λ j. record { nodes = map seen_of nodes; ways = sym ways j })
          (whole_row (traffic_in nodes outs) whole p (ways_of passed) (pair_is (length (map seen_of nodes)) i p pair).1
          (ap length is ∙ (length-set (ways_of sender) (peer_place p i) (drop 1 (get_or (ways_of sender) (peer_place p i) [])) ∙ ap length (sym sender_row))))

      pub passed_here : way_at (traffic_in nodes (slice_set outs p passed)) p (peer_place p i) ≡ drop 1 (way_at (traffic_in nodes outs) p (peer_place p i))
      passed_here = ap (λ (r : List (List (Stamped Message))). get_or r (peer_place p i) []) (row_now ∙ is)
          ∙ (get_or-set_same (ways_of sender) (peer_place p i) (drop 1 (get_or (ways_of sender) (peer_place p i) [])) [] sender_place ∙ ap (drop 1) sender_way)

      pub passed_else : (a k : ℕ) → ((a ≡ p) × (k ≡ peer_place p i) → ⊥) → way_at (traffic_in nodes (slice_set outs p passed)) a k ≡ way_at (traffic_in nodes outs) a k
      passed_else a k other = go (cases_eq a p) (cases_eq k (peer_place p i))
        where
          go : (a ≡ p) ⊎ (a ≢ p) → (k ≡ peer_place p i) ⊎ (k ≢ peer_place p i) → way_at (traffic_in nodes (slice_set outs p passed)) a k ≡ way_at (traffic_in nodes outs) a k
          go (inl e) (inl f) = absurd (other (e, f))
          go (inl e) (inr n) = subst (λ b. way_at (traffic_in nodes (slice_set outs p passed)) b k ≡ way_at (traffic_in nodes outs) b k) (sym e)
              (ap (λ (r : List (List (Stamped Message))). get_or r k []) (row_now ∙ is)
              ∙ (get_or-set_other (ways_of sender) (peer_place p i) k (drop 1 (get_or (ways_of sender) (peer_place p i) [])) [] n
              ∙ ap (λ (r : List (List (Stamped Message))). get_or r k []) (sym sender_row)))
          go (inr n) f = ap (λ (rs : List (List (List (Stamped Message)))). get_or (get_or rs a []) k []) ways
              ∙ ap (λ (r : List (List (Stamped Message))). get_or r k []) (get_or-set_other (map ways_of outs) p a (ways_of passed) [] n)
