-- What a world is seen as where one of its nodes, or what is on the way from it, is another.
use Rattle.std.proofs.Common.{◌≡◌, ◌≢◌, ℕ, ◌+◌, ◌<◌, Bool, true, false, IsTrue, Bor, map, get_or, length, List}
use Rattle.std.proofs.Common.{[], ◌++◌, Option, Some, None, refl, sym, ap, ◌∙◌, inl, inr, ◌⊎◌, arith, subst}
use Rattle.std.specs.Prelude.{slice_get, slice_set, not, is_none}
use Rattle.std.specs.Option.{is_some, option_copied}
use Rattle.std.proofs.lemmas.Bool.{cases_eq}
use Rattle.std.proofs.lemmas.Option.{slice_get_read}
use Rattle.std.proofs.lemmas.List.{get_or-map, get_or-set_same, get_or-set_other}
use Rattle.std.proofs.lemmas.List.{map-set, set-get_or, length-map, length-set}
use Rattle.pg_term.specs.RefParts.{RefParts}
use Rattle.pg_node_state.specs.PgGroup.declared.table.GroupTable.{Ghosts}
use Rattle.pg_node_state.specs.PgMessageTypes.declared.message.Message.{Message}
use Rattle.pg_node_state.specs.PgMessageTypes.declared.packet.Packet.{Packet}
use Rattle.pg_node_state.specs.PgStep.Machines.Clocked.{Stamped}
use Rattle.pg_node_state.specs.declared.state.NodeState.{NodeState}
use Rattle.pg_node_state.specs.Issued.{ports_of}
use Rattle.pg_node_state.specs.PgNodeSends.Sendable.{AreSendable}
use Rattle.pg_node_state.specs.States.{names_of, state_of, answers_of}
use Rattle.pg_world_packets.specs.declared.ways.Ways.{Ways}
use Rattle.pg_world_config.specs.Seen.{Seen, seen_of}
use Rattle.pg_world_packets.specs.Views.{ways_of, packets_to, FitWays, Traffic, traffic_in, IsWhole}
use Rattle.pg_world_packets.proofs.Turning.{way_at, set_here, set_other}

-- what is read of an element
pub read_here : {A B : Type 0} (f : A → B) (xs : List A) (k : ℕ) (x : A) (d : B) → k < length xs → x ≡ get_or xs k x → get_or (map f xs) k d ≡ f x
read_here f xs k x d within here = get_or-map f xs k x d within ∙ ap f (sym here)

-- an element that is seen as the same
pub map_same : {A B : Type 0} (f : A → B) (xs : List A) (k : ℕ) (old new : A) → k < length xs → old ≡ get_or xs k old → f new ≡ f old → map f (slice_set xs k new) ≡ map f xs
map_same f xs k old new within here same = map-set f xs k new
    ∙ (ap (slice_set (map f xs) k) (same ∙ sym (read_here f xs k old (f old) within here)) ∙ set-get_or (map f xs) k (f old))

-- what was put at a place is read there
pub is_set : {A : Type 0} (xs : List A) (k : ℕ) (x y : A) → k < length xs → y ≡ get_or (slice_set xs k x) k y → x ≡ y
is_set xs k x y within here = sym (here ∙ get_or-set_same xs k x y within)

-- ---- a world stays whole

module _ (traffic : Traffic) (whole : IsWhole traffic) (i : ℕ) where
  pub whole_node : (node after : Seen) → slice_get traffic.nodes i ≡ Some node → after.names ≡ node.names → IsWhole (record { nodes = slice_set traffic.nodes i after; ways = traffic.ways })
  whole_node node after here names = record {
    rows = whole.rows ∙ sym (length-set traffic.nodes i after);
    known = λ j other at. known j other at (cases_eq j i) ∙ sym (length-set traffic.nodes i after);
    others = λ j l. whole.others j (omega (arith, l, length-set traffic.nodes i after)) ∙ sym (length-set traffic.nodes i after);
  }
    where
      known : (j : ℕ) (other : Seen) → slice_get (slice_set traffic.nodes i after) j ≡ Some other → (j ≡ i) ⊎ (j ≢ i) → length other.names ≡ length traffic.nodes
      known j other at (inl e) =
          let same : after ≡ other = set_here traffic.nodes i after other (subst (λ k. slice_get (slice_set traffic.nodes i after) k ≡ Some other) e at) in
          ap (λ (x : Seen). length x.names) (sym same) ∙ (ap length names ∙ whole.known i node here)
      known j other at (inr n) = whole.known j other (sym (set_other traffic.nodes i j after n) ∙ at)

  pub whole_row : (row : List (List (Stamped Message))) → i < length traffic.nodes → length row ≡ length (get_or traffic.ways i []) → IsWhole (record { nodes = traffic.nodes; ways = slice_set traffic.ways i row })
  whole_row row within len = record {
    rows = length-set traffic.ways i row ∙ whole.rows;
    known = whole.known;
    others = λ j l. others j l (cases_eq j i);
  }
    where
      others : (j : ℕ) → j < length traffic.nodes → (j ≡ i) ⊎ (j ≢ i) → length (get_or (slice_set traffic.ways i row) j []) + 1 ≡ length traffic.nodes
      others j l (inl e) = subst (λ k. length (get_or (slice_set traffic.ways i row) k []) + 1 ≡ length traffic.nodes) (sym e)
          (ap (λ (x : List (List (Stamped Message))). length x + 1) (get_or-set_same traffic.ways i row [] (omega (arith, within, whole.rows)))
          ∙ (ap (λ n. n + 1) len ∙ whole.others i within))
      others j l (inr n) = ap (λ (x : List (List (Stamped Message))). length x + 1) (get_or-set_other traffic.ways i j row [] n) ∙ whole.others j l

-- ---- the code's world

module _ {T : Type 0} {g : Ghosts T} (nodes : List (NodeState T g)) (outs : List Ways) where
  -- a node that is as it was
  pub seen_same : (old new : NodeState T g) → names_of new ≡ names_of old → ports_of new ≡ ports_of old → state_of new ≡ state_of old → answers_of new ≡ answers_of old → seen_of new ≡ seen_of old
  seen_same old new names ports state answers = λ j. record { names = names j; ports = ports j; state = state j; answers = answers j }

  -- room was made for what is sent
  pub view_room : (i : ℕ) (old new : Ways) → i < length outs → old ≡ get_or outs i old → ways_of new ≡ ways_of old → traffic_in nodes (slice_set outs i new) ≡ traffic_in nodes outs
  view_room i old new within here same = ap (λ (rows : List (List (List (Stamped Message)))). record { nodes = map seen_of nodes; ways = rows }) (map_same ways_of outs i old new within here same)

  -- and the node has refused the event
  pub view_refused : (i : ℕ) (old new : Ways) (state after : NodeState T g) → i < length outs → old ≡ get_or outs i old → ways_of new ≡ ways_of old
      → i < length nodes → state ≡ get_or nodes i state → seen_of after ≡ seen_of state → traffic_in (slice_set nodes i after) (slice_set outs i new) ≡ traffic_in nodes outs
  view_refused i old new state after within here same inside there seen =
      ap (λ (seens : List Seen). record { nodes = seens; ways = map ways_of (slice_set outs i new) }) (map_same seen_of nodes i state after inside there seen)
      ∙ view_room i old new within here same

  module _ (i : ℕ) (whole : IsWhole (traffic_in nodes outs)) (within : i < length nodes) (state : NodeState T g) (here : state ≡ get_or nodes i state) where
    pub rows_are : length outs ≡ length nodes
    rows_are = omega (arith, whole.rows, length-map outs ways_of, length-map nodes seen_of)

    pub seen_here : slice_get (map seen_of nodes) i ≡ Some (seen_of state)
    seen_here = slice_get_read (map seen_of nodes) (length nodes) i (seen_of state) (sym (length-map nodes seen_of)) within (sym (read_here seen_of nodes i state (seen_of state) within here))

    pub peers_are : (out : Ways) → out ≡ get_or outs i out → length (ways_of out) + 1 ≡ length (names_of state)
    peers_are out there =
        let l : i < length outs = omega (arith, within, rows_are) in
        ap (λ (row : List (List (Stamped Message))). length row + 1) (sym (read_here ways_of outs i out [] l there))
        ∙ (whole.others i (omega (arith, within, length-map nodes seen_of)) ∙ sym (whole.known i (seen_of state) seen_here))

    pub fit_ways : (out : Ways) (sends : List (ℕ × Packet)) → out ≡ get_or outs i out → AreSendable (names_of state) sends → FitWays (length (ways_of out)) sends
    fit_ways out sends there fits = (names_of state, peers_are out there, fits)

    -- the node made a turn, and what it sends was put on its ways
    module _ (after : NodeState T g) (out out2 : Ways) (sends : List (ℕ × Packet)) (names : names_of after ≡ names_of state) (there : out ≡ get_or outs i out)
        (len : length (ways_of out2) ≡ length (ways_of out)) (sent : (k : ℕ) → get_or (ways_of out2) k [] ≡ get_or (ways_of out) k [] ++ packets_to sends k) where
      abbrev pub sent_view : Traffic
      sent_view = traffic_in (slice_set nodes i after) (slice_set outs i out2)

      parts : Traffic
      parts = record { nodes = slice_set (map seen_of nodes) i (seen_of after); ways = slice_set (map ways_of outs) i (ways_of out2) }

      inside : i < length outs
      inside = omega (arith, within, rows_are)

      inside_ways : i < length (map ways_of outs)
      inside_ways = omega (arith, inside, length-map outs ways_of)

      pub sent_nodes : sent_view.nodes ≡ slice_set (map seen_of nodes) i (seen_of after)
      sent_nodes = map-set seen_of nodes i after

      sent_ways : sent_view.ways ≡ slice_set (map ways_of outs) i (ways_of out2)
      sent_ways = map-set ways_of outs i out2

      row_is : get_or (map ways_of outs) i [] ≡ ways_of out
      row_is = read_here ways_of outs i out [] inside there

      pub sent_whole : IsWhole sent_view
      sent_whole =
          let one = whole_row (traffic_in nodes outs) whole i (ways_of out2) (omega (arith, within, length-map nodes seen_of)) (len ∙ ap length (sym row_is)) in
          let two = whole_node (record { nodes = map seen_of nodes; ways = slice_set (map ways_of outs) i (ways_of out2) }) one i (seen_of state) (seen_of after) seen_here names in
          subst IsWhole (λ j. record { nodes = sym sent_nodes j; ways = sym sent_ways j }) two

      pub sent_there : (k : ℕ) → way_at sent_view i k ≡ way_at (traffic_in nodes outs) i k ++ packets_to sends k
      sent_there k = ap (λ (rows : List (List (List (Stamped Message)))). get_or (get_or rows i []) k []) sent_ways
          ∙ (ap (λ (row : List (List (Stamped Message))). get_or row k []) (get_or-set_same (map ways_of outs) i (ways_of out2) [] inside_ways)
          ∙ (sent k ∙ ap (λ (row : List (List (Stamped Message))). get_or row k [] ++ packets_to sends k) (sym row_is)))

      pub sent_others : (x : ℕ) → x ≢ i → (k : ℕ) → way_at sent_view x k ≡ way_at (traffic_in nodes outs) x k
      sent_others x n k = ap (λ (rows : List (List (List (Stamped Message)))). get_or (get_or rows x []) k []) sent_ways
          ∙ ap (λ (row : List (List (Stamped Message))). get_or row k []) (get_or-set_other (map ways_of outs) i x (ways_of out2) [] n)

-- the same behind room that was made
module _ {T : Type 0} {g : Ghosts T} (nodes : List (NodeState T g)) (outs outs1 : List Ways) (same : traffic_in nodes outs1 ≡ traffic_in nodes outs) where
  pub whole_as : IsWhole (traffic_in nodes outs) → IsWhole (traffic_in nodes outs1)
  whole_as whole = subst IsWhole (sym same) whole

  pub way_as : (x k : ℕ) → way_at (traffic_in nodes outs1) x k ≡ way_at (traffic_in nodes outs) x k
  way_as x k = ap (λ (v : Traffic). way_at v x k) same

-- a lock that a node is seen to leave free
pub none_is : (o : Option (Bor RefParts)) (b : Bool) → is_some o ≡ not b → (held : Option RefParts) → option_copied o ≡ held → b ≡ is_none held
none_is None true e held is = ap is_none is
none_is None false e held is = absurd (cc)
none_is (Some r) true e held is = absurd (cc)
none_is (Some r) false e held is = ap is_none is

pub none_held : (o : Option (Bor RefParts)) (b : Bool) → is_some o ≡ not b → (held : Option RefParts) → option_copied o ≡ held → (IsTrue b → held ≡ None) × (held ≡ None → IsTrue b)
none_held None true e held is = (λ t. sym is, λ n. refl)
none_held None false e held is = absurd (cc)
none_held (Some r) true e held is = absurd (cc)
none_held (Some r) false e held is = (λ t. absurd (cc), λ n. let never : Some r.now ≡ None = is ∙ n in absurd (cc))
