-- What is left where a node has seen the loss of a peer.
use Rattle.std.proofs.Common.{◌≡◌, ◌≢◌, ℕ, ◌+◌, ◌<◌, Bool, true, false, not, ◌&&◌, cond, max, nat_eq, nat_le, map, drop}
use Rattle.std.proofs.Common.{length, List, [], ◌∷◌, ◌++◌, Some, None, refl, sym, ap, ◌∙◌, inl, inr, ◌⊎◌, arith, subst}
use Rattle.std.specs.Prelude.{slice_get, slice_set, option_map}
use Rattle.std.specs.List.{IsDistinct}
use Rattle.std.proofs.Math.Path.{fun_ext}
use Rattle.std.proofs.lemmas.Bool.{cases_eq, lt-ltb}
use Rattle.std.proofs.lemmas.List.{append-nil, length-map}
use Rattle.pg_term.specs.Same.{same_atom}
use Rattle.pg_node_state.specs.PgGroup.Functions.{upd}
use Rattle.pg_node_state.specs.PgMessageTypes.declared.message.Message.{Message}
use Rattle.pg_node_state.specs.PgStep.Machines.Places.{is_place, is_pair}
use Rattle.pg_node_state.specs.PgStep.Machines.Machine.{Event, Turn, World, Take, Do, Taken, Own}
use Rattle.pg_node_state.specs.PgStep.Machines.Machine.{first_from, without_input, perform, happens}
use Rattle.pg_node_state.specs.PgStep.Machines.Happened.{Changes, Happened}
use Rattle.pg_node_state.specs.PgStep.Machines.Clocked.{Timed, Stamped, stamped, timed_turn, timed as timed_if}
use Rattle.pg_node_state.specs.PgStep.Machines.Losing.{Noticed, Sent, Step, losing_happens, mapped_turn}
use Rattle.pg_node_state.proofs.PgStep.Machines.Steps.{turn_changes, turn_made, happens_so}
use Rattle.pg_node_state.specs.PgStep.Config.{Config, names_of, name_at}
use Rattle.pg_node_state.specs.PgStep.FrameMachine.{losing_frame_machine, last_notice, sent_packet, place_turn}
use Rattle.pg_node_state.specs.PgStep.Losses.{see_loss}
use Rattle.pg_node_state.specs.PgStep.Nodes.{Node}
use Rattle.pg_node_state.specs.PgStep.State.{State}
use Rattle.pg_node_state.specs.PgStep.Step.{CLOCK_LIMIT, Action, Retry, TimedTurn, at_clock}
use Rattle.pg_node_state.specs.PgStep.StepLaws.{place_timed}
use Rattle.pg_node_state.specs.PgStep.Turns.{Report, NodeTurn}
use Rattle.pg_node_state.proofs.PgNodeOpens.Named.{atom_self, names_differ}
use Rattle.pg_node_state.specs.PgNodeSends.declared.done.Done.{Done}
use Rattle.pg_node_state.specs.PgNodeSends.declared.outgoing.Outgoing.{Ghosts as Listing}
use Rattle.pg_node_state.specs.States.{Happens}
use Rattle.pg_world_packets.specs.Effects.{sum_below, effect_of, losing_effect_in, no_effect}
use Rattle.pg_world_packets.specs.Losing.{SeenAreLost, notices, losing_of}
use Rattle.pg_world_account.specs.Losses.{is_lost}
use Rattle.pg_world_config.specs.Seen.{Seen}
use Rattle.pg_world_account.specs.Histories.{Account}
use Rattle.pg_world_packets.specs.Worlds.{TimedFrameWorld, ShowsNodes, ShowsUpdates}
use Rattle.pg_world_packets.proofs.Counted.{sum_none}
use Rattle.pg_world_packets.proofs.Lossy.{no_notice}
use Rattle.pg_world_packets.proofs.Peering.{named}
use Rattle.pg_world_packets.proofs.Recording.{Records, records_so, updates_after, grew_own, none_marked, none_of}
use Rattle.pg_world_packets.proofs.Turning.{Turned, pair_is, nodes_now}

-- the turn of a node that sees a loss
abbrev pub sight : Config → TimedFrameWorld → ℕ → ℕ → NodeTurn
sight config w i p = see_loss (name_at config p) (w.node i).state

-- the clock that it sets
abbrev pub sight_clock : TimedFrameWorld → ℕ → ℕ → ℕ
sight_clock w i p = max (w.node i).clock (w.node p).clock + 1

abbrev LossyWorld : Type 0
LossyWorld = World (Timed State) (Stamped (Noticed Message)) Report

module _ (config : Config) (w : TimedFrameWorld) (lost : List ℕ) (i p : ℕ) (pair : is_pair (length config) i p ≡ true) where
  apart : p ≢ i
  apart = (pair_is (length config) i p pair).2

  -- any action in the place of seeing a loss, as a turn does not tell them apart
  abbrev stand_in : Event Action
  stand_in = Do i (Retry (record { port = 0; number = 0 }))

  abbrev told_turn : TimedTurn
  told_turn = at_clock (sight_clock w i p) (sight config w i p)

  abbrev turn : Turn (Timed State) (Stamped Message) Report
  turn = place_timed config told_turn

  -- the world without losses where the node has made the turn
  abbrev pub sighted : TimedFrameWorld
  sighted = perform w i turn

  does : Changes stand_in turn w sighted
  does = turn_changes (length config) w stand_in (Own (Retry (record { port = 0; number = 0 }))) turn (lt-ltb i (length config) (pair_is (length config) i p pair).0) refl

  nothing_sent : (y : ℕ) → turn.sends y ≡ []
  nothing_sent y = go (is_place (length config) y)
    where
      go : (b : Bool) → ◌≡◌ {A = List (Stamped Message)} (cond b [] []) []
      go true = refl
      go false = refl

  pub same_wire : (x y : ℕ) → sighted.wire x y ≡ w.wire x y
  same_wire x y = go (cases_eq x i)
    where
      go : (x ≡ i) ⊎ (x ≢ i) → sighted.wire x y ≡ w.wire x y
      go (inl d) = subst (λ k. sighted.wire k y ≡ w.wire k y) (sym d) (does.sent y ∙ (ap (λ xs. w.wire i y ++ xs) (nothing_sent y) ∙ append-nil (w.wire i y)))
      go (inr n) = does.ways x y n (λ never. never)

  other_node : (x : ℕ) → x ≢ i → sighted.node x ≡ w.node x
  other_node x n = does.states x n

  -- ---- who is lost to whom

  lost_here : (sighted.node i).state.lost ≡ upd same_atom (w.node i).state.lost (name_at config p) true
  lost_here = ap (λ (s : Timed State). s.state.lost) does.state

  lost_now : (sighted.node i).state.lost (name_at config p) ≡ true
  unfolding upd
  lost_now = ap (λ (f : Node → Bool). f (name_at config p)) lost_here ∙ ap (λ b. cond b true ((w.node i).state.lost (name_at config p))) (atom_self (name_at config p))

  module _ (distinct : IsDistinct same_atom (names_of config)) where
    other_name : (x : ℕ) → x < length config → x ≢ p → same_atom (name_at config p) (name_at config x) ≡ false
    other_name x below n =
        let all = pair_is (length config) i p pair in
        let count = length-map config (λ start. start.name) in
        (λ j. same_atom (named config i all.0 p j) (named config i all.0 x j)) ∙ names_differ (names_of config) p x distinct (omega (arith, all.1, count)) (omega (arith, below, count)) (λ e. n (sym e))

    lost_else : (x : ℕ) → x < length config → x ≢ p → (sighted.node i).state.lost (name_at config x) ≡ (w.node i).state.lost (name_at config x)
    unfolding upd
    lost_else x below n = ap (λ (f : Node → Bool). f (name_at config x)) lost_here ∙ ap (λ b. cond b true ((w.node i).state.lost (name_at config x))) (other_name x below n)

    -- it is seen of nodes that are lost
    pub seen_then : SeenAreLost config w lost → is_lost lost p ≡ true → SeenAreLost config sighted lost
    seen_then seen gone x q pair_there has = go (cases_eq x i) (cases_eq q p)
      where
        go : (x ≡ i) ⊎ (x ≢ i) → (q ≡ p) ⊎ (q ≢ p) → is_lost lost q ≡ true
        go d (inl e) = subst (λ k. is_lost lost k ≡ true) (sym e) gone
        go (inl d) (inr n) = seen x q pair_there (subst (λ k. (w.node k).state.lost (name_at config q) ≡ true) (sym d)
            (sym (lost_else q (pair_is (length config) x q pair_there).1 n) ∙ subst (λ k. (sighted.node k).state.lost (name_at config q) ≡ true) d has))
        go (inr m) (inr n) = seen x q pair_there (ap (λ (s : Timed State). s.state.lost (name_at config q)) (sym (other_node x m)) ∙ has)

    -- ---- the notices

    notice_else : (x y : ℕ) → x ≢ i → ((p ≡ x) × (i ≡ y) → ⊥) → notices config sighted lost x y ≡ notices config w lost x y
    notice_else x y n other = go (is_pair (length config) x y) refl
      where
        -- what y has seen of x is as before
        same_lost : x < length config → (sighted.node y).state.lost (name_at config x) ≡ (w.node y).state.lost (name_at config x)
        same_lost below = pick (cases_eq y i)
          where
            pick : (y ≡ i) ⊎ (y ≢ i) → (sighted.node y).state.lost (name_at config x) ≡ (w.node y).state.lost (name_at config x)
            pick (inl d) = subst (λ k. (sighted.node k).state.lost (name_at config x) ≡ (w.node k).state.lost (name_at config x)) (sym d) (lost_else x below (λ e. other (sym e, sym d)))
            pick (inr m) = ap (λ (s : Timed State). s.state.lost (name_at config x)) (other_node y m)

        go : (b : Bool) → is_pair (length config) x y ≡ b → notices config sighted lost x y ≡ notices config w lost x y
        go true is = let same = same_lost (pair_is (length config) x y is).0 in
            λ j. cond (is_pair (length config) x y && (is_lost lost x && not (same j))) (last_notice (other_node x n j) ∷ []) []
        go false is = ap (λ b. cond (b && (is_lost lost x && not ((sighted.node y).state.lost (name_at config x)))) (last_notice (sighted.node x) ∷ []) []) is
            ∙ sym (ap (λ b. cond (b && (is_lost lost x && not ((w.node y).state.lost (name_at config x)))) (last_notice (w.node x) ∷ []) []) is)

    -- no notice is on the way to who has seen the loss
    notice_gone : notices config sighted lost p i ≡ []
    notice_gone = ap (λ b. cond (is_pair (length config) p i && (is_lost lost p && not b)) (last_notice (sighted.node p) ∷ []) []) lost_now ∙ none (is_pair (length config) p i) (is_lost lost p)
      where
        none : (a b : Bool) → ◌≡◌ {A = List (Stamped (Noticed Message))} (cond (a && (b && false)) (last_notice (sighted.node p) ∷ []) []) []
        none true true = refl
        none true false = refl
        none false b = refl

    -- ---- the event of the machine with losses

    module _ (turned : is_pair (length config) p i ≡ true) (stays : is_lost lost i ≡ false) (gone : is_lost lost p ≡ true) (unseen : (w.node i).state.lost (name_at config p) ≡ false)
        (drained : w.wire p i ≡ []) (fits : nat_le (sight_clock w i p) CLOCK_LIMIT ≡ true) where
      abbrev before : LossyWorld
      before = (losing_of config w lost).world

      abbrev after : LossyWorld
      after = (losing_of config sighted lost).world

      abbrev notice : Stamped (Noticed Message)
      notice = last_notice (w.node p)

      abbrev seeing : Turn (Timed State) (Stamped (Noticed Message)) Report
      seeing = timed_turn (sight_clock w i p) (mapped_turn Sent (place_turn config (sight config w i p)))

      pub notice_there : before.wire p i ≡ notice ∷ []
      notice_there = (λ j. map sent_packet (drained j) ++ cond (turned j && (gone j && not (unseen j))) (notice ∷ []) [])

      given : first_from {C = Action} p (before.wire p i) ≡ Some (Taken p notice)
      given = ap (first_from p) notice_there

      made : (losing_frame_machine config).step i (w.node i) (Taken p notice) ≡ Some seeing
      made = (λ j. timed_if CLOCK_LIMIT (sight_clock w i p) (option_map (mapped_turn {Q = Noticed Message} Sent) (cond (unseen j) None (Some (place_turn config (sight config w i p))))))
          ∙ ap (λ b. cond b (Some seeing) None) fits

      none_sent_out : (y : ℕ) → seeing.sends y ≡ []
      none_sent_out y = go (is_place (length config) y)
        where
          go : (b : Bool) → ◌≡◌ {A = List (Stamped (Noticed Message))} (stamped (sight_clock w i p) (map {A = Message} {B = Noticed Message} Sent (cond b [] []))) []
          go true = refl
          go false = refl

      abbrev left : LossyWorld
      left = perform (without_input {C = Action} before (Take i p)) i seeing

      leaves : Changes {C = Action} (Take i p) seeing before left
      leaves = turn_changes (length config) before (Take i p) (Taken p notice) seeing pair given

      own_wire : (y : ℕ) → left.wire i y ≡ after.wire i y
      own_wire y =
          leaves.sent y
          ∙ (ap (λ (ns : List (Stamped (Noticed Message))). (map sent_packet (w.wire i y) ++ notices config w lost i y) ++ ns) (none_sent_out y)
          ∙ (append-nil (map sent_packet (w.wire i y) ++ notices config w lost i y)
          ∙ (λ j. map sent_packet (sym (same_wire i y) j) ++ (no_notice config w lost i y stays ∙ sym (no_notice config sighted lost i y stays)) j)))

      gone_wire : left.wire p i ≡ after.wire p i
      gone_wire =
          let taken = leaves.taken p i (refl, refl) in
          sym (ap (drop 1) taken.1) ∙ (ap (drop 1) notice_there
          ∙ sym (λ j. map sent_packet ((same_wire p i ∙ drained) j) ++ notice_gone j))

      wire_is : (x y : ℕ) → left.wire x y ≡ after.wire x y
      wire_is x y = go (cases_eq x i) (cases_eq p x) (cases_eq i y)
        where
          else : x ≢ i → ((p ≡ x) × (i ≡ y) → ⊥) → left.wire x y ≡ after.wire x y
          else n other = leaves.ways x y n other ∙ (λ j. map sent_packet (sym (same_wire x y) j) ++ sym (notice_else x y n other) j)

          go : (x ≡ i) ⊎ (x ≢ i) → (p ≡ x) ⊎ (p ≢ x) → (i ≡ y) ⊎ (i ≢ y) → left.wire x y ≡ after.wire x y
          go (inl d) a b = subst (λ k. left.wire k y ≡ after.wire k y) (sym d) (own_wire y)
          go (inr n) (inl a) (inl b) = subst (λ k. left.wire k y ≡ after.wire k y) a (subst (λ k. left.wire p k ≡ after.wire p k) b gone_wire)
          go (inr n) (inr m) b = else n (λ both. m both.0)
          go (inr n) (inl a) (inr m) = else n (λ both. m both.1)

      node_is : (x : ℕ) → left.node x ≡ after.node x
      node_is x = go (cases_eq x i)
        where
          go : (x ≡ i) ⊎ (x ≢ i) → left.node x ≡ after.node x
          go (inl d) = subst (λ k. left.node k ≡ after.node k) (sym d) (leaves.state ∙ sym does.state)
          go (inr n) = leaves.states x n ∙ sym (does.states x n)

      left_is : left ≡ after
      left_is = λ j. record {
        node = (fun_ext node_is) j;
        wire = (fun_ext (λ x. fun_ext (wire_is x))) j;
        reported = (leaves.reported ∙ sym does.reported) j;
      }

      sees : Happened {C = Action} (losing_frame_machine config) before (Take i p) after
      sees = record { there = pair; input = Taken p notice; given = given; turn = seeing; made = made; leaves = left_is }

      -- nothing is sent or reported
      pub sight_effect : losing_effect_in config (losing_of config w lost) (Step (Take i p)) ≡ Some no_effect
      unfolding sees
      sight_effect = ap (option_map (effect_of (length config))) (turn_made (losing_frame_machine config) before after (Take i p) sees)
          ∙ ap Some (λ j. record { sent = none_counted j; began = None; odd = None })
        where
          none_counted : sum_below (length config) (λ y. length (seeing.sends y)) ≡ 0
          none_counted = sum_none (length config) (λ y. length (seeing.sends y)) (λ y. ap length (none_sent_out y))

      pub sight_happens : losing_happens (losing_frame_machine config) last_notice (losing_of config w lost) (Step (Take i p)) ≡ Some (losing_of config sighted lost)
      unfolding losing_happens
      sight_happens =
          ap (λ b. cond b None (option_map (λ (u : LossyWorld). record { world = u; gone = is_lost lost }) (happens (losing_frame_machine config) before (Take i p)))) stays
          ∙ ap (option_map (λ (u : LossyWorld). record { world = u; gone = is_lost lost }))
          (happens_so (losing_frame_machine config) before after (Take i p) sees)

  -- ---- what is shown

  module _ {S : Type 0} {listing : Listing S} (nodes nodes2 : List Seen) (old new : Account) (node after : Seen) (done : Done S listing) (shows : ShowsNodes config nodes w) (updates : ShowsUpdates old w)
      (here : slice_get nodes i ≡ Some node) (set : nodes2 ≡ slice_set nodes i after) (names : after.names ≡ node.names) (ports : after.ports ≡ node.ports)
      (happened : Happens node.names told_turn done after.state node.answers after.answers) (account : new ≡ old) where
    turned_so : Turned nodes nodes2 i node after told_turn done
    turned_so = record { here = here; set = set; names = names; ports = ports; happened = happened }

    records : Records w sighted i None None
    records = records_so w sighted i None told_turn.reported None refl refl (inl (refl, refl))

    pub nodes_sighted : ShowsNodes config nodes2 sighted
    nodes_sighted = nodes_now config nodes nodes2 w stand_in node after told_turn done shows turned_so sighted does (λ x y none. same_wire x y ∙ shows.nowhere x y none)

    pub updates_sighted : ShowsUpdates new sighted
    updates_sighted = updates_after old new w sighted i None None updates
        (grew_own old new i None None refl
        (λ name. ap (λ (a : Account). a.histories name) account ∙ sym (append-nil (old.histories name)))
        (λ j name. let none = none_of i j name in let same : new.applied j name ≡ old.applied j name = ap (λ (a : Account). a.applied j name) account in omega (arith, none, same))
        (λ j name. ap (λ (a : Account). a.marked j name) account ∙ sym (none_marked (nat_eq i j) [] (old.marked j name))))
        records
