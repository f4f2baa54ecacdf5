-- Steps that are refused where nodes may be lost, and what comes of those that know of no loss.
use Rattle.std.proofs.Common.{◌≡◌, ℕ, ◌+◌, ◌-◌, ◌<◌, ◌≤◌, Bool, true, false, not, ◌&&◌, ◌||◌, cond}
use Rattle.std.proofs.Common.{max, nat_eq, nat_lt, map, length, get_or, List, [], ◌∷◌, ◌++◌, Some, None}
use Rattle.std.proofs.Common.{Result, Ok, Err, refl, sym, ap, ◌∙◌, inl, inr, ◌⊎◌, arith, subst}
use Rattle.std.specs.Prelude.{slice_get, OnErr}
use Rattle.std.specs.Option.{option_map_or}
use Rattle.std.proofs.lemmas.Bool.{lt-ltb}
use Rattle.std.proofs.lemmas.Option.{slice_get_cases}
use Rattle.pg_node_state.specs.PgMessageTypes.declared.message.Message.{Message}
use Rattle.pg_node_state.specs.PgStep.Machines.Places.{is_place, is_pair}
use Rattle.pg_node_state.specs.PgStep.Machines.Machine.{Event, Input, Turn, Take, Do, Taken, Own, node_of, first_from, happens}
use Rattle.pg_node_state.specs.PgStep.Machines.Clocked.{Timed, Stamped}
use Rattle.pg_node_state.specs.PgStep.Machines.Losing.{Noticed, LosingEvent, Step, losing_happens}
use Rattle.pg_node_state.proofs.PgStep.Machines.Options.{some_is}
use Rattle.pg_node_state.proofs.PgStep.Machines.Steps.{happened}
use Rattle.pg_node_state.specs.PgStep.Config.{Config, names_of, name_at, nodes_at, ports_at}
use Rattle.pg_node_state.specs.PgStep.Faults.{first_that_holds}
use Rattle.pg_node_state.specs.PgStep.FrameMachine.{frame_machine, losing_frame_machine, last_notice, sent_packet}
use Rattle.pg_node_state.specs.PgStep.LossLaws.{LosingFrameWorld, way_is_drained, clock_after}
use Rattle.pg_node_state.specs.PgStep.Nodes.{Node, Nodes}
use Rattle.pg_node_state.specs.PgStep.State.{State, live_nodes}
use Rattle.pg_node_state.specs.PgStep.Step.{Action, Issue, Retry, TimedTurn, node_takes, node_acts, step_take, step_act}
use Rattle.pg_node_state.specs.PgStep.StepLaws.{timed_placed, refusal_of, port_of, retries_none, is_full, is_no_message}
use Rattle.pg_node_state.specs.PgStep.Turns.{Report}
use Rattle.pg_node_state.proofs.PgStep.Refusals.{acts_in_order, same_step, takes_in_order}
use Rattle.pg_node_state.specs.PgStep.declared.refusal.Refusal.{Refusal}
use Rattle.pg_node_state.specs.PgStep.declared.refusal.Refusal.TheVariants.{NoSuchPlace, NodeLost, NotAMessage, NotLost}
use Rattle.pg_node_state.specs.PgStep.declared.refusal.Refusal.TheVariants.{NotDrained, NotWaiting, ClockFull}
use Rattle.pg_node_state.specs.PgNodeOpens.Places.{name_at as place_name}
use Rattle.pg_node_state.specs.declared.state.fault.NodeFault.{NodeFault}
use Rattle.pg_node_state.specs.declared.state.fault.NodeFault.TheVariants.{Refused, OutOfMemory}
use Rattle.pg_node_state.specs.declared.state.fault.NodeFault.TheVariants.{Message as BadMessage, TooLong, Damaged}
use Rattle.pg_world_packets.specs.declared.effect.Effect.{Effect}
use Rattle.pg_world_packets.specs.declared.step.FrameStep.{FrameStep}
use Rattle.pg_world_packets.specs.declared.step.FrameStep.TheVariants as steps
use Rattle.pg_world_packets.specs.declared.step.Stepped.{Stepped}
use Rattle.pg_world_packets.specs.declared.step.Stepped.TheVariants.{Happened, Moved, Nothing, Gone}
use Rattle.pg_world_packets.specs.Effects.{effect_in, losing_effect_in}
use Rattle.pg_world_packets.specs.Losing.{notices, losing_of, SeenAreLost, ShowsLosing, seen_at, is_cut_off}
use Rattle.pg_world_packets.specs.Losing.{is_barred, none_sent, first_refusal, take_refusal, own_refusal, can_stay}
use Rattle.pg_world_packets.specs.Losing.{Telling, CanBeMade, is_told_first, told_take, told_own, told_of, LosingLed, LosingComesTo}
use Rattle.pg_world_account.specs.Losses.{is_lost}
use Rattle.pg_world_config.specs.Seen.{Seen}
use Rattle.pg_world_packets.specs.Views.{View, peer_place}
use Rattle.pg_world_packets.specs.Worlds.{TimedFrameWorld, ShowsNodes, ShowsNode, ShowsWorld}
use Rattle.pg_world_packets.specs.Worlds.{has_port, has_places}
use Rattle.pg_world_packets.proofs.Coming.{CameOf, turn_told, told_of_first}
use Rattle.pg_world_packets.proofs.Lossy.{lifted, same_effect, lost_kept}
use Rattle.pg_world_packets.proofs.Peering.{lt_false, peer_name, named, there_and_back}
use Rattle.pg_world_packets.proofs.Turning.{pair_is}

both_if : (a b : Bool) → (b ≡ true → a ≡ true) → (a && b) ≡ b
both_if true b h = refl
both_if false true h = let e : false ≡ true = h refl in absurd (cc)
both_if false false h = refl

module _ (config : Config) (nodes : List Seen) (w : TimedFrameWorld) (lost : List ℕ) (shows : ShowsNodes config nodes w) where
  abbrev u : LosingFrameWorld
  u = losing_of config w lost

  pub pair_here : (i p : ℕ) → is_pair (length nodes) i p ≡ is_pair (length config) i p
  pair_here i p = ap (λ n. is_pair n i p) shows.size

  -- ---- what is read of a node

  seen_so : (i p : ℕ) → is_pair (length config) i p ≡ true → (node : Seen) → slice_get nodes i ≡ Some node → seen_at nodes i p ≡ (w.node i).state.lost (name_at config p)
  seen_so i p pair node at =
      ap (λ o. option_map_or (λ (n : Seen). n.state.state.lost (place_name n.names (peer_place i p + 1))) o false) at
      ∙ (λ j. (sym its.state j).state.lost (peer_is j))
    where
      its : ShowsNode config w i node
      its = shows.each i node at

      within : i < length config
      within = (pair_is (length config) i p pair).0

      peer_is : place_name node.names (peer_place i p + 1) ≡ name_at config p
      peer_is = ap (λ ns. place_name ns (peer_place i p + 1)) its.names ∙ (peer_name config i within (peer_place i p)
          ∙ (ap (place_name (names_of config)) (there_and_back i p (pair_is (length config) i p pair).2) ∙ sym (named config i within p)))

  pub seen_is : (i p : ℕ) → is_pair (length config) i p ≡ true → seen_at nodes i p ≡ (w.node i).state.lost (name_at config p)
  seen_is i p pair = go (slice_get_cases nodes i).1
    where
      go : ((x : Seen) × (i < length nodes) × (slice_get nodes i ≡ Some x) × (get_or nodes i x ≡ x)) ⊎ ((length nodes ≤ i) × (slice_get nodes i ≡ None)) → seen_at nodes i p ≡ (w.node i).state.lost (name_at config p)
      go (inl r) = seen_so i p pair r.0 r.2
      go (inr r) = let l = (pair_is (length config) i p pair).0 in absurd (omega (arith, l, r.0, shows.size))

  -- who has not seen it there has not seen it by what it keeps
  pub unseen_by : (i p : ℕ) (node : Seen) → is_pair (length config) i p ≡ true → slice_get nodes i ≡ Some node → (w.node i).state.lost (name_at config p) ≡ false
      → node.state.state.lost (place_name node.names (peer_place i p + 1)) ≡ false
  unseen_by i p node pair at unseen =
      sym (ap (λ o. option_map_or (λ (n : Seen). n.state.state.lost (place_name n.names (peer_place i p + 1))) o false) at) ∙ (seen_so i p pair node at ∙ unseen)

  pub port_is : (i port : ℕ) → has_port nodes i port ≡ (is_place (length config) i && nat_lt port (ports_at config i))
  port_is i port = go (slice_get_cases nodes i).1
    where
      go : ((x : Seen) × (i < length nodes) × (slice_get nodes i ≡ Some x) × (get_or nodes i x ≡ x)) ⊎ ((length nodes ≤ i) × (slice_get nodes i ≡ None))
          → has_port nodes i port ≡ (is_place (length config) i && nat_lt port (ports_at config i))
      go (inl r) = ap (λ o. option_map_or (λ (node : Seen). nat_lt port node.ports) o false) r.2 ∙ (ap (λ n. nat_lt port n) (shows.each i r.0 r.2).ports
          ∙ ap (λ b. b && nat_lt port (ports_at config i)) (sym (lt-ltb i (length config) (omega (arith, r.1, shows.size)))))
      go (inr r) = ap (λ o. option_map_or (λ (node : Seen). nat_lt port node.ports) o false) r.1
          ∙ ap (λ b. b && nat_lt port (ports_at config i)) (sym (lt_false i (length config) (omega (arith, r.0, shows.size))))

  -- ---- a place is not there

  own_unplaced : (i : ℕ) (action : Action) → has_port nodes i (port_of action) ≡ false → own_refusal config u i action ≡ Some NoSuchPlace
  own_unplaced i action none = ap (λ b. cond b (cond (u.gone i) (Some NodeLost) (refusal_of (step_act (nodes_at config i) (ports_at config i) action (w.node i)))) (Some NoSuchPlace))
      (sym (port_is i (port_of action)) ∙ none)

  pub unplaced_told : (step : FrameStep) → has_places nodes step ≡ false → (told_of config u step).refusal ≡ Some NoSuchPlace
  unplaced_told (steps.Take i p) none = ap (λ b. cond b (cond (u.gone i || (w.node i).state.lost (name_at config p)) (Some NodeLost) (first_refusal (nodes_at config i) (name_at config p) (w.node i) (u.world.wire p i))) (Some NoSuchPlace))
      (sym (pair_here i p) ∙ none)
  unplaced_told (steps.Command i port c) none = own_unplaced i (Issue port c) none
  unplaced_told (steps.Retry i op) none = own_unplaced i (Retry op) none
  unplaced_told (steps.SeeLoss i p) none = ap (λ b. first_that_holds (
      (not b, NoSuchPlace) ∷ (u.gone i || (w.node i).state.lost (name_at config p), NodeLost) ∷ (not (u.gone p), NotLost)
      ∷ (not (way_is_drained (u.world.wire p i)), NotDrained) ∷ (is_full (clock_after (w.node i).clock (u.world.wire p i)), ClockFull) ∷ []))
      (sym (pair_here i p) ∙ none)
  unplaced_told (steps.Lose i keep) none = ap (λ b. first_that_holds (
      (not (b && (nat_eq (length keep.items) (length config - 1) && can_stay config u i keep.items)), NoSuchPlace) ∷ (u.gone i, NodeLost) ∷ []))
      (ap (nat_lt i) (sym shows.size) ∙ none)

  -- ---- losses bar it

  module _ (seen : SeenAreLost config w lost) where
    pub cut_is : (i p : ℕ) → is_pair (length config) i p ≡ true → is_cut_off nodes lost i p ≡ (is_lost lost i || (w.node i).state.lost (name_at config p))
    cut_is i p pair = ap (λ b. is_lost lost i || (is_lost lost p && b)) (seen_is i p pair)
        ∙ ap (λ b. is_lost lost i || b) (both_if (is_lost lost p) ((w.node i).state.lost (name_at config p)) (seen i p pair))

    take_barred : (i p : ℕ) (pair cut : Bool) → is_pair (length config) i p ≡ pair → (is_lost lost i || (w.node i).state.lost (name_at config p)) ≡ cut
        → take_refusal config u i p ≡ cond pair (cond cut (Some NodeLost) (first_refusal (nodes_at config i) (name_at config p) (w.node i) (u.world.wire p i))) (Some NoSuchPlace)
    take_barred i p pair cut is bars = λ j. cond (is j) (cond (bars j) (Some NodeLost) (first_refusal (nodes_at config i) (name_at config p) (w.node i) (u.world.wire p i))) (Some NoSuchPlace)

    own_barred : (i : ℕ) (action : Action) (there gone : Bool) → (is_place (length config) i && nat_lt (port_of action) (ports_at config i)) ≡ there → is_lost lost i ≡ gone
        → own_refusal config u i action ≡ cond there (cond gone (Some NodeLost) (refusal_of (step_act (nodes_at config i) (ports_at config i) action (w.node i)))) (Some NoSuchPlace)
    own_barred i action there gone is bars = λ j. cond (is j) (cond (bars j) (Some NodeLost) (refusal_of (step_act (nodes_at config i) (ports_at config i) action (w.node i)))) (Some NoSuchPlace)

    pub barred_told : (step : FrameStep) → has_places nodes step ≡ true → is_barred nodes lost step ≡ true → (told_of config u step).refusal ≡ Some NodeLost
    barred_told (steps.Take i p) places bars = let pair : is_pair (length config) i p ≡ true = sym (pair_here i p) ∙ places in take_barred i p true true pair (sym (cut_is i p pair) ∙ bars)
    barred_told (steps.Command i port c) places bars = own_barred i (Issue port c) true true (sym (port_is i port) ∙ places) bars
    barred_told (steps.Retry i op) places bars = own_barred i (Retry op) true true (sym (port_is i op.port) ∙ places) bars
    barred_told (steps.SeeLoss i p) places bars =
        let pair : is_pair (length config) i p ≡ true = sym (pair_here i p) ∙ places in
        let cut : (is_lost lost i || (w.node i).state.lost (name_at config p)) ≡ true = sym (cut_is i p pair) ∙ bars in
        λ j. first_that_holds (
        (not (pair j), NoSuchPlace) ∷ (cut j, NodeLost) ∷ (not (u.gone p), NotLost)
        ∷ (not (way_is_drained (u.world.wire p i)), NotDrained) ∷ (is_full (clock_after (w.node i).clock (u.world.wire p i)), ClockFull) ∷ [])
    barred_told (steps.Lose i keep) places bars = absurd (cc)

-- ---- what comes of an event

first_told : (m : Nodes) (p : Node) (s : Timed State) (xs : List (Stamped Message)) (more : List (Stamped (Noticed Message))) (r : Refusal)
    → told_of_first m p s xs ≡ Some (Err r) → first_refusal m p s (map sent_packet xs ++ more) ≡ Some r
first_told m p s [] more r e = absurd (cc)
first_told m p s (x ∷ xs) more r e = let same : step_take m p x s ≡ Err r = some_is e in ap refusal_of same

-- what is told first refuses no packet of a peer whose loss was not seen
first_late : (m : Nodes) (p : Node) (s last : Timed State) (xs : List (Stamped Message)) (b : Bool) → s.state.lost p ≡ false
    → is_told_first (first_refusal m p s (map sent_packet xs ++ cond b (last_notice last ∷ []) [])) ≡ false
first_late m p s last [] true unseen = refl
first_late m p s last [] false unseen = refl
first_late m p s last (x ∷ xs) b unseen =
    ap is_told_first (takes_in_order m p x s) ∙ go (s.state.lost p) (is_full (max s.clock x.stamp + 1)) (is_no_message (live_nodes m s.state) p x.packet s.state) unseen
  where
    go : (lost full bad : Bool) → lost ≡ false → is_told_first (first_that_holds ((lost, NodeLost) ∷ (full, ClockFull) ∷ (bad, NotAMessage) ∷ [])) ≡ false
    go true full bad e = absurd (cc)
    go false true bad e = refl
    go false false true e = refl
    go false false false e = refl

-- what is told first refuses nothing at a port that is there
own_late : (m : Nodes) (ports : ℕ) (action : Action) (s : Timed State) → nat_lt (port_of action) ports ≡ true → is_told_first (refusal_of (step_act m ports action s)) ≡ false
own_late m ports action s there =
    ap is_told_first (acts_in_order m ports action s) ∙ go (nat_lt (port_of action) ports) (retries_none (live_nodes m s.state) action s.state) (is_full (s.clock + 1)) there
  where
    go : (port none full : Bool) → port ≡ true → is_told_first (first_that_holds ((not port, NoSuchPlace) ∷ (none, NotWaiting) ∷ (full, ClockFull) ∷ [])) ≡ false
    go false none full e = absurd (cc)
    go true true full e = refl
    go true false true e = refl
    go true false false e = refl

-- a turn that is made is not refused
made_unrefused : (config : Config) (r : Result TimedTurn Refusal) (turn : Turn (Timed State) (Stamped Message) Report) → timed_placed config r ≡ Some turn → refusal_of r ≡ None
made_unrefused config (Ok t) turn made = refl
made_unrefused config (Err refusal) turn made = absurd (cc)

pub taken_unrefused : (config : Config) (i p : ℕ) (s : Timed State) (xs : List (Stamped Message)) (more : List (Stamped (Noticed Message))) (input : Input (Stamped Message) Action)
    (turn : Turn (Timed State) (Stamped Message) Report) → first_from p xs ≡ Some input → (frame_machine config).step i s input ≡ Some turn
    → first_refusal (nodes_at config i) (name_at config p) s (map sent_packet xs ++ more) ≡ None
taken_unrefused config i p s [] more input turn given made = absurd (cc)
taken_unrefused config i p s (x ∷ xs) more input turn given made =
    let same : Taken p x ≡ input = some_is given in
    made_unrefused config (step_take (nodes_at config i) (name_at config p) x s) turn
    (sym (same_step config (max s.clock x.stamp + 1) (node_takes (nodes_at config i) (name_at config p) x.packet s.state)) ∙ (ap ((frame_machine config).step i s) same ∙ made))

pub own_unrefused : (config : Config) (i : ℕ) (action : Action) (s : Timed State) (input : Input (Stamped Message) Action) (turn : Turn (Timed State) (Stamped Message) Report)
    → Own action ≡ input → (frame_machine config).step i s input ≡ Some turn → refusal_of (step_act (nodes_at config i) (ports_at config i) action s) ≡ None
own_unrefused config i action s input turn same made =
    made_unrefused config (step_act (nodes_at config i) (ports_at config i) action s) turn
    (sym (same_step config (s.clock + 1) (node_acts (nodes_at config i) (ports_at config i) action s.state)) ∙ (ap ((frame_machine config).step i s) same ∙ made))

-- notices alone
only_notices : (m : Nodes) (p : Node) (s last : Timed State) (xs : List (Stamped Message)) (b : Bool) → told_of_first m p s xs ≡ None
    → (none_sent (map sent_packet xs ++ cond b (last_notice last ∷ []) []) ≡ true) × (first_refusal m p s (map sent_packet xs ++ cond b (last_notice last ∷ []) []) ≡ None)
only_notices m p s last [] true e = (refl, refl)
only_notices m p s last [] false e = (refl, refl)
only_notices m p s last (x ∷ xs) b e = absurd (cc)

-- a packet that is taken was on the way
pub taken_sent : (p : ℕ) (xs : List (Stamped Message)) (more : List (Stamped (Noticed Message))) (input : Input (Stamped Message) Action)
    → first_from p xs ≡ Some input → none_sent (map sent_packet xs ++ more) ≡ false
taken_sent p [] more input e = absurd (cc)
taken_sent p (x ∷ xs) more input e = refl

-- why an event is refused, and whether it takes a packet
module _ (config : Config) (nodes : List Seen) (w : TimedFrameWorld) (lost : List ℕ) (shows : ShowsNodes config nodes w) (seen : SeenAreLost config w lost) where
  pub either_stays : (a b : Bool) → (a || b) ≡ false → a ≡ false
  either_stays true b e = absurd (cc)
  either_stays false b e = refl

  pub either_unseen : (a b : Bool) → (a || b) ≡ false → b ≡ false
  either_unseen true b e = absurd (cc)
  either_unseen false b e = e

  module _ (i p : ℕ) (places : is_pair (length nodes) i p ≡ true) (lives : is_cut_off nodes lost i p ≡ false) where
    take_pair : is_pair (length config) i p ≡ true
    take_pair = sym (pair_here config nodes w lost shows i p) ∙ places

    pub take_cut : (is_lost lost i || (w.node i).state.lost (name_at config p)) ≡ false
    take_cut = sym (cut_is config nodes w lost shows seen i p take_pair) ∙ lives

    told_first : turn_told config w (Take i p) ≡ told_of_first (nodes_at config i) (name_at config p) (w.node i) (w.wire p i)
    told_first = ap (λ b. cond b (told_of_first (nodes_at config i) (name_at config p) (w.node i) (w.wire p i)) (Some (Err NoSuchPlace))) take_pair

    refusal_is : take_refusal config (losing_of config w lost) i p ≡ first_refusal (nodes_at config i) (name_at config p) (w.node i) (map sent_packet (w.wire p i) ++ notices config w lost p i)
    refusal_is = take_barred config nodes w lost shows seen i p true false take_pair take_cut

    pub take_refused_so : (r : Refusal) → turn_told config w (Take i p) ≡ Some (Err r) → take_refusal config (losing_of config w lost) i p ≡ Some r
    take_refused_so r e = refusal_is ∙ first_told (nodes_at config i) (name_at config p) (w.node i) (w.wire p i) (notices config w lost p i) r (sym told_first ∙ e)

    pub take_idle_so : turn_told config w (Take i p) ≡ None → (none_sent (map sent_packet (w.wire p i) ++ notices config w lost p i) ≡ true) × (take_refusal config (losing_of config w lost) i p ≡ None)
    take_idle_so e = let none = only_notices (nodes_at config i) (name_at config p) (w.node i) (w.node p) (w.wire p i) (is_pair (length config) p i && (is_lost lost p && not ((w.node i).state.lost (name_at config p)))) (sym told_first ∙ e) in
        (none.0, refusal_is ∙ none.1)

    pub take_can : (v : TimedFrameWorld) → happens (frame_machine config) w (Take i p) ≡ Some v → CanBeMade (told_take config (losing_of config w lost) i p)
    take_can v is_so =
        let h = happened (frame_machine config) w v (Take i p) is_so in
        record {
          allowed = refusal_is ∙ taken_unrefused config i p (w.node i) (w.wire p i) (notices config w lost p i) h.input h.turn h.given h.made;
          busy = taken_sent p (w.wire p i) (notices config w lost p i) h.input h.given;
        }

    pub take_late : is_told_first (take_refusal config (losing_of config w lost) i p) ≡ false
    take_late = ap is_told_first refusal_is
        ∙ first_late (nodes_at config i) (name_at config p) (w.node i) (w.node p) (w.wire p i) (is_pair (length config) p i && (is_lost lost p && not ((w.node i).state.lost (name_at config p))))
        (either_unseen (is_lost lost i) ((w.node i).state.lost (name_at config p)) take_cut)

  module _ (i : ℕ) (action : Action) (places : has_port nodes i (port_of action) ≡ true) (stays : is_lost lost i ≡ false) where
    there : (is_place (length config) i && nat_lt (port_of action) (ports_at config i)) ≡ true
    there = sym (port_is config nodes w lost shows i (port_of action)) ∙ places

    own_is : own_refusal config (losing_of config w lost) i action ≡ refusal_of (step_act (nodes_at config i) (ports_at config i) action (w.node i))
    own_is = own_barred config nodes w lost shows seen i action true false there stays

    pub own_can : (v : TimedFrameWorld) → happens (frame_machine config) w (Do i action) ≡ Some v → CanBeMade (told_own config (losing_of config w lost) i action)
    own_can v is_so =
        let h = happened (frame_machine config) w v (Do i action) is_so in
        record { allowed = own_is ∙ own_unrefused config i action (w.node i) h.input h.turn (some_is h.given) h.made; busy = refl }

    pub own_first : is_told_first (own_refusal config (losing_of config w lost) i action) ≡ false
    own_first = ap is_told_first own_is ∙ own_late (nodes_at config i) (ports_at config i) action (w.node i) (both_second (is_place (length config) i) (nat_lt (port_of action) (ports_at config i)) there)
      where
        both_second : (a b : Bool) → (a && b) ≡ true → b ≡ true
        both_second true b e = e
        both_second false b e = absurd (cc)

  pub own_refused_so : (i : ℕ) (action : Action) → has_port nodes i (port_of action) ≡ true → is_lost lost i ≡ false
      → (r : Refusal) → turn_told config w (Do i action) ≡ Some (Err r) → own_refusal config (losing_of config w lost) i action ≡ Some r
  own_refused_so i action places stays r e =
      let there : (is_place (length config) i && nat_lt (port_of action) (ports_at config i)) ≡ true = sym (port_is config nodes w lost shows i (port_of action)) ∙ places in
      let same : cond (is_place (length config) i) (step_act (nodes_at config i) (ports_at config i) action (w.node i)) (Err NoSuchPlace) ≡ Err r = some_is e in
      let told_as : step_act (nodes_at config i) (ports_at config i) action (w.node i) ≡ Err r =
      ap (λ b. cond b (step_act (nodes_at config i) (ports_at config i) action (w.node i)) (Err NoSuchPlace)) (sym (first_true (is_place (length config) i) _ there)) ∙ same in
      own_barred config nodes w lost shows seen i action true false there stays ∙ ap refusal_of told_as
    where
      first_true : (a b : Bool) → (a && b) ≡ true → a ≡ true
      first_true true b e = refl
      first_true false b e = absurd (cc)

module _ (config : Config) (old new : View) (lost lost2 : List ℕ) (w : TimedFrameWorld) (shows : ShowsWorld config old w) (seen : SeenAreLost config w lost) (same : lost2 ≡ lost) where
  -- nothing has changed
  pub still : new ≡ old → ShowsLosing config new lost2 (losing_of config w lost)
  still is = record {
    frames = w;
    shows = subst (λ (v : View). ShowsWorld config v w) (sym is) shows;
    seen = λ i p pair has. ap (λ (l : List ℕ). is_lost l p) same ∙ seen i p pair has;
    is = ap (losing_of config w) (sym same);
  }

  module _ (e : Event Action) (tells : Telling) (event : tells.event ≡ Step e) (loss : tells.is_loss ≡ false) (stays : is_lost lost (node_of e) ≡ false)
      (refused : (r : Refusal) → turn_told config w e ≡ Some (Err r) → tells.refusal ≡ Some r) (idle : turn_told config w e ≡ None → (tells.is_idle ≡ true) × (tells.refusal ≡ None))
      (can : (v : TimedFrameWorld) → happens (frame_machine config) w e ≡ Some v → CanBeMade tells) (late : is_told_first tells.refusal ≡ false) where
    led : (v : TimedFrameWorld) → happens (frame_machine config) w e ≡ Some v → ShowsWorld config new v → LosingLed config (losing_of config w lost) tells.event (ShowsLosing config new lost2)
    led v is shown =
        let h = happened (frame_machine config) w v e is in (
          losing_of config v lost,
          subst (λ (f : LosingEvent Action). losing_happens (losing_frame_machine config) last_notice (losing_of config w lost) f ≡ Some (losing_of config v lost)) (sym event)
              (lifted config lost w v e h stays),
          record {
            frames = v;
            shows = shown;
            seen = λ i p pair has. ap (λ (l : List ℕ). is_lost l p) same ∙ seen i p pair (ap (λ (f : Node → Bool). f (name_at config p)) (sym (lost_kept config lost w v e h i)) ∙ has);
            is = ap (losing_of config v) (sym same);
          },
        )

    did_so : (v : TimedFrameWorld) (effect : Effect) → happens (frame_machine config) w e ≡ Some v → effect_in (frame_machine config) w e ≡ Some effect
        → losing_effect_in config (losing_of config w lost) tells.event ≡ Some effect
    did_so v effect is did = ap (losing_effect_in config (losing_of config w lost)) event ∙ (same_effect config lost w v e (happened (frame_machine config) w v e is) stays ∙ did)

    pub comes : (result : Result Stepped NodeFault) → CameOf config w e result (ShowsWorld config new) → (result ≡ Ok Nothing → new ≡ old) → OnErr result (new ≡ old)
        → LosingComesTo config (losing_of config w lost) tells result (ShowsLosing config new lost2)
    comes (Ok (Happened effect)) (did, (v, is, shown)) nothing err = (loss, can v is, did_so v effect is did, led v is shown)
    comes (Ok Nothing) c nothing err = ((idle c).0, (idle c).1, still (nothing refl))
    comes (Ok (Moved count)) c nothing err = absurd c
    comes (Ok Gone) c nothing err = absurd c
    comes (Err OutOfMemory) c nothing err = (late, still err)
    comes (Err (Refused r)) c nothing err = (refused r c, still err)
    comes (Err (BadMessage m)) c nothing err = absurd c
    comes (Err TooLong) c nothing err = absurd c
    comes (Err Damaged) c nothing err = absurd c

  -- a packet is taken
  pub take_comes : (i p : ℕ) (result : Result Stepped NodeFault) → is_pair (length old.traffic.nodes) i p ≡ true → is_cut_off old.traffic.nodes lost i p ≡ false
      → CameOf config w (Take i p) result (ShowsWorld config new) → (result ≡ Ok Nothing → new ≡ old) → OnErr result (new ≡ old)
      → LosingComesTo config (losing_of config w lost) (told_take config (losing_of config w lost) i p) result (ShowsLosing config new lost2)
  take_comes i p result places lives came nothing err =
      let nodes = old.traffic.nodes in
      let its = shows.traffic.nodes in
      comes (Take i p) (told_take config (losing_of config w lost) i p) refl refl (either_stays config nodes w lost its seen (is_lost lost i) _ (take_cut config nodes w lost its seen i p places lives))
      (take_refused_so config nodes w lost its seen i p places lives) (take_idle_so config nodes w lost its seen i p places lives) (take_can config nodes w lost its seen i p places lives) (take_late config nodes w lost its seen i p places lives) result came nothing err

  -- something of its own
  pub own_comes : (i : ℕ) (action : Action) (result : Result Stepped NodeFault) → has_port old.traffic.nodes i (port_of action) ≡ true → is_lost lost i ≡ false
      → CameOf config w (Do i action) result (ShowsWorld config new) → (result ≡ Ok Nothing → new ≡ old) → OnErr result (new ≡ old)
      → LosingComesTo config (losing_of config w lost) (told_own config (losing_of config w lost) i action) result (ShowsLosing config new lost2)
  own_comes i action result places stays came nothing err =
      comes (Do i action) (told_own config (losing_of config w lost) i action) refl refl stays (own_refused_so config old.traffic.nodes w lost shows.traffic.nodes seen i action places stays)
      (λ e. absurd (cc)) (own_can config old.traffic.nodes w lost shows.traffic.nodes seen i action places stays) (own_first config old.traffic.nodes w lost shows.traffic.nodes seen i action places stays) result came nothing err

-- ---- the same of a world with losses that is shown

module _ (config : Config) (old new : View) (u : LosingFrameWorld) (lost lost2 : List ℕ) (shows : ShowsLosing config old lost u) (same : lost2 ≡ lost) (result : Result Stepped NodeFault)
    (nothing : result ≡ Ok Nothing → new ≡ old) (err : OnErr result (new ≡ old)) where
  pub take_in : (i p : ℕ) → is_pair (length old.traffic.nodes) i p ≡ true → is_cut_off old.traffic.nodes lost i p ≡ false
      → CameOf config shows.frames (Take i p) result (ShowsWorld config new) → LosingComesTo config u (told_take config u i p) result (ShowsLosing config new lost2)
  take_in i p places lives came = subst (λ (x : LosingFrameWorld). LosingComesTo config x (told_take config x i p) result (ShowsLosing config new lost2)) (sym shows.is)
      (take_comes config old new lost lost2 shows.frames shows.shows shows.seen same i p result places lives came nothing err)

  pub own_in : (i : ℕ) (action : Action) → has_port old.traffic.nodes i (port_of action) ≡ true → is_lost lost i ≡ false
      → CameOf config shows.frames (Do i action) result (ShowsWorld config new) → LosingComesTo config u (told_own config u i action) result (ShowsLosing config new lost2)
  own_in i action places stays came = subst (λ (x : LosingFrameWorld). LosingComesTo config x (told_own config x i action) result (ShowsLosing config new lost2)) (sym shows.is)
      (own_comes config old new lost lost2 shows.frames shows.shows shows.seen same i action result places stays came nothing err)

-- events that nothing refuses which is told first
module _ (config : Config) (view : View) (u : LosingFrameWorld) (lost : List ℕ) (shows : ShowsLosing config view lost u) where
  pub take_late_in : (i p : ℕ) → is_pair (length view.traffic.nodes) i p ≡ true → is_cut_off view.traffic.nodes lost i p ≡ false → is_told_first (take_refusal config u i p) ≡ false
  take_late_in i p places lives = subst (λ (x : LosingFrameWorld). is_told_first (take_refusal config x i p) ≡ false) (sym shows.is)
      (take_late config view.traffic.nodes shows.frames lost shows.shows.traffic.nodes shows.seen i p places lives)

  pub own_late_in : (i : ℕ) (action : Action) → has_port view.traffic.nodes i (port_of action) ≡ true → is_lost lost i ≡ false → is_told_first (own_refusal config u i action) ≡ false
  own_late_in i action places stays = subst (λ (x : LosingFrameWorld). is_told_first (own_refusal config x i action) ≡ false) (sym shows.is)
      (own_first config view.traffic.nodes shows.frames lost shows.shows.traffic.nodes shows.seen i action places stays)

-- a step that is refused as a place is not there, or as a loss bars it
module _ (config : Config) (view : View) (u : LosingFrameWorld) (lost : List ℕ) (shows : ShowsLosing config view lost u) (step : FrameStep) where
  pub unplaced_in : has_places view.traffic.nodes step ≡ false → (told_of config u step).refusal ≡ Some NoSuchPlace
  unplaced_in none = subst (λ (x : LosingFrameWorld). (told_of config x step).refusal ≡ Some NoSuchPlace) (sym shows.is) (unplaced_told config view.traffic.nodes shows.frames lost shows.shows.traffic.nodes step none)

  pub barred_in : has_places view.traffic.nodes step ≡ true → is_barred view.traffic.nodes lost step ≡ true → (told_of config u step).refusal ≡ Some NodeLost
  barred_in places bars = subst (λ (x : LosingFrameWorld). (told_of config x step).refusal ≡ Some NodeLost) (sym shows.is) (barred_told config view.traffic.nodes shows.frames lost shows.shows.traffic.nodes shows.seen step places bars)
