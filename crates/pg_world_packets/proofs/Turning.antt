-- What a world shows of its nodes once one of them has made a turn, and what it leaves on the way.
use Rattle.std.proofs.Common.{◌≡◌, ◌≢◌, ℕ, zero, suc, ◌+◌, ◌<◌, Bool, true, false, not, ◌&&◌, cond}
use Rattle.std.proofs.Common.{nat_eq, nat_lt, get_or, length, List, [], ◌∷◌, ◌++◌, Option, Some}
use Rattle.std.proofs.Common.{None, Result, Ok, Err, refl, sym, ap, ◌∙◌, inl, inr, ◌⊎◌, arith, subst}
use Rattle.std.specs.Prelude.{slice_get, slice_set, max, option_map}
use Rattle.std.proofs.lemmas.Bool.{cases_eq, eq-eqb, ne_eqb, lt-ltb, ltb-true}
use Rattle.std.proofs.lemmas.Option.{slice_get_within}
use Rattle.std.proofs.lemmas.List.{length-set}
use Rattle.pg_node_state.specs.PgMessageTypes.declared.message.Message.{Message}
use Rattle.pg_node_state.specs.PgStep.Machines.Places.{is_place, is_pair}
use Rattle.pg_node_state.specs.PgStep.Machines.Machine.{Event, Turn, Take, Do, Taken, Own, node_of}
use Rattle.pg_node_state.specs.PgStep.Machines.Machine.{first_from, input_of, without_input, perform}
use Rattle.pg_node_state.specs.PgStep.Machines.Happened.{Changes, Takes, Happened as HasTurned}
use Rattle.pg_node_state.specs.PgGroup.declared.update.Update.{Update}
use Rattle.pg_node_state.specs.PgMessageTypes.declared.packet.Packet.{Packet}
use Rattle.pg_node_state.specs.PgStep.declared.command.OpId.{OpId}
use Rattle.pg_node_state.specs.PgStep.Machines.Clocked.{Timed, Stamped}
use Rattle.pg_node_state.proofs.PgStep.Machines.Steps.{turn_changes, turn_made, happens_so}
use Rattle.pg_node_state.specs.PgStep.Config.{Config, names_of, name_at, nodes_at, ports_at}
use Rattle.pg_node_state.specs.PgStep.FrameMachine.{frame_machine}
use Rattle.pg_node_state.specs.PgStep.Nodes.{Node, all_of}
use Rattle.pg_node_state.specs.PgStep.State.{State}
use Rattle.pg_node_state.specs.PgStep.Step.{Action, TimedTurn, node_takes, node_acts, step_take, step_act}
use Rattle.pg_node_state.proofs.PgStep.Refusals.{same_step}
use Rattle.pg_node_state.specs.PgStep.StepLaws.{place_timed, timed_placed}
use Rattle.pg_node_state.specs.PgStep.Turns.{Report}
use Rattle.pg_node_state.specs.PgStep.declared.answer.Answer.{Answer}
use Rattle.pg_node_state.specs.PgStep.declared.refusal.Refusal.{Refusal}
use Rattle.pg_node_state.specs.PgStep.declared.refusal.Refusal.TheVariants.{NoSuchPlace}
use Rattle.pg_laws_losses.specs.PgLaws.History.{answers_by}
use Rattle.pg_node_state.specs.PgNodeOpens.Places.{whole_in, name_at as place_name}
use Rattle.pg_node_state.specs.PgNodeSends.declared.done.Done.{Done}
use Rattle.pg_node_state.specs.PgNodeSends.declared.outgoing.Outgoing.{Ghosts as Listing}
use Rattle.pg_node_state.specs.declared.state.fault.NodeFault.{NodeFault}
use Rattle.pg_node_state.specs.declared.state.fault.NodeFault.TheVariants.{Refused, OutOfMemory}
use Rattle.pg_node_state.specs.declared.state.fault.NodeFault.TheVariants.{Message as BadMessage, TooLong, Damaged}
use Rattle.pg_world_packets.specs.declared.step.Stepped.TheVariants.{Happened as HasHappened}
use Rattle.pg_node_state.specs.States.{Gave, Happens, Comes}
use Rattle.pg_node_state.specs.PgNodeSends.Sent.{sends_in}
use Rattle.pg_node_state.specs.PgNodeSends.Sendable.{AreSendable}
use Rattle.pg_world_config.specs.Seen.{Seen}
use Rattle.pg_world_packets.specs.Effects.{sum_below, op_of, effect_of, effect_by}
use Rattle.pg_world_packets.specs.Views.{Traffic, peer_place, packets_to}
use Rattle.pg_world_packets.specs.Worlds.{AreAnswers, ShowsNodes, ShowsNode}
use Rattle.pg_world_packets.specs.Worlds.{TimedFrameWorld}
use Rattle.pg_world_packets.proofs.Coming.{turn_told, told_of_first, CameOf}
use Rattle.pg_world_packets.proofs.Counted.{sum_same, count_to, count_all}
use Rattle.pg_world_packets.proofs.Peering.{peer_name, named, known, there_and_back, sent_to, sent_home}
use Rattle.pg_world_account.specs.Histories.{update_asked_by}
use Rattle.pg_world_packets.proofs.Applying.{take_applies, act_applies}
use Rattle.pg_world_packets.proofs.Recording.{Records, records_so}
use Rattle.pg_world_packets.proofs.Answering.{answers_own, answers_other, answers_given}

-- what stands at a place of a list where one place is another
pub set_here : {A : Type 0} (xs : List A) (i : ℕ) (x y : A) → slice_get (slice_set xs i x) i ≡ Some y → x ≡ y
set_here [] i x y e = absurd (cc)
set_here (z ∷ zs) zero x y e = cc
set_here (z ∷ zs) (suc i) x y e = set_here zs i x y e

pub set_other : {A : Type 0} (xs : List A) (i j : ℕ) (x : A) → j ≢ i → slice_get (slice_set xs i x) j ≡ slice_get xs j
set_other [] i j x n = refl
set_other (z ∷ zs) zero zero x n = absurd (n refl)
set_other (z ∷ zs) zero (suc j) x n = refl
set_other (z ∷ zs) (suc i) zero x n = refl
set_other (z ∷ zs) (suc i) (suc j) x n = set_other zs i j x (λ e. n (ap suc e))

-- the packets on the way from a node to the peer at a place
abbrev pub way_at : Traffic → ℕ → ℕ → List (Stamped Message)
way_at traffic x k = get_or (get_or traffic.ways x []) k []

pub pair_is : (size x y : ℕ) → is_pair size x y ≡ true → (x < size) × (y < size) × (y ≢ x)
pair_is size x y e = go (nat_lt x size) (nat_lt y size) (nat_eq x y) (ltb-true x size) (ltb-true y size) (eq-eqb x y) e
  where
    go : (a b c : Bool) → (a ≡ true → x < size) → (b ≡ true → y < size) → (x ≡ y → c ≡ true) → (a && (b && not c)) ≡ true → (x < size) × (y < size) × (y ≢ x)
    go true true true f g h e = absurd (cc)
    go true true false f g h e = (f refl, g refl, λ d. let k : false ≡ true = h (sym d) in absurd (cc))
    go true false c f g h e = absurd (cc)
    go false b c f g h e = absurd (cc)

pub is_pair_so : (size x y : ℕ) → x < size → y < size → y ≢ x → is_pair size x y ≡ true
is_pair_so size x y a b n = (λ j. lt-ltb x size a j && (lt-ltb y size b j && not (ne_eqb x y (λ e. n (sym e)) j)))

pub no_pair : (size x : ℕ) → is_pair size x x ≡ false
no_pair size x = ap (λ b. nat_lt x size && (nat_lt x size && not b)) (eq-eqb x x refl) ∙ go (nat_lt x size)
  where
    go : (b : Bool) → (b && (b && false)) ≡ false
    go true = refl
    go false = refl

pub pair_turned : (size x y : ℕ) → is_pair size x y ≡ true → is_pair size y x ≡ true
pair_turned size x y e = let p = pair_is size x y e in is_pair_so size y x p.1 p.0 (λ d. p.2 (sym d))

-- What an event of node i has left of the nodes: the node is another, which has made this turn, and what it did can be sent.
pub record Turned {S : Type 0} {listing : Listing S} (nodes nodes2 : List Seen) (i : ℕ) (node after : Seen) (t : TimedTurn) (done : Done S listing) : Type 0 where
  pub here : slice_get nodes i ≡ Some node
  pub set : nodes2 ≡ slice_set nodes i after
  pub names : after.names ≡ node.names
  pub ports : after.ports ≡ node.ports
  pub happened : Happens node.names t done after.state node.answers after.answers

-- What an event has left of what was on the way: what its node sent stands behind what was on the way from there, the packet
-- that it took is gone, and all else is as it was.
pub record Passes (config : Config) (e : Event Action) (sends : List (ℕ × Packet)) (w v : TimedFrameWorld) : Type 0 where
  pub own : (y : ℕ) → is_pair (length config) (node_of e) y ≡ true → v.wire (node_of e) y ≡ w.wire (node_of e) y ++ packets_to sends (peer_place (node_of e) y)
  pub taken : (x y : ℕ) → Takes e x y → (packet : Stamped Message) × (w.wire x y ≡ packet ∷ v.wire x y)
  pub others : (x y : ℕ) → x ≢ node_of e → (Takes e x y → ⊥) → v.wire x y ≡ w.wire x y

-- What an event of the world w has left, by which an update that was asked for was applied or another began.
pub record Left (config : Config) (nodes2 : List Seen) (e : Event Action) (sends : List (ℕ × Packet)) (asked : Option Update) (began : Option (OpId × Update)) (w v : TimedFrameWorld) : Type 0 where
  pub nodes : ShowsNodes config nodes2 v
  pub ways : Passes config e sends w v
  pub records : Records w v (node_of e) asked began

module _ {S : Type 0} {listing : Listing S} (config : Config) (nodes nodes2 : List Seen) (w : TimedFrameWorld) (e : Event Action) (node after : Seen) (t : TimedTurn) (done : Done S listing)
    (shows : ShowsNodes config nodes w) (turned : Turned nodes nodes2 (node_of e) node after t done) where
  shown : ShowsNode config w (node_of e) node
  shown = shows.each (node_of e) node turned.here

  within : node_of e < length config
  within = let l = slice_get_within nodes (node_of e) node turned.here in omega (arith, l, shows.size)

  abbrev turn : Turn (Timed State) (Stamped Message) Report
  turn = place_timed config t

  -- the node that made the turn, and the others
  module _ (v : TimedFrameWorld) (changes : Changes e turn w v) where
    own_answers : (port : ℕ) → AreAnswers (name_at config (node_of e)) (answers_by (node_of e) (w.reported ++ (node_of e, t.reported) ∷ []) port) (after.answers port)
    own_answers port = subst (λ zs. AreAnswers (name_at config (node_of e)) zs (after.answers port)) (sym (answers_own (node_of e) port w.reported t.reported))
        (answers_given (name_at config (node_of e)) t.reported.gave node.answers after.answers (answers_by (node_of e) w.reported)
        (subst (λ ns. Gave (place_name ns 0) t.reported.gave node.answers after.answers) shown.names turned.happened.answers) shown.answers port)

    own_shown : ShowsNode config v (node_of e) after
    own_shown = record {
      names = turned.names ∙ shown.names;
      ports = turned.ports ∙ shown.ports;
      state = changes.state ∙ sym turned.happened.state;
      answers = λ port. subst (λ (zs : List (ℕ × Report)). AreAnswers (name_at config (node_of e)) (answers_by (node_of e) zs port) (after.answers port)) (sym changes.reported) (own_answers port);
    }

    other_shown : (j : ℕ) (other : Seen) → j ≢ node_of e → ShowsNode config w j other → ShowsNode config v j other
    other_shown j other n h = record {
      names = h.names;
      ports = h.ports;
      state = changes.states j n ∙ h.state;
      answers = λ port. subst (λ (zs : List (ℕ × Report)). AreAnswers (name_at config j) (answers_by j zs port) (other.answers port)) (sym changes.reported)
          (subst (λ zs. AreAnswers (name_at config j) zs (other.answers port)) (sym (answers_other j (node_of e) port w.reported t.reported n)) (h.answers port));
    }

    nodes_shown : (j : ℕ) (other : Seen) → slice_get nodes2 j ≡ Some other → ShowsNode config v j other
    nodes_shown j other at = go (cases_eq j (node_of e))
      where
        there : slice_get (slice_set nodes (node_of e) after) j ≡ Some other
        there = ap (λ ns. slice_get ns j) (sym turned.set) ∙ at

        go : (j ≡ node_of e) ⊎ (j ≢ node_of e) → ShowsNode config v j other
        go (inl d) = subst (λ k. ShowsNode config v k other) (sym d) (subst (ShowsNode config v (node_of e))
            (set_here nodes (node_of e) after other (subst (λ k. slice_get (slice_set nodes (node_of e) after) k ≡ Some other) d there)) own_shown)
        go (inr n) = other_shown j other n (shows.each j other (sym (set_other nodes (node_of e) j after n) ∙ there))

    pub nodes_now : ((x y : ℕ) → is_pair (length config) x y ≡ false → v.wire x y ≡ []) → ShowsNodes config nodes2 v
    nodes_now nowhere = record {
      apart = shows.apart;
      size = ap length turned.set ∙ (length-set nodes (node_of e) after ∙ shows.size);
      each = nodes_shown;
      nowhere = nowhere;
    }

  module _ (can : AreSendable node.names (listing.listed done.sends)) where
    -- what the turn sends is what was put on the ways
    sends_are : sends_in (all_of (nodes_at config (node_of e))) (listing.listed done.sends) ≡ t.sends
    sends_are = subst (λ ns. sends_in ns (listing.listed done.sends) ≡ t.sends) shown.names turned.happened.told.sends

    fits : AreSendable (all_of (nodes_at config (node_of e))) (listing.listed done.sends)
    fits = subst (λ ns. AreSendable ns (listing.listed done.sends)) shown.names can

    sends_there : (y : ℕ) → y < length config → y ≢ node_of e → turn.sends y ≡ packets_to (listing.listed done.sends) (peer_place (node_of e) y)
    sends_there y l n = ap (λ b. cond b (t.sends (name_at config y)) []) (lt-ltb y (length config) l)
        ∙ (ap (λ (f : Node → List (Stamped Message)). f (name_at config y)) (sym sends_are)
        ∙ sent_to config (node_of e) within shows.apart (listing.listed done.sends) y fits.each l n)

    sends_nowhere : (y : ℕ) → is_pair (length config) (node_of e) y ≡ false → turn.sends y ≡ []
    sends_nowhere y none = go (nat_lt y (length config)) (ltb-true y (length config)) (cases_eq y (node_of e))
      where
        go : (b : Bool) → (b ≡ true → y < length config) → (y ≡ node_of e) ⊎ (y ≢ node_of e) → cond b (t.sends (name_at config y)) [] ≡ []
        go false h d = refl
        go true h (inl d) = ap (λ z. t.sends (name_at config z)) d ∙ (ap (λ (f : Node → List (Stamped Message)). f (name_at config (node_of e))) (sym sends_are)
            ∙ sent_home config (node_of e) within shows.apart (listing.listed done.sends) fits.each)
        go true h (inr n) = let both : true ≡ false = sym (is_pair_so (length config) (node_of e) y within (h refl) n) ∙ none in absurd (cc)

    -- it did what is told in short
    counted_at : (y : ℕ) → y < length config → length (turn.sends y) ≡ count_to (node_of e) (listing.listed done.sends) y
    counted_at y l = go (cases_eq y (node_of e))
      where
        nothing_here : turn.sends (node_of e) ≡ []
        nothing_here = sends_nowhere (node_of e) (no_pair (length config) (node_of e))

        go : (y ≡ node_of e) ⊎ (y ≢ node_of e) → length (turn.sends y) ≡ count_to (node_of e) (listing.listed done.sends) y
        go (inl d) = ap (λ k. length (turn.sends k)) d ∙ (ap length nothing_here ∙ sym (ap (λ b. cond b 0 (length (packets_to (listing.listed done.sends) (peer_place (node_of e) y)))) (eq-eqb y (node_of e) d)))
        go (inr n) = ap length (sends_there y l n) ∙ sym (ap (λ b. cond b 0 (length (packets_to (listing.listed done.sends) (peer_place (node_of e) y)))) (ne_eqb y (node_of e) n))

    counted : sum_below (length config) (λ y. length (turn.sends y)) ≡ length (listing.listed done.sends)
    counted = sum_same (length config) (λ y. length (turn.sends y)) (count_to (node_of e) (listing.listed done.sends)) counted_at
        ∙ count_all (node_of e) (length config) within (all_of (nodes_at config (node_of e))) (known config (node_of e) within) (listing.listed done.sends) fits.each

    pub did : effect_of (length config) turn ≡ effect_by done
    did = λ j. record { sent = counted j; began = op_of (sym turned.happened.told.began j); odd = sym turned.happened.told.odd j }

    module _ (v : TimedFrameWorld) (changes : Changes e turn w v) where
      -- what is on the way from the node
      own_way : (y : ℕ) → is_pair (length config) (node_of e) y ≡ true → v.wire (node_of e) y ≡ w.wire (node_of e) y ++ packets_to (listing.listed done.sends) (peer_place (node_of e) y)
      own_way y pair = let p = pair_is (length config) (node_of e) y pair in
          changes.sent y ∙ ap (λ xs. w.wire (node_of e) y ++ xs) (sends_there y p.1 p.2)

      own_nowhere : (y : ℕ) → is_pair (length config) (node_of e) y ≡ false → v.wire (node_of e) y ≡ []
      own_nowhere y none = changes.sent y ∙ (λ j. shows.nowhere (node_of e) y none j ++ sends_nowhere y none j)

      pub ways_after : Passes config e (listing.listed done.sends) w v
      ways_after = record { own = own_way; taken = changes.taken; others = changes.ways }

      pub shown_after : ((x y : ℕ) → is_pair (length config) x y ≡ false → Takes e x y → ⊥) → ShowsNodes config nodes2 v
      shown_after untaken = nodes_now v changes (λ x y none. none_cases x y none (cases_eq x (node_of e)))
        where
          none_cases : (x y : ℕ) → is_pair (length config) x y ≡ false → (x ≡ node_of e) ⊎ (x ≢ node_of e) → v.wire x y ≡ []
          none_cases x y none (inl d) = subst (λ k. v.wire k y ≡ []) (sym d) (own_nowhere y (subst (λ k. is_pair (length config) k y ≡ false) d none))
          none_cases x y none (inr n) = changes.ways x y n (untaken x y none) ∙ shows.nowhere x y none

-- ---- something of its own

module _ (config : Config) (nodes : List Seen) (w : TimedFrameWorld) (i : ℕ) (action : Action) (node : Seen) (shows : ShowsNodes config nodes w) (here : slice_get nodes i ≡ Some node) where
  its : ShowsNode config w i node
  its = shows.each i node here

  its_place : is_place (length config) i ≡ true
  its_place = let l = slice_get_within nodes i node here in lt-ltb i (length config) (omega (arith, l, shows.size))

  -- what the node tells is what the configuration's tells
  own_told : step_act (whole_in node.names) node.ports action node.state ≡ step_act (nodes_at config i) (ports_at config i) action (w.node i)
  own_told = λ j. step_act (whole_in (its.names j)) (its.ports j) action (sym its.state j)

  own_is : turn_told config w (Do i action) ≡ Some (step_act (whole_in node.names) node.ports action node.state)
  own_is = ap (λ b. Some (cond b (step_act (nodes_at config i) (ports_at config i) action (w.node i)) (Err NoSuchPlace))) its_place ∙ ap Some (sym own_told)

  -- it is refused
  pub own_refused : {S : Type 0} (listing : Listing S) (fault : NodeFault) (s : Timed State) (before after : ℕ → List Answer) (Shown : TimedFrameWorld → Type 0)
      → Comes {S = S} {h = listing} node.names (step_act (whole_in node.names) node.ports action node.state) (Err fault) s before after → CameOf config w (Do i action) (Err fault) Shown
  own_refused {S} listing fault s before after Shown comes = go (step_act (whole_in node.names) node.ports action node.state) fault own_is comes
    where
      go : (r : Result TimedTurn Refusal) (fault : NodeFault) → turn_told config w (Do i action) ≡ Some r → Comes {S = S} {h = listing} node.names r (Err fault) s before after → CameOf config w (Do i action) (Err fault) Shown
      go (Ok t) OutOfMemory is h = tt
      go (Ok t) (Refused refusal) is h = absurd h
      go (Ok t) (BadMessage fault) is h = absurd h
      go (Ok t) TooLong is h = absurd h
      go (Ok t) Damaged is h = absurd h
      go (Err refusal) OutOfMemory is h = absurd (cc)
      go (Err refusal) (Refused other) is h = let same : refusal ≡ other = cc in is ∙ ap (λ (x : Refusal). Some (Err x)) same
      go (Err refusal) (BadMessage fault) is h = absurd (cc)
      go (Err refusal) TooLong is h = absurd (cc)
      go (Err refusal) Damaged is h = absurd (cc)

  module _ {S : Type 0} {listing : Listing S} (nodes2 : List Seen) (after : Seen) (done : Done S listing) (set : nodes2 ≡ slice_set nodes i after) (names : after.names ≡ node.names) (ports : after.ports ≡ node.ports)
      (fits : AreSendable node.names (listing.listed done.sends)) where
    own_so : (t : TimedTurn) → step_act (whole_in node.names) node.ports action node.state ≡ Ok t → Happens node.names t done after.state node.answers after.answers
        → CameOf config w (Do i action) (Ok (HasHappened (effect_by done))) (Left config nodes2 (Do i action) (listing.listed done.sends) None done.began w)
    own_so t is happened =
        let turn = place_timed config t in
        let v = perform (without_input w (Do i action)) i turn in
        let made : (frame_machine config).step i (w.node i) (Own action) ≡ Some turn =
        same_step config ((w.node i).clock + 1) (node_acts (nodes_at config i) (ports_at config i) action (w.node i).state) ∙ ap (timed_placed config) (sym own_told ∙ is) in
        let changes : Changes (Do i action) turn w v = turn_changes (length config) w (Do i action) (Own action) turn its_place refl in
        let turned : Turned nodes nodes2 i node after t done =
        record { here = here; set = set; names = names; ports = ports; happened = happened } in
        let so : HasTurned (frame_machine config) w (Do i action) v = record { there = its_place; input = Own action; given = refl; turn = turn; made = made; leaves = refl } in (
          ap (option_map (effect_of (length config))) (turn_made (frame_machine config) w v (Do i action) so) ∙ ap Some (did config nodes nodes2 w (Do i action) node after t done shows turned fits),
          (
            v,
            happens_so (frame_machine config) w v (Do i action) so,
            record {
              nodes = shown_after config nodes nodes2 w (Do i action) node after t done shows turned fits v changes (λ x y none never. never);
              ways = ways_after config nodes nodes2 w (Do i action) node after t done shows turned fits v changes;
              records = records_so w v i None t.reported done.began refl happened.told.began (act_applies (whole_in node.names) node.ports action node.state t is);
            },
          ),
        )

    -- it happened
    pub own_left : Comes node.names (step_act (whole_in node.names) node.ports action node.state) (Ok done) after.state node.answers after.answers
        → CameOf config w (Do i action) (Ok (HasHappened (effect_by done))) (Left config nodes2 (Do i action) (listing.listed done.sends) None done.began w)
    own_left comes = go (step_act (whole_in node.names) node.ports action node.state) refl comes
      where
        go : (r : Result TimedTurn Refusal) → step_act (whole_in node.names) node.ports action node.state ≡ r
            → Comes node.names r (Ok done) after.state node.answers after.answers → CameOf config w (Do i action) (Ok (HasHappened (effect_by done))) (Left config nodes2 (Do i action) (listing.listed done.sends) None done.began w)
        go (Ok t) is h = own_so t is h
        go (Err refusal) is h = absurd (cc)

-- ---- a packet is taken

module _ (config : Config) (nodes : List Seen) (w : TimedFrameWorld) (i p : ℕ) (shows : ShowsNodes config nodes w) (pair : is_pair (length nodes) i p ≡ true) where
  pub pair_there : is_pair (length config) i p ≡ true
  pair_there = ap (λ n. is_pair n i p) (sym shows.size) ∙ pair

  take_told : turn_told config w (Take i p) ≡ told_of_first (nodes_at config i) (name_at config p) (w.node i) (w.wire p i)
  take_told = ap (λ b. cond b (told_of_first (nodes_at config i) (name_at config p) (w.node i) (w.wire p i)) (Some (Err NoSuchPlace))) pair_there

  -- nothing is on the way
  pub none_told : w.wire p i ≡ [] → turn_told config w (Take i p) ≡ None
  none_told none = take_told ∙ ap (told_of_first (nodes_at config i) (name_at config p) (w.node i)) none

  module _ (node : Seen) (here : slice_get nodes i ≡ Some node) (x : Stamped Message) (rest : List (Stamped Message)) (begins : w.wire p i ≡ x ∷ rest) where
    taker : ShowsNode config w i node
    taker = shows.each i node here

    place_there : i < length config
    place_there = (pair_is (length config) i p pair_there).0

    peer_is : place_name node.names (peer_place i p + 1) ≡ name_at config p
    peer_is = ap (λ ns. place_name ns (peer_place i p + 1)) taker.names ∙ (peer_name config i place_there (peer_place i p)
        ∙ (ap (place_name (names_of config)) (there_and_back i p (pair_is (length config) i p pair_there).2) ∙ sym (named config i place_there p)))

    -- what the node tells is what the configuration's tells
    pub taken_told : step_take (whole_in node.names) (place_name node.names (peer_place i p + 1)) x node.state ≡ step_take (nodes_at config i) (name_at config p) x (w.node i)
    taken_told = λ j. step_take (whole_in (taker.names j)) (peer_is j) x (sym taker.state j)

    take_is : turn_told config w (Take i p) ≡ Some (step_take (whole_in node.names) (place_name node.names (peer_place i p + 1)) x node.state)
    take_is = take_told ∙ (ap (told_of_first (nodes_at config i) (name_at config p) (w.node i)) begins ∙ ap Some (sym taken_told))

    -- it is refused
    pub taken_refused : {S : Type 0} (listing : Listing S) (fault : NodeFault) (s : Timed State) (before after : ℕ → List Answer) (Shown : TimedFrameWorld → Type 0)
        → Comes {S = S} {h = listing} node.names (step_take (whole_in node.names) (place_name node.names (peer_place i p + 1)) x node.state) (Err fault) s before after
        → CameOf config w (Take i p) (Err fault) Shown
    taken_refused {S} listing fault s before after Shown comes = go (step_take (whole_in node.names) (place_name node.names (peer_place i p + 1)) x node.state) fault take_is comes
      where
        go : (r : Result TimedTurn Refusal) (fault : NodeFault) → turn_told config w (Take i p) ≡ Some r → Comes {S = S} {h = listing} node.names r (Err fault) s before after → CameOf config w (Take i p) (Err fault) Shown
        go (Ok t) OutOfMemory is h = tt
        go (Ok t) (Refused refusal) is h = absurd h
        go (Ok t) (BadMessage fault) is h = absurd h
        go (Ok t) TooLong is h = absurd h
        go (Ok t) Damaged is h = absurd h
        go (Err refusal) OutOfMemory is h = absurd (cc)
        go (Err refusal) (Refused other) is h = let same : refusal ≡ other = cc in is ∙ ap (λ (x : Refusal). Some (Err x)) same
        go (Err refusal) (BadMessage fault) is h = absurd (cc)
        go (Err refusal) TooLong is h = absurd (cc)
        go (Err refusal) Damaged is h = absurd (cc)

    module _ {S : Type 0} {listing : Listing S} (nodes2 : List Seen) (after : Seen) (done : Done S listing) (set : nodes2 ≡ slice_set nodes i after) (names : after.names ≡ node.names) (ports : after.ports ≡ node.ports)
        (fits : AreSendable node.names (listing.listed done.sends)) where
      take_so : (t : TimedTurn) → step_take (whole_in node.names) (place_name node.names (peer_place i p + 1)) x node.state ≡ Ok t
          → Happens node.names t done after.state node.answers after.answers → CameOf config w (Take i p) (Ok (HasHappened (effect_by done))) (Left config nodes2 (Take i p) (listing.listed done.sends) (update_asked_by x.packet) done.began w)
      take_so t is happened =
          let turn = place_timed config t in
          let v = perform (without_input {C = Action} w (Take i p)) i turn in
          let made : (frame_machine config).step i (w.node i) (Taken p x) ≡ Some turn =
          same_step config (max (w.node i).clock x.stamp + 1) (node_takes (nodes_at config i) (name_at config p) x.packet (w.node i).state) ∙ ap (timed_placed config) (sym taken_told ∙ is) in
          let given : input_of w (Take i p) ≡ Some (Taken p x) = ap (first_from p) begins in
          let changes : Changes (Take i p) turn w v = turn_changes (length config) w (Take i p) (Taken p x) turn pair_there given in
          let turned : Turned nodes nodes2 i node after t done =
          record { here = here; set = set; names = names; ports = ports; happened = happened } in
          let so : HasTurned (frame_machine config) w (Take i p) v = record { there = pair_there; input = Taken p x; given = given; turn = turn; made = made; leaves = refl } in (
            ap (option_map (effect_of (length config))) (turn_made (frame_machine config) w v (Take i p) so) ∙ ap Some (did config nodes nodes2 w (Take i p) node after t done shows turned fits),
            (
              v,
              happens_so (frame_machine config) w v (Take i p) so,
              record {
                nodes = shown_after config nodes nodes2 w (Take i p) node after t done shows turned fits v changes nowhere_taken;
                ways = ways_after config nodes nodes2 w (Take i p) node after t done shows turned fits v changes;
                records = records_so w v i (update_asked_by x.packet) t.reported done.began refl happened.told.began (take_applies (whole_in node.names) (place_name node.names (peer_place i p + 1)) x node.state t is);
              },
            ),
          )
        where
          nowhere_taken : (a y : ℕ) → is_pair (length config) a y ≡ false → (p ≡ a) × (i ≡ y) → ⊥
          nowhere_taken a y none both = let there : true ≡ false = sym (pair_turned (length config) i p pair_there) ∙ ((λ j. is_pair (length config) (both.0 j) (both.1 j)) ∙ none) in absurd (cc)

      -- it happened
      pub take_left : Comes node.names (step_take (whole_in node.names) (place_name node.names (peer_place i p + 1)) x node.state) (Ok done) after.state node.answers after.answers
          → CameOf config w (Take i p) (Ok (HasHappened (effect_by done))) (Left config nodes2 (Take i p) (listing.listed done.sends) (update_asked_by x.packet) done.began w)
      take_left comes = go (step_take (whole_in node.names) (place_name node.names (peer_place i p + 1)) x node.state) refl comes
        where
          go : (r : Result TimedTurn Refusal) → step_take (whole_in node.names) (place_name node.names (peer_place i p + 1)) x node.state ≡ r
              → Comes node.names r (Ok done) after.state node.answers after.answers → CameOf config w (Take i p) (Ok (HasHappened (effect_by done))) (Left config nodes2 (Take i p) (listing.listed done.sends) (update_asked_by x.packet) done.began w)
          go (Ok t) is h = take_so t is h
          go (Err refusal) is h = absurd (cc)
