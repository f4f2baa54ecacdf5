-- An event of nodes that know of no loss is one of nodes that may be lost, where its own node is not.
use Rattle.std.proofs.Common.{◌≡◌, ◌≢◌, ℕ, Bool, true, false, not, ◌&&◌, cond, nat_le, map, drop, length, List}
use Rattle.std.proofs.Common.{[], ◌∷◌, ◌++◌, Option, Some, None, refl, sym, ap, ◌∙◌, inl, inr, ◌⊎◌, subst}
use Rattle.std.specs.Prelude.{option_map}
use Rattle.std.proofs.Math.Path.{fun_ext}
use Rattle.std.proofs.lemmas.Bool.{cases_eq}
use Rattle.std.proofs.lemmas.List.{map-append, append-nil, length-map}
use Rattle.pg_node_state.specs.PgMessageTypes.declared.message.Message.{Message}
use Rattle.pg_node_state.specs.PgStep.Machines.Places.{is_pair}
use Rattle.pg_node_state.specs.PgStep.Machines.Machine.{Event, Input, Turn, World, Take, Do, Taken, Own, node_of}
use Rattle.pg_node_state.specs.PgStep.Machines.Machine.{first_from, input_of, without_input, perform, happens}
use Rattle.pg_node_state.specs.PgStep.Machines.Happened.{Happened, Changes, Takes}
use Rattle.pg_node_state.specs.PgStep.Machines.Clocked.{Timed, Stamped, unstamped, next_clock, timed_turn, timed}
use Rattle.pg_node_state.specs.PgStep.Machines.Losing.{Noticed, Step, losing_happens, mapped_turn}
use Rattle.pg_node_state.proofs.PgStep.Machines.Options.{some_is}
use Rattle.pg_node_state.proofs.PgStep.Machines.Steps.{changes, turn_changes, turn_made, happens_so}
use Rattle.pg_node_state.specs.PgStep.Config.{Config, name_at}
use Rattle.pg_node_state.specs.PgStep.FrameMachine.{node_step, frame_machine, losing_frame_machine, last_notice, sent_packet}
use Rattle.pg_node_state.specs.PgStep.State.{State}
use Rattle.pg_node_state.specs.PgStep.Step.{CLOCK_LIMIT, Action}
use Rattle.pg_node_state.specs.PgStep.Turns.{Report}
use Rattle.pg_node_state.proofs.PgStep.Unnoticed.{frames_embed}
use Rattle.pg_laws_losses.proofs.PgLaws.steps.Lossless.{step_sees_none}
use Rattle.pg_world_packets.specs.Effects.{sum_below, op_of, effect_of, effect_in}
use Rattle.pg_world_packets.specs.Losing.{notices, losing_of}
use Rattle.pg_world_account.specs.Losses.{is_lost}
use Rattle.pg_world_packets.specs.Worlds.{TimedFrameWorld}
use Rattle.pg_world_packets.proofs.Counted.{sum_same}

-- ---- no event but seeing a loss changes who is lost to a node

turn_keeps : (config : Config) (i : ℕ) (s : Timed State) (input : Input (Stamped Message) Action) (turn : Turn (Timed State) (Stamped Message) Report)
    → (frame_machine config).step i s input ≡ Some turn → turn.state.state.lost ≡ s.state.lost
turn_keeps config i s input turn made = go (node_step config i s.state (unstamped input)) refl made
  where
    clock : ℕ
    clock = next_clock s.clock input

    go : (r : Option (Turn State Message Report)) → node_step config i s.state (unstamped input) ≡ r → timed CLOCK_LIMIT clock r ≡ Some turn → turn.state.state.lost ≡ s.state.lost
    go None is e = absurd (cc)
    go (Some t) is e = fits (nat_le clock CLOCK_LIMIT) e
      where
        fits : (b : Bool) → cond b (Some (timed_turn clock t)) None ≡ Some turn → turn.state.state.lost ≡ s.state.lost
        fits true d = let same : timed_turn clock t ≡ turn = some_is d in
            sym (ap (λ (u : Turn (Timed State) (Stamped Message) Report). u.state.state.lost) same) ∙ step_sees_none config i s.state (unstamped input) t is
        fits false d = absurd (cc)

-- ---- last notices

-- none is on the way from a node that is not lost
pub no_notice : (config : Config) (w : TimedFrameWorld) (lost : List ℕ) (x y : ℕ) → is_lost lost x ≡ false → notices config w lost x y ≡ []
no_notice config w lost x y is = go (is_pair (length config) x y) (is_lost lost x) is
  where
    go : (pair gone : Bool) → gone ≡ false → ◌≡◌ {A = List (Stamped (Noticed Message))} (cond (pair && (gone && not ((w.node y).state.lost (name_at config x)))) (last_notice (w.node x) ∷ []) []) []
    go true false e = refl
    go true true e = absurd (cc)
    go false gone e = refl

-- ---- an event

takes_or_not : (e : Event Action) (x y : ℕ) → Takes e x y ⊎ (Takes e x y → ⊥)
takes_or_not (Do i c) x y = inr (λ never. never)
takes_or_not (Take i p) x y = go (cases_eq p x) (cases_eq i y)
  where
    go : (p ≡ x) ⊎ (p ≢ x) → (i ≡ y) ⊎ (i ≢ y) → ((p ≡ x) × (i ≡ y)) ⊎ ((p ≡ x) × (i ≡ y) → ⊥)
    go (inl a) (inl b) = inl (a, b)
    go (inr n) b = inr (λ both. n both.0)
    go (inl a) (inr n) = inr (λ both. n both.1)

-- what a node is given where nodes may be lost
abbrev into : Input (Stamped Message) Action → Input (Stamped (Noticed Message)) Action
into (Taken p x) = Taken p (sent_packet x)
into (Own c) = Own c

first_into : (p : ℕ) (xs : List (Stamped Message)) (more : List (Stamped (Noticed Message))) (input : Input (Stamped Message) Action)
    → first_from p xs ≡ Some input → first_from {C = Action} p (map sent_packet xs ++ more) ≡ Some (into input)
first_into p [] more input e = absurd (cc)
first_into p (x ∷ xs) more input e = let same : Taken p x ≡ input = some_is e in ap (λ z. Some (into z)) same

made_into : (config : Config) (i : ℕ) (s : Timed State) (input : Input (Stamped Message) Action) → (losing_frame_machine config).step i s (into input) ≡ option_map (mapped_turn sent_packet) ((frame_machine config).step i s input)
made_into config i s (Taken p x) = (frames_embed config).taken i p s x
made_into config i s (Own c) = (frames_embed config).own i s c

abbrev LossyWorld : Type 0
LossyWorld = World (Timed State) (Stamped (Noticed Message)) Report

module _ (config : Config) (lost : List ℕ) (w v : TimedFrameWorld) (e : Event Action) (h : Happened (frame_machine config) w e v) where
  does : Changes e h.turn w v
  does = changes (frame_machine config) w v e h

  pub lost_kept : (y : ℕ) → (v.node y).state.lost ≡ (w.node y).state.lost
  lost_kept y = go (cases_eq y (node_of e))
    where
      go : (y ≡ node_of e) ⊎ (y ≢ node_of e) → (v.node y).state.lost ≡ (w.node y).state.lost
      go (inl d) = subst (λ k. (v.node k).state.lost ≡ (w.node k).state.lost) (sym d)
          (ap (λ (s : Timed State). s.state.lost) does.state ∙ turn_keeps config (node_of e) (w.node (node_of e)) h.input h.turn h.made)
      go (inr n) = ap (λ (s : Timed State). s.state.lost) (does.states y n)

  notice_kept : (x y : ℕ) → x ≢ node_of e → notices config v lost x y ≡ notices config w lost x y
  notice_kept x y n = λ j. cond (is_pair (length config) x y && (is_lost lost x && not (lost_kept y j (name_at config x)))) (last_notice (does.states x n j) ∷ []) []

  abbrev before : LossyWorld
  before = (losing_of config w lost).world

  abbrev after : LossyWorld
  after = (losing_of config v lost).world

  abbrev turn : Turn (Timed State) (Stamped (Noticed Message)) Report
  turn = mapped_turn sent_packet h.turn

  given_of : (f : Event Action) → input_of w f ≡ Some h.input → input_of before f ≡ Some (into h.input)
  given_of (Do i c) is = let same : Own c ≡ h.input = some_is is in ap (λ z. Some (into z)) same
  given_of (Take i p) is = first_into p (w.wire p i) (notices config w lost p i) h.input is

  abbrev left : LossyWorld
  left = perform (without_input before e) (node_of e) turn

  leaves : Changes e turn before left
  leaves = turn_changes (length config) before e (into h.input) turn h.there (given_of e h.given)

  module _ (stays : is_lost lost (node_of e) ≡ false) where
    own_wire : (y : ℕ) → left.wire (node_of e) y ≡ after.wire (node_of e) y
    own_wire y =
        leaves.sent y
        ∙ ap (λ (ns : List (Stamped (Noticed Message))). (map sent_packet (w.wire (node_of e) y) ++ ns) ++ map sent_packet (h.turn.sends y)) (no_notice config w lost (node_of e) y stays)
        ∙ ap (λ (xs : List (Stamped (Noticed Message))). xs ++ map sent_packet (h.turn.sends y)) (append-nil (map sent_packet (w.wire (node_of e) y)))
        ∙ sym (map-append sent_packet (w.wire (node_of e) y) (h.turn.sends y))
        ∙ ap (map sent_packet) (sym (does.sent y))
        ∙ sym (append-nil (map sent_packet (v.wire (node_of e) y)))
        ∙ ap (λ (ns : List (Stamped (Noticed Message))). map sent_packet (v.wire (node_of e) y) ++ ns) (sym (no_notice config v lost (node_of e) y stays))

    wire_is : (x y : ℕ) → left.wire x y ≡ after.wire x y
    wire_is x y = go (cases_eq x (node_of e)) (takes_or_not e x y)
      where
        go : (x ≡ node_of e) ⊎ (x ≢ node_of e) → Takes e x y ⊎ (Takes e x y → ⊥) → left.wire x y ≡ after.wire x y
        go (inl d) t = subst (λ k. left.wire k y ≡ after.wire k y) (sym d) (own_wire y)
        go (inr n) (inl t) =
            let a = leaves.taken x y t in
            let b = does.taken x y t in
            sym (ap (drop 1) a.1) ∙ ap (λ xs. drop 1 (map sent_packet xs ++ notices config w lost x y)) b.1
            ∙ ap (λ (ns : List (Stamped (Noticed Message))). map sent_packet (v.wire x y) ++ ns) (sym (notice_kept x y n))
        go (inr n) (inr u) = leaves.ways x y n u ∙ (λ j. map sent_packet (sym (does.ways x y n u) j) ++ sym (notice_kept x y n) j)

    node_is : (x : ℕ) → left.node x ≡ after.node x
    node_is x = go (cases_eq x (node_of e))
      where
        go : (x ≡ node_of e) ⊎ (x ≢ node_of e) → left.node x ≡ after.node x
        go (inl d) = subst (λ k. left.node k ≡ after.node k) (sym d) (leaves.state ∙ sym does.state)
        go (inr n) = leaves.states x n ∙ sym (does.states x n)

    left_is : left ≡ after
    left_is = λ j. record {
      node = (fun_ext node_is) j;
      wire = (fun_ext (λ x. fun_ext (wire_is x))) j;
      reported = (leaves.reported ∙ sym does.reported) j;
    }

    lifts : Happened (losing_frame_machine config) before e after
    lifts = record {
      there = h.there;
      input = into h.input;
      given = given_of e h.given;
      turn = turn;
      made = made_into config (node_of e) (w.node (node_of e)) h.input ∙ ap (option_map (mapped_turn sent_packet)) h.made;
      leaves = left_is;
    }

    -- it does the same there
    pub same_effect : effect_in (losing_frame_machine config) before e ≡ effect_in (frame_machine config) w e
    unfolding lifts
    same_effect =
        ap (option_map (effect_of (length config))) (turn_made (losing_frame_machine config) before after e lifts)
        ∙ (ap Some (λ j. record { sent = as_many j; began = op_of h.turn.reported.began; odd = h.turn.reported.odd })
        ∙ sym (ap (option_map (effect_of (length config))) (turn_made (frame_machine config) w v e h)))
      where
        as_many : sum_below (length config) (λ y. length (map sent_packet (h.turn.sends y))) ≡ sum_below (length config) (λ y. length (h.turn.sends y))
        as_many = sum_same (length config) (λ y. length (map sent_packet (h.turn.sends y))) (λ y. length (h.turn.sends y)) (λ y l. length-map (h.turn.sends y) sent_packet)

    -- the event happens there, too
    pub lifted : losing_happens (losing_frame_machine config) last_notice (losing_of config w lost) (Step e) ≡ Some (losing_of config v lost)
    unfolding losing_happens
    lifted =
        ap (λ b. cond b None (option_map (λ (u : LossyWorld). record { world = u; gone = is_lost lost }) (happens (losing_frame_machine config) before e))) stays
        ∙ ap (option_map (λ (u : LossyWorld). record { world = u; gone = is_lost lost }))
        (happens_so (losing_frame_machine config) before after e lifts)
