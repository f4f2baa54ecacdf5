-- As long as no node is lost, the machine with notices is the one without.
use Rattle.std.proofs.Common.{◌≡◌, ℕ, ◌+◌, Bool, true, false, cond, nat_le, drop, map, List}
use Rattle.std.proofs.Common.{[], ◌∷◌, ◌++◌, Option, Some, None, refl, ap, sym, ◌∙◌, subst}
use Rattle.std.specs.Prelude.{option_map, option_and_then}
use Rattle.std.proofs.Math.Path.{fun_ext}
use Rattle.std.proofs.lemmas.List.{map-append}
use Rattle.pg_message_types.specs.declared.message.Message.{Message}
use Rattle.pg_step.specs.Machines.Machine.{Turn, Machine, Event, World, Taken, Own, Take, Do, node_of, is_there}
use Rattle.pg_step.specs.Machines.Machine.{start_of, first_from, input_of, without_input, perform, happens}
use Rattle.pg_step.specs.Machines.Places.{set_at, set_way}
use Rattle.pg_step.specs.Machines.Runs.{Leads}
use Rattle.pg_step.specs.Machines.Clocked.{Timed, Stamped, TimedWorld, next_clock, stamped, timed_turn, timed}
use Rattle.pg_step.specs.State.{State}
use Rattle.pg_step.specs.Turns.{Report}
use Rattle.pg_step.specs.Step.{CLOCK_LIMIT, Action}
use Rattle.pg_step.specs.Config.{Config}
use Rattle.pg_step.specs.FrameMachine.{machine_of, frame_machine, losing_frame_machine, last_notice, sent_packet}
use Rattle.pg_step.specs.Machines.Losing.{Noticed, Sent, LosingWorld, Step, mapped, mapped_turn}
use Rattle.pg_step.specs.Machines.Losing.{losing_happens, LosingLeads, nobody_gone, all_steps}
use Rattle.pg_step.proofs.Machines.Options.{map_is_some}
use Rattle.pg_step.proofs.Machines.Places.{set_at_map, set_way_map}

-- ---- a machine with more packets

-- the machine n does with packets of m what m does
pub record Embeds {S P Q C O : Type 0} (m : Machine S P C O) (n : Machine S Q C O) (into : P → Q) : Type 0 where
  pub size : n.size ≡ m.size
  pub taken : (i p : ℕ) (s : S) (x : P) → n.step i s (Taken p (into x)) ≡ option_map (mapped_turn into) (m.step i s (Taken p x))
  pub own : (i : ℕ) (s : S) (c : C) → n.step i s (Own c) ≡ option_map (mapped_turn into) (m.step i s (Own c))

mapped_rest : {P Q : Type 0} (into : P → Q) (xs : List P) → ◌≡◌ {A = List Q} (map into (drop 1 xs)) (drop 1 (map into xs))
mapped_rest into [] = refl
mapped_rest into (x ∷ xs) = refl

module _ {S P Q O : Type 0} (into : P → Q) where
  mapped_perform : (w : World S P O) (i : ℕ) (t : Turn S P O) → perform (mapped into w) i (mapped_turn into t) ≡ mapped into (perform w i t)
  mapped_perform w i t = λ j. record { node = set_at w.node i t.state; wire = wires j; reported = w.reported ++ (i, t.reported) ∷ [] }
    where
      row : ℕ → List P
      row y = w.wire i y ++ t.sends y

      rows : ◌≡◌ {A = ℕ → List Q} (λ y. map into (row y)) (λ y. map into (w.wire i y) ++ map into (t.sends y))
      rows = fun_ext (λ y. map-append into (w.wire i y) (t.sends y))

      wires : ◌≡◌ {A = ℕ → ℕ → List Q} (set_at {A = ℕ → List Q} (λ x y. map into (w.wire x y)) i (λ y. map into (w.wire i y) ++ map into (t.sends y)))
          (λ x y. map into (set_at {A = ℕ → List P} w.wire i row x y))
      wires = sym (set_at_map {A = ℕ → List P} w.wire i row {B = ℕ → List Q} (λ (g : ℕ → List P) (y : ℕ). map into (g y))
          ∙ ap (set_at {A = ℕ → List Q} (λ x y. map into (w.wire x y)) i) rows)

  mapped_without : {C : Type 0} (w : World S P O) (e : Event C) → without_input (mapped into w) e ≡ mapped into (without_input w e)
  mapped_without w (Do i c) = refl
  mapped_without w (Take i p) = λ j. record { node = w.node; wire = wires j; reported = w.reported }
    where
      wires : ◌≡◌ {A = ℕ → ℕ → List Q} (set_way (λ x y. map into (w.wire x y)) p i (drop 1 (map into (w.wire p i)))) (λ x y. map into (set_way w.wire p i (drop 1 (w.wire p i)) x y))
      wires = sym (set_way_map w.wire p i (drop 1 (w.wire p i)) (map into) ∙ ap (set_way (λ x y. map into (w.wire x y)) p i) (mapped_rest into (w.wire p i)))

  performs : (u : World S P O) (i : ℕ) (r : Option (Turn S P O)) → option_map (perform (mapped into u) i) (option_map (mapped_turn into) r) ≡ option_map (mapped into) (option_map (perform u i) r)
  performs u i None = refl
  performs u i (Some t) = ap Some (mapped_perform u i t)

module _ {S P Q C O : Type 0} (m : Machine S P C O) (n : Machine S Q C O) (into : P → Q) (embeds : Embeds m n into) where
  -- what a node makes of an input
  made : (w : World S P O) (e : Event C) (i : ℕ) (s : S) → option_and_then (n.step i s) (input_of (mapped into w) e) ≡ option_map (mapped_turn into) (option_and_then (m.step i s) (input_of w e))
  made w (Do j c) i s = embeds.own i s c
  made w (Take j p) i s = go (w.wire p j)
    where
      go : (xs : List P) → option_and_then (n.step i s) (first_from p (map into xs)) ≡ option_map (mapped_turn into) (option_and_then (m.step i s) (first_from p xs))
      go [] = refl
      go (x ∷ xs) = embeds.taken i p s x

  mapped_happens : (w : World S P O) (e : Event C) → happens n (mapped into w) e ≡ option_map (mapped into) (happens m w e)
  unfolding happens
  mapped_happens w e =
      ap (λ size. cond (is_there size e) (option_map (perform (without_input (mapped into w) e) i) (option_and_then (n.step i (w.node i)) (input_of (mapped into w) e))) None) embeds.size
      ∙ go (is_there m.size e)
    where
      i : ℕ
      i = node_of e

      go : (b : Bool) → cond b (option_map (perform (without_input (mapped into w) e) i) (option_and_then (n.step i (w.node i)) (input_of (mapped into w) e))) None
          ≡ option_map (mapped into) (cond b (option_map (perform (without_input w e) i) (option_and_then (m.step i (w.node i)) (input_of w e))) None)
      go false = refl
      go true =
          ap (option_map (perform (without_input (mapped into w) e) i)) (made w e i (w.node i))
          ∙ ap (λ u. option_map (perform u i) (option_map (mapped_turn into) (option_and_then (m.step i (w.node i)) (input_of w e)))) (mapped_without into w e)
          ∙ performs into (without_input w e) i (option_and_then (m.step i (w.node i)) (input_of w e))

  -- a run with packets of m is one of m
  mapped_leads : (es : List (Event C)) (w : World S P O) (v : World S Q O) → Leads n (mapped into w) es v → (u : World S P O) × Leads m w es u × (mapped into u ≡ v)
  mapped_leads [] w v l = (w, refl, l)
  mapped_leads (e ∷ es) w v l =
      let first = map_is_some (mapped into) (happens m w e) l.0 (sym (mapped_happens w e) ∙ l.1) in
      let rest = mapped_leads es first.0 v (subst (λ x. Leads n x es v) (sym first.2) l.2) in
      (rest.0, (first.0, first.1, rest.1), rest.2)

-- ---- where no event is a loss

module _ {S P C O : Type 0} (m : Machine S P C O) (last : S → P) where
  step_stays : (w : World S P O) (v : LosingWorld S P O) (e : Event C) → losing_happens m last (nobody_gone w) (Step e) ≡ Some v → (u : World S P O) × (happens m w e ≡ Some u) × (nobody_gone u ≡ v)
  unfolding losing_happens
  step_stays w v e h = map_is_some nobody_gone (happens m w e) v h

  steps_stay : (es : List (Event C)) (w : World S P O) (v : LosingWorld S P O) → LosingLeads m last (nobody_gone w) (all_steps es) v → (u : World S P O) × Leads m w es u × (nobody_gone u ≡ v)
  steps_stay [] w v l = (w, refl, l)
  steps_stay (e ∷ es) w v l =
      let first = step_stays w l.0 e l.1 in
      let rest = steps_stay es first.0 v (subst (λ x. LosingLeads m last x (all_steps es) v) (sym first.2) l.2) in
      (rest.0, (first.0, first.1, rest.1), rest.2)

-- ---- nodes with clocks

sent_stamped : (clock : ℕ) (xs : List Message) → ◌≡◌ {A = List (Stamped (Noticed Message))} (stamped clock (map Sent xs)) (map sent_packet (stamped clock xs))
sent_stamped clock [] = refl
sent_stamped clock (x ∷ xs) = ap (λ (ys : List (Stamped (Noticed Message))). record { stamp = clock; packet = Sent x } ∷ ys) (sent_stamped clock xs)

timed_sent : (clock : ℕ) (r : Option (Turn State Message Report))
    → timed CLOCK_LIMIT clock (option_map (mapped_turn {Q = Noticed Message} Sent) r) ≡ option_map (mapped_turn sent_packet) (timed CLOCK_LIMIT clock r)
timed_sent clock None = refl
timed_sent clock (Some t) = go (nat_le clock CLOCK_LIMIT)
  where
    go : (b : Bool) → cond b (Some (timed_turn clock (mapped_turn {Q = Noticed Message} Sent t))) None ≡ option_map (mapped_turn sent_packet) (cond b (Some (timed_turn clock t)) None)
    go true = λ i. Some (record { state = record { clock = clock; state = t.state }; sends = (fun_ext (λ q. sent_stamped clock (t.sends q))) i; reported = t.reported })
    go false = refl

pub frames_embed : (config : Config) → Embeds (frame_machine config) (losing_frame_machine config) sent_packet
frames_embed config = record {
  size = refl;
  taken = λ i p s x. timed_sent (next_clock {C = Action} s.clock (Taken p x)) ((machine_of config).step i s.state (Taken p x.packet));
  own = λ i s c. timed_sent (s.clock + 1) ((machine_of config).step i s.state (Own c));
}

start_sent : (config : Config) → start_of (losing_frame_machine config) ≡ mapped sent_packet (start_of (frame_machine config))
start_sent config = λ i. record {
  node = (frame_machine config).first;
  wire = (fun_ext (λ x. fun_ext (λ y. sent_stamped 0 ((machine_of config).opening x y)))) i;
  reported = [];
}

-- a run without a loss is one of the nodes that know of none
pub without_losses : (config : Config) (es : List (Event Action)) (v : LosingWorld (Timed State) (Stamped (Noticed Message)) Report)
    → LosingLeads (losing_frame_machine config) last_notice (nobody_gone (start_of (losing_frame_machine config))) (all_steps es) v
    → (w : TimedWorld State Message Report) × Leads (frame_machine config) (start_of (frame_machine config)) es w × (v ≡ nobody_gone (mapped sent_packet w))
without_losses config es v l =
    let run = steps_stay (losing_frame_machine config) last_notice es (start_of (losing_frame_machine config)) v l in
    let w = mapped_leads (frame_machine config) (losing_frame_machine config) sent_packet (frames_embed config) es (start_of (frame_machine config)) run.0
    (subst (λ u. Leads (losing_frame_machine config) u es run.0) (start_sent config) run.1) in
    (w.0, w.1, sym run.2 ∙ ap nobody_gone (sym w.2))
