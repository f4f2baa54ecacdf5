-- A machine with clocks, seen without them, is the machine that has none.
use Rattle.std.proofs.Common.{◌≡◌, ℕ, Bool, true, false, cond, nat_le, drop, List, []}
use Rattle.std.proofs.Common.{◌∷◌, ◌++◌, Option, Some, None, refl, ap, sym, ◌∙◌, subst}
use Rattle.std.specs.Prelude.{option_map, option_and_then}
use Rattle.std.specs.Option.{option_map_or}
use Rattle.std.proofs.Math.Path.{fun_ext}
use Rattle.std.proofs.lemmas.List.{map-append}
use Rattle.pg_step.specs.Machines.Machine.{Input, Turn, Machine, Event, Take, Do, node_of, is_there}
use Rattle.pg_step.specs.Machines.Machine.{start_of, first_from, input_of, without_input, perform, happens}
use Rattle.pg_step.specs.Machines.Places.{set_at, set_way}
use Rattle.pg_step.specs.Machines.Runs.{Leads}
use Rattle.pg_step.specs.Machines.Clocked.{Timed, Stamped, TimedWorld, unstamped, next_clock, stamped}
use Rattle.pg_step.specs.Machines.Clocked.{packets_of, timed_turn, timed, clocked, plain, clock_allows}
use Rattle.pg_step.proofs.Machines.Options.{cond_is_some, cond_none}
use Rattle.pg_step.proofs.Machines.Places.{set_at_map, set_way_map}

packets_of_stamped : {P : Type 0} (clock : ℕ) (xs : List P) → packets_of (stamped clock xs) ≡ xs
packets_of_stamped clock [] = refl
packets_of_stamped clock (x ∷ xs) = ap (λ ys. x ∷ ys) (packets_of_stamped clock xs)

packets_of_rest : {P : Type 0} (xs : List (Stamped P)) → packets_of (drop 1 xs) ≡ drop 1 (packets_of xs)
packets_of_rest [] = refl
packets_of_rest (x ∷ xs) = refl

pub plain_start : {S P C O : Type 0} (m : Machine S P C O) (limit : ℕ) → plain (start_of (clocked limit m)) ≡ start_of m
plain_start m limit = λ i. record { node = m.first; wire = (fun_ext (λ x. fun_ext (λ y. packets_of_stamped 0 (m.opening x y)))) i; reported = [] }

plain_perform : {S P O : Type 0} (w : TimedWorld S P O) (i clock : ℕ) (t : Turn S P O) → plain (perform w i (timed_turn clock t)) ≡ perform (plain w) i t
plain_perform {S} {P} {O} w i clock t = λ j. record { node = nodes j; wire = wires j; reported = w.reported ++ (i, t.reported) ∷ [] }
  where
    nodes : (λ (x : ℕ). (set_at w.node i (record { clock = clock; state = t.state }) x).state) ≡ set_at (λ x. (w.node x).state) i t.state
    nodes = set_at_map w.node i (record { clock = clock; state = t.state }) (λ (s : Timed S). s.state)

    row : ℕ → List (Stamped P)
    row y = w.wire i y ++ stamped clock (t.sends y)

    rows : ◌≡◌ {A = ℕ → List P} (λ y. packets_of (row y)) (λ y. packets_of (w.wire i y) ++ t.sends y)
    rows = fun_ext (λ y. map-append (λ (x : Stamped P). x.packet) (w.wire i y) (stamped clock (t.sends y))
        ∙ ap (λ xs. packets_of (w.wire i y) ++ xs) (packets_of_stamped clock (t.sends y)))

    wires : ◌≡◌ {A = ℕ → ℕ → List P} (λ x y. packets_of (set_at {A = ℕ → List (Stamped P)} w.wire i row x y))
        (set_at {A = ℕ → List P} (λ x y. packets_of (w.wire x y)) i (λ y. packets_of (w.wire i y) ++ t.sends y))
    wires = set_at_map {A = ℕ → List (Stamped P)} w.wire i row {B = ℕ → List P} (λ (g : ℕ → List (Stamped P)) (y : ℕ). packets_of (g y))
        ∙ ap (set_at {A = ℕ → List P} (λ x y. packets_of (w.wire x y)) i) rows

plain_without : {S P C O : Type 0} (w : TimedWorld S P O) (e : Event C) → plain (without_input w e) ≡ without_input (plain w) e
plain_without w (Do i c) = refl
plain_without {S} {P} {C} {O} w (Take i p) = λ j. record { node = λ x. (w.node x).state; wire = wires j; reported = w.reported }
  where
    wires : (λ (x y : ℕ). packets_of (set_way w.wire p i (drop 1 (w.wire p i)) x y)) ≡ set_way (λ x y. packets_of (w.wire x y)) p i (drop 1 (packets_of (w.wire p i)))
    wires = set_way_map w.wire p i (drop 1 (w.wire p i)) packets_of ∙ ap (set_way (λ x y. packets_of (w.wire x y)) p i) (packets_of_rest (w.wire p i))

first_unstamped : {P C : Type 0} (p : ℕ) (xs : List (Stamped P)) → first_from {C = C} p (packets_of xs) ≡ option_map unstamped (first_from p xs)
first_unstamped p [] = refl
first_unstamped p (x ∷ xs) = refl

input_unstamped : {S P C O : Type 0} (w : TimedWorld S P O) (e : Event C) → input_of (plain w) e ≡ option_map unstamped (input_of w e)
input_unstamped w (Do i c) = refl
input_unstamped w (Take i p) = first_unstamped p (w.wire p i)

module _ {S P C O : Type 0} (m : Machine S P C O) (limit : ℕ) where
  -- a turn, where the clock has room for it
  turned : (w : TimedWorld S P O) (i clock : ℕ) (r : Option (Turn S P O))
      → option_map plain (option_map (perform w i) (timed limit clock r)) ≡ cond (nat_le clock limit) (option_map (perform (plain w) i) r) None
  turned w i clock None = sym (cond_none (nat_le clock limit))
  turned w i clock (Some t) = go (nat_le clock limit)
    where
      go : (b : Bool) → option_map plain (option_map (perform w i) (cond b (Some (timed_turn clock t)) None)) ≡ cond b (Some (perform (plain w) i t)) None
      go true = ap Some (plain_perform w i clock t)
      go false = refl

  pub plain_happens : (w : TimedWorld S P O) (e : Event C)
      → option_map plain (happens (clocked limit m) w e) ≡ cond (clock_allows limit w e) (happens m (plain w) e) None
  unfolding happens
  plain_happens w e =
      go (is_there m.size e) (input_of w e)
      ∙ ap (λ u. cond (clock_allows limit w e) (cond (is_there m.size e) (option_map (perform u (node_of e)) (option_and_then (m.step (node_of e) (w.node (node_of e)).state) (option_map unstamped (input_of w e)))) None) None) (plain_without w e)
      ∙ ap (λ input. cond (clock_allows limit w e) (cond (is_there m.size e) (option_map (perform (without_input (plain w) e) (node_of e)) (option_and_then (m.step (node_of e) (w.node (node_of e)).state) input)) None) None) (sym (input_unstamped w e))
    where
      clock : ℕ
      clock = (w.node (node_of e)).clock

      go : (b : Bool) (input : Option (Input (Stamped P) C))
          → option_map plain (cond b (option_map (perform (without_input w e) (node_of e)) (option_and_then (λ x. timed limit (next_clock (w.node (node_of e)).clock x) (m.step (node_of e) (w.node (node_of e)).state (unstamped x))) input)) None)
          ≡ cond (option_map_or (λ x. nat_le (next_clock (w.node (node_of e)).clock x) limit) input true)
          (cond b (option_map (perform (plain (without_input w e)) (node_of e)) (option_and_then (m.step (node_of e) (w.node (node_of e)).state) (option_map unstamped input))) None) None
      go false input = sym (cond_none (option_map_or (λ x. nat_le (next_clock (w.node (node_of e)).clock x) limit) input true))
      go true None = refl
      go true (Some x) = turned (without_input w e) (node_of e) (next_clock (w.node (node_of e)).clock x) (m.step (node_of e) (w.node (node_of e)).state (unstamped x))

  pub plain_event : (w v : TimedWorld S P O) (e : Event C) → happens (clocked limit m) w e ≡ Some v → happens m (plain w) e ≡ Some (plain v)
  plain_event w v e h = (cond_is_some (clock_allows limit w e) (happens m (plain w) e) (plain v) (sym (plain_happens w e) ∙ ap (option_map plain) h)).1

  pub plain_leads : (es : List (Event C)) (w v : TimedWorld S P O) → Leads (clocked limit m) w es v → Leads m (plain w) es (plain v)
  plain_leads [] w v l = ap plain l
  plain_leads (e ∷ es) w v l = (plain l.0, plain_event w l.0 e l.1, plain_leads es l.0 v l.2)

  -- from the start
  pub plain_from_start : (es : List (Event C)) (v : TimedWorld S P O) → Leads (clocked limit m) (start_of (clocked limit m)) es v → Leads m (start_of m) es (plain v)
  plain_from_start es v l = subst (λ w. Leads m w es (plain v)) (plain_start m limit) (plain_leads es (start_of (clocked limit m)) v l)
