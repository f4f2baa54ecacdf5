-- What happens without clocks happens with them, as long as they have room for so many events.
use Rattle.std.proofs.Common.{◌≡◌, ◌⊎◌, inl, inr, ℕ, ◌+◌, ◌≤◌, true, cond, nat_le, length, List}
use Rattle.std.proofs.Common.{[], ◌∷◌, Option, Some, None, refl, ap, sym, ◌∙◌, subst, arith}
use Rattle.std.specs.List.{AllByRecursion}
use Rattle.std.specs.Option.{option_map_or}
use Rattle.std.proofs.lemmas.Bool.{le-leb, cases_eq}
use Rattle.pg_step.specs.Machines.Machine.{Input, Machine, Event, World, Taken, Own, Take, Do}
use Rattle.pg_step.specs.Machines.Machine.{node_of, start_of, first_from, input_of, happens}
use Rattle.pg_step.specs.Machines.Happened.{Happened}
use Rattle.pg_step.specs.Machines.Runs.{Leads}
use Rattle.pg_step.specs.Machines.Clocked.{Stamped, TimedWorld, next_clock, clocked, plain, clock_allows}
use Rattle.pg_step.specs.Machines.Timely.{IsTimely}
use Rattle.pg_step.proofs.Machines.Options.{some_is, map_is_some}
use Rattle.pg_step.proofs.Machines.Steps.{happened}
use Rattle.pg_step.proofs.Machines.Timing.{ticks, timely, timely_start}
use Rattle.pg_step.proofs.Machines.Plain.{plain_start, plain_happens}

own_next : {P C : Type 0} (clock k : ℕ) (c : C) (input : Input (Stamped P) C) → Own c ≡ input → clock ≤ k → next_clock clock input ≤ k + 1
own_next clock k c input is low = subst (λ x. next_clock clock x ≤ k + 1) is (omega arith)

take_next : {P C : Type 0} (clock k p : ℕ) (xs : List (Stamped P)) (input : Input (Stamped P) C) → first_from p xs ≡ Some input → clock ≤ k
    → AllByRecursion (λ (x : Stamped P). x.stamp ≤ k) xs → next_clock clock input ≤ k + 1
take_next clock k p [] input is low all = absurd (cc)
take_next {P} {C} clock k p (x ∷ xs) input is low all =
    let stamp : x.stamp ≤ k = all.0 in
    let first : next_clock {P = P} {C = C} clock (Taken p x) ≤ k + 1 = omega arith in
    subst (λ (z : Input (Stamped P) C). next_clock clock z ≤ k + 1) (some_is is) first

all_low : {P : Type 0} (clock k : ℕ) (xs : List (Stamped P)) → clock ≤ k → AllByRecursion (λ (x : Stamped P). x.stamp ≤ clock) xs → AllByRecursion (λ (x : Stamped P). x.stamp ≤ k) xs
all_low clock k [] low all = tt
all_low clock k (x ∷ xs) low all = let stamp : x.stamp ≤ clock = all.0 in (omega arith, all_low clock k xs low all.1)

module _ {S P C O : Type 0} (m : Machine S P C O) (limit : ℕ) where
  -- no clock is past k, and no stamp past the clock of its sender
  record Young (k : ℕ) (w : TimedWorld S P O) : Type 0 where
    pub clocks : (i : ℕ) → (w.node i).clock ≤ k
    pub times : IsTimely limit w

  next_within : (k : ℕ) (w : TimedWorld S P O) → Young k w → (e : Event C) (input : Input (Stamped P) C) → input_of w e ≡ Some input → next_clock (w.node (node_of e)).clock input ≤ k + 1
  next_within k w young (Do i c) input is = own_next (w.node i).clock k c input (some_is is) (young.clocks i)
  next_within k w young (Take i p) input is =
      take_next (w.node i).clock k p (w.wire p i) input is (young.clocks i) (all_low (w.node p).clock k (w.wire p i) (young.clocks p) (young.times.stamps p i))

  allows : (k : ℕ) (w : TimedWorld S P O) → Young k w → k + 1 ≤ limit → (e : Event C) → clock_allows limit w e ≡ true
  allows k w young room e = go (input_of w e) (next_within k w young e)
    where
      go : (o : Option (Input (Stamped P) C)) → ((input : Input (Stamped P) C) → o ≡ Some input → next_clock (w.node (node_of e)).clock input ≤ k + 1)
          → option_map_or (λ input. nat_le (next_clock (w.node (node_of e)).clock input) limit) o true ≡ true
      go None within = refl
      go (Some input) within = let low : next_clock (w.node (node_of e)).clock input ≤ k + 1 = within input refl in le-leb (next_clock (w.node (node_of e)).clock input) limit (omega arith)

  older : (k : ℕ) (w v : TimedWorld S P O) (e : Event C) → Happened (clocked limit m) w e v → Young k w → Young (k + 1) v
  older k w v e h young = record {
    clocks = λ i. go i (cases_eq i (node_of e));
    times = timely m limit w v e h young.times;
  }
    where
      go : (i : ℕ) → (i ≡ node_of e) ⊎ (i ≡ node_of e → ⊥) → (v.node i).clock ≤ k + 1
      go i (inl own) = subst (λ j. (v.node j).clock ≤ k + 1) (sym own)
          (subst (λ n. n ≤ k + 1) (sym (ticks m limit w v e h).clock) (next_within k w young e h.input h.given))
      go i (inr other) = let low : (w.node i).clock ≤ k = young.clocks i in subst (λ n. n ≤ k + 1) (sym ((ticks m limit w v e h).others i other)) (omega arith)

  with_clock : (k : ℕ) (w : TimedWorld S P O) (v : World S P O) (e : Event C) → Young k w → k + 1 ≤ limit → happens m (plain w) e ≡ Some v
      → (u : TimedWorld S P O) × (happens (clocked limit m) w e ≡ Some u) × (plain u ≡ v)
  with_clock k w v e young room is =
      map_is_some plain (happens (clocked limit m) w e) v (plain_happens m limit w e ∙ ap (λ b. cond b (happens m (plain w) e) None) (allows k w young room e) ∙ is)

  short_from : (es : List (Event C)) (k : ℕ) (w : TimedWorld S P O) (v : World S P O) → k + length es ≤ limit → Young k w → Leads m (plain w) es v
      → (u : TimedWorld S P O) × Leads (clocked limit m) w es u × (plain u ≡ v)
  short_from [] k w v room young l = (w, refl, l)
  short_from (e ∷ es) k w v room young l =
      let one = with_clock k w l.0 e young (omega arith) l.1 in
      let rest = short_from es (k + 1) one.0 v (omega arith) (older k w one.0 e (happened (clocked limit m) w one.0 e one.1) young) (subst (λ x. Leads m x es v) (sym one.2) l.2) in
      (rest.0, (one.0, one.1, rest.1), rest.2)

  pub short_runs : (es : List (Event C)) (v : World S P O) → length es ≤ limit → Leads m (start_of m) es v
      → (w : TimedWorld S P O) × Leads (clocked limit m) (start_of (clocked limit m)) es w × (plain w ≡ v)
  short_runs es v room l =
      short_from es 0 (start_of (clocked limit m)) v (omega arith) (record { clocks = λ i. omega arith; times = timely_start m limit })
      (subst (λ w. Leads m w es v) (sym (plain_start m limit)) l)
