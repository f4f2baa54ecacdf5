-- Clocks rise and stay within their limit, and stamps do not pass them.
use Rattle.std.proofs.Common.{◌≡◌, ℕ, ◌+◌, ◌<◌, ◌≤◌, Bool, true, false, cond, nat_le, max, List, [], ◌∷◌}
use Rattle.std.proofs.Common.{◌++◌, Option, Some, None, refl, ap, sym, ◌∙◌, subst, arith, inl, inr, ◌⊎◌}
use Rattle.std.specs.List.{AllByRecursion}
use Rattle.std.proofs.lemmas.Bool.{leb-true, cases_eq}
use Rattle.pg_step.specs.Machines.Machine.{Input, Turn, Machine, Event, Taken, Own, Take, Do, node_of, start_of, first_from}
use Rattle.pg_step.specs.Machines.Happened.{Happened, Takes, Changes}
use Rattle.pg_step.specs.Machines.Runs.{Leads}
use Rattle.pg_step.specs.Machines.Clocked.{Timed, Stamped, TimedWorld, unstamped}
use Rattle.pg_step.specs.Machines.Clocked.{next_clock, stamped, timed_turn, timed, clocked}
use Rattle.pg_step.specs.Machines.Timely.{KeepsTime, Ticks, IsTimely}
use Rattle.pg_step.proofs.Machines.Options.{some_is}
use Rattle.pg_step.proofs.Machines.Sequences.{kept}
use Rattle.pg_step.proofs.Machines.Steps.{happened, changes}

-- a turn with a clock is one without, and its clock is within the limit
timed_is : {S P O : Type 0} (limit clock : ℕ) (r : Option (Turn S P O)) (t : Turn (Timed S) (Stamped P) O)
    → timed limit clock r ≡ Some t → (u : Turn S P O) × (timed_turn clock u ≡ t) × (clock ≤ limit)
timed_is limit clock None t e = absurd (cc)
timed_is {S} {P} {O} limit clock (Some u) t e = go (nat_le clock limit) refl e
  where
    go : (b : Bool) → nat_le clock limit ≡ b → cond b (Some (timed_turn clock u)) None ≡ Some t → (v : Turn S P O) × (timed_turn clock v ≡ t) × (clock ≤ limit)
    go true within d = (u, some_is d, leb-true clock limit within)
    go false within d = absurd (cc)

next_is_later : {P C : Type 0} (clock : ℕ) (input : Input (Stamped P) C) → clock < next_clock clock input
next_is_later clock (Taken p x) = omega arith
next_is_later clock (Own c) = omega arith

past_stamp : (clock stamp : ℕ) → stamp < max clock stamp + 1
past_stamp clock stamp = omega arith

all_stamped : {P : Type 0} (clock : ℕ) (xs : List P) → AllByRecursion (λ (x : Stamped P). x.stamp ≡ clock) (stamped clock xs)
all_stamped clock [] = tt
all_stamped clock (x ∷ xs) = (refl, all_stamped clock xs)

all_weaker : {A : Type 0} (Q R : A → Type 0) (xs : List A) → ((x : A) → Q x → R x) → AllByRecursion Q xs → AllByRecursion R xs
all_weaker Q R [] f h = tt
all_weaker Q R (x ∷ xs) f h = (f x h.0, all_weaker Q R xs f h.1)

all_append : {A : Type 0} (Q : A → Type 0) (xs ys : List A) → AllByRecursion Q xs → AllByRecursion Q ys → AllByRecursion Q (xs ++ ys)
all_append Q [] ys h k = k
all_append Q (x ∷ xs) ys h k = (h.0, all_append Q xs ys h.1 k)

-- whether an event takes from a way
takes_or_not : {C : Type 0} (e : Event C) (x y : ℕ) → Takes e x y ⊎ (Takes e x y → ⊥)
takes_or_not (Do i c) x y = inr (λ never. never)
takes_or_not (Take i p) x y = go (cases_eq p x) (cases_eq i y)
  where
    go : (p ≡ x) ⊎ (p ≡ x → ⊥) → (i ≡ y) ⊎ (i ≡ y → ⊥) → ((p ≡ x) × (i ≡ y)) ⊎ ((p ≡ x) × (i ≡ y) → ⊥)
    go (inl a) (inl b) = inl (a, b)
    go (inl a) (inr n) = inr (λ both. n both.1)
    go (inr n) b = inr (λ both. n both.0)

module _ {S P C O : Type 0} (m : Machine S P C O) (limit : ℕ) where
  pub keeps_time : KeepsTime limit (clocked limit m)
  keeps_time = record {
    raises = λ i s input t e.
        let u = timed_is limit (next_clock s.clock input) (m.step i s.state (unstamped input)) t e in
        subst (λ (v : Turn (Timed S) (Stamped P) O). s.clock < v.state.clock) u.1 (next_is_later s.clock input);
    limited = λ i s input t e.
        let u = timed_is limit (next_clock s.clock input) (m.step i s.state (unstamped input)) t e in
        subst (λ (v : Turn (Timed S) (Stamped P) O). v.state.clock ≤ limit) u.1 u.2;
    taken = λ i s p x t e.
        let u = timed_is limit (max s.clock x.stamp + 1) (m.step i s.state (Taken p x.packet)) t e in
        subst (λ (v : Turn (Timed S) (Stamped P) O). x.stamp < v.state.clock) u.1 (past_stamp s.clock x.stamp);
    sent = λ i s input t e y.
        let u = timed_is limit (next_clock s.clock input) (m.step i s.state (unstamped input)) t e in
        subst (λ (v : Turn (Timed S) (Stamped P) O). AllByRecursion (λ (x : Stamped P). x.stamp ≡ v.state.clock) (v.sends y)) u.1 (all_stamped (next_clock s.clock input) (u.0.sends y));
  }

  module _ (w v : TimedWorld S P O) where
    sets_clock : (e : Event C) (h : Happened (clocked limit m) w e v) → (v.node (node_of e)).clock ≡ next_clock (w.node (node_of e)).clock h.input
    sets_clock e h =
        let clock = next_clock (w.node (node_of e)).clock h.input in
        let u = timed_is limit clock (m.step (node_of e) (w.node (node_of e)).state (unstamped h.input)) h.turn h.made in
        ap (λ (s : Timed S). s.clock) ((changes (clocked limit m) w v e h).state) ∙ sym (ap (λ (t : Turn (Timed S) (Stamped P) O). t.state.clock) u.1)

    takes_below : (e : Event C) (h : Happened (clocked limit m) w e v) (x y : ℕ) → Takes e x y
        → (packet : Stamped P) × (w.wire x y ≡ packet ∷ v.wire x y) × (packet.stamp < (v.node y).clock)
    takes_below (Do i c) h x y never = absurd never
    takes_below (Take i p) h x y both =
        let taken = (changes (clocked limit m) w v (Take i p) h).taken p i (refl, refl) in
        let input : h.input ≡ Taken p taken.0 = some_is (sym h.given ∙ ap (first_from p) taken.1) in
        let clock : (v.node i).clock ≡ max (w.node i).clock taken.0.stamp + 1 = sets_clock (Take i p) h ∙ ap (next_clock (w.node i).clock) input in
        let below : taken.0.stamp < (v.node i).clock = subst (λ k. taken.0.stamp < k) (sym clock) (past_stamp (w.node i).clock taken.0.stamp) in (
          taken.0,
          subst (λ z. w.wire x z ≡ taken.0 ∷ v.wire x z) both.1 (subst (λ z. w.wire z i ≡ taken.0 ∷ v.wire z i) both.0 taken.1),
          subst (λ z. taken.0.stamp < (v.node z).clock) both.1 below,
        )

    pub ticks : (e : Event C) (h : Happened (clocked limit m) w e v) → Ticks limit e h.input h.turn w v
    ticks e h =
        let c = changes (clocked limit m) w v e h in
        record {
          clock = sets_clock e h;
          raised = subst (λ (s : Timed S). (w.node (node_of e)).clock < s.clock) (sym c.state) (keeps_time.raises (node_of e) (w.node (node_of e)) h.input h.turn h.made);
          limited = subst (λ (s : Timed S). s.clock ≤ limit) (sym c.state) (keeps_time.limited (node_of e) (w.node (node_of e)) h.input h.turn h.made);
          others = λ j apart. ap (λ (s : Timed S). s.clock) (c.states j apart);
          taken = takes_below e h;
          sent = λ y. subst (λ (s : Timed S). AllByRecursion (λ (x : Stamped P). x.stamp ≡ s.clock) (h.turn.sends y)) (sym c.state)
              (keeps_time.sent (node_of e) (w.node (node_of e)) h.input h.turn h.made y);
        }

    -- no clock falls
    pub no_earlier : (e : Event C) → Happened (clocked limit m) w e v → (i : ℕ) → (w.node i).clock ≤ (v.node i).clock
    no_earlier e h i = go (cases_eq i (node_of e))
      where
        go : (i ≡ node_of e) ⊎ (i ≡ node_of e → ⊥) → (w.node i).clock ≤ (v.node i).clock
        go (inl same) = let later : (w.node (node_of e)).clock < (v.node (node_of e)).clock = (ticks e h).raised in
            subst (λ j. (w.node j).clock ≤ (v.node j).clock) (sym same) (omega arith)
        go (inr apart) = let same : (v.node i).clock ≡ (w.node i).clock = (ticks e h).others i apart in omega arith

    -- stamps up to a clock are stamps up to a later one
    stamps_kept : (x : ℕ) (packets : List (Stamped P)) → (w.node x).clock ≤ (v.node x).clock
        → AllByRecursion (λ (packet : Stamped P). packet.stamp ≤ (w.node x).clock) packets → AllByRecursion (λ (packet : Stamped P). packet.stamp ≤ (v.node x).clock) packets
    stamps_kept x packets later h =
        all_weaker (λ (packet : Stamped P). packet.stamp ≤ (w.node x).clock) (λ (packet : Stamped P). packet.stamp ≤ (v.node x).clock) packets (λ packet low. omega arith) h

    pub timely : (e : Event C) → Happened (clocked limit m) w e v → IsTimely limit w → IsTimely limit v
    timely e h old = record {
      clocks = λ i. clock i (cases_eq i (node_of e));
      stamps = λ x y. stamp x y (cases_eq x (node_of e)) (takes_or_not e x y);
    }
      where
        c : Changes e h.turn w v
        c = changes (clocked limit m) w v e h

        Low : ℕ → Stamped P → Type 0
        Low x packet = packet.stamp ≤ (v.node x).clock

        clock : (i : ℕ) → (i ≡ node_of e) ⊎ (i ≡ node_of e → ⊥) → (v.node i).clock ≤ limit
        clock i (inl same) = subst (λ j. (v.node j).clock ≤ limit) (sym same) ((ticks e h).limited)
        clock i (inr apart) = subst (λ k. k ≤ limit) (sym ((ticks e h).others i apart)) (old.clocks i)

        stamp : (x y : ℕ) → (x ≡ node_of e) ⊎ (x ≡ node_of e → ⊥) → Takes e x y ⊎ (Takes e x y → ⊥) → AllByRecursion (Low x) (v.wire x y)
        stamp x y (inl same) taken = subst (λ z. AllByRecursion (Low z) (v.wire z y)) (sym same)
            (subst (AllByRecursion (Low (node_of e))) (sym (c.sent y))
            (all_append (Low (node_of e)) (w.wire (node_of e) y) (h.turn.sends y)
            (stamps_kept (node_of e) (w.wire (node_of e) y) (no_earlier e h (node_of e)) (old.stamps (node_of e) y))
            (all_weaker (λ (packet : Stamped P). packet.stamp ≡ (v.node (node_of e)).clock) (Low (node_of e)) (h.turn.sends y) (λ packet same. omega arith) ((ticks e h).sent y))))
        stamp x y (inr apart) (inl taken) =
            let first = c.taken x y taken in
            (subst (AllByRecursion (Low x)) first.1 (stamps_kept x (w.wire x y) (no_earlier e h x) (old.stamps x y))).1
        stamp x y (inr apart) (inr untaken) =
            subst (AllByRecursion (Low x)) (sym (c.ways x y apart untaken)) (stamps_kept x (w.wire x y) (no_earlier e h x) (old.stamps x y))

  pub timely_start : IsTimely limit (start_of (clocked limit m))
  timely_start = record {
    clocks = λ i. omega arith;
    stamps = λ x y. all_weaker (λ (packet : Stamped P). packet.stamp ≡ 0) (λ (packet : Stamped P). packet.stamp ≤ 0) (stamped 0 (m.opening x y)) (λ packet same. omega arith) (all_stamped 0 (m.opening x y));
  }

  pub timely_run : (es : List (Event C)) (w v : TimedWorld S P O) → Leads (clocked limit m) w es v → IsTimely limit w → IsTimely limit v
  timely_run es w v l old = kept (clocked limit m) (IsTimely limit) timely es w v l old

  pub later_run : (i : ℕ) (es : List (Event C)) (w v : TimedWorld S P O) → Leads (clocked limit m) w es v → (w.node i).clock ≤ (v.node i).clock
  later_run i [] w v l = subst (λ (u : TimedWorld S P O). (w.node i).clock ≤ (u.node i).clock) l (omega arith)
  later_run i (e ∷ es) w v l =
      let one : (w.node i).clock ≤ (l.0.node i).clock = no_earlier w l.0 e (happened (clocked limit m) w l.0 e l.1) i in
      let rest : (l.0.node i).clock ≤ (v.node i).clock = later_run i es l.0 v l.2 in
      omega arith
