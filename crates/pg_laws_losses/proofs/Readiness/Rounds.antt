-- All ready commands can be tried again, one behind another: each retry leaves one less, and each of them is open.
use Rattle.std.proofs.Common.{◌≡◌, ◌⊎◌, inl, inr, ℕ, zero, suc, ◌+◌, ◌<◌, ◌≤◌, Bool, true, false, not, ◌&&◌, ◌||◌, cond, nat_eq}
use Rattle.std.proofs.Common.{length, List, [], ◌∷◌, ◌++◌, refl, ap, sym, ◌∙◌, arith}
use Rattle.std.specs.List.{IsDistinct}
use Rattle.std.specs.Cmp.{first_so, second_so}
use Rattle.std.proofs.lemmas.Bool.{and_from, cases_lt}
use Rattle.std.proofs.lemmas.Bool.Decides.{Decides-ltb}
use Rattle.pg_term.specs.Same.{same_atom}
use Rattle.pg_laws.specs.PgStep.Machines.Losing.{LosingEvent, Step, all_steps, nobody_gone}
use Rattle.pg_laws.specs.PgStep.Machines.Machine.{Do, Event, Take, start_of}
use Rattle.pg_laws.specs.PgStep.Machines.Places.{is_place}
use Rattle.pg_laws.proofs.PgStep.Machines.Steps.{happened}
use Rattle.pg_laws.specs.PgStep.Attempts.{same_op}
use Rattle.pg_laws.specs.PgStep.Config.{Config, names_of, nodes_at, ports_at}
use Rattle.pg_laws.specs.PgStep.FrameMachine.{losing_frame_machine}
use Rattle.pg_laws.specs.PgStep.LossLaws.{LosingFrameWorld}
use Rattle.pg_laws.specs.PgStep.State.{State, live_nodes}
use Rattle.pg_laws.specs.PgStep.Step.{Action, CLOCK_LIMIT, Issue, Retry}
use Rattle.pg_laws.specs.PgStep.declared.command.OpId.{OpId}
use Rattle.pg_laws.specs.Counted.{how_many, is_open, open_at, open_in, open_number}
use Rattle.pg_laws.proofs.locks.Stages.{commands}
use Rattle.pg_laws.proofs.places.Shown.{IsHere}
use Rattle.pg_laws.proofs.quiet.Sums.{find_place, total, total_le, total_lower, total_term}
use Rattle.pg_laws.proofs.references.Keys.{numbers}
use Rattle.pg_laws_losses.specs.Quiet.{live_open}
use Rattle.pg_laws_losses.specs.Reached.{LosingReaches}
use Rattle.pg_laws_losses.proofs.Bridge.{not_true}
use Rattle.pg_laws_losses.proofs.Counting.{all_count}
use Rattle.pg_laws_losses.proofs.Remains.Passing.{Leads, Leaves, leads_more}
use Rattle.pg_laws_losses.specs.Readiness.Ready.{EachIsRetried, AllHaveRoom, LossesSeen, NoneReadyLive, OnlyReady, OnlyRetries}
use Rattle.pg_laws_losses.specs.Readiness.Ready.{is_ready_at, is_retried}
use Rattle.pg_laws_losses.proofs.Readiness.Going.{can_retry, ready_waits}
use Rattle.pg_laws_losses.proofs.Readiness.Resting.{more_steps, on_time, room_left, went}
use Rattle.pg_laws_losses.proofs.Readiness.Retried.{fewer_ready, gone_later, retried_others, retried_unready, seen_later, was_ready}

-- ---- counting

abbrev op_of : ℕ → ℕ → OpId
op_of port k = record { port = port; number = suc k }

at_most : (a b : Bool) → (a ≡ true → b ≡ true) → cond {A = ℕ} a 1 0 ≤ cond {A = ℕ} b 1 0
at_most false b since = omega arith
at_most true true since = omega arith
at_most true false since = absurd (cc (since refl))

many_total : (test : ℕ → Bool) (n : ℕ) → how_many test n ≡ total n (λ k. cond (test (suc k)) 1 0)
unfolding total
many_total test zero = refl
many_total test (suc n) = ap (λ k. cond (test (suc n)) 1 0 + k) (many_total test n)

open_total : (ports : ℕ) (s : State) → open_in ports s ≡ total ports (λ port. open_at port s)
unfolding total
open_total zero s = refl
open_total (suc port) s = ap (λ k. open_at port s + k) (open_total port s)

number_is : (number : ℕ) → 1 ≤ number → (k : ℕ) × (number ≡ suc k)
number_is zero some = absurd (omega (arith, some))
number_is (suc k) some = (k, refl)

one_retry : (ts : List (Event Action)) (i : ℕ) (op : OpId) → OnlyRetries ts → OnlyRetries (ts ++ Do i (Retry op) ∷ [])
one_retry [] i op only = tt
one_retry (Take j p ∷ ts) i op only = absurd only
one_retry (Do j (Issue port c) ∷ ts) i op only = absurd only
one_retry (Do j (Retry other) ∷ ts) i op only = one_retry ts i op only

or_assoc : (a b c : Bool) → ((a || b) || c) ≡ (a || (b || c))
or_assoc true b c = refl
or_assoc false b c = refl

or_false : (a : Bool) → (a || false) ≡ a
or_false true = refl
or_false false = refl

-- one retry more
retried_more : (ts : List (Event Action)) (i j : ℕ) (op other : OpId)
    → is_retried i op (ts ++ Do j (Retry other) ∷ []) ≡ (is_retried i op ts || (nat_eq j i && same_op other op))
retried_more [] i j op other = or_false (nat_eq j i && same_op other op)
retried_more (Take k p ∷ ts) i j op other = retried_more ts i j op other
retried_more (Do k (Issue port c) ∷ ts) i j op other = retried_more ts i j op other
retried_more (Do k (Retry o) ∷ ts) i j op other =
    ap (λ b. (nat_eq k i && same_op o op) || b) (retried_more ts i j op other)
    ∙ sym (or_assoc (nat_eq k i && same_op o op) (is_retried i op ts) (nat_eq j i && same_op other op))

neither : (a b : Bool) → (a || b) ≡ false → (a ≡ false) × (b ≡ false)
neither false false e = (refl, refl)
neither false true e = absurd (cc e)
neither true b e = absurd (cc e)

module _ (config : Config) (apart : IsDistinct same_atom (names_of config)) (es : List (LosingEvent Action))
    (w : LosingFrameWorld) (l : LosingReaches config es w) (seen : LossesSeen config w) where
  abbrev is_left : LosingFrameWorld → ℕ → OpId → Bool
  is_left u i op = not (w.gone i) && is_ready_at config u i op

  abbrev one : LosingFrameWorld → ℕ → ℕ → ℕ → ℕ
  one u i port k = cond (is_left u i (op_of port k)) 1 0

  abbrev at_port : LosingFrameWorld → ℕ → ℕ → ℕ
  at_port u i port = total ((w.world.node i).state.counts port) (one u i port)

  abbrev at_node : LosingFrameWorld → ℕ → ℕ
  at_node u i = total (ports_at config i) (at_port u i)

  abbrev ready_many : LosingFrameWorld → ℕ
  ready_many u = total (length config) (at_node u)

  -- where a ready command counts
  record Spot (i : ℕ) (op : OpId) : Type 0 where
    port : op.port < ports_at config i
    index : ℕ
    within : index < (w.world.node i).state.counts op.port
    is : op_of op.port index ≡ op

  spot : (i : ℕ) (op : OpId) → is_ready_at config w i op ≡ true → Spot i op
  spot i op ready =
      let s : State = (w.world.node i).state in
      let opened : is_open (s.stages op) ≡ true = (ready_waits (live_nodes (nodes_at config i) s) (s.stages op) s ready).1 in
      let all = (all_count config es w i l).counts in
      let there = all.within op opened in
      let number = number_is op.number there.0 in
      let low : op.number ≤ s.counts op.port = few (cases_lt (s.counts op.port) op.number) opened in record {
        port = there.1;
        index = number.0;
        within = omega (arith, number.1, low);
        is = λ k. record { port = op.port; number = sym number.1 k };
      }
    where
      few : (((w.world.node i).state.counts op.port) < op.number) ⊎ (op.number ≤ (w.world.node i).state.counts op.port)
          → is_open ((w.world.node i).state.stages op) ≡ true → op.number ≤ (w.world.node i).state.counts op.port
      few (inr low) opened = low
      few (inl above) opened =
          absurd (cc (sym opened ∙ ap is_open ((all_count config es w i l).counts.fitting.closed op above)))

  -- no more are ready than are open
  open_ready : (i : ℕ) (op : OpId) (b : Bool) → (b && is_ready_at config w i op) ≡ true
      → is_open ((w.world.node i).state.stages op) ≡ true
  open_ready i op false e = absurd (cc e)
  open_ready i op true e =
      (ready_waits (live_nodes (nodes_at config i) (w.world.node i).state) ((w.world.node i).state.stages op)
      (w.world.node i).state e).1

  few_at : (i : ℕ) → at_node w i ≤ (w.world.node i).state.opened
  few_at i =
      let s : State = (w.world.node i).state in
      let all : s.opened ≡ open_in (ports_at config i) s = (all_count config es w i l).counts.all in
      let sum : open_in (ports_at config i) s ≡ total (ports_at config i) (λ port. open_at port s) =
      open_total (ports_at config i) s in
      let less : total (ports_at config i) (at_port w i) ≤ total (ports_at config i) (λ port. open_at port s) =
      total_le (ports_at config i) (at_port w i) (λ port. open_at port s) (λ port _. row port) in
      omega (arith, all, sum, less)
    where
      row : (port : ℕ) → at_port w i port ≤ open_at port (w.world.node i).state
      row port =
          let s : State = (w.world.node i).state in
          let same : open_at port s ≡ total (s.counts port) (λ k. cond (open_number port s (suc k)) 1 0) =
          many_total (open_number port s) (s.counts port) in
          let less : total (s.counts port) (one w i port) ≤ total (s.counts port)
          (λ k. cond (open_number port s (suc k)) 1 0) =
          total_le (s.counts port) (one w i port) (λ k. cond (open_number port s (suc k)) 1 0)
          (λ k _. at_most (is_left w i (op_of port k)) (open_number port s (suc k))
          (open_ready i (op_of port k) (not (w.gone i)))) in
          omega (arith, same, less)

  few_ready : ready_many w ≤ live_open config w
  few_ready = total_le (length config) (at_node w) (λ i. (w.world.node i).state.opened) (λ i _. few_at i)

  record Found (u : LosingFrameWorld) : Type 0 where
    node : ℕ
    op : OpId
    here : IsHere config node
    lives : w.gone node ≡ false
    ready : is_ready_at config u node op ≡ true
    was : is_ready_at config w node op ≡ true

  -- ---- the next that is ready

  module _ (u : LosingFrameWorld)
      (since : (i : ℕ) (op : OpId) → is_ready_at config u i op ≡ true → is_ready_at config w i op ≡ true) where
    abbrev NoneAt : ℕ → ℕ → ℕ → Type 0
    NoneAt i port k = is_ready_at config u i (op_of port k) ≡ false

    abbrev NoneOf : ℕ → Type 0
    NoneOf i = (port : ℕ) → port < ports_at config i → (k : ℕ) → k < (w.world.node i).state.counts port
        → NoneAt i port k

    module _ (i : ℕ) (here : IsHere config i) (lives : w.gone i ≡ false) where
      at_op : (port k : ℕ) (b : Bool) → is_ready_at config u i (op_of port k) ≡ b → Found u ⊎ NoneAt i port k
      at_op port k true is =
          inl (record {
            node = i;
            op = op_of port k;
            here = here;
            lives = lives;
            ready = is;
            was =
                since i (op_of port k) is;
          })
      at_op port k false is = inr is

      of_port : (port : ℕ) → Found u ⊎ ((k : ℕ) → k < (w.world.node i).state.counts port → NoneAt i port k)
      of_port port = go
          (find_place ((w.world.node i).state.counts port) (λ k. Found u) (NoneAt i port)
          (λ k. at_op port k (is_ready_at config u i (op_of port k)) refl))
        where
          go : ((k : ℕ) × Found u) ⊎ ((k : ℕ) → k < (w.world.node i).state.counts port → NoneAt i port k) → Found u
              ⊎ ((k : ℕ) → k < (w.world.node i).state.counts port → NoneAt i port k)
          go (inl found) = inl found.1
          go (inr none) = inr none

      of_node : Found u ⊎ NoneOf i
      of_node = go (find_place (ports_at config i) (λ port. Found u)
          (λ port. (k : ℕ) → k < (w.world.node i).state.counts port → NoneAt i port k) of_port)
        where
          go : ((port : ℕ) × Found u) ⊎ NoneOf i → Found u ⊎ NoneOf i
          go (inl found) = inl found.1
          go (inr none) = inr none

    abbrev NoneHere : ℕ → Type 0
    NoneHere i = IsHere config i → w.gone i ≡ false → NoneOf i

    at_place : (i : ℕ) (here gone : Bool) → (IsHere config i → here ≡ true)
        → (here ≡ true → IsHere config i) → w.gone i ≡ gone → Found u ⊎ NoneHere i
    at_place i false gone there _ _ = inr (λ here. absurd (cc (there here)))
    at_place i true true there _ lost = inr (λ _ lives. absurd (cc (sym lives ∙ lost)))
    at_place i true false there is lives = go (of_node i (is refl) lives)
      where
        go : Found u ⊎ NoneOf i → Found u ⊎ NoneHere i
        go (inl found) = inl found
        go (inr none) = inr (λ _ _. none)

    next_ready : Found u
        ⊎ ((i : ℕ) (op : OpId) → IsHere config i → w.gone i ≡ false → is_ready_at config u i op ≡ false)
    next_ready = go (find_place (length config) (λ i. Found u) NoneHere
        (λ i. at_place i (is_place (length config) i) (w.gone i) (λ here. here) (λ here. here) refl))
      where
        go : ((i : ℕ) × Found u) ⊎ ((i : ℕ) → i < length config → NoneHere i) → Found u
            ⊎ ((i : ℕ) (op : OpId) → IsHere config i → w.gone i ≡ false → is_ready_at config u i op ≡ false)
        go (inl found) = inl found.1
        go (inr none) = inr (λ i op here lives. not_true (is_ready_at config u i op) (λ ready.
            let at : Spot i op = spot i op (since i op ready) in
            let not_here = none i
            ((Decides-ltb i (length config)).0 here) here lives op.port at.port at.index at.within in
            absurd (cc (sym ready ∙ (ap (λ o. is_ready_at config u i o) (sym at.is) ∙ not_here)))))

  -- ---- one retry

  counts_one : (u : LosingFrameWorld) (found : Found u) → 1 ≤ ready_many u
  counts_one u found =
      let i = found.node in
      let at : Spot found.node found.op = spot found.node found.op found.was in
      let is : is_left u i (op_of found.op.port at.index) ≡ true = ap (λ o. is_left u i o) at.is
      ∙ (ap (λ b. not b && is_ready_at config u i found.op) found.lives ∙ found.ready) in
      let here : one u i found.op.port at.index ≡ 1 = ap (λ b. cond b 1 0) is in
      let port : one u i found.op.port at.index ≤ at_port u i found.op.port =
      total_term ((w.world.node i).state.counts found.op.port) at.index (one u i found.op.port) at.within in
      let node : at_port u i found.op.port ≤ at_node u i =
      total_term (ports_at config i) found.op.port (at_port u i) at.port in
      let all : at_node u i ≤ ready_many u =
      total_term (length config) i (at_node u) ((Decides-ltb i (length config)).0 found.here) in
      omega (arith, here, port, node, all)

  module _ (u v : LosingFrameWorld) (found : Found u)
      (since : (i : ℕ) (op : OpId) → is_ready_at config v i op ≡ true → is_ready_at config u i op ≡ true)
      (over : is_ready_at config v found.node found.op ≡ false) where
    at : Spot found.node found.op
    at = spot found.node found.op found.was

    still : (i : ℕ) (op : OpId) (b : Bool) → (b && is_ready_at config v i op) ≡ true
        → (b && is_ready_at config u i op) ≡ true
    still i op false e = absurd (cc e)
    still i op true e = since i op e

    each : (i port k : ℕ) → one v i port k ≤ one u i port k
    each i port k = at_most (is_left v i (op_of port k)) (is_left u i (op_of port k))
        (still i (op_of port k) (not (w.gone i)))

    each_port : (i port : ℕ) → at_port v i port ≤ at_port u i port
    each_port i port =
        total_le ((w.world.node i).state.counts port) (one v i port) (one u i port) (λ k _. each i port k)

    each_node : (i : ℕ) → at_node v i ≤ at_node u i
    each_node i = total_le (ports_at config i) (at_port v i) (at_port u i) (λ port _. each_port i port)

    lower : one v found.node found.op.port at.index < one u found.node found.op.port at.index
    lower =
        let is : is_left u found.node (op_of found.op.port at.index) ≡ true =
        ap (λ o. is_left u found.node o) at.is
        ∙ (ap (λ b. not b && is_ready_at config u found.node found.op) found.lives ∙ found.ready) in
        let no_more : is_left v found.node (op_of found.op.port at.index) ≡ false =
        ap (λ o. is_left v found.node o) at.is
        ∙ (ap (λ b. not b && is_ready_at config v found.node found.op) found.lives ∙ over) in
        let some : one u found.node found.op.port at.index ≡ 1 = ap (λ b. cond b 1 0) is in
        let none : one v found.node found.op.port at.index ≡ 0 = ap (λ b. cond b 1 0) no_more in
        omega (arith, some, none)

    fewer_many : ready_many v < ready_many u
    fewer_many = total_lower (length config) found.node (at_node v) (at_node u)
        ((Decides-ltb found.node (length config)).0 found.here)
        (total_lower (ports_at config found.node) found.op.port (at_port v found.node) (at_port u found.node) at.port
        (total_lower ((w.world.node found.node).state.counts found.op.port) at.index (one v found.node found.op.port)
        (one u found.node found.op.port) at.within lower (λ k _. each found.node found.op.port k))
        (λ port _. each_port found.node port)) (λ i _. each_node i)

  -- ---- all of them

  pub record RetriedAll (room : ℕ) (Q : LosingFrameWorld → Type 0) : Type 0 where
    pub retries : List (Event Action)
    pub world : LosingFrameWorld
    pub kept : Q world
    pub only : OnlyRetries retries
    pub leads : Leads config w (all_steps retries) world
    -- those that were ready, and no others
    pub each : EachIsRetried config w retries
    pub were : OnlyReady config w retries
    pub none : NoneReadyLive config world
    pub left : AllHaveRoom config world room

  -- and what each retry of a ready command keeps is kept
  module _ (room : ℕ) (Q : LosingFrameWorld → Type 0)
      (keeps : (done : List (LosingEvent Action)) (u v : LosingFrameWorld) (i : ℕ) (op : OpId)
      → LosingReaches config done u → IsHere config i → u.gone i ≡ false → is_ready_at config u i op ≡ true
      → Leaves config u (Step (Do i (Retry op))) v → Q u → Q v) where
    record Sofar (ts : List (Event Action)) (done : List (LosingEvent Action)) (u : LosingFrameWorld) : Type 0 where
      kept : Q u
      still : (i : ℕ) (op : OpId) → is_ready_at config w i op ≡ true → is_retried i op ts ≡ false
          → is_ready_at config u i op ≡ true
      were : OnlyReady config w ts
      only : OnlyRetries ts
      leads : Leads config w (all_steps ts) u
      reached : LosingReaches config done u
      seen_there : LossesSeen config u

    tried_if : (b : Bool) → (b ≡ false → b ≡ true) → b ≡ true
    tried_if true never = refl
    tried_if false never = never refl

    -- one that is tried now, or was before
    was_one : (i : ℕ) (op : OpId) (u : LosingFrameWorld) (b c : Bool) → c ≡ b
        → (c ≡ true → is_ready_at config w i op ≡ true) → (found : Found u)
        → (b || (nat_eq found.node i && same_op found.op op)) ≡ true → is_ready_at config w i op ≡ true
    was_one i op u true c is old found tried = old is
    was_one i op u false c is old found tried =
        let place : found.node ≡ i =
        numbers.is found.node i (first_so (nat_eq found.node i) (same_op found.op op) tried) in
        let same : found.op ≡ op =
        commands.is found.op op (second_so (nat_eq found.node i) (same_op found.op op) tried) in
        ap (λ k. is_ready_at config w k op) (sym place)
        ∙ (ap (λ o. is_ready_at config w found.node o) (sym same) ∙ found.was)

    since_w : (ts : List (Event Action)) (done : List (LosingEvent Action)) (u : LosingFrameWorld) → Sofar ts done u
        → (i : ℕ) (op : OpId) → is_ready_at config u i op ≡ true → is_ready_at config w i op ≡ true
    since_w ts done u so i op ready = (fewer_ready config apart i op ts es w u l seen so.leads ready).0

    gone_as : (ts : List (Event Action)) (done : List (LosingEvent Action)) (u : LosingFrameWorld) → Sofar ts done u
        → u.gone ≡ w.gone
    gone_as ts done u so = gone_later config apart ts w u so.leads

    retried_within : (k : ℕ) (ts : List (Event Action)) (done : List (LosingEvent Action)) (u : LosingFrameWorld)
        → (so : Sofar ts done u) → ready_many u ≤ k → AllHaveRoom config u (k + room)
        → Found u ⊎ ((i : ℕ) (op : OpId) → IsHere config i → w.gone i ≡ false → is_ready_at config u i op ≡ false)
        → RetriedAll room Q
    retried_within k ts done u so few free (inr none) = record {
      retries = ts;
      world = u;
      kept = so.kept;
      only = so.only;
      leads = so.leads;
      each = λ i op here lives ready. tried_if (is_retried i op ts) (λ untried.
          absurd (cc (sym (so.still i op ready untried) ∙ none i op here lives)));
      were = so.were;
      none = λ i op here lives. none i op here (ap (λ (f : ℕ → Bool). f i) (sym (gone_as ts done u so)) ∙ lives);
      left = λ i here. let all : (u.world.node i).clock + (k + room) ≤ CLOCK_LIMIT = free i here in omega (arith, all);
    }
    retried_within zero ts done u so few free (inl found) = let some : 1 ≤ ready_many u =
        counts_one u found in absurd (omega (arith, some, few))
    retried_within (suc k) ts done u so few free (inl found) =
        let lives : u.gone found.node ≡ false = ap (λ (f : ℕ → Bool). f found.node) (gone_as ts done u so)
        ∙ found.lives in
        let free_here : (u.world.node found.node).clock + (suc k + room) ≤ CLOCK_LIMIT = free found.node found.here in
        let one_on = can_retry config done u found.node found.op so.reached found.here lives
        (omega (arith, free_here)) found.ready in
        let v : LosingFrameWorld = one_on.0 in
        let d : Event Action = Do found.node (Retry found.op) in
        let before = was_ready config apart done u v so.reached so.seen_there d one_on.1 in
        let less : ready_many v < ready_many u =
        fewer_many u v found before (retried_unready config done u v so.reached found.node found.op one_on.1) in
        let later : Sofar (ts ++ d ∷ []) (done ++ Step d ∷ []) v = record {
          kept = keeps done u v found.node found.op so.reached found.here lives found.ready one_on.1 so.kept;
          still = λ i op ready untried.
              let both = neither (is_retried i op ts) (nat_eq found.node i && same_op found.op op)
              (sym (retried_more ts i found.node op found.op) ∙ untried) in
              retried_others config done u v so.reached found.node found.op one_on.1 i op
              (λ place same. absurd (cc (sym both.1 ∙ and_from (nat_eq found.node i) (same_op found.op op)
              (ap (nat_eq found.node) place ∙ numbers.refl found.node)
              (ap (same_op found.op) (sym same) ∙ commands.refl found.op))))
              ∙ so.still i op ready both.0;
          were = λ i op tried. was_one i op u (is_retried i op ts) (is_retried i op ts) refl (so.were i op) found
              (sym (retried_more ts i found.node op found.op) ∙ tried);
          only = one_retry ts found.node found.op so.only;
          leads = more_steps config apart ts w u v d so.leads one_on.1;
          reached = leads_more config done (nobody_gone (start_of (losing_frame_machine config))) u v
              (Step d) so.reached one_on.1;
          seen_there = seen_later config apart done u v so.reached so.seen_there d one_on.1;
        } in
        retried_within k (ts ++ d ∷ []) (done ++ Step d ∷ []) v later (omega (arith, less, few))
        (room_left config u v d
        (happened (losing_frame_machine config) u.world v.world d (went config u v d one_on.1).0) (k + room)
        (on_time config done u so.reached)
        (λ i here. let all : (u.world.node i).clock + (suc k + room) ≤ CLOCK_LIMIT = free i here in omega (arith, all)))
        (next_ready v (since_w (ts ++ d ∷ []) (done ++ Step d ∷ []) v later))

    pub retried_all : AllHaveRoom config w (live_open config w + room) → Q w → RetriedAll room Q
    retried_all free first =
        let now : Sofar [] es w = record { kept = first; still = λ i op ready _. ready; were = λ i op tried. absurd (cc tried); only = tt; leads = refl; reached = l; seen_there = seen } in
        retried_within (live_open config w) [] es w now few_ready free (next_ready w (since_w [] es w now))
