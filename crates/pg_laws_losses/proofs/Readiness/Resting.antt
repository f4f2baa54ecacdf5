-- Where no clock is full, takes end where nothing is on the way to a node that is not lost.
use Rattle.std.proofs.Common.{◌≡◌, ◌≢◌, ◌⊎◌, inl, inr, ℕ, zero, suc, ◌+◌, ◌<◌, ◌≤◌, Bool, true, false, not}
use Rattle.std.proofs.Common.{◌&&◌, cond, max, nat_le}
use Rattle.std.proofs.Common.{length, take, List, [], ◌∷◌, ◌++◌, Option, Some, None, refl, ap, sym, ◌∙◌, subst, arith}
use Rattle.std.specs.Prelude.{option_map}
use Rattle.std.specs.List.{AllByRecursion, IsDistinct}
use Rattle.std.specs.Option.{option_map_or}
use Rattle.std.proofs.lemmas.Bool.{cases_eq, le-leb}
use Rattle.std.proofs.lemmas.Bool.Decides.{Decides-ltb}
use Rattle.std.proofs.lemmas.List.{length-append}
use Rattle.pg_term.specs.Same.{same_atom}
use Rattle.pg_laws.specs.PgMessageTypes.declared.message.Message.{Message}
use Rattle.pg_laws.specs.PgStep.Machines.Clocked.{Stamped, TimedWorld, clock_allows, next_clock, packets_of, plain}
use Rattle.pg_laws.specs.PgStep.Machines.Happened.{Happened}
use Rattle.pg_laws.specs.PgStep.Machines.Losing.{LosingEvent, Lose, Noticed, Step, all_steps, can_keep, losing_happens}
use Rattle.pg_laws.specs.PgStep.Machines.Losing.{nobody_gone, stopped}
use Rattle.pg_laws.specs.PgStep.Machines.Machine.{Do, Event, Input, Own, Take, Taken, Turn, first_from, happens, node_of}
use Rattle.pg_laws.specs.PgStep.Machines.Machine.{perform, start_of, without_input}
use Rattle.pg_laws.specs.PgStep.Machines.Places.{is_pair, is_place, set_at}
use Rattle.pg_laws.specs.PgStep.Machines.Timely.{IsTimely}
use Rattle.pg_laws.proofs.PgStep.Machines.Options.{cond_is_some, map_is_some, some_is}
use Rattle.pg_laws.proofs.PgStep.Machines.Places.{by_place}
use Rattle.pg_laws.proofs.PgStep.Machines.Plain.{plain_happens}
use Rattle.pg_laws.proofs.PgStep.Machines.Steps.{happened, happens_so, pair_apart}
use Rattle.pg_laws.proofs.PgStep.Machines.Timing.{ticks, timely, timely_start}
use Rattle.pg_laws.specs.PgStep.Config.{Config, name_at, names_of}
use Rattle.pg_laws.specs.PgStep.FrameMachine.{last_notice, losing_frame_machine, losing_machine_of}
use Rattle.pg_laws.specs.PgStep.LossLaws.{LosingFrameWorld}
use Rattle.pg_laws.specs.PgStep.State.{State}
use Rattle.pg_laws.specs.PgStep.Step.{Action, CLOCK_LIMIT}
use Rattle.pg_laws.specs.PgStep.Turns.{Report}
use Rattle.pg_laws.specs.Quiet.{OnlyTakes}
use Rattle.pg_laws.proofs.ends.Apart.{pair_first, pair_second, pair_swapped}
use Rattle.pg_laws.proofs.places.Shown.{IsHere}
use Rattle.pg_laws.proofs.quiet.Sums.{find_place}
use Rattle.pg_laws.proofs.steps.Ways.{packet_there, pair_there}
use Rattle.pg_laws_losses.specs.Quiet.{IsQuietLive, most_takes_live}
use Rattle.pg_laws_losses.specs.Reached.{LosingReaches}
use Rattle.pg_laws_losses.proofs.Survives.{packets_heard}
use Rattle.pg_laws_losses.proofs.Takes.{takes_end}
use Rattle.pg_laws_losses.proofs.Remains.Passing.{Leads, Leaves, leads_more}
use Rattle.pg_laws_losses.specs.Readiness.Ready.{AllHaveRoom}
use Rattle.pg_laws_losses.proofs.Readiness.Silence.{all_silent}

abbrev Notice : Type 0
Notice = Stamped (Noticed Message)

-- ---- an event

-- what a step of a node and a loss lead to
pub went : (config : Config) (w v : LosingFrameWorld) (d : Event Action) → Leaves config w (Step d) v
    → (happens (losing_frame_machine config) w.world d ≡ Some v.world) × (v.gone ≡ w.gone)
unfolding losing_happens
went config w v d h = go (w.gone (node_of d)) h
  where
    go : (b : Bool) → cond b None
        (option_map (λ u. record { world = u; gone = w.gone })
        (happens (losing_frame_machine config) w.world d)) ≡ Some v
        → (happens (losing_frame_machine config) w.world d ≡ Some v.world) × (v.gone ≡ w.gone)
    go true e = absurd (cc)
    go false e =
        let got = map_is_some {B = LosingFrameWorld} (λ u. record { world = u; gone = w.gone })
        (happens (losing_frame_machine config) w.world d) v e in
        (got.1 ∙ ap (λ (u : LosingFrameWorld). Some u.world) got.2, ap (λ (u : LosingFrameWorld). u.gone) (sym got.2))

cut : (config : Config) (w v : LosingFrameWorld) (i : ℕ) (keep : ℕ → ℕ) → Leaves config w (Lose i keep) v
    → v.world ≡ stopped (length config) last_notice w.world i keep
unfolding losing_happens
cut config w v i keep h =
    let after : LosingFrameWorld =
    record { world = stopped (length config) last_notice w.world i keep; gone = set_at w.gone i true } in
    let got = cond_is_some (is_place (length config) i && (not (w.gone i) && can_keep (length config) w.world i keep))
    (Some after) v h in
    ap (λ (u : LosingFrameWorld). u.world) (sym (some_is got.1))

-- a take that happens to a node that is not lost
happens_lossy : (config : Config) (w : LosingFrameWorld) (d : Event Action)
    (u : TimedWorld State (Noticed Message) Report) → w.gone (node_of d) ≡ false
    → happens (losing_frame_machine config) w.world d ≡ Some u
    → Leaves config w (Step d) (record { world = u; gone = w.gone })
unfolding losing_happens
happens_lossy config w d u alive e =
    ap (λ b. cond b None
    (option_map (λ x. record { world = x; gone = w.gone }) (happens (losing_frame_machine config) w.world d))) alive
    ∙ ap (option_map (λ x. record { world = x; gone = w.gone })) e

-- ---- clocks

abbrev OnTime : LosingFrameWorld → Type 0
OnTime w = IsTimely CLOCK_LIMIT w.world

some_kept : (Q : Notice → Type 0) (k : ℕ) (xs : List Notice) → AllByRecursion Q xs → AllByRecursion Q (take k xs)
some_kept Q zero xs all = tt
some_kept Q (suc k) [] all = tt
some_kept Q (suc k) (x ∷ xs) all = (all.0, some_kept Q k xs all.1)

one_behind : (Q : Notice → Type 0) (xs : List Notice) (x : Notice) → AllByRecursion Q xs → Q x
    → AllByRecursion Q (xs ++ x ∷ [])
one_behind Q [] x all h = (h, tt)
one_behind Q (y ∷ ys) x all h = (all.0, one_behind Q ys x all.1 h)

stop_on_time : (config : Config) (w : TimedWorld State (Noticed Message) Report) (i : ℕ) (keep : ℕ → ℕ)
    → IsTimely CLOCK_LIMIT w → IsTimely CLOCK_LIMIT (stopped (length config) last_notice w i keep)
stop_on_time config w i keep old = record {
  clocks = old.clocks;
  stamps = λ x y. by_place {A = ℕ → List Notice} w.wire i
      (λ z. cond (is_pair (length config) i z) (take (keep z) (w.wire i z) ++ last_notice (w.node i) ∷ []) (w.wire i z))
      (λ (row : ℕ → List Notice). AllByRecursion (λ (packet : Notice). packet.stamp ≤ (w.node x).clock) (row y)) x
      (λ own. subst (λ z. AllByRecursion (λ (packet : Notice). packet.stamp ≤ (w.node z).clock)
      (cond (is_pair (length config) i y) (take (keep y) (w.wire i y) ++ last_notice (w.node i) ∷ []) (w.wire i y)))
      (sym own) (row y (is_pair (length config) i y)))
      (λ other. old.stamps x y);
}
  where
    row : (y : ℕ) (b : Bool)
        → AllByRecursion (λ (packet : Notice). packet.stamp ≤ (w.node i).clock)
        (cond b (take (keep y) (w.wire i y) ++ last_notice (w.node i) ∷ []) (w.wire i y))
    row y false = old.stamps i y
    row y true = one_behind (λ (packet : Notice). packet.stamp ≤ (w.node i).clock) (take (keep y) (w.wire i y))
        (last_notice (w.node i))
        (some_kept (λ (packet : Notice). packet.stamp ≤ (w.node i).clock) (keep y) (w.wire i y) (old.stamps i y))
        (omega arith)

event_on_time : (config : Config) (w v : LosingFrameWorld) (e : LosingEvent Action) → Leaves config w e v → OnTime w
    → OnTime v
event_on_time config w v (Step d) h old =
    timely (losing_machine_of config) CLOCK_LIMIT w.world v.world d
    (happened (losing_frame_machine config) w.world v.world d (went config w v d h).0) old
event_on_time config w v (Lose i keep) h old =
    subst (IsTimely CLOCK_LIMIT) (sym (cut config w v i keep h)) (stop_on_time config w.world i keep old)

run_on_time : (config : Config) (es : List (LosingEvent Action)) (w v : LosingFrameWorld) → Leads config w es v
    → OnTime w → OnTime v
run_on_time config [] w v l old = subst OnTime l old
run_on_time config (e ∷ es) w v l old = run_on_time config es l.0 v l.2 (event_on_time config w l.0 e l.1 old)

pub on_time : (config : Config) (es : List (LosingEvent Action)) (w : LosingFrameWorld) → LosingReaches config es w
    → OnTime w
on_time config es w l =
    run_on_time config es (nobody_gone (start_of (losing_frame_machine config))) w l
    (timely_start (losing_machine_of config) CLOCK_LIMIT)

-- an event takes one from the room
module _ (config : Config) (w v : LosingFrameWorld) (d : Event Action)
    (h : Happened (losing_frame_machine config) w.world d v.world) (k : ℕ) (times : OnTime w)
    (room : AllHaveRoom config w (suc k)) where
  next_within : IsHere config (node_of d) → (input : Input (Stamped (Noticed Message)) Action) → h.input ≡ input
      → next_clock (w.world.node (node_of d)).clock input + k ≤ CLOCK_LIMIT
  next_within here (Own action) is = let own : (w.world.node (node_of d)).clock + suc k ≤ CLOCK_LIMIT =
      room (node_of d) here in omega (arith, own)
  next_within here (Taken p x) is =
      let first = packet_there (losing_frame_machine config) w.world v.world d h p x is in
      let there = pair_second (length config) (node_of d) p
      (pair_there (losing_frame_machine config) w.world v.world d h p x is) in
      let stamp : x.stamp ≤ (w.world.node p).clock =
      (subst (AllByRecursion (λ (packet : Notice). packet.stamp ≤ (w.world.node p).clock)) first.1
      (times.stamps p (node_of d))).0 in
      let own : (w.world.node (node_of d)).clock + suc k ≤ CLOCK_LIMIT = room (node_of d) here in
      let peer : (w.world.node p).clock + suc k ≤ CLOCK_LIMIT = room p there in
      omega (arith, stamp, own, peer)

  pub room_left : AllHaveRoom config v k
  room_left i here = go (cases_eq i (node_of d))
    where
      go : (i ≡ node_of d) ⊎ (i ≡ node_of d → ⊥) → (v.world.node i).clock + k ≤ CLOCK_LIMIT
      go (inl own) =
          let clock : (v.world.node (node_of d)).clock ≡ next_clock (w.world.node (node_of d)).clock h.input =
          (ticks (losing_machine_of config) CLOCK_LIMIT w.world v.world d h).clock in
          let within : next_clock (w.world.node (node_of d)).clock h.input + k ≤ CLOCK_LIMIT =
          next_within (subst (IsHere config) own here) h.input refl in
          subst (λ j. (v.world.node j).clock + k ≤ CLOCK_LIMIT) (sym own)
          (subst (λ n. n + k ≤ CLOCK_LIMIT) (sym clock) within)
      go (inr other) =
          let same : (v.world.node i).clock ≡ (w.world.node i).clock =
          (ticks (losing_machine_of config) CLOCK_LIMIT w.world v.world d h).others i other in
          let before : (w.world.node i).clock + suc k ≤ CLOCK_LIMIT = room i here in
          omega (arith, same, before)

-- ---- takes

some_turn : (o : Option (Turn State (Noticed Message) Report)) → o ≢ None → (turn : Turn State (Noticed Message) Report)
    × (o ≡ Some turn)
some_turn None some = absurd (some refl)
some_turn (Some turn) some = (turn, refl)

module _ (config : Config) (apart : IsDistinct same_atom (names_of config)) where
  -- where the clocks of the two have room
  module _ (es : List (LosingEvent Action)) (w : LosingFrameWorld) (l : LosingReaches config es w)
      (x y : ℕ) (own : (w.world.node y).clock + 1 ≤ CLOCK_LIMIT) (peer : (w.world.node x).clock + 1 ≤ CLOCK_LIMIT)
      (packet : Notice) (rest : List Notice) (pair : is_pair (length config) x y ≡ true) (lives : w.gone y ≡ false)
      (is : w.world.wire x y ≡ packet ∷ rest) where
    swapped : is_pair (length config) y x ≡ true
    swapped = pair_swapped (length config) x y pair

    here : IsHere config y
    here = pair_second (length config) x y pair

    there : IsHere config x
    there = pair_first (length config) x y pair

    -- its sender is not seen lost
    unseen : (b : Bool) → (w.world.node y).state.lost (name_at config x) ≡ b
        → (w.world.node y).state.lost (name_at config x) ≡ false
    unseen false known = known
    unseen true known =
        absurd (cc (sym (all_silent config apart es w l x y there here (pair_apart (length config) x y pair) known)
        ∙ ap packets_of is))

    made : (turn : Turn State (Noticed Message) Report)
        × ((losing_machine_of config).step y (w.world.node y).state (Taken x packet.packet) ≡ Some turn)
    made = some_turn ((losing_machine_of config).step y (w.world.node y).state (Taken x packet.packet))
        (packets_heard config apart es w l y x packet.packet (packets_of rest) swapped lives
        (unseen ((w.world.node y).state.lost (name_at config x)) refl) (ap packets_of is))

    pub next_with_room : (v : LosingFrameWorld) × Leaves config w (Step (Take y x)) v
    next_with_room =
        let stamp : packet.stamp ≤ (w.world.node x).clock =
        (subst (AllByRecursion (λ (z : Notice). z.stamp ≤ (w.world.node x).clock)) is
        ((on_time config es w l).stamps x y)).0 in
        let within : max (w.world.node y).clock packet.stamp + 1 ≤ CLOCK_LIMIT = omega (arith, stamp, own, peer) in
        let allows : clock_allows CLOCK_LIMIT w.world (Take y x) ≡ true =
        ap (λ xs. option_map_or
        (λ (input : Input (Stamped (Noticed Message)) Action). nat_le
        (next_clock (w.world.node y).clock input) CLOCK_LIMIT) (first_from {C = Action} x xs) true) is
        ∙ le-leb (max (w.world.node y).clock packet.stamp + 1) CLOCK_LIMIT within in
        let next = perform (without_input {C = Action} (plain w.world) (Take y x)) y made.0 in
        let bare_so = happens_so (losing_machine_of config) (plain w.world) next (Take y x)
        (record {
          there = swapped;
          input = Taken x packet.packet;
          given =
              ap (λ xs. first_from x (packets_of xs)) is;
          turn = made.0;
          made = made.1;
          leaves = refl;
        }) in
        let all = map_is_some plain (happens (losing_frame_machine config) w.world (Take y x)) next
        (plain_happens (losing_machine_of config) CLOCK_LIMIT w.world (Take y x)
        ∙ (ap (λ b. cond b (happens (losing_machine_of config) (plain w.world) (Take y x)) None) allows
        ∙ bare_so)) in
        (record { world = all.0; gone = w.gone }, happens_lossy config w (Take y x) all.0 lives all.1)

  -- where all clocks have
  pub next_is_taken : (es : List (LosingEvent Action)) (w : LosingFrameWorld) (l : LosingReaches config es w)
      → AllHaveRoom config w 1 → (x y : ℕ) (packet : Notice) (rest : List Notice)
      → is_pair (length config) x y ≡ true → w.gone y ≡ false → w.world.wire x y ≡ packet ∷ rest
      → (v : LosingFrameWorld) × Leaves config w (Step (Take y x)) v
  next_is_taken es w l room x y packet rest pair lives is =
      next_with_room es w l x y (room y (pair_second (length config) x y pair)) (room x (pair_first (length config) x y pair))
      packet rest pair lives is

  -- ---- until nothing is on the way

  abbrev n : ℕ
  n = length config

  below : (k : ℕ) → IsHere config k → k < n
  below k here = (Decides-ltb k n).0 here

  pub record Next (w : LosingFrameWorld) : Type 0 where
    pub from : ℕ
    pub to : ℕ
    pub packet : Notice
    pub rest : List Notice
    pub pair : is_pair n from to ≡ true
    pub lives : w.gone to ≡ false
    pub is : w.world.wire from to ≡ packet ∷ rest

  abbrev IsEmpty : LosingFrameWorld → ℕ → ℕ → Type 0
  IsEmpty w a b = is_pair n a b ≡ true → w.gone b ≡ false → w.world.wire a b ≡ []

  at_way : (w : LosingFrameWorld) (a b : ℕ) → Next w ⊎ IsEmpty w a b
  at_way w a b = go (is_pair n a b) refl (w.gone b) refl (w.world.wire a b) refl
    where
      go : (two : Bool) → is_pair n a b ≡ two → (gone : Bool) → w.gone b ≡ gone → (xs : List Notice)
          → w.world.wire a b ≡ xs → Next w ⊎ IsEmpty w a b
      go false apart_ gone _ xs _ = inr (λ together _. absurd (cc (sym together ∙ apart_)))
      go true pair true lost xs _ = inr (λ _ lives. absurd (cc (sym lives ∙ lost)))
      go true pair false lives [] none = inr (λ _ _. none)
      go true pair false lives (x ∷ xs) is =
          inl (record { from = a; to = b; packet = x; rest = xs; pair = pair; lives = lives; is = is })

  at_node : (w : LosingFrameWorld) (a : ℕ) → Next w ⊎ ((b : ℕ) → b < n → IsEmpty w a b)
  at_node w a = go (find_place n (λ b. Next w) (IsEmpty w a) (at_way w a))
    where
      go : ((b : ℕ) × Next w) ⊎ ((b : ℕ) → b < n → IsEmpty w a b) → Next w ⊎ ((b : ℕ) → b < n → IsEmpty w a b)
      go (inl found) = inl found.1
      go (inr none) = inr none

  pub next_or_quiet : (w : LosingFrameWorld) → Next w ⊎ IsQuietLive config w
  next_or_quiet w = go (find_place n (λ a. Next w) (λ a. (b : ℕ) → b < n → IsEmpty w a b) (at_node w))
    where
      go : ((a : ℕ) × Next w) ⊎ ((a : ℕ) → a < n → (b : ℕ) → b < n → IsEmpty w a b) → Next w ⊎ IsQuietLive config w
      go (inl found) = inl found.1
      go (inr none) = inr
          (λ a b pair lives. none a (below a (pair_first n a b pair)) b (below b (pair_second n a b pair)) pair lives)

  -- takes that lead to a world in which nothing is on the way
  pub record Rests (w : LosingFrameWorld) : Type 0 where
    pub takes : List (Event Action)
    pub world : LosingFrameWorld
    pub only : OnlyTakes takes
    pub leads : Leads config w (all_steps takes) world
    pub quiet : IsQuietLive config world

  one_take : (ts : List (Event Action)) (i p : ℕ) → OnlyTakes ts → OnlyTakes (ts ++ Take i p ∷ [])
  one_take [] i p only = tt
  one_take (Take j q ∷ ts) i p only = one_take ts i p only
  one_take (Do j action ∷ ts) i p only = absurd only

  pub more_steps : (ts : List (Event Action)) (w u v : LosingFrameWorld) (d : Event Action)
      → Leads config w (all_steps ts) u → Leaves config u (Step d) v → Leads config w (all_steps (ts ++ d ∷ [])) v
  more_steps [] w u v d l h = (v, subst (λ z. Leaves config z (Step d) v) (sym l) h, refl)
  more_steps (t ∷ ts) w u v d l h = (l.0, l.1, more_steps ts l.0 u v d l.2 h)

  module _ (es : List (LosingEvent Action)) (w : LosingFrameWorld) (l : LosingReaches config es w) where
    -- so many takes can follow at most, and one that is next would be one more
    rests_within : (k : ℕ) (ts : List (Event Action)) (done : List (LosingEvent Action)) (u : LosingFrameWorld)
        → OnlyTakes ts → Leads config w (all_steps ts) u → LosingReaches config done u
        → k + length ts ≡ most_takes_live config w + 1 → AllHaveRoom config u k → Next u ⊎ IsQuietLive config u
        → Rests w
    rests_within k ts done u only leads reached count room (inr quiet) =
        record { takes = ts; world = u; only = only; leads = leads; quiet = quiet }
    rests_within zero ts done u only leads reached count room (inl next) =
        let few : length ts ≤ most_takes_live config w = takes_end config apart es w l ts u only leads in
        absurd (omega (arith, few, count))
    rests_within (suc k) ts done u only leads reached count room (inl next) =
        let d : Event Action = Take next.to next.from in
        let one = next_is_taken done u reached
        (λ i here. let all : (u.world.node i).clock + suc k ≤ CLOCK_LIMIT = room i here in omega (arith, all))
        next.from next.to next.packet next.rest next.pair next.lives next.is in
        let left = room_left config u one.0 d
        (happened (losing_frame_machine config) u.world one.0.world d (went config u one.0 d one.1).0) k
        (on_time config done u reached) room in
        let many : length (ts ++ d ∷ []) ≡ length ts + 1 = length-append ts (d ∷ []) in
        rests_within k (ts ++ d ∷ []) (done ++ Step d ∷ []) one.0 (one_take ts next.to next.from only)
        (more_steps ts w u one.0 d leads one.1)
        (leads_more config done (nobody_gone (start_of (losing_frame_machine config))) u one.0 (Step d) reached one.1)
        (omega (arith, many, count)) left (next_or_quiet one.0)

    pub comes_to_rest : AllHaveRoom config w (most_takes_live config w + 1) → Rests w
    comes_to_rest room =
        rests_within (most_takes_live config w + 1) [] es w tt refl l (omega arith) room (next_or_quiet w)
