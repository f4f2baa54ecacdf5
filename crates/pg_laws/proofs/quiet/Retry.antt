-- A retry in a quiet world, and what is taken behind it.
use Rattle.std.proofs.Common.{◌≡◌, ◌≢◌, ◌⊎◌, inl, inr, ℕ, suc, ◌+◌, ◌*◌, ◌<◌, ◌≤◌, Bool, true, false, not, cond, nat_lt}
use Rattle.std.proofs.Common.{length, List, [], ◌∷◌, ◌++◌, Option, Some, Ok, Err, refl, ap, sym, ◌∙◌, subst, arith}
use Rattle.std.specs.List.{IsDistinct}
use Rattle.std.proofs.lemmas.Bool.{cases_eq, cases_lt, le-ltb, lt-ltb}
use Rattle.std.proofs.lemmas.Bool.Decides.{Decides-ltb}
use Rattle.pg_term.specs.RefParts.{RefParts}
use Rattle.pg_term.specs.Same.{same_atom}
use Rattle.pg_step.specs.PgGroup.declared.update.Update.{Update}
use Rattle.pg_step.specs.PgGroup.Value.{name_of}
use Rattle.pg_step.specs.PgMessageTypes.declared.message.Message.{Message}
use Rattle.pg_step.specs.Machines.Clocked.{Stamped, packets_of, plain}
use Rattle.pg_step.specs.Machines.Happened.{Changes, Happened}
use Rattle.pg_step.specs.Machines.Machine.{Event, Take, Do, Turn, happens, start_of}
use Rattle.pg_step.specs.Machines.Places.{is_pair}
use Rattle.pg_step.specs.Machines.Runs.{Leads}
use Rattle.pg_step.specs.declared.command.OpId.{OpId}
use Rattle.pg_step.specs.declared.refusal.Refusal.TheVariants.{NoSuchPlace, NotWaiting}
use Rattle.pg_step.specs.Nodes.{Nodes}
use Rattle.pg_step.specs.State.{State, Status, Use, Stage, formed}
use Rattle.pg_step.specs.State.Status.{Unasked, Asked, Yes, No}
use Rattle.pg_step.specs.State.Use.{Locking, Updating}
use Rattle.pg_step.specs.State.Stage.{Closed, Waiting, Asking, Changing}
use Rattle.pg_step.specs.Turns.{NodeTurn, Report}
use Rattle.pg_step.specs.Attempts.{attempt, is_asked, is_complete, tried_again, waits}
use Rattle.pg_step.specs.Step.{CLOCK_LIMIT, Action, Retry, acted}
use Rattle.pg_step.specs.Config.{Config, names_of, name_at, nodes_at, ports_at}
use Rattle.pg_step.specs.FrameMachine.{frame_machine, machine_of, node_step, place_turn, placed, FrameWorld}
use Rattle.pg_step.proofs.Once.{clash}
use Rattle.pg_step.proofs.Machines.Options.{some_is}
use Rattle.pg_step.proofs.Machines.Plain.{plain_leads}
use Rattle.pg_step.proofs.Machines.Sequences.{whole}
use Rattle.pg_step.proofs.Machines.Steps.{changes, happened, pair_apart}
use Rattle.pg_step.proofs.Machines.Timing.{timely_run, timely_start}
use Rattle.pg_step.specs.Machines.Timely.{IsTimely}
use Rattle.pg_laws.specs.Counted.{is_open}
use Rattle.pg_laws.specs.History.{IsAnsweredOk, answers_by}
use Rattle.pg_laws.specs.Quiet.{HasClockRoom, IsQuiet, OnlyTakes, RetryGoes, is_waiting, peer_count}
use Rattle.pg_laws.specs.Reached.{TimedFrameWorld, Reaches}
use Rattle.pg_laws.proofs.commands.CountRuns.{all_counted}
use Rattle.pg_laws.proofs.ends.Apart.{pair_second, pair_swapped}
use Rattle.pg_laws.proofs.ends.Posts.{posted_timed}
use Rattle.pg_laws.proofs.places.Clauses.{harmless}
use Rattle.pg_laws.proofs.places.Shown.{IsHere}
use Rattle.pg_laws.proofs.quiet.Home.{AtEnd, AtLock, AtUpdate, IsFreed, OwnSees}
use Rattle.pg_laws.proofs.quiet.Home.{Result, Sees, SeesOk, attempt_result}
use Rattle.pg_laws.proofs.quiet.Phases.{Phase, backs, count, outs}
use Rattle.pg_laws.proofs.quiet.Phases.Phase.{Ahead, Wanted, Given, Owned, Told, Confirmed, Done, Freed, Over}
use Rattle.pg_laws.proofs.quiet.Rest.{all_formed, no_lock_held, nothing_under_way, pair_of}
use Rattle.pg_laws.proofs.quiet.Room.{does, room_run, takes_next}
use Rattle.pg_laws.proofs.quiet.Runs.{Rested, rested_timed}
use Rattle.pg_laws.proofs.quiet.Sums.{but, but_here, but_other, find_place, total}
use Rattle.pg_laws.proofs.quiet.Sums.{total_all, total_but, total_le, total_tight}
use Rattle.pg_laws.proofs.quiet.Solo.{AtHome, Locks, Updates, Ends, Peer, Solo, home_turn, knows, takes, weight}
use Rattle.pg_laws.proofs.steps.Lasting.{all_stay, event_lasts}
use Rattle.pg_laws.proofs.steps.Lossless.{NobodyLost, did_all, event_nobody, live_all}
use Rattle.pg_laws.proofs.steps.Single.{Makes, ok_is}

-- ---- phases by their counts

-- a peer that has some packet to take, or the node a reply of it
sees_some : (v : Status) (p : Phase) → Sees v p → 1 ≤ count p
sees_some Unasked Ahead sees = omega arith
sees_some Asked Wanted sees = omega arith
sees_some Asked Given sees = omega arith
sees_some Yes Owned sees = omega arith
sees_some v p sees = absurd sees

sees_many : (v : Status) (p : Phase) → Sees v p → 1 ≡ count p → ⊥
sees_many Unasked Ahead sees e = absurd (omega arith)
sees_many Asked Wanted sees e = absurd (omega arith)
sees_many Asked Given sees e = absurd (omega arith)
sees_many Yes Owned sees e = absurd (omega arith)
sees_many v p sees e = absurd sees

ok_some : (n : ℕ) (b : Bool) (p : Phase) → SeesOk n b p → 1 ≤ count p
ok_some n false (Told k) sees = omega arith
ok_some n false (Confirmed k) sees = omega arith
ok_some n true Done sees = omega arith
ok_some n b p sees = absurd sees

ok_one : (n : ℕ) (b : Bool) (p : Phase) → SeesOk n b p → 1 ≡ count p → b ≡ true
ok_one n false (Told k) sees e = absurd (omega arith)
ok_one n false (Confirmed k) sees e = absurd (omega arith)
ok_one n true p sees e = refl
ok_one n b p sees e = absurd sees

freed_few : (p : Phase) → IsFreed p → count p ≤ 1
freed_few Freed freed = omega arith
freed_few Over freed = omega arith
freed_few p freed = absurd freed

freed_none : (p : Phase) → IsFreed p → 0 ≡ count p → p ≡ Over
freed_none Over freed e = refl
freed_none Freed freed e = absurd (omega arith)
freed_none p freed e = absurd freed

own_answered : (v : Status) (holder : Option RefParts) → OwnSees v holder → not (is_asked v) ≡ true
own_answered Unasked holder sees = refl
own_answered Yes holder sees = refl
own_answered Asked holder sees = absurd sees
own_answered No holder sees = absurd sees

module _ (config : Config) (apart : IsDistinct same_atom (names_of config)) (h : ℕ) (here : IsHere config h) where
  below : h < length config
  below = (Decides-ltb h (length config)).0 here

  -- ---- the retry

  module _ (v x : FrameWorld) (op : OpId) (u : Update) (all : Rested config apart v) (quiet : IsQuiet config v)
      (full : (i : ℕ) → IsHere config i → formed (nodes_at config i) (v.node i) ≡ true) (waiting : (v.node h).stages op ≡ Waiting u) (retried : Happened (machine_of config) v (Do h (Retry op)) x) where
    abbrev s : State
    s = v.node h

    turn : (t : NodeTurn) × Makes (acted (nodes_at config h) (nodes_at config h) (ports_at config h) (Retry op) s) t × (retried.turn ≡ place_turn config t)
    turn = did_all config h s (all.bridged.nobody h) (Retry op) retried.turn (ap (node_step config h s) (some_is retried.given) ∙ retried.made)

    is_attempt : attempt (nodes_at config h) op u s ≡ turn.0
    is_attempt = go (nat_lt op.port (ports_at config h)) turn.1
      where
        go : (b : Bool) → Makes (cond b (cond (waits (nodes_at config h) (s.stages op) s) (Ok (tried_again (s.stages op) (nodes_at config h) op s)) (Err NotWaiting)) (Err NoSuchPlace)) turn.0
            → attempt (nodes_at config h) op u s ≡ turn.0
        go true e = ok_is (sym (ap (λ (stage : Stage). cond (waits (nodes_at config h) stage s) (Ok (tried_again stage (nodes_at config h) op s)) (Err NotWaiting)) waiting) ∙ e)
        go false e = absurd (cc)

    result : Result (nodes_at config h) (name_at config) (Peer config apart h here) (knows config apart h here) op u (s.references + 1) (λ q. Ahead) turn.0
    result = subst (Result (nodes_at config h) (name_at config) (Peer config apart h here) (knows config apart h here) op u (s.references + 1) (λ q. Ahead)) is_attempt
        (attempt_result (nodes_at config h) (name_at config) (Peer config apart h here) (knows config apart h here) op u s (full h here) (no_lock_held config apart v all quiet h (name_of u) here))

    abbrev all_changes : Changes {C = Action} (Do h (Retry op)) retried.turn v x
    all_changes = changes (machine_of config) v x (Do h (Retry op)) retried

    pub begun : Solo config apart h here op u (s.references + 1) x (total (length config) (weight config apart h here op u (s.references + 1) (λ q. Ahead)))
    begun = home_turn config apart h here op u (s.references + 1) v x turn.0 (λ q. Ahead) result
        (all_changes.state ∙ ap (λ (t : Turn State Message Report). t.state) turn.2)
        (all_changes.reported ∙ ap (λ (t : Turn State Message Report). v.reported ++ (h, t.reported) ∷ []) turn.2)
        (λ q there. all_changes.sent q ∙ ap (λ (t : Turn State Message Report). v.wire h q ++ t.sends q) turn.2 ∙ ap (λ b. v.wire h q ++ cond b (turn.0.sends (name_at config q)) []) (pair_second (length config) h q there))
        (λ q there. all_changes.states q (λ e. pair_apart (length config) h q there (sym e)))
        (λ q there. quiet h q there)
        (λ q there. all_changes.ways q h (λ e. pair_apart (length config) h q there (sym e)) (λ never. never) ∙ quiet q h (pair_swapped (length config) h q there))
        (λ q there _. no_lock_held config apart v all quiet q (name_of u) (pair_second (length config) h q there))
        (λ a b pair an bn. all_changes.ways a b an (λ never. never) ∙ quiet a b pair)
        (λ i there. all_stay (v.node i).merged (x.node i).merged (nodes_at config i).peers ((event_lasts config v x (Do h (Retry op)) retried i).merged) (full i there))

    pub begun_many : total (length config) (weight config apart h here op u (s.references + 1) (λ q. Ahead)) ≡ 5 * peer_count config
    begun_many =
        let all : total (length config) (weight config apart h here op u (s.references + 1) (λ q. Ahead)) + 5 ≡ 5 * length config = total_but (length config) h 5 below in
        omega (arith, all, below)

  -- ---- what is taken behind it

  module _ (op : OpId) (u : Update) (c : ℕ) where
    pub taken_all : (es : List (Event Action)) → OnlyTakes es → (v y : FrameWorld) → Leads (machine_of config) v es y → NobodyLost v → (left : ℕ) → Solo config apart h here op u c v left
        → (now : ℕ) × (left ≡ length es + now) × Solo config apart h here op u c y now
    taken_all [] only v y l nobody left solo = (left, omega arith, subst (λ z. Solo config apart h here op u c z left) l solo)
    taken_all (Take i p ∷ es) only v y l nobody left solo =
        let taken = happened (machine_of config) v l.0 (Take i p) l.1 in
        let fewer = takes config apart h here op u c v l.0 i p taken nobody left solo in
        let rest = taken_all es only l.0 y l.2 (event_nobody config v l.0 (Take i p) taken nobody) fewer.now fewer.solo in
        let first : left ≡ suc fewer.now = fewer.is in
        let last : fewer.now ≡ length es + rest.0 = rest.1 in
        (rest.0, omega (arith, first, last), rest.2)
    taken_all (Do i action ∷ es) only v y l nobody left solo = absurd only

    -- ---- what is left to take

    module _ (y : FrameWorld) (all : Rested config apart y) (now : ℕ) (solo : Solo config apart h here op u c y now) where
      abbrev m : Nodes
      m = nodes_at config h

      abbrev own : State
      own = y.node h

      abbrev phase : ℕ → Phase
      phase = solo.phase

      abbrev weights : ℕ → ℕ
      weights = weight config apart h here op u c phase

      place_of_peer : (q : ℕ) → Peer config apart h here q → q < length config
      place_of_peer q there = (Decides-ltb q (length config)).0 (pair_second (length config) h q there)

      peer_of_place : (k : ℕ) → k < length config → h ≢ k → Peer config apart h here k
      peer_of_place k under n = pair_of config h k here ((Decides-ltb k (length config)).1 under) n

      weight_is : (q : ℕ) → Peer config apart h here q → weights q ≡ count (phase q)
      weight_is q there = but_other h (λ p. count (phase p)) q (pair_apart (length config) h q there)

      -- a number for each peer
      abbrev of_peers : ℕ → ℕ → ℕ
      of_peers k = but h (λ p. k)

      of_peer : (k q : ℕ) → Peer config apart h here q → of_peers k q ≡ k
      of_peer k q there = but_other h (λ p. k) q (pair_apart (length config) h q there)

      ones : total (length config) (of_peers 1) ≡ peer_count config
      ones = let all : total (length config) (of_peers 1) + 1 ≡ 1 * length config = total_but (length config) h 1 below in omega (arith, all, below)

      at_least : (k : ℕ) → ((q : ℕ) → Peer config apart h here q → k ≤ count (phase q)) → (p : ℕ) → p < length config → of_peers k p ≤ weights p
      at_least k some p under = go (cases_eq h p)
        where
          go : (h ≡ p) ⊎ (h ≡ p → ⊥) → of_peers k p ≤ weights p
          go (inl e) =
              let none : of_peers k h ≡ 0 = but_here h (λ q. k) in
              subst (λ z. of_peers k z ≤ weights z) e (omega (arith, none))
          go (inr n) =
              let there = peer_of_place p under n in
              let one : of_peers k p ≡ k = of_peer k p there in
              let many : weights p ≡ count (phase p) = weight_is p there in
              let least : k ≤ count (phase p) = some p there in
              omega (arith, one, many, least)

      each_is : (k : ℕ) → ((q : ℕ) → Peer config apart h here q → k ≤ count (phase q)) → total (length config) weights ≤ total (length config) (of_peers k) → (q : ℕ) → Peer config apart h here q → k ≡ count (phase q)
      each_is k some few q there = sym (of_peer k q there) ∙ total_tight (length config) (of_peers k) weights (at_least k some) few q (place_of_peer q there) ∙ weight_is q there

      few_left : now ≤ peer_count config → total (length config) weights ≤ total (length config) (of_peers 1)
      few_left few = let left : total (length config) weights ≡ now = solo.left_is in omega (arith, ones, left, few)

      complete_never : (k : ℕ) (used : Use) → own.uses k ≡ used → is_complete m used ≡ true → ⊥
      complete_never k used is complete = clash (sym complete ∙ ap (is_complete m) (sym is) ∙ (all.settled h here).gather k)

      locks_many : AtLock m (name_at config) (Peer config apart h here) (knows config apart h here) op u c own phase → now ≤ peer_count config → ⊥
      locks_many at few = complete_never c (Locking op u at.lead at.st) at.is
          ((knows config apart h here).every_of (λ q. not (is_asked (at.st q))) (own_answered (at.st m.own) (own.locks (name_of u)) at.own)
          (λ q there. absurd (sees_many (at.st (name_at config q)) (phase q) (at.peers q there)
          (each_is 1 (λ p this. sees_some (at.st (name_at config p)) (phase p) (at.peers p this)) (few_left few) q there))))

      updates_many : AtUpdate m (name_at config) (Peer config apart h here) (knows config apart h here) op u c own phase → now ≤ peer_count config → ⊥
      updates_many at few = complete_never at.n (Updating op u c at.replied) at.is
          ((knows config apart h here).every_of at.replied at.own
          (λ q there. ok_one at.n (at.replied (name_at config q)) (phase q) (at.peers q there)
          (each_is 1 (λ p this. ok_some at.n (at.replied (name_at config p)) (phase p) (at.peers p this)) (few_left few) q there)))

      ends_few : AtEnd m (name_at config) (Peer config apart h here) (knows config apart h here) op u c own phase → now ≤ peer_count config
      ends_few at =
          let left : total (length config) weights ≡ now = solo.left_is in
          let few : total (length config) weights ≤ total (length config) (of_peers 1) = total_le (length config) weights (of_peers 1) (λ k under. go k under (cases_eq h k)) in
          omega (arith, ones, left, few)
        where
          go : (k : ℕ) → k < length config → (h ≡ k) ⊎ (h ≡ k → ⊥) → weights k ≤ of_peers 1 k
          go k under (inl e) =
              let none : weights h ≡ 0 = but_here h (λ p. count (phase p)) in
              subst (λ z. weights z ≤ of_peers 1 z) e (omega (arith, none))
          go k under (inr n) =
              let there = peer_of_place k under n in
              let one : of_peers 1 k ≡ 1 = of_peer 1 k there in
              let many : weights k ≡ count (phase k) = weight_is k there in
              let most : count (phase k) ≤ 1 = freed_few (phase k) (at.peers k there) in
              omega (arith, one, many, most)

      over_quiet : ((q : ℕ) → Peer config apart h here q → phase q ≡ Over) → IsQuiet config y
      over_quiet over a b pair = go (cases_eq a h) (cases_eq b h)
        where
          from_home : Peer config apart h here b → y.wire h b ≡ []
          from_home there = solo.out b there ∙ ap (outs m.own c u) (over b there)

          to_home : Peer config apart h here a → y.wire a h ≡ []
          to_home there = solo.back a there ∙ ap (backs m.own c u) (over a there)

          go : (a ≡ h) ⊎ (a ≡ h → ⊥) → (b ≡ h) ⊎ (b ≡ h → ⊥) → y.wire a b ≡ []
          go (inl e) _ = subst (λ z. y.wire z b ≡ []) (sym e) (from_home (subst (λ z. is_pair (length config) z b ≡ true) e pair))
          go (inr n) (inl e) = subst (λ z. y.wire a z ≡ []) (sym e) (to_home (pair_swapped (length config) a h (subst (λ z. is_pair (length config) a z ≡ true) e pair)))
          go (inr n) (inr k) = solo.others a b pair n k

      ends_quiet : AtEnd m (name_at config) (Peer config apart h here) (knows config apart h here) op u c own phase → now ≡ 0 → IsQuiet config y
      ends_quiet at none =
          let left : total (length config) weights ≡ now = solo.left_is in
          let few : total (length config) weights ≤ total (length config) (of_peers 0) = omega (arith, left, none) in
          over_quiet (λ q there. freed_none (phase q) (at.peers q there) (each_is 0 (λ p this. omega arith) few q there))

      more_left : (now ≤ peer_count config → ⊥) → peer_count config < now
      more_left many = go (cases_lt (peer_count config) now)
        where
          go : (peer_count config < now) ⊎ (now ≤ peer_count config) → peer_count config < now
          go (inl more) = more
          go (inr few) = absurd (many few)

      -- the command is open while more is left to take than a packet for each peer
      pub opens : is_open (own.stages op) ≡ nat_lt (peer_count config) now
      opens = go solo.home
        where
          go : AtHome config apart h here op u c own y.reported phase → is_open (own.stages op) ≡ nat_lt (peer_count config) now
          go (Locks at) = ap is_open at.stage ∙ sym (lt-ltb (peer_count config) now (more_left (locks_many at)))
          go (Updates at) = ap is_open at.stage ∙ sym (lt-ltb (peer_count config) now (more_left (updates_many at)))
          go (Ends at ok) = ap is_open at.stage ∙ sym (le-ltb (peer_count config) now (ends_few at))

      pub ends_answered : now ≤ peer_count config → IsAnsweredOk op (answers_by h y.reported)
      ends_answered few = go solo.home
        where
          go : AtHome config apart h here op u c own y.reported phase → IsAnsweredOk op (answers_by h y.reported)
          go (Locks at) = absurd (locks_many at few)
          go (Updates at) = absurd (updates_many at few)
          go (Ends at ok) = ok

      pub quiet_again : now ≡ 0 → IsQuiet config y
      quiet_again none = go solo.home
        where
          few : now ≤ peer_count config
          few = omega (arith, none)

          go : AtHome config apart h here op u c own y.reported phase → IsQuiet config y
          go (Locks at) = absurd (locks_many at few)
          go (Updates at) = absurd (updates_many at few)
          go (Ends at ok) = ends_quiet at none

      -- ---- what is on the way

      freed_over : (p : Phase) → IsFreed p → outs m.own c u p ≡ [] → count p ≡ 0
      freed_over Over freed e = refl
      freed_over Freed freed e = absurd (cc)
      freed_over Ahead freed e = absurd freed
      freed_over Wanted freed e = absurd freed
      freed_over Given freed e = absurd freed
      freed_over Owned freed e = absurd freed
      freed_over (Told n) freed e = absurd freed
      freed_over (Confirmed n) freed e = absurd freed
      freed_over Done freed e = absurd freed

      -- where nothing is on the way nothing is left to take
      quiet_none : IsQuiet config y → now ≡ 0
      quiet_none quiet = go solo.home
        where
          waits_so : is_waiting (own.stages op) ≡ is_open (own.stages op)
          waits_so = (nothing_under_way config apart y all quiet h here).waits op

          low : AtEnd m (name_at config) (Peer config apart h here) (knows config apart h here) op u c own phase → (k : ℕ) → k < length config → (h ≡ k) ⊎ (h ≡ k → ⊥) → weights k ≡ 0
          low at k under (inl e) = subst (λ z. weights z ≡ 0) e (but_here h (λ p. count (phase p)))
          low at k under (inr n) =
              let there = peer_of_place k under n in
              weight_is k there ∙ freed_over (phase k) (at.peers k there) (sym (solo.out k there) ∙ quiet h k there)

          go : AtHome config apart h here op u c own y.reported phase → now ≡ 0
          go (Locks at) = absurd (clash (sym (ap is_open at.stage) ∙ sym waits_so ∙ ap is_waiting at.stage))
          go (Updates at) = absurd (clash (sym (ap is_open at.stage) ∙ sym waits_so ∙ ap is_waiting at.stage))
          go (Ends at ok) =
              let none : total (length config) weights ≡ 0 * length config = total_all (length config) 0 weights (λ k under. low at k under (cases_eq h k)) in
              let left : total (length config) weights ≡ now = solo.left_is in
              omega (arith, none, left)

      -- a packet on the way
      abbrev pub Packet : Type 0
      Packet = (a : ℕ) × (b : ℕ) × (packet : Message) × (rest : List Message) × (is_pair (length config) a b ≡ true) × (y.wire a b ≡ packet ∷ rest)

      abbrev NoneAt : ℕ → Type 0
      NoneAt k = Peer config apart h here k → (y.wire h k ≡ []) × (y.wire k h ≡ [])

      at_place : (k : ℕ) → Packet ⊎ NoneAt k
      at_place k = go (is_pair (length config) h k) refl (y.wire h k) refl (y.wire k h) refl
        where
          go : (b : Bool) → is_pair (length config) h k ≡ b → (out : List Message) → y.wire h k ≡ out → (back : List Message) → y.wire k h ≡ back → Packet ⊎ NoneAt k
          go false apart_ out _ back _ = inr (λ there. absurd (clash (sym there ∙ apart_)))
          go true there (packet ∷ rest) is back _ = inl (h, k, packet, rest, there, is)
          go true there [] _ (packet ∷ rest) is = inl (k, h, packet, rest, pair_swapped (length config) h k there, is)
          go true there [] none [] none_back = inr (λ _. (none, none_back))

      none_quiet : ((k : ℕ) → k < length config → NoneAt k) → IsQuiet config y
      none_quiet none a b pair = go (cases_eq a h) (cases_eq b h)
        where
          go : (a ≡ h) ⊎ (a ≡ h → ⊥) → (b ≡ h) ⊎ (b ≡ h → ⊥) → y.wire a b ≡ []
          go (inl e) _ = let there = subst (λ z. is_pair (length config) z b ≡ true) e pair in subst (λ z. y.wire z b ≡ []) (sym e) (none b (place_of_peer b there) there).0
          go (inr n) (inl e) =
              let there = pair_swapped (length config) a h (subst (λ z. is_pair (length config) a z ≡ true) e pair) in
              subst (λ z. y.wire a z ≡ []) (sym e) (none a (place_of_peer a there) there).1
          go (inr n) (inr k) = solo.others a b pair n k

      pub some_packet : 0 < now → Packet
      some_packet some = go (find_place (length config) (λ k. Packet) NoneAt at_place)
        where
          go : ((k : ℕ) × Packet) ⊎ ((k : ℕ) → k < length config → NoneAt k) → Packet
          go (inl found) = found.1
          go (inr none) = let left : now ≡ 0 = quiet_none (none_quiet none) in absurd (omega (arith, some, left))

-- ---- with clocks

waiting_is : (stage : Stage) → is_waiting stage ≡ true → (u : Update) × (stage ≡ Waiting u)
waiting_is (Waiting u) e = (u, refl)
waiting_is Closed e = absurd (cc)
waiting_is (Asking c) e = absurd (cc)
waiting_is (Changing n) e = absurd (cc)

timed_way : (xs : List (Stamped Message)) (packet : Message) (rest : List Message) → packets_of xs ≡ packet ∷ rest → (x : Stamped Message) × (ys : List (Stamped Message)) × (xs ≡ x ∷ ys)
timed_way [] packet rest e = absurd (cc)
timed_way (x ∷ ys) packet rest e = (x, ys, refl)

no_way : (xs : List (Stamped Message)) (x : Stamped Message) (ys : List (Stamped Message)) → packets_of xs ≡ [] → xs ≡ x ∷ ys → ⊥
no_way [] x ys none e = absurd (cc)
no_way (z ∷ zs) x ys none e = absurd (cc)

module _ (config : Config) (apart : IsDistinct same_atom (names_of config)) (h : ℕ) (here : IsHere config h) (events : List (Event Action)) (w : TimedFrameWorld) (reached : Reaches config events w)
    (quiet : IsQuiet config (plain w)) (op : OpId) (opened : is_open (((plain w).node h).stages op) ≡ true) where
  rests : Rested config apart (plain w)
  rests = rested_timed config apart events w reached

  waiting : (u : Update) × (((plain w).node h).stages op ≡ Waiting u)
  waiting = waiting_is (((plain w).node h).stages op) ((nothing_under_way config apart (plain w) rests quiet h here).waits op ∙ opened)

  timely : IsTimely CLOCK_LIMIT w
  timely = timely_run (machine_of config) CLOCK_LIMIT events (start_of (frame_machine config)) w reached (timely_start (machine_of config) CLOCK_LIMIT)

  -- the retry is no event that is refused
  pub retry_happens : HasClockRoom config w 1 → (v : TimedFrameWorld) × (happens (frame_machine config) w (Do h (Retry op)) ≡ Some v)
  retry_happens room = does config w h (Retry op) here room (place_turn config (attempt m op waiting.0 s)) (
      ap (λ z. placed config (acted m z (ports_at config h) (Retry op) s)) (live_all m s (rests.bridged.nobody h))
      ∙ ap (λ b. placed config (cond b (cond (waits m (s.stages op) s) (Ok (tried_again (s.stages op) m op s)) (Err NotWaiting)) (Err NoSuchPlace))) there
      ∙ ap (λ (stage : Stage). placed config (cond (waits m stage s) (Ok (tried_again stage m op s)) (Err NotWaiting))) waiting.1)
    where
      m : Nodes
      m = nodes_at config h

      s : State
      s = (plain w).node h

      there : nat_lt op.port (ports_at config h) ≡ true
      there = lt-ltb op.port (ports_at config h) ((all_counted config w events h reached).counts.within op opened).1

  module _ (room : HasClockRoom config w (1 + 5 * peer_count config)) (es : List (Event Action)) (only : OnlyTakes es) (v : TimedFrameWorld) (l : Leads (frame_machine config) w (Do h (Retry op) ∷ es) v) where
    abbrev u : Update
    u = waiting.0

    abbrev c : ℕ
    c = ((plain w).node h).references + 1

    path : Leads (machine_of config) (plain w) (Do h (Retry op) ∷ es) (plain v)
    path = plain_leads (machine_of config) CLOCK_LIMIT (Do h (Retry op) ∷ es) w v l

    retried : Happened (machine_of config) (plain w) (Do h (Retry op)) path.0
    retried = happened (machine_of config) (plain w) path.0 (Do h (Retry op)) path.1

    first : Solo config apart h here op u c path.0 (total (length config) (weight config apart h here op u c (λ q. Ahead)))
    first = begun config apart h here (plain w) path.0 op u rests quiet (all_formed config apart (plain w) rests quiet (posted_timed config apart events w reached)) waiting.1 retried

    last : (now : ℕ) × (total (length config) (weight config apart h here op u c (λ q. Ahead)) ≡ length es + now) × Solo config apart h here op u c (plain v) now
    last = taken_all config apart h here op u c es only path.0 (plain v) path.2 (event_nobody config (plain w) path.0 (Do h (Retry op)) retried rests.bridged.nobody)
        (total (length config) (weight config apart h here op u c (λ q. Ahead))) first

    abbrev now : ℕ
    now = last.0

    sum : length es + now ≡ 5 * peer_count config
    sum = sym last.1 ∙ begun_many config apart h here (plain w) path.0 op u rests quiet (all_formed config apart (plain w) rests quiet (posted_timed config apart events w reached)) waiting.1 retried

    later : Reaches config (events ++ Do h (Retry op) ∷ es) v
    later = whole (frame_machine config) events (Do h (Retry op) ∷ es) (start_of (frame_machine config)) w v reached l

    rests_later : Rested config apart (plain v)
    rests_later = rested_timed config apart (events ++ Do h (Retry op) ∷ es) v later

    timely_later : IsTimely CLOCK_LIMIT v
    timely_later = timely_run (machine_of config) CLOCK_LIMIT (Do h (Retry op) ∷ es) w v l timely

    room_later : HasClockRoom config v now
    room_later = room_run config (Do h (Retry op) ∷ es) w v now l timely (λ i there. let before : (w.node i).clock + (1 + 5 * peer_count config) ≤ CLOCK_LIMIT = room i there in omega (arith, before, sum))

    as_many : nat_lt (peer_count config) now ≡ nat_lt (length es) (4 * peer_count config)
    as_many = go (cases_lt (peer_count config) now)
      where
        go : (peer_count config < now) ⊎ (now ≤ peer_count config) → nat_lt (peer_count config) now ≡ nat_lt (length es) (4 * peer_count config)
        go (inl more) = lt-ltb (peer_count config) now more ∙ sym (lt-ltb (length es) (4 * peer_count config) (omega (arith, sum, more)))
        go (inr few) = le-ltb (peer_count config) now few ∙ sym (le-ltb (length es) (4 * peer_count config) (omega (arith, sum, few)))

    next_taken : (x y : ℕ) (packet : Stamped Message) (rest : List (Stamped Message)) → is_pair (length config) x y ≡ true → v.wire x y ≡ packet ∷ rest
        → (z : TimedFrameWorld) × (happens (frame_machine config) v (Take y x) ≡ Some z)
    next_taken x y packet rest pair is = go (cases_lt 0 now)
      where
        swapped : is_pair (length config) y x ≡ true
        swapped = pair_swapped (length config) x y pair

        go : (0 < now) ⊎ (now ≤ 0) → (z : TimedFrameWorld) × (happens (frame_machine config) v (Take y x) ≡ Some z)
        go (inl some) = takes_next config v y x packet rest timely_later swapped (λ i there. let before : (v.node i).clock + now ≤ CLOCK_LIMIT = room_later i there in omega (arith, before, some)) is
            ((harmless config apart (events ++ Do h (Retry op) ∷ es) v later).packets y x packet.packet (packets_of rest) swapped (ap packets_of is))
        go (inr none) = absurd (no_way (v.wire x y) packet rest (quiet_again config apart h here op u c (plain v) rests_later now last.2 (omega (arith, none)) x y pair) is)

    pub retry_goes : RetryGoes config h op (length es) v
    retry_goes = record {
      within = omega (arith, sum);
      open_until = opens config apart h here op u c (plain v) rests_later now last.2 ∙ as_many;
      answered = λ enough. ends_answered config apart h here op u c (plain v) rests_later now last.2 (omega (arith, sum, enough));
      quiet = λ all. quiet_again config apart h here op u c (plain v) rests_later now last.2 (omega (arith, sum, all));
      on_the_way = λ fewer.
          let found = some_packet config apart h here op u c (plain v) rests_later now last.2 (omega (arith, sum, fewer)) in
          let way = timed_way (v.wire found.0 found.1) found.2 found.3 found.5 in
          (found.0, found.1, way.0, way.1, found.4, way.2);
      is_taken = next_taken;
    }
