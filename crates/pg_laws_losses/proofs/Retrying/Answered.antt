-- A retry where nothing is on the way to a live node, and what is taken behind it.
use Rattle.std.proofs.Common.{◌≡◌, ◌≢◌, ◌⊎◌, inl, inr, ℕ, suc, ◌+◌, ◌-◌, ◌*◌, ◌<◌, ◌≤◌, Bool, true, false, not}
use Rattle.std.proofs.Common.{cond, nat_lt, length, map, List, [], ◌∷◌, Option, None, Ok, Err}
use Rattle.std.proofs.Common.{refl, ap, sym, ◌∙◌, subst, arith}
use Rattle.std.specs.List.{IsDistinct, filter}
use Rattle.std.proofs.lemmas.Bool.{cases_eq, cases_lt, le-ltb, lt-ltb}
use Rattle.std.proofs.lemmas.Bool.Decides.{Decides-ltb}
use Rattle.pg_term.specs.RefParts.{RefParts}
use Rattle.pg_term.specs.Same.{same_atom}
use Rattle.pg_laws.specs.PgGroup.declared.update.Update.{Update}
use Rattle.pg_laws.specs.PgGroup.Value.{name_of}
use Rattle.pg_laws.specs.PgMessageTypes.declared.message.Message.{Message}
use Rattle.pg_laws.specs.PgStep.Machines.Clocked.{plain}
use Rattle.pg_laws.specs.PgStep.Machines.Happened.{Changes, Happened}
use Rattle.pg_laws.specs.PgStep.Machines.Losing.{LosingEvent, Noticed, Sent, Step, all_steps}
use Rattle.pg_laws.specs.PgStep.Machines.Machine.{Do, Event, Take, node_of}
use Rattle.pg_laws.specs.PgStep.Machines.Places.{is_pair}
use Rattle.pg_laws.proofs.PgStep.Machines.Steps.{changes, pair_apart}
use Rattle.pg_laws.specs.PgStep.declared.command.OpId.{OpId}
use Rattle.pg_laws.specs.PgStep.declared.refusal.Refusal.TheVariants.{NoSuchPlace, NotWaiting}
use Rattle.pg_laws.specs.PgStep.Attempts.{attempt, is_asked, is_complete, tried_again, waits}
use Rattle.pg_laws.specs.PgStep.Config.{Config, name_at, names_of, nodes_at, ports_at}
use Rattle.pg_laws.specs.PgStep.FrameMachine.{losing_machine_of}
use Rattle.pg_laws.specs.PgStep.LossLaws.{LosingFrameWorld}
use Rattle.pg_laws.specs.PgStep.Nodes.{Node, Nodes}
use Rattle.pg_laws.specs.PgStep.State.{Stage, State, Status, Use, formed, live_nodes}
use Rattle.pg_laws.specs.PgStep.State.Stage.{Asking, Changing, Waiting}
use Rattle.pg_laws.specs.PgStep.State.Status.{Asked, No, Unasked, Yes}
use Rattle.pg_laws.specs.PgStep.State.Use.{Locking, Updating}
use Rattle.pg_laws.specs.PgStep.Step.{Action, Retry, acted}
use Rattle.pg_laws.specs.PgStep.Turns.{NodeTurn}
use Rattle.pg_laws.proofs.PgStep.Once.{clash}
use Rattle.pg_laws.specs.Counted.{is_open}
use Rattle.pg_laws.specs.History.{IsAnsweredOk, answers_by}
use Rattle.pg_laws.specs.Quiet.{OnlyTakes}
use Rattle.pg_laws.proofs.ends.Apart.{pair_second, pair_swapped}
use Rattle.pg_laws.proofs.places.Shown.{IsHere}
use Rattle.pg_laws.proofs.quiet.Home.{IsFreed, OwnSees, Sees, SeesOk, attempt_result}
use Rattle.pg_laws.proofs.quiet.Phases.{Phase, backs, count, outs}
use Rattle.pg_laws.proofs.quiet.Phases.Phase.{Ahead, Confirmed, Done, Freed, Given, Over, Owned, Told, Wanted}
use Rattle.pg_laws.proofs.quiet.Sums.{find_place, total, total_all, total_le, total_tight}
use Rattle.pg_laws.proofs.steps.Single.{Makes, ok_is}
use Rattle.pg_laws_losses.proofs.Lossy.{Died, Passed, Went, bare, passed}
use Rattle.pg_laws_losses.proofs.Remains.Passing.{Leads}
use Rattle.pg_laws_losses.specs.Readiness.Ready.{is_ready}
use Rattle.pg_laws_losses.proofs.Readiness.Going.{no_loss}
use Rattle.pg_laws_losses.proofs.Retrying.Alone.{Alone, AtHome, Ends, End, Fewer, GoesOut, IsPeer_, Lock, Locks, Result_, Updates}
use Rattle.pg_laws_losses.proofs.Retrying.Alone.{all, formed_live, home_turn, takes, weight, weight_is}
use Rattle.pg_laws_losses.proofs.Retrying.Hearing.{Bare, full_later, own_known, own_reported, own_sent, own_state, own_turn}
use Rattle.pg_laws_losses.proofs.Retrying.Peers.{IsNone, IsPeer, Placed, knows, of_peer, of_peers, placed, sum_of}

-- ---- phases by their counts

-- a peer that has some packet to take, or the node a reply of it
sees_some : (v : Status) (p : Phase) → Sees v p → 1 ≤ count p
sees_some Unasked Ahead sees = omega arith
sees_some Asked Wanted sees = omega arith
sees_some Asked Given sees = omega arith
sees_some Yes Owned sees = omega arith
sees_some v p sees = absurd sees

sees_many : (v : Status) (p : Phase) → Sees v p → 1 ≡ count p → ⊥
sees_many Unasked Ahead sees e = absurd (omega arith)
sees_many Asked Wanted sees e = absurd (omega arith)
sees_many Asked Given sees e = absurd (omega arith)
sees_many Yes Owned sees e = absurd (omega arith)
sees_many v p sees e = absurd sees

ok_some : (n : ℕ) (b : Bool) (p : Phase) → SeesOk n b p → 1 ≤ count p
ok_some n false (Told k) sees = omega arith
ok_some n false (Confirmed k) sees = omega arith
ok_some n true Done sees = omega arith
ok_some n b p sees = absurd sees

ok_one : (n : ℕ) (b : Bool) (p : Phase) → SeesOk n b p → 1 ≡ count p → b ≡ true
ok_one n false (Told k) sees e = absurd (omega arith)
ok_one n false (Confirmed k) sees e = absurd (omega arith)
ok_one n true p sees e = refl
ok_one n b p sees e = absurd sees

freed_few : (p : Phase) → IsFreed p → count p ≤ 1
freed_few Freed freed = omega arith
freed_few Over freed = omega arith
freed_few p freed = absurd freed

freed_none : (p : Phase) → IsFreed p → 0 ≡ count p → p ≡ Over
freed_none Over freed e = refl
freed_none Freed freed e = absurd (omega arith)
freed_none p freed e = absurd freed

own_answered : (v : Status) (holder : Option RefParts) → OwnSees v holder → not (is_asked v) ≡ true
own_answered Unasked holder sees = refl
own_answered Yes holder sees = refl
own_answered Asked holder sees = absurd sees
own_answered No holder sees = absurd sees

none_sent : (xs : List Message) → map {B = Noticed Message} Sent xs ≡ [] → xs ≡ []
none_sent [] e = refl
none_sent (x ∷ xs) e = absurd (cc)

freed_over : (o : Node) (c : ℕ) (u : Update) (p : Phase) → IsFreed p → outs o c u p ≡ [] → count p ≡ 0
freed_over o c u Over freed e = refl
freed_over o c u Freed freed e = absurd (cc)
freed_over o c u Ahead freed e = absurd freed
freed_over o c u Wanted freed e = absurd freed
freed_over o c u Given freed e = absurd freed
freed_over o c u Owned freed e = absurd freed
freed_over o c u (Told n) freed e = absurd freed
freed_over o c u (Confirmed n) freed e = absurd freed
freed_over o c u Done freed e = absurd freed

pub take_is : {i p : ℕ} {d : Event Action} → ◌≡◌ {A = LosingEvent Action} (Step (Take i p)) (Step d) → d ≡ Take i p
take_is e = cc

module _ (config : Config) (apart : IsDistinct same_atom (names_of config)) (h : ℕ) (here : IsHere config h)
    (gone : ℕ → Bool) (lost : Node → Bool) (known : (q : ℕ) → IsHere config q → lost (name_at config q) ≡ gone q)
    (lives : gone h ≡ false) where
  -- how many peers are live
  abbrev pub peers : ℕ
  peers = total (length config) (λ q. cond (gone q) 0 1) - 1

  -- nothing is on the way to a live node
  abbrev pub IsStill : Bare → Type 0
  IsStill v = (a b : ℕ) → is_pair (length config) a b ≡ true → gone b ≡ false → v.wire a b ≡ []

  abbrev m : Nodes
  m = all config apart h here gone lost known lives

  abbrev IsOne : ℕ → Type 0
  IsOne = IsPeer_ config apart h here gone lost known lives

  -- ---- the retry

  module _ (v x : Bare) (op : OpId) (u : Update) (waiting : (v.node h).stages op ≡ Waiting u)
      (retried : Happened (losing_machine_of config) v (Do h (Retry op)) x) (knew : (v.node h).lost ≡ lost) (still : IsStill v)
      (full : (i : ℕ) → IsHere config i → gone i ≡ false → formed (nodes_at config i) (v.node i) ≡ true)
      (free : (i : ℕ) → IsHere config i → gone i ≡ false → (v.node i).locks (name_of u) ≡ None) where
    abbrev s : State
    s = v.node h

    abbrev c : ℕ
    c = (v.node h).references + 1

    counting : live_nodes (nodes_at config h) s ≡ m
    counting = ap (λ (f : Node → Bool). record { own = name_at config h; peers = filter (λ q. not (f q)) (nodes_at config h).peers }) knew

    abbrev turned : (t : NodeTurn) × (acted (nodes_at config h) (live_nodes (nodes_at config h) (v.node h)) (ports_at config h) (Retry op) (v.node h) ≡ Ok t)
    turned = (
      (own_turn config v x h (Retry op) retried).0,
      (own_turn config v x h (Retry op) retried).1,
    )

    is_attempt : attempt m op u s ≡ turned.0
    is_attempt = go (nat_lt op.port (ports_at config h)) (ap (λ z. acted (nodes_at config h) z (ports_at config h) (Retry op) s) (sym counting) ∙ turned.1)
      where
        go : (b : Bool) → Makes (cond b (cond (waits m (s.stages op) s) (Ok (tried_again (s.stages op) m op s)) (Err NotWaiting)) (Err NoSuchPlace)) turned.0
            → attempt m op u s ≡ turned.0
        go true e = ok_is (sym (ap (λ (stage : Stage). cond (waits m stage s) (Ok (tried_again stage m op s)) (Err NotWaiting)) waiting) ∙ e)
        go false e = absurd (cc)

    result : Result_ config apart h here gone lost known lives op u c (λ q. Ahead) turned.0
    result = subst (Result_ config apart h here gone lost known lives op u c (λ q. Ahead)) is_attempt
        (attempt_result m (name_at config) IsOne (knows config apart h here gone lost known) op u s
        (ap (λ z. formed z s) (sym counting) ∙ formed_live (nodes_at config h) s (full h here lives)) (free h here lives))

    abbrev all_changes : Changes {C = Action} (Do h (Retry op)) retried.turn v x
    all_changes = changes (losing_machine_of config) v x (Do h (Retry op)) retried

    same_way : (a b : ℕ) → is_pair (length config) a b ≡ true → gone b ≡ false → a ≢ h → x.wire a b ≡ []
    same_way a b pair alive an = all_changes.ways a b an (λ never. never) ∙ still a b pair alive

    pub begun : Alone config apart h here gone lost known lives op u c x
        (total (length config) (weight config apart h here gone lost known lives op u c (λ q. Ahead)))
    begun = home_turn config apart h here gone lost known lives op u c v x turned.0 (λ q. Ahead) result (record {
      state = own_state config v x h (Retry op) retried;
      knew = own_known config v x h (Retry op) retried ∙ knew;
      reported = own_reported config v x h (Retry op) retried;
      sent = λ q there. own_sent config v x h (Retry op) retried q (pair_second (length config) h q there.0);
      nodes = λ q there. all_changes.states q (λ e. pair_apart (length config) h q there.0 (sym e));
      out = λ q there. still h q there.0 there.1;
      back = λ q there. same_way q h (pair_swapped (length config) h q there.0) lives (λ e. pair_apart (length config) h q there.0 (sym e));
      free = λ q there _. free q (pair_second (length config) h q there.0) there.1;
      others = λ a b pair alive an bn. same_way a b pair alive an;
      from_lost = λ a pair away. same_way a h pair lives (pair_apart (length config) a h pair);
      full = λ i this alive. full_later config v x (Do h (Retry op)) retried i (full i this alive);
    })

    pub begun_many : total (length config) (weight config apart h here gone lost known lives op u c (λ q. Ahead)) ≡ 5 * peers
    begun_many =
        let sum : total (length config) (weight config apart h here gone lost known lives op u c (λ q. Ahead)) + 5
        ≡ 5 * total (length config) (λ q. cond (gone q) 0 1) = sum_of config apart h here gone lost known 5 lives in
        omega (arith, sum)

  -- ---- what is taken behind it

  module _ (op : OpId) (u : Update) (c : ℕ) where
    abbrev IsAlone : Bare → ℕ → Type 0
    IsAlone v more = Alone config apart h here gone lost known lives op u c v more

    took : (v x : LosingFrameWorld) (i p : ℕ) → Passed config (bare v) (bare x) (Step (Take i p)) → v.gone ≡ gone → (more : ℕ)
        → IsAlone (plain v.world) more
        → Fewer config apart h here gone lost known lives op u c (plain x.world) more × (x.gone ≡ gone)
    took v x i p (Went d is alive happened same) before more alone =
        let event : d ≡ Take i p = take_is is in (
          takes config apart h here gone lost known lives op u c (plain v.world) (plain x.world) i p
              (subst (λ z. Happened (losing_machine_of config) (plain v.world) z (plain x.world)) event happened)
              (ap (λ (f : ℕ → Bool). f i) (sym before) ∙ (ap (λ z. v.gone (node_of z)) (sym event) ∙ alive)) more alone,
          same ∙ before,
        )
    took v x i p (Died j keep is there alive cut away) before more alone = absurd (no_loss is)

    pub taken_all : (es : List (Event Action)) → OnlyTakes es → (v y : LosingFrameWorld) → Leads config v (all_steps es) y → v.gone ≡ gone
        → (more : ℕ) → IsAlone (plain v.world) more → (now : ℕ) × (more ≡ length es + now) × IsAlone (plain y.world) now
    taken_all [] only v y l same more alone = (more, omega arith, subst (λ (z : LosingFrameWorld). IsAlone (plain z.world) more) l alone)
    taken_all (Take i p ∷ es) only v y l same more alone =
        let one = took v l.0 i p (passed config v l.0 (Step (Take i p)) l.1) same more alone in
        let rest = taken_all es only l.0 y l.2 one.1 one.0.now one.0.alone in
        let first : more ≡ suc one.0.now = one.0.is in
        let last : one.0.now ≡ length es + rest.0 = rest.1 in
        (rest.0, omega (arith, first, last), rest.2)
    taken_all (Do i action ∷ es) only v y l same more alone = absurd only

    -- ---- what is left to take

    module _ (y : Bare) (now : ℕ) (alone : IsAlone y now) (unready : is_ready m ((y.node h).stages op) (y.node h) ≡ false)
        (waits_so : IsStill y → waits m ((y.node h).stages op) (y.node h) ≡ is_open ((y.node h).stages op)) where
      abbrev at_home : State
      at_home = y.node h

      abbrev phase : ℕ → Phase
      phase = alone.phase

      abbrev weights : ℕ → ℕ
      weights = weight config apart h here gone lost known lives op u c phase

      abbrev IsLock : Type 0
      IsLock = Lock config apart h here gone lost known lives op u c at_home phase

      abbrev IsUpdate : Type 0
      IsUpdate = GoesOut config apart h here gone lost known lives op u c at_home phase

      abbrev IsEnd : Type 0
      IsEnd = End config apart h here gone lost known lives op u c at_home phase

      abbrev Home : Type 0
      Home = AtHome config apart h here gone lost known lives op u c at_home y.reported phase

      weight_of : (q : ℕ) → IsOne q → weights q ≡ count (phase q)
      weight_of q there = weight_is config apart h here gone lost known lives op u c phase q there

      -- a number for each peer
      abbrev number : ℕ → ℕ → ℕ
      number k = of_peers config apart h here gone lost known (λ q. k)

      number_of : (k q : ℕ) → IsOne q → number k q ≡ k
      number_of k q there = of_peer config apart h here gone lost known (λ p. k) q there

      place_of : (k : ℕ) → k < length config → Placed config apart h here gone lost known k
      place_of = placed config apart h here gone lost known

      ones : total (length config) (number 1) ≡ peers
      ones =
          let sum : total (length config) (number 1) + 1 ≡ 1 * total (length config) (λ q. cond (gone q) 0 1) =
          sum_of config apart h here gone lost known 1 lives in
          omega (arith, sum)

      at_least : (k : ℕ) → ((q : ℕ) → IsOne q → k ≤ count (phase q)) → (p : ℕ) → p < length config → number k p ≤ weights p
      at_least k some p under = go (place_of p under)
        where
          go : Placed config apart h here gone lost known p → number k p ≤ weights p
          go (IsPeer there) =
              let one : number k p ≡ k = number_of k p there in
              let many : weights p ≡ count (phase p) = weight_of p there in
              let least : k ≤ count (phase p) = some p there in
              omega (arith, one, many, least)
          go (IsNone none) = let nothing : number k p ≡ 0 = none (λ q. k) in omega (arith, nothing)

      each_is : (k : ℕ) → ((q : ℕ) → IsOne q → k ≤ count (phase q)) → total (length config) weights ≤ total (length config) (number k)
          → (q : ℕ) → IsOne q → k ≡ count (phase q)
      each_is k some few q there = sym (number_of k q there)
          ∙ (total_tight (length config) (number k) weights (at_least k some) few q
          ((Decides-ltb q (length config)).0 (pair_second (length config) h q there.0)) ∙ weight_of q there)

      few_left : now ≤ peers → total (length config) weights ≤ total (length config) (number 1)
      few_left few = let more : total (length config) weights ≡ now = alone.more_is in omega (arith, ones, more, few)

      complete_never : (k : ℕ) (stage : Stage) (used : Use) → at_home.stages op ≡ stage → at_home.uses k ≡ used
          → is_ready m stage at_home ≡ is_complete m (at_home.uses k) → is_complete m used ≡ true → ⊥
      complete_never k stage used at is same complete = clash (sym complete ∙ (ap (is_complete m) (sym is)
          ∙ (sym same ∙ (ap (λ z. is_ready m z at_home) (sym at) ∙ unready))))

      locks_many : IsLock → now ≤ peers → ⊥
      locks_many at few = complete_never c (Asking c) (Locking op u at.lead at.st) at.stage at.is refl
          ((knows config apart h here gone lost known).every_of (λ q. not (is_asked (at.st q)))
          (own_answered (at.st m.own) (at_home.locks (name_of u)) at.own)
          (λ q there. absurd (sees_many (at.st (name_at config q)) (phase q) (at.peers q there)
          (each_is 1 (λ p this. sees_some (at.st (name_at config p)) (phase p) (at.peers p this)) (few_left few) q there))))

      updates_many : IsUpdate → now ≤ peers → ⊥
      updates_many at few = complete_never at.n (Changing at.n) (Updating op u c at.replied) at.stage at.is refl
          ((knows config apart h here gone lost known).every_of at.replied at.own
          (λ q there. ok_one at.n (at.replied (name_at config q)) (phase q) (at.peers q there)
          (each_is 1 (λ p this. ok_some at.n (at.replied (name_at config p)) (phase p) (at.peers p this)) (few_left few) q there)))

      ends_few : IsEnd → now ≤ peers
      ends_few at =
          let more : total (length config) weights ≡ now = alone.more_is in
          let few : total (length config) weights ≤ total (length config) (number 1) =
          total_le (length config) weights (number 1) (λ k under. go k (place_of k under)) in
          omega (arith, ones, more, few)
        where
          go : (k : ℕ) → Placed config apart h here gone lost known k → weights k ≤ number 1 k
          go k (IsPeer there) =
              let one : number 1 k ≡ 1 = number_of 1 k there in
              let many : weights k ≡ count (phase k) = weight_of k there in
              let most : count (phase k) ≤ 1 = freed_few (phase k) (at.peers k there) in
              omega (arith, one, many, most)
          go k (IsNone none) = let nothing : weights k ≡ 0 = none (λ q. count (phase q)) in omega (arith, nothing)

      still_if : ((q : ℕ) → IsOne q → (y.wire h q ≡ []) × (y.wire q h ≡ [])) → IsStill y
      still_if none a b pair alive = go (cases_eq a h) (cases_eq b h) (gone a) refl
        where
          go : (a ≡ h) ⊎ (a ≡ h → ⊥) → (b ≡ h) ⊎ (b ≡ h → ⊥) → (away : Bool) → gone a ≡ away → y.wire a b ≡ []
          go (inl e) _ _ _ = subst (λ z. y.wire z b ≡ []) (sym e) (none b (subst (λ z. is_pair (length config) z b ≡ true) e pair, alive)).0
          go (inr n) (inl e) true away = subst (λ z. y.wire a z ≡ []) (sym e)
              (alone.from_lost a (subst (λ z. is_pair (length config) a z ≡ true) e pair) away)
          go (inr n) (inl e) false left_ = subst (λ z. y.wire a z ≡ []) (sym e)
              (none a (pair_swapped (length config) a h (subst (λ z. is_pair (length config) a z ≡ true) e pair), left_)).1
          go (inr n) (inr k) _ _ = alone.others a b pair alive n k

      ends_still : IsEnd → now ≡ 0 → IsStill y
      ends_still at none =
          let more : total (length config) weights ≡ now = alone.more_is in
          let few : total (length config) weights ≤ total (length config) (number 0) = omega (arith, more, none) in
          still_if (λ q there.
          let over : phase q ≡ Over = freed_none (phase q) (at.peers q there) (each_is 0 (λ p this. omega arith) few q there) in
          (alone.out q there ∙ ap (λ z. map Sent (outs (name_at config h) c u z)) over, alone.back q there ∙ ap (λ z. map Sent (backs (name_at config h) c u z)) over))

      more_left : (now ≤ peers → ⊥) → peers < now
      more_left many = go (cases_lt peers now)
        where
          go : (peers < now) ⊎ (now ≤ peers) → peers < now
          go (inl more) = more
          go (inr few) = absurd (many few)

      -- the command is open while more is left to take than a packet for each peer
      pub opens : is_open (at_home.stages op) ≡ nat_lt peers now
      opens = go alone.home
        where
          go : Home → is_open (at_home.stages op) ≡ nat_lt peers now
          go (Locks at) = ap is_open at.stage ∙ sym (lt-ltb peers now (more_left (locks_many at)))
          go (Updates at) = ap is_open at.stage ∙ sym (lt-ltb peers now (more_left (updates_many at)))
          go (Ends at ok) = ap is_open at.stage ∙ sym (le-ltb peers now (ends_few at))

      pub ends_answered : now ≤ peers → IsAnsweredOk op (answers_by h y.reported)
      ends_answered few = go alone.home
        where
          go : Home → IsAnsweredOk op (answers_by h y.reported)
          go (Locks at) = absurd (locks_many at few)
          go (Updates at) = absurd (updates_many at few)
          go (Ends at ok) = ok

      pub still_again : now ≡ 0 → IsStill y
      still_again none = go alone.home
        where
          few : now ≤ peers
          few = omega (arith, none)

          go : Home → IsStill y
          go (Locks at) = absurd (locks_many at few)
          go (Updates at) = absurd (updates_many at few)
          go (Ends at ok) = ends_still at none

      -- ---- what is on the way

      -- where nothing is on the way nothing is left to take
      still_none : IsStill y → now ≡ 0
      still_none still = go alone.home
        where
          -- it is open, waits for its retry, and is not ready
          busy : (stage : Stage) → at_home.stages op ≡ stage → is_open stage ≡ true → waits m stage at_home ≡ is_ready m stage at_home → ⊥
          busy stage at opened same = clash (sym opened ∙ (ap is_open (sym at) ∙ (sym (waits_so still)
              ∙ (ap (λ z. waits m z at_home) at ∙ (same ∙ (ap (λ z. is_ready m z at_home) (sym at) ∙ unready))))))

          low : IsEnd → (k : ℕ) → Placed config apart h here gone lost known k → weights k ≡ 0
          low at k (IsNone none) = none (λ q. count (phase q))
          low at k (IsPeer there) = weight_of k there ∙ freed_over (name_at config h) c u (phase k) (at.peers k there)
              (none_sent (outs (name_at config h) c u (phase k)) (sym (alone.out k there) ∙ still h k there.0 there.1))

          go : Home → now ≡ 0
          go (Locks at) = absurd (busy (Asking c) at.stage refl refl)
          go (Updates at) = absurd (busy (Changing at.n) at.stage refl refl)
          go (Ends at ok) =
              let none : total (length config) weights ≡ 0 * length config =
              total_all (length config) 0 weights (λ k under. low at k (place_of k under)) in
              let more : total (length config) weights ≡ now = alone.more_is in
              omega (arith, none, more)

      -- a packet on the way between two live nodes
      abbrev pub Packet : Type 0
      Packet = (a : ℕ) × (b : ℕ) × (packet : Noticed Message) × (rest : List (Noticed Message))
          × (is_pair (length config) a b ≡ true) × (gone a ≡ false) × (gone b ≡ false) × (y.wire a b ≡ packet ∷ rest)

      abbrev NoneAt : ℕ → Type 0
      NoneAt k = IsOne k → (y.wire h k ≡ []) × (y.wire k h ≡ [])

      at_place : (k : ℕ) → Packet ⊎ NoneAt k
      at_place k = go (is_pair (length config) h k) refl (gone k) refl (y.wire h k) refl (y.wire k h) refl
        where
          go : (b : Bool) → is_pair (length config) h k ≡ b → (away : Bool) → gone k ≡ away → (out : List (Noticed Message))
              → y.wire h k ≡ out → (back : List (Noticed Message)) → y.wire k h ≡ back → Packet ⊎ NoneAt k
          go false one away _ out _ back _ = inr (λ there. absurd (clash (sym there.0 ∙ one)))
          go true pair true away out _ back _ = inr (λ there. absurd (clash (sym away ∙ there.1)))
          go true pair false alive (packet ∷ rest) is back _ = inl (h, k, packet, rest, pair, lives, alive, is)
          go true pair false alive [] _ (packet ∷ rest) is = inl (k, h, packet, rest, pair_swapped (length config) h k pair, alive, lives, is)
          go true pair false alive [] none [] none_back = inr (λ _. (none, none_back))

      pub some_packet : 0 < now → Packet
      some_packet some = go (find_place (length config) (λ k. Packet) NoneAt at_place)
        where
          go : ((k : ℕ) × Packet) ⊎ ((k : ℕ) → k < length config → NoneAt k) → Packet
          go (inl found) = found.1
          go (inr none) =
              let nothing : now ≡ 0 = still_none (still_if (λ q there.
              none q ((Decides-ltb q (length config)).0 (pair_second (length config) h q there.0)) there)) in
              absurd (omega (arith, some, nothing))
