-- How the node of the one change that is under way goes on with it, while no peer denies anything.
use Rattle.std.proofs.Common.{◌≡◌, ◌≢◌, ◌⊎◌, inl, inr, ℕ, ◌+◌, Bool, true, false, not, ◌&&◌, ◌||◌}
use Rattle.std.proofs.Common.{cond, nat_eq, [], ◌∷◌, Option, Some, None, refl, ap, sym, ◌∙◌, subst}
use Rattle.pg_term.specs.RefParts.{RefParts}
use Rattle.pg_term.specs.Same.{same_atom}
use Rattle.pg_step.specs.PgGroup.declared.update.Update.{Update}
use Rattle.pg_step.specs.PgGroup.Functions.{upd}
use Rattle.pg_step.specs.PgGroup.Value.{name_of}
use Rattle.pg_step.specs.PgLock.Attempts.{after_round, does_wait}
use Rattle.pg_step.specs.PgLock.declared.attempt.Attempt.TheVariants.{AskingFirst, AskingRest}
use Rattle.pg_step.specs.PgRefs.Numbered.{numbered}
use Rattle.pg_step.specs.PgLock.Locks.{after_ask, is_free}
use Rattle.pg_step.specs.PgMessageTypes.declared.message.Message.{Message}
use Rattle.pg_step.specs.PgMessageTypes.declared.message.Message.TheVariants.{Call, DelLock}
use Rattle.pg_step.specs.PgMessageTypes.declared.message.Request.TheVariants.{SetLock, Change}
use Rattle.pg_step.specs.declared.answer.Reply.TheVariants as reply
use Rattle.pg_step.specs.declared.command.OpId.{OpId}
use Rattle.pg_step.specs.Nodes.{Node, Nodes, every, greatest, is_node, is_peer, to_peers}
use Rattle.pg_step.specs.State.{State, Status, Use, Response, formed}
use Rattle.pg_step.specs.State.Status.{Unasked, Asked, Yes, No}
use Rattle.pg_step.specs.State.Use.{Locking, Owning, Updating}
use Rattle.pg_step.specs.State.Stage.{Closed, Asking, Changing}
use Rattle.pg_step.specs.State.Response.{Given as Gave}
use Rattle.pg_step.specs.Turns.{NodeTurn, becomes, and_then, first_of}
use Rattle.pg_step.specs.Peers.{would_grant}
use Rattle.pg_step.specs.Attempts.{same_op, own_reference, is_unasked, is_asked, is_yes, is_no, asks, own_verdict}
use Rattle.pg_step.specs.Attempts.{with_asked, round_of, all_granted, none_missing, none_denied, new_attempt, ask}
use Rattle.pg_step.specs.Attempts.{give_up, begin, finish, count_answer, count_ok, replies_in, locks_in, go_on, attempt}
use Rattle.pg_step.proofs.Once.{clash}
use Rattle.pg_laws.proofs.locks.Stages.{commands}
use Rattle.pg_laws.proofs.quiet.Phases.{Phase, Moves, moves_none, moves_then}
use Rattle.pg_laws.proofs.quiet.Phases.Phase.{Ahead, Wanted, Given, Owned, Told, Confirmed, Done, Freed, Over}
use Rattle.pg_laws.proofs.references.Keys.{atoms, numbers, cases, differ, upd_at, upd_same, upd_other}

-- the peers of a node, by their places
pub record Knows (m : Nodes) (name : ℕ → Node) (Peer : ℕ → Type 0) : Type 0 where
  pub peer : (q : ℕ) → Peer q → is_peer m (name q) ≡ true
  pub apart : (q : ℕ) → Peer q → m.own ≢ name q
  pub others : (p q : ℕ) → Peer p → Peer q → p ≢ q → name p ≢ name q
  pub every_of : (test : Node → Bool) → test m.own ≡ true → ((q : ℕ) → Peer q → test (name q) ≡ true) → every m test ≡ true
  pub of_every : (test : Node → Bool) → every m test ≡ true → (q : ℕ) → Peer q → test (name q) ≡ true

-- ---- what the node keeps of a peer that has come so far

abbrev pub Sees : Status → Phase → Type 0
Sees Unasked Ahead = Unit {0}
Sees Asked Wanted = Unit {0}
Sees Asked Given = Unit {0}
Sees Yes Owned = Unit {0}
Sees status phase = ⊥

abbrev pub SeesOk : ℕ → Bool → Phase → Type 0
SeesOk n false (Told k) = k ≡ n
SeesOk n false (Confirmed k) = k ≡ n
SeesOk n true Done = Unit {0}
SeesOk n replied phase = ⊥

abbrev pub IsFreed : Phase → Type 0
IsFreed Freed = Unit {0}
IsFreed Over = Unit {0}
IsFreed phase = ⊥

-- and of itself: it has the lock, or can give it
abbrev pub OwnSees : Status → Option RefParts → Type 0
OwnSees Unasked holder = holder ≡ None
OwnSees Yes holder = Unit {0}
OwnSees status holder = ⊥

-- what a turn makes of a phase
abbrev asked_phase : Bool → Phase → Phase
asked_phase true Ahead = Wanted
asked_phase b phase = phase

abbrev told_phase : ℕ → Phase → Phase
told_phase n Owned = Told n
told_phase n phase = phase

abbrev freed_phase : Phase → Phase
freed_phase Done = Freed
freed_phase phase = phase

-- ---- words by cases

wait_no : (b all : Bool) → all ≡ true → does_wait (after_round (cond b AskingRest AskingFirst) all) ≡ false
wait_no true true e = refl
wait_no false true e = refl
wait_no b false e = absurd (cc)

sees_not_no : (v : Status) (p : Phase) → Sees v p → not (is_no v) ≡ true
sees_not_no Unasked p sees = refl
sees_not_no Asked p sees = refl
sees_not_no Yes p sees = refl
sees_not_no No p sees = absurd sees

own_not_no : (v : Status) (holder : Option RefParts) → OwnSees v holder → not (is_no v) ≡ true
own_not_no Unasked holder sees = refl
own_not_no Yes holder sees = refl
own_not_no Asked holder sees = absurd sees
own_not_no No holder sees = absurd sees

-- who is not to be asked, and has answered, has granted
granted_of : (v : Status) (p : Phase) → Sees v p → is_unasked v ≡ false → not (is_asked v) ≡ true → is_yes v ≡ true
granted_of Unasked p sees asked answered = absurd (cc)
granted_of Asked p sees asked answered = absurd (cc)
granted_of Yes p sees asked answered = refl
granted_of No p sees asked answered = absurd sees

own_granted : (v : Status) (holder : Option RefParts) → OwnSees v holder → is_unasked v ≡ false → is_yes v ≡ true
own_granted Unasked holder sees asked = absurd (cc)
own_granted Asked holder sees asked = absurd sees
own_granted Yes holder sees asked = refl
own_granted No holder sees asked = absurd sees

-- who was asked is not unasked
asked_sees : (b : Bool) (v : Status) (p : Phase) → Sees v p → Sees (cond (b && is_unasked v) Asked v) (asked_phase b p)
asked_sees true Unasked Ahead sees = tt
asked_sees false Unasked Ahead sees = tt
asked_sees true Asked Wanted sees = tt
asked_sees false Asked Wanted sees = tt
asked_sees true Asked Given sees = tt
asked_sees false Asked Given sees = tt
asked_sees true Yes Owned sees = tt
asked_sees false Yes Owned sees = tt
asked_sees b v p sees = absurd sees

asked_known : (v : Status) (p : Phase) → Sees v (asked_phase true p) → is_unasked v ≡ false
asked_known Unasked Ahead sees = absurd sees
asked_known Unasked Wanted sees = absurd sees
asked_known Unasked Given sees = absurd sees
asked_known Unasked Owned sees = absurd sees
asked_known Unasked (Told n) sees = absurd sees
asked_known Unasked (Confirmed n) sees = absurd sees
asked_known Unasked Done sees = absurd sees
asked_known Unasked Freed sees = absurd sees
asked_known Unasked Over sees = absurd sees
asked_known Asked p sees = refl
asked_known Yes p sees = refl
asked_known No p sees = refl

-- ---- what is sent

module _ (own : Node) (c : ℕ) (u : Update) where
  asked_moves : (b : Bool) (v : Status) (p : Phase) → Sees v p → Moves own c u p (cond (b && is_unasked v) (Call (numbered own c) (SetLock (name_of u)) ∷ []) []) (asked_phase b p)
  asked_moves true Unasked Ahead sees = record { out = refl; back = refl; as_many = refl; free = λ e. refl }
  asked_moves false Unasked Ahead sees = moves_none own c u Ahead
  asked_moves true Asked Wanted sees = moves_none own c u Wanted
  asked_moves false Asked Wanted sees = moves_none own c u Wanted
  asked_moves true Asked Given sees = moves_none own c u Given
  asked_moves false Asked Given sees = moves_none own c u Given
  asked_moves true Yes Owned sees = moves_none own c u Owned
  asked_moves false Yes Owned sees = moves_none own c u Owned
  asked_moves b v p sees = absurd sees

  told_moves : (n : ℕ) (v : Status) (p : Phase) → is_yes v ≡ true → Sees v p → Moves own c u p (Call (numbered own n) (Change u) ∷ []) (told_phase n p) × SeesOk n false (told_phase n p)
  told_moves n Yes Owned said sees = (record { out = refl; back = refl; as_many = refl; free = λ e. absurd (cc) }, refl)
  told_moves n Unasked p said sees = absurd (cc)
  told_moves n Asked p said sees = absurd (cc)
  told_moves n v p said sees = absurd sees

  freed_moves : (n : ℕ) (b : Bool) (p : Phase) → b ≡ true → SeesOk n b p → Moves own c u p (DelLock (name_of u) (numbered own c) ∷ []) (freed_phase p) × IsFreed (freed_phase p)
  freed_moves n true Done said sees = (record { out = refl; back = refl; as_many = refl; free = λ e. absurd (cc) }, tt)
  freed_moves n false p said sees = absurd (cc)
  freed_moves n b p said sees = absurd sees

-- ---- turns

module _ (m : Nodes) (name : ℕ → Node) (Peer : ℕ → Type 0) (knows : Knows m name Peer) (op : OpId) (u : Update) (c : ℕ) where
  -- the command asks for the lock, under the reference of this number
  pub record AtLock (s : State) (phase : ℕ → Phase) : Type 0 where
    pub lead : Node
    pub st : Node → Status
    pub is : s.uses c ≡ Locking op u lead st
    pub stage : s.stages op ≡ Asking c
    pub peers : (q : ℕ) → Peer q → Sees (st (name q)) (phase q)
    pub own : OwnSees (st m.own) (s.locks (name_of u))
    pub full : formed m s ≡ true

  -- its update goes out
  pub record AtUpdate (s : State) (phase : ℕ → Phase) : Type 0 where
    pub n : ℕ
    pub replied : Node → Bool
    pub is : s.uses n ≡ Updating op u c replied
    pub stage : s.stages op ≡ Changing n
    pub peers : (q : ℕ) → Peer q → SeesOk n (replied (name q)) (phase q)
    pub own : replied m.own ≡ true

  -- it is answered
  pub record AtEnd (s : State) (phase : ℕ → Phase) : Type 0 where
    pub stage : s.stages op ≡ Closed
    pub peers : (q : ℕ) → Peer q → IsFreed (phase q)

  pub data After (s : State) (gave : Option (OpId × Response)) (phase : ℕ → Phase) : Type 0 where
    IsAtLock : AtLock s phase → After s gave phase
    IsAtUpdate : AtUpdate s phase → After s gave phase
    IsAtEnd : AtEnd s phase → gave ≡ Some (op, Gave reply.Ok) → After s gave phase

  abbrev pub Goes : (ℕ → Phase) → NodeTurn → (ℕ → Phase) → Type 0
  Goes phase t later = (q : ℕ) → Peer q → Moves m.own c u (phase q) (t.sends (name q)) (later q)

  -- a turn, and what has come of it
  pub record Result (phase : ℕ → Phase) (t : NodeTurn) : Type 0 where
    pub later : ℕ → Phase
    pub goes : Goes phase t later
    pub after : After t.state t.reported.gave later

  stays : (s : State) (phase : ℕ → Phase) → After s None phase → Result phase (becomes s)
  stays s phase after = record { later = phase; goes = λ q _. moves_none m.own c u (phase q); after = after }

  result_then : (phase middle : ℕ → Phase) (t : NodeTurn) (next : State → NodeTurn) → t.reported.gave ≡ None → Goes phase t middle → Result middle (next t.state) → Result phase (and_then t next)
  result_then phase middle t next none goes last = record {
    later = last.later;
    goes = λ q there. moves_then m.own c u (phase q) (middle q) (last.later q) (t.sends (name q)) ((next t.state).sends (name q)) (goes q there) (last.goes q there);
    after = subst (λ g. After (next t.state).state (first_of g (next t.state).reported.gave) last.later) (sym none) last.after;
  }

  -- what goes to each peer that passes a test goes to this one
  sent_as : (test : Node → Bool) (x : Message) (q : ℕ) → Peer q → to_peers m test x (name q) ≡ cond (test (name q)) (x ∷ []) []
  sent_as test x q there = ap (λ b. cond (b && test (name q)) (x ∷ []) []) (knows.peer q there)

  -- ---- an update

  all_replied : (s : State) (phase : ℕ → Phase) (at : AtUpdate s phase) → every m at.replied ≡ true → Result phase (finish m at.n op u c s)
  all_replied s phase at all = record {
    later = λ q. freed_phase (phase q);
    goes = λ q there. subst (λ xs. Moves m.own c u (phase q) xs (freed_phase (phase q))) (sym (sent_as (λ _. true) (DelLock (name_of u) (own_reference m c)) q there)) (ends q there).0;
    after = IsAtEnd (record { stage = upd_same same_op commands s.stages op Closed; peers = λ q there. (ends q there).1 }) refl;
  }
    where
      ends : (q : ℕ) → Peer q → Moves m.own c u (phase q) (DelLock (name_of u) (own_reference m c) ∷ []) (freed_phase (phase q)) × IsFreed (freed_phase (phase q))
      ends q there = freed_moves m.own c u at.n (at.replied (name q)) (phase q) (knows.of_every at.replied all q there) (at.peers q there)

  replies_result : (s : State) (phase : ℕ → Phase) (at : AtUpdate s phase) (used : Use) → used ≡ Updating op u c at.replied → Result phase (replies_in m at.n used s)
  replies_result s phase at used is = subst (λ x. Result phase (replies_in m at.n x s)) (sym is) (go (every m at.replied) refl)
    where
      go : (b : Bool) → every m at.replied ≡ b → Result phase (cond b (finish m at.n op u c s) (becomes s))
      go true all = all_replied s phase at all
      go false _ = stays s phase (IsAtUpdate at)

  -- ---- a lock

  begins : (s : State) (phase : ℕ → Phase) (at : AtLock s phase) → all_granted m at.st ≡ true → Result phase (and_then (begin m c op u s) (λ t. replies_in m t.references (t.uses t.references) t))
  begins s phase at all =
      result_then phase middle t (λ v. replies_in m v.references (v.uses v.references) v) refl
      (λ q there. subst (λ xs. Moves m.own c u (phase q) xs (middle q)) (sym (sent_as (λ _. true) (Call (own_reference m n) (Change u)) q there)) (told q there).0)
      (replies_result t.state middle now (t.state.uses n) now.is)
    where
      n : ℕ
      n = s.references + 1

      t : NodeTurn
      t = begin m c op u s

      middle : ℕ → Phase
      middle q = told_phase n (phase q)

      told : (q : ℕ) → Peer q → Moves m.own c u (phase q) (Call (own_reference m n) (Change u) ∷ []) (middle q) × SeesOk n false (middle q)
      told q there = told_moves m.own c u n (at.st (name q)) (phase q) (knows.of_every (λ x. is_yes (at.st x)) all q there) (at.peers q there)

      now : AtUpdate t.state middle
      now = record {
        n = n;
        replied = same_atom m.own;
        is = upd_same nat_eq numbers (upd nat_eq s.uses c (Owning (name_of u) n)) n (Updating op u c (same_atom m.own));
        stage = upd_same same_op commands s.stages op (Changing n);
        peers = λ q there. subst (λ b. SeesOk n b (middle q)) (sym (differ same_atom atoms m.own (name q) (knows.apart q there))) (told q there).1;
        own = atoms.refl m.own;
      }

  -- where all were asked none gives up
  locks_result : (s : State) (phase : ℕ → Phase) (at : AtLock s phase) (used : Use) → used ≡ Locking op u at.lead at.st → is_unasked (at.st m.own) ≡ false
      → ((q : ℕ) → Peer q → is_unasked (at.st (name q)) ≡ false) → Result phase (locks_in m c used s)
  locks_result s phase at used is asked all_asked = subst (λ x. Result phase (locks_in m c x s)) (sym is) (go (all_granted m at.st) (none_missing m at.st) refl refl)
    where
      granted : none_missing m at.st ≡ true → all_granted m at.st ≡ true
      granted all = knows.every_of (λ x. is_yes (at.st x)) (own_granted (at.st m.own) (s.locks (name_of u)) at.own asked)
          (λ q there. granted_of (at.st (name q)) (phase q) (at.peers q there) (all_asked q there) (knows.of_every (λ x. not (is_asked (at.st x))) all q there))

      go : (b d : Bool) → all_granted m at.st ≡ b → none_missing m at.st ≡ d
          → Result phase (cond b (and_then (begin m c op u s) (λ t. replies_in m t.references (t.uses t.references) t)) (cond d (give_up m c op u at.st s) (becomes s)))
      go true d all _ = begins s phase at all
      go false true some none = absurd (clash (sym (granted none) ∙ some))
      go false false _ _ = stays s phase (IsAtLock at)

  -- ---- a round

  abbrev later_status : (Node → Bool) → (Node → Status) → State → Node → Status
  later_status who st s = with_asked m who st (would_grant m s (name_of u))

  peer_status : (s : State) (who : Node → Bool) (st : Node → Status) (q : ℕ) → Peer q → later_status who st s (name q) ≡ cond (who (name q) && is_unasked (st (name q))) Asked (st (name q))
  peer_status s who st q there =
      let node : is_node m (name q) ≡ true = right (same_atom (name q) m.own) (is_peer m (name q)) (knows.peer q there) in
      ap (λ b. cond (b && asks who st (name q)) (cond (same_atom m.own (name q)) (own_verdict (would_grant m s (name_of u))) Asked) (st (name q))) node
      ∙ ap (λ b. cond (asks who st (name q)) (cond b (own_verdict (would_grant m s (name_of u))) Asked) (st (name q))) (differ same_atom atoms m.own (name q) (knows.apart q there))
    where
      right : (a b : Bool) → b ≡ true → (a || b) ≡ true
      right true b e = refl
      right false b e = e

  own_status : (s : State) (who : Node → Bool) (st : Node → Status) → later_status who st s m.own ≡ cond (who m.own && is_unasked (st m.own)) (own_verdict (would_grant m s (name_of u))) (st m.own)
  own_status s who st =
      ap (λ b. cond ((b || is_peer m m.own) && asks who st m.own) (cond b (own_verdict (would_grant m s (name_of u))) Asked) (st m.own)) (atoms.refl m.own)

  would : (s : State) → formed m s ≡ true → s.locks (name_of u) ≡ None → would_grant m s (name_of u) ≡ true
  would s full free = λ i. full i && is_free (free i)

  -- the own node has the lock, or can give it
  own_later : (s : State) (b : Bool) (v : Status) → formed m s ≡ true → OwnSees v (s.locks (name_of u))
      → OwnSees (cond (b && is_unasked v) (own_verdict (would_grant m s (name_of u))) v) (after_ask ((b && is_unasked v) && would_grant m s (name_of u)) s.locks (name_of u) (own_reference m c) (name_of u))
  own_later s true Unasked full free = subst (λ g. OwnSees (own_verdict g) (after_ask g s.locks (name_of u) (own_reference m c) (name_of u))) (sym (would s full free)) tt
  own_later s false Unasked full free = free
  own_later s true Yes full has = tt
  own_later s false Yes full has = tt
  own_later s b Asked full has = absurd has
  own_later s b No full has = absurd has

  pub asks_result : (s : State) (phase : ℕ → Phase) (at : AtLock s phase) (who : Node → Bool)
      → AtLock ((ask m who c op u at.lead at.st s).state) (λ q. asked_phase (who (name q)) (phase q)) × Goes phase (ask m who c op u at.lead at.st s) (λ q. asked_phase (who (name q)) (phase q))
  asks_result s phase at who = (
    record {
      lead = at.lead;
      st = later_status who at.st s;
      is = upd_same nat_eq numbers s.uses c (Locking op u at.lead (later_status who at.st s));
      stage = at.stage;
      peers = λ q there. subst (λ v. Sees v (asked_phase (who (name q)) (phase q))) (sym (peer_status s who at.st q there)) (asked_sees (who (name q)) (at.st (name q)) (phase q) (at.peers q there));
      own = subst (λ v. OwnSees v ((ask m who c op u at.lead at.st s).state.locks (name_of u))) (sym (own_status s who at.st)) (own_later s (who m.own) (at.st m.own) at.full at.own);
      full = at.full;
    },
    λ q there. subst (λ xs. Moves m.own c u (phase q) xs (asked_phase (who (name q)) (phase q))) (sym (sent_as (asks who at.st) (Call (own_reference m c) (SetLock (name_of u))) q there))
        (asked_moves m.own c u (who (name q)) (at.st (name q)) (phase q) (at.peers q there)),
  )

  own_asked : (s : State) (v : Status) → formed m s ≡ true → OwnSees v (s.locks (name_of u)) → is_unasked (cond (true && is_unasked v) (own_verdict (would_grant m s (name_of u))) v) ≡ false
  own_asked s Unasked full free = ap (λ g. is_unasked (own_verdict g)) (would s full free)
  own_asked s Yes full has = refl
  own_asked s Asked full has = absurd has
  own_asked s No full has = absurd has

  -- the rest is asked where none is missing, and nothing else comes of it
  goes_on_result : (s : State) (phase : ℕ → Phase) (at : AtLock s phase) (used : Use) → used ≡ Locking op u at.lead at.st → Result phase (go_on m c used s)
  unfolding asks_result
  goes_on_result s phase at used is = subst (λ x. Result phase (go_on m c x s)) (sym is) (go (none_missing m at.st) (does_wait (after_round (round_of at.lead at.st) (none_denied m at.st))) no_wait)
    where
      none : none_denied m at.st ≡ true
      none = knows.every_of (λ x. not (is_no (at.st x))) (own_not_no (at.st m.own) (s.locks (name_of u)) at.own) (λ q there. sees_not_no (at.st (name q)) (phase q) (at.peers q there))

      no_wait : does_wait (after_round (round_of at.lead at.st) (none_denied m at.st)) ≡ false
      no_wait = wait_no (is_yes (at.st at.lead)) (none_denied m at.st) none

      all : Node → Bool
      all x = true

      t : NodeTurn
      t = ask m all c op u at.lead at.st s

      middle : ℕ → Phase
      middle q = asked_phase true (phase q)

      now : AtLock t.state middle × Goes phase t middle
      now = asks_result s phase at all

      rest : Result middle (locks_in m c (t.state.uses c) t.state)
      rest = locks_result t.state middle now.0 (t.state.uses c) now.0.is
          (ap is_unasked (own_status s all at.st) ∙ own_asked s (at.st m.own) at.full at.own)
          (λ q there. asked_known (later_status all at.st s (name q)) (phase q) (now.0.peers q there))

      go : (b d : Bool) → d ≡ false
          → Result phase (cond b (cond d (give_up m c op u at.st s) (and_then (ask m (λ x. true) c op u at.lead at.st s) (λ v. locks_in m c (v.uses c) v))) (becomes s))
      go true false _ = result_then phase middle t (λ v. locks_in m c (v.uses c) v) refl now.1 rest
      go true true e = absurd (cc)
      go false d e = stays s phase (IsAtLock at)

  -- ---- replies

  pub granted_result : (s : State) (phase : ℕ → Phase) (at : AtLock s phase) (p : ℕ) → Peer p
      → Result (upd nat_eq phase p Owned) (and_then (count_answer c op u at.lead at.st (name p) Yes s) (λ t. go_on m c (t.uses c) t))
  granted_result s phase at p there =
      let g = goes_on_result t.state (upd nat_eq phase p Owned) now (t.state.uses c) now.is in
      record { later = g.later; goes = g.goes; after = g.after }
    where
      t : NodeTurn
      t = count_answer c op u at.lead at.st (name p) Yes s

      st : Node → Status
      st = upd same_atom at.st (name p) Yes

      seen : (q : ℕ) → Peer q → (p ≡ q) ⊎ (p ≢ q) → Sees (st (name q)) (upd nat_eq phase p Owned q)
      seen q here (inl e) = subst (λ v. Sees v (upd nat_eq phase p Owned q)) (sym (upd_at same_atom atoms at.st (name p) Yes (name q) (ap name e))) (subst (Sees Yes) (sym (upd_at nat_eq numbers phase p Owned q e)) tt)
      seen q here (inr n) = subst (λ v. Sees v (upd nat_eq phase p Owned q)) (sym (upd_other same_atom atoms at.st (name p) Yes (name q) (knows.others p q there here n)))
          (subst (Sees (at.st (name q))) (sym (upd_other nat_eq numbers phase p Owned q n)) (at.peers q here))

      now : AtLock t.state (upd nat_eq phase p Owned)
      now = record {
        lead = at.lead;
        st = st;
        is = upd_same nat_eq numbers s.uses c (Locking op u at.lead st);
        stage = at.stage;
        peers = λ q here. seen q here (cases nat_eq numbers p q);
        own = subst (λ v. OwnSees v (s.locks (name_of u))) (sym (upd_other same_atom atoms at.st (name p) Yes m.own (λ e. knows.apart p there (sym e)))) at.own;
        full = at.full;
      }

  pub confirmed_result : (s : State) (phase : ℕ → Phase) (at : AtUpdate s phase) (p : ℕ) → Peer p
      → Result (upd nat_eq phase p Done) (and_then (count_ok at.n op u c at.replied (name p) s) (λ t. replies_in m at.n (t.uses at.n) t))
  confirmed_result s phase at p there =
      let g = replies_result t.state (upd nat_eq phase p Done) now (t.state.uses at.n) now.is in
      record { later = g.later; goes = g.goes; after = g.after }
    where
      t : NodeTurn
      t = count_ok at.n op u c at.replied (name p) s

      replied : Node → Bool
      replied = upd same_atom at.replied (name p) true

      seen : (q : ℕ) → Peer q → (p ≡ q) ⊎ (p ≢ q) → SeesOk at.n (replied (name q)) (upd nat_eq phase p Done q)
      seen q here (inl e) = subst (λ b. SeesOk at.n b (upd nat_eq phase p Done q)) (sym (upd_at same_atom atoms at.replied (name p) true (name q) (ap name e)))
          (subst (SeesOk at.n true) (sym (upd_at nat_eq numbers phase p Done q e)) tt)
      seen q here (inr n) = subst (λ b. SeesOk at.n b (upd nat_eq phase p Done q)) (sym (upd_other same_atom atoms at.replied (name p) true (name q) (knows.others p q there here n)))
          (subst (SeesOk at.n (at.replied (name q))) (sym (upd_other nat_eq numbers phase p Done q n)) (at.peers q here))

      now : AtUpdate t.state (upd nat_eq phase p Done)
      now = record {
        n = at.n;
        replied = replied;
        is = upd_same nat_eq numbers s.uses at.n (Updating op u c replied);
        stage = at.stage;
        peers = λ q here. seen q here (cases nat_eq numbers p q);
        own = upd_other same_atom atoms at.replied (name p) true m.own (λ e. knows.apart p there (sym e)) ∙ at.own;
      }

-- ---- an attempt

module _ (m : Nodes) (name : ℕ → Node) (Peer : ℕ → Type 0) (knows : Knows m name Peer) (op : OpId) (u : Update) (s : State) where
  pub attempt_result : formed m s ≡ true → s.locks (name_of u) ≡ None → Result m name Peer knows op u (s.references + 1) (λ q. Ahead) (attempt m op u s)
  attempt_result full free =
      let g = goes_on_result m name Peer knows op u c r.state middle now.0 (r.state.uses c) now.0.is in
      result_then m name Peer knows op u c (λ q. Ahead) (λ q. Ahead) t (λ v. and_then (ask m (same_atom lead) v.references op u lead (λ q. Unasked) v) (λ x. go_on m v.references (x.uses v.references) x)) refl
      (λ q there. moves_none m.own c u Ahead)
      (result_then m name Peer knows op u c (λ q. Ahead) middle r (λ x. go_on m c (x.uses c) x) refl now.1 g)
    where
      c : ℕ
      c = s.references + 1

      lead : Node
      lead = greatest m

      t : NodeTurn
      t = new_attempt lead op u s

      first : AtLock m name Peer knows op u c t.state (λ q. Ahead)
      first = record {
        lead = lead;
        st = λ q. Unasked;
        is = upd_same nat_eq numbers s.uses c (Locking op u lead (λ q. Unasked));
        stage = upd_same same_op commands s.stages op (Asking c);
        peers = λ q there. tt;
        own = free;
        full = full;
      }

      r : NodeTurn
      r = ask m (same_atom lead) c op u lead (λ q. Unasked) t.state

      middle : ℕ → Phase
      middle q = asked_phase (same_atom lead (name q)) Ahead

      now : AtLock m name Peer knows op u c r.state middle × Goes m name Peer knows op u c (λ q. Ahead) r middle
      now = asks_result m name Peer knows op u c t.state (λ q. Ahead) first (same_atom lead)
