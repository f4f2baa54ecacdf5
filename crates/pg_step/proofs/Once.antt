-- A turn sends at most one message to each peer, and none to another name.
use Rattle.std.proofs.Common.{◌≡◌, ◌⊎◌, inl, inr, ℕ, ◌+◌, ◌≤◌, Bool, true, false, not, ◌&&◌}
use Rattle.std.proofs.Common.{◌||◌, cond, nat_eq, length, List, [], ◌∷◌, ◌++◌, Option, Some}
use Rattle.std.proofs.Common.{None, Result, Ok, Err, refl, ap, sym, subst, ◌∙◌, arith}
use Rattle.std.specs.List.{list_any, list_all}
use Rattle.std.specs.Cmp.{first_so, second_so}
use Rattle.std.specs.Cmp.Lexicographic.{bytes_decides}
use Rattle.std.proofs.lemmas.Bool.{eq-eqb}
use Rattle.std.proofs.lemmas.List.{append-nil}
use Rattle.pg_term.specs.Same.{same_atom}
use Rattle.pg_message_types.specs.PgGroup.declared.update.Update.{Update}
use Rattle.pg_message_types.specs.PgGroup.Functions.{upd}
use Rattle.pg_message_types.specs.PgGroup.Value.{name_of}
use Rattle.pg_message_types.proofs.PgGroup.Changes.{upd_at}
use Rattle.pg_message_types.specs.declared.message.Message.{Message}
use Rattle.pg_message_types.specs.declared.message.Message.TheVariants.{Call, Reply, DelLock, Exchange, Down}
use Rattle.pg_message_types.specs.declared.message.Request.TheVariants.{SetLock, Change}
use Rattle.pg_message_types.specs.declared.message.Said.{Said}
use Rattle.pg_message_types.specs.declared.message.Said.TheVariants.{Applied}
use Rattle.pg_step.specs.declared.command.OpId.{OpId}
use Rattle.pg_multicall.specs.Gathered.{what_of}
use Rattle.pg_multicall.specs.declared.gather.Taken.{Taken as Heard}
use Rattle.pg_multicall.specs.declared.gather.Taken.TheVariants as what
use Rattle.pg_lock.specs.Attempts.{after_round, does_wait}
use Rattle.pg_step.specs.Nodes.{Node, Nodes, is_peer, every, greatest, to_one, to_peers}
use Rattle.pg_step.specs.State.{State, Status, Use, Stage, Response}
use Rattle.pg_step.specs.State.Status.{Unasked, Asked}
use Rattle.pg_step.specs.State.Use.{Locking, Owning, Updating, Fresh, Spent}
use Rattle.pg_step.specs.Turns.{NodeTurn, becomes, and_then}
use Rattle.pg_step.specs.Peers.{would_grant, verdict, is_bad_exchange, exchange}
use Rattle.std.specs.Prelude.{nat_le, nat_lt}
use Rattle.pg_refs.specs.Numbered.{number_in}
use Rattle.pg_message_types.specs.PgGroup.declared.update.Update.TheVariants as update
use Rattle.pg_step.specs.declared.command.Command.{Command}
use Rattle.pg_step.specs.declared.command.Command.TheVariants as command
use Rattle.pg_step.specs.declared.answer.Reply.{Reply as Answer}
use Rattle.pg_step.specs.declared.answer.Reply.TheVariants as reply
use Rattle.pg_step.specs.State.Response.{Given}
use Rattle.pg_step.specs.State.Stage.{Closed, Waiting, Asking, Changing}
use Rattle.pg_step.specs.Commands.{OPEN_LIMIT, fault_of, look, answer, undertake, open_command, change, change_by}
use Rattle.pg_step.specs.Commands.{carried_out, command_by, count_command, next_op, command as command_in, refused}
use Rattle.pg_step.specs.Step.{Action, Issue, Retry, taken, acted}
use Rattle.pg_step.specs.declared.refusal.Refusal.{Refusal}
use Rattle.pg_step.specs.declared.refusal.Refusal.TheVariants.{NotAMessage, NoSuchPlace, NotWaiting}
use Rattle.pg_step.specs.Attempts.{round_of, use_of, count_answer, count_ok, reply_by, waits, tried_again, is_asked}
use Rattle.pg_step.specs.Attempts.{is_yes, own_reference, all_granted, none_missing, none_denied, asks, own_verdict}
use Rattle.pg_step.specs.Attempts.{with_asked, ask, give_up, begin, finish, replies_in, locks_in, go_on}
use Rattle.pg_step.specs.Attempts.{new_attempt, attempt, gathered, is_kind, lock_status, counted, reply_under}
use Rattle.pg_step.specs.declared.command_fault.CommandFault.TheVariants.{Busy}
use Rattle.pg_step.specs.declared.command_fault.CommandFault.{CommandFault}

-- ---- names

pub same_is : (x y : Node) → same_atom x y ≡ true → x ≡ y
same_is x y e = (bytes_decides x y).0 e

pub is_same : (x : Node) → same_atom x x ≡ true
is_same x = (bytes_decides x x).1 refl

or_right : (a b : Bool) → b ≡ true → (a || b) ≡ true
or_right true b e = refl
or_right false b e = e

pub clash : true ≡ false → ⊥
clash e = absurd (cc)

-- a test that all of some names pass, each passes that is among them
pass_each : (test : Node → Bool) (q : Node) (qs : List Node) → list_all test qs ≡ true → list_any (same_atom q) qs ≡ true → test q ≡ true
pass_each test q [] all found = absurd (cc)
pass_each test q (p ∷ qs) all found = go (same_atom q p) refl found (λ later. pass_each test q qs (second_so (test p) (list_all test qs) all) later)
  where
    go : (b : Bool) → same_atom q p ≡ b → (b || list_any (same_atom q) qs) ≡ true → (list_any (same_atom q) qs ≡ true → test q ≡ true) → test q ≡ true
    go true is _ rest = ap test (same_is q p is) ∙ first_so (test p) (list_all test qs) all
    go false is later rest = rest later

-- ---- messages to one name

-- these messages may go to a node: one at most, and none to another than a peer
pub record Once (m : Nodes) (q : Node) (xs : List Message) : Type 0 where
  pub one : length xs ≤ 1
  pub peers : is_peer m q ≡ false → xs ≡ []

module _ (m : Nodes) (alone : is_peer m m.own ≡ false) (q : Node) where
  once_none : Once m q []
  once_none = record { one = omega arith; peers = λ _. refl }

  once_peers : (test : Node → Bool) (x : Message) → Once m q (to_peers m test x q)
  once_peers test x = go (is_peer m q) (test q) refl
    where
      go : (b d : Bool) → is_peer m q ≡ b → Once m q (cond (b && d) (x ∷ []) [])
      go true true is = record { one = omega arith; peers = λ no. absurd (cc) }
      go true false is = once_none
      go false d is = once_none

  -- nothing more, and nothing before
  once_last : (xs ys : List Message) → Once m q xs → ys ≡ [] → Once m q (xs ++ ys)
  once_last xs ys h none = subst (λ zs. Once m q (xs ++ zs)) (sym none) (subst (Once m q) (sym (append-nil xs)) h)

  once_first : (xs ys : List Message) → xs ≡ [] → Once m q ys → Once m q (xs ++ ys)
  once_first xs ys none h = subst (λ zs. Once m q (zs ++ ys)) (sym none) h

  every_peer : (test : Node → Bool) → every m test ≡ true → is_peer m q ≡ true → test q ≡ true
  every_peer test all peer = pass_each test q m.peers (second_so (test m.own) (list_all test m.peers) all) peer

  -- a peer is another node than the own one
  not_own : is_peer m q ≡ true → same_atom m.own q ≡ false
  not_own peer = go (same_atom m.own q) refl
    where
      go : (b : Bool) → same_atom m.own q ≡ b → same_atom m.own q ≡ false
      go false is = is
      go true is = absurd (clash (sym (subst (λ p. is_peer m p ≡ true) (sym (same_is m.own q is)) peer) ∙ alone))

  -- what was sent in this event before: nothing, or a request for the lock to a peer that has not answered it
  abbrev Before : (Node → Status) → List Message → Type 0
  Before st xs = (xs ≡ []) ⊎ (Once m q xs × (is_peer m q ≡ true) × (st q ≡ Asked))

  -- once a round of requests went out
  asked_before : (who : Node → Bool) (st : Node → Status) (granted : Bool) (x : Message) → Before (with_asked m who st granted) (to_peers m (asks who st) x q)
  asked_before who st granted x = go (is_peer m q) (asks who st q) refl refl
    where
      is_asked_now : is_peer m q ≡ true → asks who st q ≡ true → with_asked m who st granted q ≡ Asked
      is_asked_now peer wanted =
          ap (λ b. cond (b && asks who st q) (cond (same_atom m.own q) (own_verdict granted) Asked) (st q)) (or_right (same_atom q m.own) (is_peer m q) peer)
          ∙ ap (λ b. cond b (cond (same_atom m.own q) (own_verdict granted) Asked) (st q)) wanted
          ∙ ap (λ b. cond b (own_verdict granted) Asked) (not_own peer)

      go : (b d : Bool) → is_peer m q ≡ b → asks who st q ≡ d → Before (with_asked m who st granted) (cond (b && d) (x ∷ []) [])
      go true true peer wanted = inr (record { one = omega arith; peers = λ no. absurd (cc) }, peer, is_asked_now peer wanted)
      go true false peer wanted = inl refl
      go false d peer wanted = inl refl

  -- ---- what follows once answers are in

  replies_once : (n : ℕ) (used : Use) (s : State) → Once m q ((replies_in m n used s).sends q)
  replies_once n (Updating op u c replied) s = go (every m replied)
    where
      go : (b : Bool) → Once m q ((cond b (finish m n op u c s) (becomes s)).sends q)
      go true = once_peers (λ _. true) (DelLock (name_of u) (own_reference m c))
      go false = once_none
  replies_once n (Locking op u lead st) s = once_none
  replies_once n (Owning name u) s = once_none
  replies_once n Fresh s = once_none
  replies_once n Spent s = once_none

  -- with the own ok alone a command ends only where there is no peer
  ends_alone : (x : Message) (n c : ℕ) (op : OpId) (u : Update) (s : State)
      → Once m q (to_peers m (λ _. true) x q ++ (replies_in m n (Updating op u c (same_atom m.own)) s).sends q)
  ends_alone x n c op u s = go (every m (same_atom m.own)) refl
    where
      nobody : every m (same_atom m.own) ≡ true → (b : Bool) → is_peer m q ≡ b → to_peers m (λ _. true) x q ≡ []
      nobody all true peer = absurd (clash (sym (every_peer (same_atom m.own) all peer) ∙ not_own peer))
      nobody all false none = (once_peers (λ _. true) x).peers none

      go : (b : Bool) → every m (same_atom m.own) ≡ b → Once m q (to_peers m (λ _. true) x q ++ (cond b (finish m n op u c s) (becomes s)).sends q)
      go true all = once_first (to_peers m (λ _. true) x q) _ (nobody all (is_peer m q) refl) (once_peers (λ _. true) (DelLock (name_of u) (own_reference m c)))
      go false _ = once_last (to_peers m (λ _. true) x q) [] (once_peers (λ _. true) x) refl

  begins_once : (c : ℕ) (op : OpId) (u : Update) (s : State)
      → Once m q ((and_then (begin m c op u s) (λ t. replies_in m t.references (t.uses t.references) t)).sends q)
  begins_once c op u s =
      let t = (begin m c op u s).state in
      let n = s.references + 1 in
      let sent = to_peers m (λ _. true) (Call (own_reference m n) (Change u)) q in
      let used : t.uses n ≡ Updating op u c (same_atom m.own) = upd_at nat_eq _ n _ (eq-eqb n n refl) in
      subst (λ x. Once m q (sent ++ (replies_in m n x t).sends q)) (sym used) (ends_alone (Call (own_reference m n) (Change u)) n c op u t)

  locks_once : (c : ℕ) (op : OpId) (u : Update) (lead : Node) (st : Node → Status) (s : State) (xs : List Message) → Before st xs
      → Once m q (xs ++ (locks_in m c (Locking op u lead st) s).sends q)
  locks_once c op u lead st s xs (inl none) = once_first xs _ none (go (all_granted m st) (none_missing m st))
    where
      go : (b d : Bool) → Once m q ((cond b (and_then (begin m c op u s) (λ t. replies_in m t.references (t.uses t.references) t))
          (cond d (give_up m c op u st s) (becomes s))).sends q)
      go true d = begins_once c op u s
      go false true = once_peers (λ p. is_yes (st p)) (DelLock (name_of u) (own_reference m c))
      go false false = once_none
  locks_once c op u lead st s xs (inr before) = once_last xs _ before.0 (go (all_granted m st) (none_missing m st) refl)
    where
      not_yes : is_yes (st q) ≡ false
      not_yes = ap is_yes before.2

      go : (b d : Bool) → all_granted m st ≡ b → (cond b (and_then (begin m c op u s) (λ t. replies_in m t.references (t.uses t.references) t))
          (cond d (give_up m c op u st s) (becomes s))).sends q ≡ []
      go true d all = absurd (clash (sym (every_peer (λ p. is_yes (st p)) all before.1) ∙ not_yes))
      go false true _ = ap (λ b. cond (b && is_yes (st q)) (DelLock (name_of u) (own_reference m c) ∷ []) []) before.1
          ∙ ap (λ b. cond b (DelLock (name_of u) (own_reference m c) ∷ []) []) not_yes
      go false false _ = refl

  locks_used : (used : Use) (c : ℕ) (op : OpId) (u : Update) (lead : Node) (st : Node → Status) (s : State) (xs : List Message) → used ≡ Locking op u lead st → Before st xs
      → Once m q (xs ++ (locks_in m c used s).sends q)
  locks_used used c op u lead st s xs e before = subst (λ x. Once m q (xs ++ (locks_in m c x s).sends q)) (sym e) (locks_once c op u lead st s xs before)

  -- the rest is asked
  asks_once : (c : ℕ) (op : OpId) (u : Update) (lead : Node) (st : Node → Status) (s : State)
      → Once m q ((and_then (ask m (λ _. true) c op u lead st s) (λ t. locks_in m c (t.uses c) t)).sends q)
  asks_once c op u lead st s =
      let t = (ask m (λ _. true) c op u lead st s).state in
      let x = Call (own_reference m c) (SetLock (name_of u)) in
      let granted = would_grant m s (name_of u) in
      locks_used (t.uses c) c op u lead (with_asked m (λ _. true) st granted) t (to_peers m (asks (λ _. true) st) x q)
      (upd_at nat_eq _ c _ (eq-eqb c c refl)) (asked_before (λ _. true) st granted x)

  go_once : (c : ℕ) (op : OpId) (u : Update) (lead : Node) (st : Node → Status) (s : State) (xs : List Message) → Before st xs
      → Once m q (xs ++ (go_on m c (Locking op u lead st) s).sends q)
  go_once c op u lead st s xs (inl none) = once_first xs _ none (go (none_missing m st) (does_wait (after_round (round_of lead st) (none_denied m st))))
    where
      go : (b d : Bool) → Once m q ((cond b (cond d (give_up m c op u st s) (and_then (ask m (λ _. true) c op u lead st s) (λ t. locks_in m c (t.uses c) t))) (becomes s)).sends q)
      go true false = asks_once c op u lead st s
      go true true = once_peers (λ p. is_yes (st p)) (DelLock (name_of u) (own_reference m c))
      go false d = once_none
  go_once c op u lead st s xs (inr before) = once_last xs _ before.0 (go (none_missing m st) (does_wait (after_round (round_of lead st) (none_denied m st))) refl)
    where
      go : (b d : Bool) → none_missing m st ≡ b
          → (cond b (cond d (give_up m c op u st s) (and_then (ask m (λ _. true) c op u lead st s) (λ t. locks_in m c (t.uses c) t))) (becomes s)).sends q ≡ []
      go true d all = absurd (clash (sym (every_peer (λ p. not (is_asked (st p))) all before.1) ∙ ap (λ x. not (is_asked x)) before.2))
      go false d _ = refl

  go_used : (used : Use) (c : ℕ) (op : OpId) (u : Update) (lead : Node) (st : Node → Status) (s : State) (xs : List Message) → used ≡ Locking op u lead st → Before st xs
      → Once m q (xs ++ (go_on m c used s).sends q)
  go_used used c op u lead st s xs e before = subst (λ x. Once m q (xs ++ (go_on m c x s).sends q)) (sym e) (go_once c op u lead st s xs before)

  attempt_once : (op : OpId) (u : Update) (s : State) → Once m q ((attempt m op u s).sends q)
  attempt_once op u s =
      let t = (new_attempt (greatest m) op u s).state in
      let c = t.references in
      let first = same_atom (greatest m) in
      let r = (ask m first c op u (greatest m) (λ _. Unasked) t).state in
      let x = Call (own_reference m c) (SetLock (name_of u)) in
      let granted = would_grant m t (name_of u) in
      go_used (r.uses c) c op u (greatest m) (with_asked m first (λ _. Unasked) granted) r (to_peers m (asks first (λ _. Unasked)) x q)
      (upd_at nat_eq _ c _ (eq-eqb c c refl)) (asked_before first (λ _. Unasked) granted x)

  -- ---- a step

  once_answer : (op : OpId) (r : Response) (s : State) → Once m q ((answer op r s).sends q)
  once_answer op r s = once_none

  undertakes_once : (op : OpId) (u : Update) (s : State) → Once m q ((undertake m op u s).sends q)
  undertakes_once op u s = go (nat_le OPEN_LIMIT s.opened)
    where
      go : (b : Bool) → Once m q ((cond b (answer op (refused Busy) s) (and_then (open_command op u s) (attempt m op u))).sends q)
      go true = once_none
      go false = attempt_once op u ((open_command op u s).state)

  change_once : (op : OpId) (u : Update) (s : State) → Once m q ((change m op u s).sends q)
  change_once op u s = go (look (s.table (name_of u)) u)
    where
      go : (r : Option Answer) → Once m q ((change_by r m op u s).sends q)
      go (Some r) = once_none
      go None = undertakes_once op u s

  carried_once : (op : OpId) (c : Command) (s : State) → Once m q ((carried_out m op c s).sends q)
  carried_once op (command.Create name) s = change_once op (update.Create name) s
  carried_once op (command.Delete name) s = change_once op (update.Delete name) s
  carried_once op (command.Join name pid) s = change_once op (update.Join name pid) s
  carried_once op (command.Leave name pid) s = change_once op (update.Leave name pid) s
  carried_once op command.Make s = once_none
  carried_once op (command.Finish pid) s = once_last (to_peers m (λ _. true) (Down pid) q) [] (once_peers (λ _. true) (Down pid)) refl
  carried_once op (command.Members name) s = once_none
  carried_once op (command.LocalMembers name) s = once_none
  carried_once op command.WhichGroups s = once_none
  carried_once op (command.Closest name word) s = once_none

  command_once : (whole : Nodes) (port : ℕ) (c : Command) (s : State) → Once m q ((command_in whole m port c s).sends q)
  command_once whole port c s = go (fault_of whole s c)
    where
      t : State
      t = (count_command port s).state

      go : (f : Option CommandFault) → Once m q ((command_by f m (next_op port s) c t).sends q)
      go (Some f) = once_none
      go None = carried_once (next_op port s) c t

  goes_once : (c : ℕ) (used : Use) (s : State) → Once m q ((go_on m c used s).sends q)
  goes_once c (Locking op u lead st) s = go_once c op u lead st s [] (inl refl)
  goes_once c (Updating op u lock replied) s = once_none
  goes_once c (Owning name u) s = once_none
  goes_once c Fresh s = once_none
  goes_once c Spent s = once_none

  tries_once : (stage : Stage) (op : OpId) (s : State) → Once m q ((tried_again stage m op s).sends q)
  tries_once (Waiting u) op s = attempt_once op u s
  tries_once (Asking c) op s = goes_once c (s.uses c) s
  tries_once (Changing n) op s = replies_once n (s.uses n) s
  tries_once Closed op s = once_none

  -- of each turn that is no refusal
  abbrev pub OnceIfOk : Result NodeTurn Refusal → Type 0
  OnceIfOk (Ok t) = Once m q (t.sends q)
  OnceIfOk (Err f) = Unit {0}

  pub acts_once : (whole : Nodes) (ports : ℕ) (action : Action) (s : State) → OnceIfOk (acted whole m ports action s)
  acts_once whole ports (Issue port c) s = go (nat_lt port ports)
    where
      go : (b : Bool) → OnceIfOk (cond b (Ok (command_in whole m port c s)) (Err NoSuchPlace))
      go true = command_once whole port c s
      go false = tt
  acts_once whole ports (Retry op) s = go (nat_lt op.port ports) (waits m (s.stages op) s)
    where
      go : (b d : Bool) → OnceIfOk (cond b (cond d (Ok (tried_again (s.stages op) m op s)) (Err NotWaiting)) (Err NoSuchPlace))
      go false d = tt
      go true false = tt
      go true true = tries_once (s.stages op) op s

  module _ (p : Node) (peer : is_peer m p ≡ true) where
    once_one : (x : Message) → Once m q (to_one p x q)
    once_one x = go (same_atom p q) refl
      where
        go : (b : Bool) → same_atom p q ≡ b → Once m q (cond b (x ∷ []) [])
        go true is = record { one = omega arith; peers = λ none. absurd (clash (sym (subst (λ z. is_peer m z ≡ true) (same_is p q is) peer) ∙ none)) }
        go false is = once_none

    counts_once : (c : ℕ) (op : OpId) (u : Update) (lead : Node) (st : Node → Status) (answer : Status) (s : State)
        → Once m q ((and_then (count_answer c op u lead st p answer s) (λ t. go_on m c (t.uses c) t)).sends q)
    counts_once c op u lead st answer s =
        let t = (count_answer c op u lead st p answer s).state in
        go_used (t.uses c) c op u lead (upd same_atom st p answer) t [] (upd_at nat_eq _ c _ (eq-eqb c c refl)) (inl refl)

    counted_once : (used : Use) (c : ℕ) (said : Said) (s : State) → Once m q ((counted used m p c said s).sends q)
    counted_once (Locking op u lead st) c said s = counts_once c op u lead st (lock_status said) s
    counted_once (Updating op u lock replied) n said s = let t = (count_ok n op u lock replied p s).state in replies_once n (t.uses n) t
    counted_once (Owning name u) c said s = once_none
    counted_once Fresh c said s = once_none
    counted_once Spent c said s = once_none

    reply_once : (used : Use) (c : ℕ) (said : Said) (s : State) → OnceIfOk (reply_under used m p c said s)
    reply_once used c said s = go (what_of true (gathered used p)) (is_kind used said)
      where
        go : (w : Heard) (kind : Bool) → OnceIfOk (reply_by w kind used m p c said s)
        go what.Stranger kind = once_none
        go what.Double true = once_none
        go what.Double false = tt
        go what.Counted true = counted_once used c said s
        go what.Counted false = tt

    pub takes_once : (x : Message) (s : State) → OnceIfOk (taken m p x s)
    takes_once (Call reference (SetLock name)) s = once_one (Reply reference (verdict (would_grant m s name)))
    takes_once (Call reference (Change u)) s = once_one (Reply reference Applied)
    takes_once (Reply reference said) s = reply_once (use_of m reference s) (number_in reference) said s
    takes_once (DelLock name reference) s = once_none
    takes_once (Exchange node groups) s = go (is_bad_exchange p node s)
      where
        go : (b : Bool) → OnceIfOk (cond b (Err NotAMessage) (Ok (exchange p groups s)))
        go true = tt
        go false = once_none
    takes_once (Down pid) s = once_none
