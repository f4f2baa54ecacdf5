-- Whose requests for a lock a node sends, and who holds its locks behind a turn: a request is of the node itself, and a new
-- holder is a reference of the node itself, or of the peer whose request was taken.
use Rattle.std.proofs.Common.{◌≡◌, ◌⊎◌, inl, inr, ℕ, ◌+◌, Bool, true, false, ◌&&◌, cond, nat_le}
use Rattle.std.proofs.Common.{nat_lt, [], ◌∷◌, Option, Some, None, Ok, Err, refl, ap, sym, ◌∙◌, subst}
use Rattle.std.specs.List.{AllByRecursion}
use Rattle.pg_term.specs.declared.term.Term.{Term}
use Rattle.pg_term.specs.RefParts.{RefParts}
use Rattle.pg_term.specs.Same.{same_atom, same_term}
use Rattle.pg_laws.specs.PgRefs.Numbered.{number_in}
use Rattle.pg_laws.specs.PgGroup.declared.update.Update.{Update}
use Rattle.pg_laws.specs.PgGroup.declared.update.Update.TheVariants as update
use Rattle.pg_laws.specs.PgGroup.Value.{name_of}
use Rattle.pg_laws.specs.PgLock.Attempts.{after_round, does_wait}
use Rattle.pg_laws.specs.PgLock.Locks.{Locks, held, after_ask, given_up}
use Rattle.pg_laws.proofs.PgStep.Machines.Options.{some_is}
use Rattle.pg_laws.specs.PgMessageTypes.declared.message.Message.{Message}
use Rattle.pg_laws.specs.PgMessageTypes.declared.message.Message.TheVariants.{Call, Reply, DelLock, Exchange, Down}
use Rattle.pg_laws.specs.PgMessageTypes.declared.message.Request.TheVariants.{SetLock, Change}
use Rattle.pg_laws.specs.PgMessageTypes.declared.message.Said.{Said}
use Rattle.pg_laws.specs.PgStep.declared.answer.Reply.{Reply as Answer}
use Rattle.pg_laws.specs.PgStep.declared.answer.Reply.TheVariants as reply
use Rattle.pg_laws.specs.PgStep.declared.command.Command.{Command}
use Rattle.pg_laws.specs.PgStep.declared.command.Command.TheVariants as command
use Rattle.pg_laws.specs.PgStep.declared.command.OpId.{OpId}
use Rattle.pg_laws.specs.PgStep.declared.command_fault.CommandFault.{CommandFault}
use Rattle.pg_laws.specs.PgStep.declared.command_fault.CommandFault.TheVariants.{Busy}
use Rattle.pg_laws.specs.PgStep.declared.refusal.Refusal.TheVariants.{NoSuchPlace, NotAMessage, NotWaiting}
use Rattle.pg_laws.specs.PgStep.Attempts.{all_granted, none_missing, none_denied, round_of, asks, own_reference}
use Rattle.pg_laws.specs.PgStep.Attempts.{new_attempt, ask, give_up, begin, finish, count_answer, count_ok, replies_in}
use Rattle.pg_laws.specs.PgStep.Attempts.{locks_in, go_on, attempt, waits, tried_again, counted, use_of, lock_status}
use Rattle.pg_laws.specs.PgStep.Commands.{OPEN_LIMIT, fault_of, look, answer, open_command, change_by, change}
use Rattle.pg_laws.specs.PgStep.Commands.{carried_out, command_by, next_op, count_command, command as command_in, refused}
use Rattle.pg_laws.specs.PgStep.Nodes.{Node, Nodes, every, greatest, is_peer, to_peers, to_one}
use Rattle.pg_laws.specs.PgStep.Peers.{is_bad_exchange, exchange, ended_in, would_grant}
use Rattle.pg_laws.specs.PgStep.State.{State, Status, Use, Stage}
use Rattle.pg_laws.specs.PgStep.State.Response.{Given}
use Rattle.pg_laws.specs.PgStep.State.Stage.{Closed, Waiting, Asking, Changing}
use Rattle.pg_laws.specs.PgStep.State.Status.{Unasked}
use Rattle.pg_laws.specs.PgStep.State.Use.{Fresh, Locking, Owning, Updating, Spent}
use Rattle.pg_laws.specs.PgStep.Step.{Action, Issue, Retry, taken, acted}
use Rattle.pg_laws.specs.PgStep.Turns.{NodeTurn, becomes, becomes_and_sends, and_then}
use Rattle.pg_laws.proofs.steps.Single.{Makes, judged, ok_is}
use Rattle.pg_laws.proofs.steps.Ways.{all_both}

-- a request for a lock is of this node
abbrev pub IsOwnRequest : Node → Message → Type 0
IsOwnRequest own (Call r (SetLock name)) = r.node ≡ own
IsOwnRequest own _ = Unit {0}

-- each lock has the holder that it had, or one of these nodes, and what is sent asks for locks for this node alone
pub record Guards (own p : Node) (s : State) (t : NodeTurn) : Type 0 where
  pub locks : (name : Term) (h : RefParts) → t.state.locks name ≡ Some h → (s.locks name ≡ Some h) ⊎ ((h.node ≡ own) ⊎ (h.node ≡ p))
  pub asks : (q : Node) → AllByRecursion (IsOwnRequest own) (t.sends q)

asked_for : (b : Bool) (locks : Locks) (name : Term) (r : RefParts) (other : Term) (h : RefParts) → after_ask b locks name r other ≡ Some h → (locks other ≡ Some h) ⊎ (r ≡ h)
unfolding held
asked_for false locks name r other h is = inl is
asked_for true locks name r other h is = go (same_term name other) is
  where
    go : (b : Bool) → cond b (Some r) (locks other) ≡ Some h → (locks other ≡ Some h) ⊎ (r ≡ h)
    go true e = inr (some_is e)
    go false e = inl e

given_back : (b : Bool) (locks : Locks) (name other : Term) (h : RefParts) → given_up b locks name other ≡ Some h → locks other ≡ Some h
unfolding held
given_back false locks name other h is = is
given_back true locks name other h is = go (same_term name other) is
  where
    go : (b : Bool) → cond b None (locks other) ≡ Some h → locks other ≡ Some h
    go true e = absurd (cc)
    go false e = e

one_sent : (own : Node) (x : Message) → IsOwnRequest own x → (b : Bool) → AllByRecursion (IsOwnRequest own) (cond b (x ∷ []) [])
one_sent own x ours true = (ours, tt)
one_sent own x ours false = tt

-- the locks stay as they are
stays_so : (own p : Node) (s : State) (t : NodeTurn) → t.state.locks ≡ s.locks → ((q : Node) → AllByRecursion (IsOwnRequest own) (t.sends q)) → Guards own p s t
stays_so own p s t same asks = record { locks = λ name h is. inl (ap (λ (f : Locks). f name) (sym same) ∙ is); asks = asks }

both_guard : (own p : Node) (s : State) (t : NodeTurn) (next : State → NodeTurn) → Guards own p s t → Guards own p t.state (next t.state) → Guards own p s (and_then t next)
both_guard own p s t next first later = record {
  locks = λ name h is. go name h (later.locks name h is);
  asks = λ q. all_both (IsOwnRequest own) (t.sends q) ((next t.state).sends q) (first.asks q) (later.asks q);
}
  where
    go : (name : Term) (h : RefParts) → (t.state.locks name ≡ Some h) ⊎ ((h.node ≡ own) ⊎ (h.node ≡ p)) → (s.locks name ≡ Some h) ⊎ ((h.node ≡ own) ⊎ (h.node ≡ p))
    go name h (inl e) = first.locks name h e
    go name h (inr e) = inr e

module _ (m : Nodes) (p : Node) where
  abbrev Quiet : State → NodeTurn → Type 0
  Quiet s t = Guards m.own p s t

  quiet : (s : State) (t : State) → t.locks ≡ s.locks → Quiet s (becomes t)
  quiet s t same = stays_so m.own p s (becomes t) same (λ q. tt)

  answer_so : (op : OpId) (response : _) (s : State) → Quiet s (answer op response s)
  answer_so op response s = stays_so m.own p s (answer op response s) refl (λ q. tt)

  ask_so : (who : Node → Bool) (c : ℕ) (op : OpId) (u : Update) (first : Node) (st : Node → Status) (s : State) → Quiet s (ask m who c op u first st s)
  ask_so who c op u first st s = record {
    locks = λ name h is. go name h (asked_for (asks who st m.own && would_grant m s (name_of u)) s.locks (name_of u) (own_reference m c) name h is);
    asks = λ q. one_sent m.own (Call (own_reference m c) (SetLock (name_of u))) refl (is_peer m q && asks who st q);
  }
    where
      go : (name : Term) (h : RefParts) → (s.locks name ≡ Some h) ⊎ (own_reference m c ≡ h) → (s.locks name ≡ Some h) ⊎ ((h.node ≡ m.own) ⊎ (h.node ≡ p))
      go name h (inl e) = inl e
      go name h (inr e) = inr (inl (ap (λ (r : RefParts). r.node) (sym e)))

  give_up_so : (c : ℕ) (op : OpId) (u : Update) (st : Node → Status) (s : State) → Quiet s (give_up m c op u st s)
  give_up_so c op u st s = record {
    locks = λ name h is. inl (given_back _ s.locks (name_of u) name h is);
    asks = λ q. one_sent m.own (DelLock (name_of u) (own_reference m c)) tt _;
  }

  begin_so : (c : ℕ) (op : OpId) (u : Update) (s : State) → Quiet s (begin m c op u s)
  begin_so c op u s = stays_so m.own p s (begin m c op u s) refl (λ q. one_sent m.own (Call (own_reference m (s.references + 1)) (Change u)) tt _)

  finish_so : (n : ℕ) (op : OpId) (u : Update) (c : ℕ) (s : State) → Quiet s (finish m n op u c s)
  finish_so n op u c s = record {
    locks = λ name h is. inl (given_back _ s.locks (name_of u) name h is);
    asks = λ q. one_sent m.own (DelLock (name_of u) (own_reference m c)) tt _;
  }

  replies_in_so : (n : ℕ) (used : Use) (s : State) → Quiet s (replies_in m n used s)
  replies_in_so n (Updating op u c replied) s = go (every m replied)
    where
      go : (b : Bool) → Quiet s (cond b (finish m n op u c s) (becomes s))
      go true = finish_so n op u c s
      go false = quiet s s refl
  replies_in_so n (Locking op u lead st) s = quiet s s refl
  replies_in_so n (Owning name u) s = quiet s s refl
  replies_in_so n Fresh s = quiet s s refl
  replies_in_so n Spent s = quiet s s refl

  locks_in_so : (c : ℕ) (used : Use) (s : State) → Quiet s (locks_in m c used s)
  locks_in_so c (Locking op u lead st) s = go (all_granted m st) (none_missing m st)
    where
      t : State
      t = (begin m c op u s).state

      go : (b d : Bool) → Quiet s (cond b (and_then (begin m c op u s) (λ v. replies_in m v.references (v.uses v.references) v)) (cond d (give_up m c op u st s) (becomes s)))
      go true d = both_guard m.own p s (begin m c op u s) (λ v. replies_in m v.references (v.uses v.references) v) (begin_so c op u s) (replies_in_so t.references (t.uses t.references) t)
      go false true = give_up_so c op u st s
      go false false = quiet s s refl
  locks_in_so c (Updating op u lock replied) s = quiet s s refl
  locks_in_so c (Owning name u) s = quiet s s refl
  locks_in_so c Fresh s = quiet s s refl
  locks_in_so c Spent s = quiet s s refl

  go_on_so : (c : ℕ) (used : Use) (s : State) → Quiet s (go_on m c used s)
  go_on_so c (Locking op u lead st) s = go (none_missing m st) (does_wait (after_round (round_of lead st) (none_denied m st)))
    where
      t : State
      t = (ask m (λ _. true) c op u lead st s).state

      go : (b d : Bool) → Quiet s (cond b (cond d (give_up m c op u st s) (and_then (ask m (λ _. true) c op u lead st s) (λ v. locks_in m c (v.uses c) v))) (becomes s))
      go true false = both_guard m.own p s (ask m (λ _. true) c op u lead st s) (λ v. locks_in m c (v.uses c) v) (ask_so (λ _. true) c op u lead st s) (locks_in_so c (t.uses c) t)
      go true true = give_up_so c op u st s
      go false d = quiet s s refl
  go_on_so c (Updating op u lock replied) s = quiet s s refl
  go_on_so c (Owning name u) s = quiet s s refl
  go_on_so c Fresh s = quiet s s refl
  go_on_so c Spent s = quiet s s refl

  attempt_so : (op : OpId) (u : Update) (s : State) → Quiet s (attempt m op u s)
  attempt_so op u s =
      let t = (new_attempt (greatest m) op u s).state in
      let c = t.references in
      let first = same_atom (greatest m) in
      let r = (ask m first c op u (greatest m) (λ _. Unasked) t).state in
      both_guard m.own p s (new_attempt (greatest m) op u s) (λ v. and_then (ask m first v.references op u (greatest m) (λ _. Unasked) v) (λ x. go_on m v.references (x.uses v.references) x))
      (stays_so m.own p s (new_attempt (greatest m) op u s) refl (λ q. tt))
      (both_guard m.own p t (ask m first c op u (greatest m) (λ _. Unasked) t) (λ x. go_on m c (x.uses c) x) (ask_so first c op u (greatest m) (λ _. Unasked) t) (go_on_so c (r.uses c) r))

  tried_so : (stage : Stage) (op : OpId) (s : State) → Quiet s (tried_again stage m op s)
  tried_so (Waiting u) op s = attempt_so op u s
  tried_so (Asking c) op s = go_on_so c (s.uses c) s
  tried_so (Changing n) op s = replies_in_so n (s.uses n) s
  tried_so Closed op s = quiet s s refl

  -- ---- commands

  change_so : (op : OpId) (u : Update) (s : State) → Quiet s (change m op u s)
  change_so op u s = go (look (s.table (name_of u)) u) (nat_le OPEN_LIMIT s.opened)
    where
      undertaken : (b : Bool) → Quiet s (cond b (answer op (refused Busy) s) (and_then (open_command op u s) (attempt m op u)))
      undertaken true = answer_so op (refused Busy) s
      undertaken false = both_guard m.own p s (open_command op u s) (attempt m op u) (stays_so m.own p s (open_command op u s) refl (λ q. tt)) (attempt_so op u (open_command op u s).state)

      go : (r : Option Answer) (b : Bool) → Quiet s (change_by r m op u s)
      go (Some r) b = answer_so op (Given r) s
      go None b = undertaken (nat_le OPEN_LIMIT s.opened)

  carried_so : (op : OpId) (c : Command) (s : State) → Quiet s (carried_out m op c s)
  carried_so op (command.Create name) s = change_so op (update.Create name) s
  carried_so op (command.Delete name) s = change_so op (update.Delete name) s
  carried_so op (command.Join name pid) s = change_so op (update.Join name pid) s
  carried_so op (command.Leave name pid) s = change_so op (update.Leave name pid) s
  carried_so op command.Make s = stays_so m.own p s (carried_out m op command.Make s) refl (λ q. tt)
  carried_so op (command.Finish pid) s =
      let told = becomes_and_sends (ended_in pid s) (to_peers m (λ q. true) (Down pid)) in
      both_guard m.own p s told (answer op (Given reply.Ok)) (stays_so m.own p s told refl (λ q. one_sent m.own (Down pid) tt _)) (answer_so op (Given reply.Ok) told.state)
  carried_so op (command.Members name) s = answer_so op _ s
  carried_so op (command.LocalMembers name) s = answer_so op _ s
  carried_so op command.WhichGroups s = answer_so op _ s
  carried_so op (command.Closest name word) s = answer_so op _ s

  command_so : (whole : Nodes) (port : ℕ) (c : Command) (s : State) → Quiet s (command_in whole m port c s)
  command_so whole port c s = both_guard m.own p s (count_command port s) (command_by (fault_of whole s c) m (next_op port s) c) (quiet s _ refl) (go (fault_of whole s c))
    where
      t : State
      t = (count_command port s).state

      go : (f : Option CommandFault) → Quiet t (command_by f m (next_op port s) c t)
      go (Some fault) = answer_so (next_op port s) (refused fault) t
      go None = carried_so (next_op port s) c t

  -- all that a node does of its own
  pub acted_guards : (whole : Nodes) (ports : ℕ) (action : Action) (s : State) (t : NodeTurn) → acted whole m ports action s ≡ Ok t → Guards m.own p s t
  acted_guards whole ports (Issue port c) s t is = go (nat_lt port ports) is
    where
      go : (b : Bool) → Makes (cond b (Ok (command_in whole m port c s)) (Err NoSuchPlace)) t → Quiet s t
      go true e = subst (Quiet s) (ok_is e) (command_so whole port c s)
      go false e = absurd (cc)
  acted_guards whole ports (Retry op) s t is = go (nat_lt op.port ports) (waits m (s.stages op) s) is
    where
      go : (b d : Bool) → Makes (cond b (cond d (Ok (tried_again (s.stages op) m op s)) (Err NotWaiting)) (Err NoSuchPlace)) t → Quiet s t
      go false d e = absurd (cc)
      go true false e = absurd (cc)
      go true true e = subst (Quiet s) (ok_is e) (tried_so (s.stages op) op s)

  -- ---- packets

  counted_so : (used : Use) (c : ℕ) (said : Said) (s : State) → Quiet s (counted used m p c said s)
  counted_so (Locking op u lead st) c said s =
      let t = (count_answer c op u lead st p (lock_status said) s).state in
      both_guard m.own p s (count_answer c op u lead st p (lock_status said) s) (λ v. go_on m c (v.uses c) v) (quiet s _ refl) (go_on_so c (t.uses c) t)
  counted_so (Updating op u lock replied) n said s =
      let t = (count_ok n op u lock replied p s).state in
      both_guard m.own p s (count_ok n op u lock replied p s) (λ v. replies_in m n (v.uses n) v) (quiet s _ refl) (replies_in_so n (t.uses n) t)
  counted_so (Owning name u) c said s = quiet s s refl
  counted_so Fresh c said s = quiet s s refl
  counted_so Spent c said s = quiet s s refl

  reply_sent : (x : Message) → IsOwnRequest m.own x → (q : Node) → AllByRecursion (IsOwnRequest m.own) (to_one p x q)
  reply_sent x ours q = one_sent m.own x ours (same_atom p q)

  -- a packet of p that asks for a lock for p, if it asks for one
  pub taken_guards : (x : Message) (s : State) (t : NodeTurn) → IsOwnRequest p x → taken m p x s ≡ Ok t → Guards m.own p s t
  taken_guards (Call r (SetLock name)) s t ours is = subst (Quiet s) (ok_is is) (record {
    locks = λ other h e. go other h (asked_for (would_grant m s name) s.locks name r other h e);
    asks = λ q. reply_sent (Reply r _) tt q;
  })
    where
      go : (other : Term) (h : RefParts) → (s.locks other ≡ Some h) ⊎ (r ≡ h) → (s.locks other ≡ Some h) ⊎ ((h.node ≡ m.own) ⊎ (h.node ≡ p))
      go other h (inl e) = inl e
      go other h (inr e) = inr (inr (ap (λ (z : RefParts). z.node) (sym e) ∙ ours))
  taken_guards (Call r (Change u)) s t ours is = subst (Quiet s) (ok_is is) (stays_so m.own p s _ refl (λ q. reply_sent (Reply r _) tt q))
  taken_guards (Reply r said) s t ours is =
      let used = use_of m r s in
      judged used m p (number_in r) said s t
      (λ odd e. subst (Quiet s) e (stays_so m.own p s _ refl (λ q. tt)))
      (λ counts e. subst (Quiet s) e (counted_so used (number_in r) said s)) is
  taken_guards (DelLock name r) s t ours is = subst (Quiet s) (ok_is is) (record { locks = λ other h e. inl (given_back _ s.locks name other h e); asks = λ q. tt })
  taken_guards (Exchange node groups) s t ours is = go (is_bad_exchange p node s) is
    where
      go : (b : Bool) → Makes (cond b (Err NotAMessage) (Ok (exchange p groups s))) t → Quiet s t
      go true e = absurd (cc)
      go false e = subst (Quiet s) (ok_is e) (stays_so m.own p s (exchange p groups s) refl (λ q. tt))
  taken_guards (Down pid) s t ours is = subst (Quiet s) (ok_is is) (stays_so m.own p s _ refl (λ q. tt))
