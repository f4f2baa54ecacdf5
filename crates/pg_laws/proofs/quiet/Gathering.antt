-- Behind each event no reference has all that it gathers: its command has gone on. And who holds a lock is one that asked for it.
use Rattle.std.proofs.Common.{◌≡◌, ◌≢◌, ◌⊎◌, inl, inr, ℕ, ◌+◌, Bool, true, false, ◌&&◌, cond, nat_eq}
use Rattle.std.proofs.Common.{nat_le, nat_lt, Option, Some, None, Ok, Err, refl, ap, sym, ◌∙◌, subst}
use Rattle.pg_term.specs.declared.term.Term.{Term}
use Rattle.pg_term.specs.RefParts.{RefParts, ref_eq}
use Rattle.pg_term.specs.Same.{same_atom, same_term}
use Rattle.pg_step.specs.PgGroup.declared.update.Update.{Update}
use Rattle.pg_step.specs.PgGroup.declared.update.Update.TheVariants as update
use Rattle.pg_step.specs.PgGroup.Functions.{upd}
use Rattle.pg_step.specs.PgGroup.Value.{name_of}
use Rattle.pg_step.specs.PgRefs.Numbered.{number_in}
use Rattle.pg_step.specs.PgLock.Attempts.{after_round, does_wait}
use Rattle.pg_step.specs.PgLock.Locks.{Locks, held, after_ask, given_up, is_holder}
use Rattle.pg_step.specs.PgMessageTypes.declared.message.Message.{Message}
use Rattle.pg_step.specs.PgMessageTypes.declared.message.Message.TheVariants.{Call, Reply, DelLock, Exchange, Down}
use Rattle.pg_step.specs.PgMessageTypes.declared.message.Request.TheVariants.{SetLock, Change}
use Rattle.pg_step.specs.PgMessageTypes.declared.message.Said.{Said}
use Rattle.pg_step.specs.PgMulticall.Gathered.{what_of}
use Rattle.pg_step.specs.PgMulticall.declared.gather.Taken.TheVariants as what
use Rattle.pg_step.specs.declared.answer.Reply.{Reply as Answer}
use Rattle.pg_step.specs.declared.command.Command.{Command}
use Rattle.pg_step.specs.declared.command.Command.TheVariants as command
use Rattle.pg_step.specs.declared.command.OpId.{OpId}
use Rattle.pg_step.specs.declared.command_fault.CommandFault.{CommandFault}
use Rattle.pg_step.specs.declared.command_fault.CommandFault.TheVariants.{Busy}
use Rattle.pg_step.specs.declared.refusal.Refusal.TheVariants.{NotAMessage, NoSuchPlace, NotWaiting}
use Rattle.pg_step.specs.Nodes.{Node, Nodes, every, greatest}
use Rattle.pg_step.specs.State.{State, Status, Use, Stage}
use Rattle.pg_step.specs.State.Status.{Unasked}
use Rattle.pg_step.specs.State.Use.{Fresh, Locking, Owning, Updating, Spent}
use Rattle.pg_step.specs.State.Stage.{Closed, Waiting, Asking, Changing}
use Rattle.pg_step.specs.Turns.{NodeTurn, becomes, and_then}
use Rattle.pg_step.specs.Peers.{would_grant, is_bad_exchange, exchange}
use Rattle.pg_step.specs.Attempts.{own_reference, is_yes, asks, with_asked, round_of, all_granted}
use Rattle.pg_step.specs.Attempts.{none_missing, none_denied, new_attempt, ask, give_up, begin, finish}
use Rattle.pg_step.specs.Attempts.{count_answer, count_ok, replies_in, locks_in, go_on, attempt, is_complete}
use Rattle.pg_step.specs.Attempts.{waits, tried_again, retry, use_of, gathered, lock_status, counted}
use Rattle.pg_step.specs.Commands.{OPEN_LIMIT, fault_of, look, answer, open_command, undertake, change_by, change}
use Rattle.pg_step.specs.Commands.{carried_out, command_by, next_op, count_command, refused, command as command_in}
use Rattle.pg_step.specs.Step.{Action, Issue, Retry, taken, acted}
use Rattle.pg_laws.proofs.references.Keys.{numbers, cases, at_upd, upd_same, upd_other}
use Rattle.pg_laws.proofs.steps.Single.{Makes, ok_is, judged}

-- ---- locks

-- the holder of each lock passes a test
abbrev pub Held : (RefParts → Type 0) → Locks → Type 0
Held P locks = (name : Term) (r : RefParts) → locks name ≡ Some r → P r

module _ (P : RefParts → Type 0) where
  freed_held : (b : Bool) (locks : Locks) (name : Term) → Held P locks → Held P (given_up b locks name)
  unfolding held
  freed_held true locks name known other r e = go (same_term name other) e
    where
      go : (b : Bool) → cond b None (locks other) ≡ Some r → P r
      go true is = absurd (cc)
      go false is = known other r is
  freed_held false locks name known other r e = known other r e

  lent_held : (b : Bool) (locks : Locks) (name : Term) (reference : RefParts) → P reference → Held P locks → Held P (after_ask b locks name reference)
  unfolding held
  lent_held true locks name reference good known other r e = go (same_term name other) e
    where
      go : (b : Bool) → cond b (Some reference) (locks other) ≡ Some r → P r
      go true is = subst P (let same : reference ≡ r = cc in same) good
      go false is = known other r is
  lent_held false locks name reference good known other r e = known other r e

-- ---- references

-- no reference has all that it gathers
abbrev pub AllGather : Nodes → (ℕ → Use) → Type 0
AllGather m uses = (c : ℕ) → is_complete m (uses c) ≡ false

-- none but this one
abbrev pub OthersGather : Nodes → ℕ → (ℕ → Use) → Type 0
OthersGather m c uses = (d : ℕ) → c ≢ d → is_complete m (uses d) ≡ false

module _ (m : Nodes) (uses : ℕ → Use) (c : ℕ) where
  others_put : (v : Use) → OthersGather m c uses → OthersGather m c (upd nat_eq uses c v)
  others_put v others d other = subst (λ x. is_complete m x ≡ false) (sym (upd_other nat_eq numbers uses c v d other)) (others d other)

  all_put : (v : Use) → is_complete m v ≡ false → OthersGather m c uses → AllGather m (upd nat_eq uses c v)
  all_put v here others d = at_upd nat_eq numbers (λ x. is_complete m x ≡ false) uses c v d (λ _. here) (others d)

  all_others : AllGather m uses → OthersGather m c uses
  all_others all d _ = all d

  -- nor it
  all_here : OthersGather m c uses → is_complete m (uses c) ≡ false → AllGather m uses
  all_here others here d = go (cases nat_eq numbers c d)
    where
      go : (c ≡ d) ⊎ (c ≢ d) → is_complete m (uses d) ≡ false
      go (inl e) = subst (λ x. is_complete m (uses x) ≡ false) e here
      go (inr other) = others d other

-- ---- turns

-- behind an event
pub record Settled (m : Nodes) (P : RefParts → Type 0) (s : State) : Type 0 where
  pub gather : AllGather m s.uses
  pub known : Held P s.locks

-- behind a turn in which this reference was changed
pub record Unsettled (m : Nodes) (P : RefParts → Type 0) (c : ℕ) (s : State) : Type 0 where
  pub gather : OthersGather m c s.uses
  pub known : Held P s.locks

-- what a packet asks for is asked under a reference that passes the test
abbrev pub AsksWell : (RefParts → Type 0) → Message → Type 0
AsksWell P (Call reference (SetLock name)) = P reference
AsksWell P x = Unit {0}

-- P is said of each reference of the node's own
module _ (m : Nodes) (P : RefParts → Type 0) (own : (c : ℕ) → P (own_reference m c)) where
  unsettled : (c : ℕ) (s : State) → Settled m P s → Unsettled m P c s
  unsettled c s all = record { gather = all_others m s.uses c all.gather; known = all.known }

  -- all replies to an update are in, or not
  replies_settled : (n : ℕ) (used : Use) (op : OpId) (u : Update) (c : ℕ) (replied : Node → Bool) (s : State) → used ≡ Updating op u c replied → s.uses n ≡ used → Unsettled m P n s
      → Settled m P ((replies_in m n used s).state)
  replies_settled n used op u c replied s shape is before = subst (λ x. Settled m P ((replies_in m n x s).state)) (sym shape) (go (every m replied) refl)
    where
      go : (b : Bool) → every m replied ≡ b → Settled m P ((cond b (finish m n op u c s) (becomes s)).state)
      go true all = record {
        gather = all_put m (upd nat_eq s.uses c Spent) n Spent refl
            (λ d other. at_upd nat_eq numbers (λ x. is_complete m x ≡ false) s.uses c Spent d (λ _. refl) (λ _. before.gather d other));
        known = freed_held P (is_holder (s.locks (name_of u)) (own_reference m c)) s.locks (name_of u) before.known;
      }
      go false some = record {
        gather = all_here m s.uses n before.gather (ap (is_complete m) (is ∙ shape) ∙ some);
        known = before.known;
      }

  -- an update begins, and ends where the node is alone
  begun_settled : (c : ℕ) (op : OpId) (u : Update) (s : State) → Unsettled m P c s → Settled m P ((and_then (begin m c op u s) (λ v. replies_in m v.references (v.uses v.references) v)).state)
  begun_settled c op u s before =
      replies_settled (s.references + 1) (t.uses t.references) op u c (same_atom m.own) t
      (upd_same nat_eq numbers (upd nat_eq s.uses c (Owning (name_of u) (s.references + 1))) (s.references + 1) (Updating op u c (same_atom m.own))) refl
      (record { gather = others; known = before.known })
    where
      t : State
      t = (begin m c op u s).state

      others : OthersGather m (s.references + 1) t.uses
      others d other = subst (λ x. is_complete m x ≡ false) (sym (upd_other nat_eq numbers (upd nat_eq s.uses c (Owning (name_of u) (s.references + 1))) (s.references + 1) (Updating op u c (same_atom m.own)) d other))
          (at_upd nat_eq numbers (λ x. is_complete m x ≡ false) s.uses c (Owning (name_of u) (s.references + 1)) d (λ _. refl) (before.gather d))

  pub given_up_settled : (c : ℕ) (op : OpId) (u : Update) (st : Node → Status) (s : State) → Unsettled m P c s → Settled m P ((give_up m c op u st s).state)
  given_up_settled c op u st s before = record {
    gather = all_put m s.uses c Spent refl before.gather;
    known = freed_held P (is_yes (st m.own) && is_holder (s.locks (name_of u)) (own_reference m c)) s.locks (name_of u) before.known;
  }

  asked_unsettled : (who : Node → Bool) (c : ℕ) (op : OpId) (u : Update) (lead : Node) (st : Node → Status) (s : State) → Unsettled m P c s → Unsettled m P c ((ask m who c op u lead st s).state)
  asked_unsettled who c op u lead st s before = record {
    gather = others_put m s.uses c (Locking op u lead (with_asked m who st (would_grant m s (name_of u)))) before.gather;
    known = lent_held P (asks who st m.own && would_grant m s (name_of u)) s.locks (name_of u) (own_reference m c) (own c) before.known;
  }

  -- all answers to a request for a lock are in, or not
  locks_settled : (c : ℕ) (used : Use) (op : OpId) (u : Update) (lead : Node) (st : Node → Status) (s : State) → used ≡ Locking op u lead st → s.uses c ≡ used → Unsettled m P c s
      → Settled m P ((locks_in m c used s).state)
  locks_settled c used op u lead st s shape is before = subst (λ x. Settled m P ((locks_in m c x s).state)) (sym shape) (go (all_granted m st) (none_missing m st) refl)
    where
      go : (b d : Bool) → none_missing m st ≡ d
          → Settled m P ((cond b (and_then (begin m c op u s) (λ v. replies_in m v.references (v.uses v.references) v)) (cond d (give_up m c op u st s) (becomes s))).state)
      go true d _ = begun_settled c op u s before
      go false true _ = given_up_settled c op u st s before
      go false false some = record { gather = all_here m s.uses c before.gather (ap (is_complete m) (is ∙ shape) ∙ some); known = before.known }

  -- the rest is asked
  pub asked_settled : (c : ℕ) (op : OpId) (u : Update) (lead : Node) (st : Node → Status) (s : State) → Unsettled m P c s
      → Settled m P ((and_then (ask m (λ _. true) c op u lead st s) (λ v. locks_in m c (v.uses c) v)).state)
  asked_settled c op u lead st s before =
      let later = with_asked m (λ _. true) st (would_grant m s (name_of u)) in
      let t = (ask m (λ _. true) c op u lead st s).state in
      locks_settled c (t.uses c) op u lead later t (upd_same nat_eq numbers s.uses c (Locking op u lead later)) refl (asked_unsettled (λ _. true) c op u lead st s before)

  -- an answer is missing as yet
  pub missing_settled : (c : ℕ) (op : OpId) (u : Update) (lead : Node) (st : Node → Status) (s : State) → s.uses c ≡ Locking op u lead st → none_missing m st ≡ false → Unsettled m P c s → Settled m P s
  missing_settled c op u lead st s is some before = record { gather = all_here m s.uses c before.gather (ap (is_complete m) is ∙ some); known = before.known }

  -- a round is over, or not
  goes_on_settled : (c : ℕ) (used : Use) (op : OpId) (u : Update) (lead : Node) (st : Node → Status) (s : State) → used ≡ Locking op u lead st → s.uses c ≡ used → Unsettled m P c s
      → Settled m P ((go_on m c used s).state)
  goes_on_settled c used op u lead st s shape is before =
      subst (λ x. Settled m P ((go_on m c x s).state)) (sym shape) (go (none_missing m st) (does_wait (after_round (round_of lead st) (none_denied m st))) refl)
    where
      go : (b d : Bool) → none_missing m st ≡ b
          → Settled m P ((cond b (cond d (give_up m c op u st s) (and_then (ask m (λ _. true) c op u lead st s) (λ v. locks_in m c (v.uses c) v))) (becomes s)).state)
      go true true _ = given_up_settled c op u st s before
      go true false _ = asked_settled c op u lead st s before
      go false d some = missing_settled c op u lead st s (is ∙ shape) some before

  attempt_settled : (op : OpId) (u : Update) (s : State) → Settled m P s → Settled m P ((attempt m op u s).state)
  attempt_settled op u s before =
      goes_on_settled c (r.uses c) op u lead later r (upd_same nat_eq numbers t.uses c (Locking op u lead later)) refl
      (asked_unsettled (same_atom lead) c op u lead (λ _. Unasked) t (record { gather = others_put m s.uses c (Locking op u lead (λ _. Unasked)) (all_others m s.uses c before.gather); known = before.known }))
    where
      lead : Node
      lead = greatest m

      c : ℕ
      c = s.references + 1

      t : State
      t = (new_attempt lead op u s).state

      later : Node → Status
      later = with_asked m (same_atom lead) (λ _. Unasked) (would_grant m t (name_of u))

      r : State
      r = (ask m (same_atom lead) c op u lead (λ _. Unasked) t).state

  -- ---- commands

  undertaken_settled : (op : OpId) (u : Update) (s : State) → Settled m P s → Settled m P ((undertake m op u s).state)
  undertaken_settled op u s before = go (nat_le OPEN_LIMIT s.opened)
    where
      go : (b : Bool) → Settled m P ((cond b (answer op (refused Busy) s) (and_then (open_command op u s) (attempt m op u))).state)
      go true = before
      go false = attempt_settled op u ((open_command op u s).state) (record { gather = before.gather; known = before.known })

  changed_settled : (op : OpId) (u : Update) (s : State) → Settled m P s → Settled m P ((change m op u s).state)
  changed_settled op u s before = go (look (s.table (name_of u)) u)
    where
      go : (r : Option Answer) → Settled m P ((change_by r m op u s).state)
      go (Some r) = before
      go None = undertaken_settled op u s before

  carried_settled : (op : OpId) (c : Command) (s : State) → Settled m P s → Settled m P ((carried_out m op c s).state)
  carried_settled op (command.Create name) s before = changed_settled op (update.Create name) s before
  carried_settled op (command.Delete name) s before = changed_settled op (update.Delete name) s before
  carried_settled op (command.Join name pid) s before = changed_settled op (update.Join name pid) s before
  carried_settled op (command.Leave name pid) s before = changed_settled op (update.Leave name pid) s before
  carried_settled op command.Make s before = record { gather = before.gather; known = before.known }
  carried_settled op (command.Finish pid) s before = record { gather = before.gather; known = before.known }
  carried_settled op (command.Members name) s before = before
  carried_settled op (command.LocalMembers name) s before = before
  carried_settled op command.WhichGroups s before = before
  carried_settled op (command.Closest name word) s before = before

  command_settled : (fault : Option CommandFault) (op : OpId) (c : Command) (s : State) → Settled m P s → Settled m P ((command_by fault m op c s).state)
  command_settled (Some fault) op c s before = before
  command_settled None op c s before = carried_settled op c s before

  -- a command that is tried again had no attempt under way
  retried_settled : (op : OpId) (s : State) (t : NodeTurn) → Makes (retry m op s) t → Settled m P s → Settled m P t.state
  retried_settled op s t e before = go (s.stages op) e
    where
      never : (c : ℕ) (r : NodeTurn) → Makes (cond (is_complete m (s.uses c)) (Ok r) (Err NotWaiting)) t → Settled m P t.state
      never c r made = let no : Makes (Err NotWaiting) t = ap (λ b. cond b (Ok r) (Err NotWaiting)) (sym (before.gather c)) ∙ made in absurd (cc)

      go : (stage : Stage) → Makes (cond (waits m stage s) (Ok (tried_again stage m op s)) (Err NotWaiting)) t → Settled m P t.state
      go (Waiting u) made = subst (λ (x : NodeTurn). Settled m P x.state) (ok_is made) (attempt_settled op u s before)
      go (Asking c) made = never c (go_on m c (s.uses c) s) made
      go (Changing n) made = never n (replies_in m n (s.uses n) s) made
      go Closed made = absurd (cc)

  pub acted_settled : (whole : Nodes) (ports : ℕ) (action : Action) (s : State) (t : NodeTurn) → Makes (acted whole m ports action s) t → Settled m P s → Settled m P t.state
  acted_settled whole ports (Issue port c) s t e before = go (nat_lt port ports) e
    where
      counted_in : State
      counted_in = (count_command port s).state

      go : (b : Bool) → Makes (cond b (Ok (command_in whole m port c s)) (Err NoSuchPlace)) t → Settled m P t.state
      go true made = subst (λ (x : NodeTurn). Settled m P x.state) (ok_is made)
          (command_settled (fault_of whole s c) (next_op port s) c counted_in (record { gather = before.gather; known = before.known }))
      go false made = absurd (cc)
  acted_settled whole ports (Retry op) s t e before = go (nat_lt op.port ports) e
    where
      go : (b : Bool) → Makes (cond b (retry m op s) (Err NoSuchPlace)) t → Settled m P t.state
      go true made = retried_settled op s t made before
      go false made = absurd (cc)

  -- ---- packets

  counted_settled : (used : Use) (p : Node) (c : ℕ) (said : Said) (s : State) → s.uses c ≡ used → Settled m P s → Settled m P ((counted used m p c said s).state)
  counted_settled (Locking op u lead st) p c said s is before =
      goes_on_settled c (t.uses c) op u lead (upd same_atom st p (lock_status said)) t (upd_same nat_eq numbers s.uses c (Locking op u lead (upd same_atom st p (lock_status said)))) refl
      (record { gather = others_put m s.uses c (Locking op u lead (upd same_atom st p (lock_status said))) (all_others m s.uses c before.gather); known = before.known })
    where
      t : State
      t = (count_answer c op u lead st p (lock_status said) s).state
  counted_settled (Updating op u lock replied) p n said s is before =
      replies_settled n (t.uses n) op u lock (upd same_atom replied p true) t (upd_same nat_eq numbers s.uses n (Updating op u lock (upd same_atom replied p true))) refl
      (record { gather = others_put m s.uses n (Updating op u lock (upd same_atom replied p true)) (all_others m s.uses n before.gather); known = before.known })
    where
      t : State
      t = (count_ok n op u lock replied p s).state
  counted_settled (Owning name n) p c said s is before = before
  counted_settled Fresh p c said s is before = before
  counted_settled Spent p c said s is before = before

  -- a reply under a reference that is the node's own, or under another
  reply_settled : (b : Bool) (p : Node) (c : ℕ) (said : Said) (s : State) (used : Use) → used ≡ cond b (s.uses c) Spent → Settled m P s → what_of true (gathered used p) ≡ what.Counted
      → Settled m P ((counted used m p c said s).state)
  reply_settled true p c said s used is before counts = counted_settled used p c said s (sym is) before
  reply_settled false p c said s used is before counts = subst (λ x. Settled m P ((counted x m p c said s).state)) (sym is) before

  pub taken_settled : (p : Node) (x : Message) (s : State) (t : NodeTurn) → AsksWell P x → Makes (taken m p x s) t → Settled m P s → Settled m P t.state
  taken_settled p (Call reference (SetLock name)) s t good e before = subst (λ (x : NodeTurn). Settled m P x.state) (ok_is e)
      (record { gather = before.gather; known = lent_held P (would_grant m s name) s.locks name reference good before.known })
  taken_settled p (Call reference (Change u)) s t good e before = subst (λ (x : NodeTurn). Settled m P x.state) (ok_is e) (record { gather = before.gather; known = before.known })
  taken_settled p (Reply reference said) s t good e before =
      judged (use_of m reference s) m p (number_in reference) said s t
      (λ odd is. subst (λ (x : NodeTurn). Settled m P x.state) is before)
      (λ counts is. subst (λ (x : NodeTurn). Settled m P x.state) is
      (reply_settled (ref_eq (own_reference m (number_in reference)) reference) p (number_in reference) said s (use_of m reference s) refl before counts)) e
  taken_settled p (DelLock name reference) s t good e before = subst (λ (x : NodeTurn). Settled m P x.state) (ok_is e)
      (record { gather = before.gather; known = freed_held P (is_holder (s.locks name) reference) s.locks name before.known })
  taken_settled p (Exchange node groups) s t good e before = go (is_bad_exchange p node s) e
    where
      go : (b : Bool) → Makes (cond b (Err NotAMessage) (Ok (exchange p groups s))) t → Settled m P t.state
      go true made = absurd (cc)
      go false made = subst (λ (x : NodeTurn). Settled m P x.state) (ok_is made) (record { gather = before.gather; known = before.known })
  taken_settled p (Down pid) s t good e before = subst (λ (x : NodeTurn). Settled m P x.state) (ok_is e) (record { gather = before.gather; known = before.known })
