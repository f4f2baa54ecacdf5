-- What holds of the single turns, and of one turn after another, holds of all that a node does about locks and updates.
use Rattle.std.proofs.Common.{◌≡◌, ◌⊎◌, inl, inr, ℕ, Bool, true, false, not, ◌&&◌, cond, nat_eq, nat_le}
use Rattle.std.proofs.Common.{nat_lt, [], ◌∷◌, Option, Some, None, Result, Ok, Err, refl, ap, sym, ◌∙◌, subst}
use Rattle.std.proofs.lemmas.Bool.{eq-eqb}
use Rattle.pg_term.specs.declared.term.Term.{Term}
use Rattle.pg_term.specs.declared.pid.Pid.{Pid}
use Rattle.pg_term.specs.RefParts.{RefParts, ref_eq}
use Rattle.pg_term.specs.Same.{same_atom}
use Rattle.pg_step.specs.PgGroup.declared.update.Update.{Update}
use Rattle.pg_step.specs.PgGroup.declared.update.Update.TheVariants as update
use Rattle.pg_step.specs.PgGroup.Value.{name_of}
use Rattle.pg_step.proofs.PgGroup.Changes.{upd_at}
use Rattle.pg_step.specs.PgRefs.Numbered.{number_in}
use Rattle.pg_step.specs.PgEnds.Numbers.{is_among}
use Rattle.pg_step.specs.PgExchange.GroupList.{GroupList}
use Rattle.pg_step.specs.PgMessageTypes.declared.message.Message.{Message}
use Rattle.pg_step.specs.PgMessageTypes.declared.message.Message.TheVariants.{Call, Reply, DelLock, Exchange, Down}
use Rattle.pg_step.specs.PgMessageTypes.declared.message.Request.TheVariants.{SetLock, Change}
use Rattle.pg_step.specs.PgMessageTypes.declared.message.Said.{Said}
use Rattle.pg_step.specs.PgMessageTypes.declared.message.Said.TheVariants.{Applied}
use Rattle.pg_step.specs.declared.command.Command.{Command}
use Rattle.pg_step.specs.declared.command.Command.TheVariants as command
use Rattle.pg_step.specs.declared.command.OpId.{OpId}
use Rattle.pg_step.specs.declared.answer.Odd.{Odd}
use Rattle.pg_step.specs.declared.answer.Odd.TheVariants.{Stranger, Double}
use Rattle.pg_step.specs.declared.answer.Reply.{Reply as Answer}
use Rattle.pg_step.specs.declared.answer.Reply.TheVariants as reply
use Rattle.pg_step.specs.PgMulticall.Gathered.{what_of}
use Rattle.pg_step.specs.PgMulticall.declared.gather.Taken.{Taken as Heard}
use Rattle.pg_step.specs.PgMulticall.declared.gather.Taken.TheVariants as what
use Rattle.pg_step.specs.PgLock.Attempts.{after_round, does_wait}
use Rattle.pg_step.specs.Nodes.{Node, Nodes, every, greatest, to_peers}
use Rattle.pg_step.specs.State.{State, Status, Use, Stage, Response, formed}
use Rattle.pg_step.specs.State.Status.{Unasked, Asked, Yes, No}
use Rattle.pg_step.specs.State.Use.{Fresh, Locking, Owning, Updating, Spent}
use Rattle.pg_step.specs.State.Stage.{Closed, Waiting, Asking, Changing}
use Rattle.pg_step.specs.State.Response.{Given}
use Rattle.pg_step.specs.Turns.{NodeTurn, nothing, becomes, becomes_and_sends, and_then}
use Rattle.pg_step.specs.Peers.{lock_request, update_request, lock_freed}
use Rattle.pg_step.specs.Peers.{is_bad_exchange, exchange, process_end, ended_in}
use Rattle.pg_step.specs.Attempts.{round_of, same_op, own_reference, all_granted, none_missing, none_denied}
use Rattle.pg_step.specs.Attempts.{new_attempt, ask, give_up, begin, finish, count_answer, count_ok, replies_in}
use Rattle.pg_step.specs.Attempts.{locks_in, go_on, attempt, strange, use_of, reply_by, waits, tried_again}
use Rattle.pg_step.specs.Attempts.{gathered, is_kind, lock_status, lock_entry, counted, reply_under}
use Rattle.pg_step.specs.Commands.{OPEN_LIMIT, fault_of, look, answer, open_command, undertake}
use Rattle.pg_step.specs.Commands.{change_by, change, make, end_process, carried_out, command_by}
use Rattle.pg_step.specs.Commands.{next_op, count_command, command as command_in, refused, change_of}
use Rattle.pg_step.specs.Step.{Action, Issue, Retry, taken, acted}
use Rattle.pg_step.specs.declared.refusal.Refusal.{Refusal}
use Rattle.pg_step.specs.declared.refusal.Refusal.TheVariants.{NotAMessage, NoSuchPlace, NotWaiting}
use Rattle.pg_step.specs.declared.command_fault.CommandFault.TheVariants.{Busy, NameTooLarge, ForeignPid, NotFormed}
use Rattle.pg_step.specs.declared.command_fault.CommandFault.TheVariants.{NotMade, AlreadyEnded, ProcessLimit}
use Rattle.pg_step.specs.declared.command_fault.CommandFault.{CommandFault}
use Rattle.pg_step.specs.Faults.{first_that_holds}

-- a step makes this turn
abbrev pub Makes : Result NodeTurn Refusal → NodeTurn → Type 0
Makes r t = r ≡ Ok t

pub ok_is : {x y : NodeTurn} → Makes (Ok x) y → x ≡ y
ok_is e = cc

-- ---- replies

-- what came of a node whose reply counts
pub counts_asked : (v : Status) (b : Bool) → what_of true (lock_entry v b) ≡ what.Counted → v ≡ Asked
counts_asked Asked b e = refl
counts_asked Unasked b e = absurd (cc)
counts_asked Yes true e = absurd (cc)
counts_asked Yes false e = absurd (cc)
counts_asked No true e = absurd (cc)
counts_asked No false e = absurd (cc)

pub counts_new : (b : Bool) → what_of {R = Said} true (Some (cond b (Some Applied) None)) ≡ what.Counted → b ≡ false
counts_new true e = absurd (cc)
counts_new false e = refl

pub none_counted : (p : Node) (used : Use) → used ≡ Spent → what_of true (gathered used p) ≡ what.Counted → ⊥
none_counted p used spent counts = absurd (cc (sym (ap (λ x. what_of true (gathered x p)) spent) ∙ counts))

-- a reply is odd, or it is counted
pub judged : {Q : Type 0} (used : Use) (m : Nodes) (p : Node) (c : ℕ) (said : Said) (s : State) (t : NodeTurn) → ((odd : Odd) → strange odd s ≡ t → Q)
    → (what_of true (gathered used p) ≡ what.Counted → counted used m p c said s ≡ t → Q) → reply_under used m p c said s ≡ Ok t → Q
judged {Q} used m p c said s t odd counts e = go (what_of true (gathered used p)) (is_kind used said) refl e
  where
    go : (w : Heard) (kind : Bool) → what_of true (gathered used p) ≡ w → reply_by w kind used m p c said s ≡ Ok t → Q
    go what.Stranger kind _ e = odd Stranger (ok_is e)
    go what.Double true _ e = odd Double (ok_is e)
    go what.Double false _ e = absurd (cc)
    go what.Counted true is e = counts is (ok_is e)
    go what.Counted false _ e = absurd (cc)

-- nothing is known
abbrev pub Any : OpId → State → Type 0
Any op s = Unit {0}

abbrev pub AnyUpdate : OpId → Update → Type 0
AnyUpdate op u = Unit {0}

-- New is what is known of a command as it comes in, and until it is opened or answered, and
-- Asks of the update that it asks for. F is said of a state and a single
-- turn of the node m that applies no update, and R of all that comes about at once: of a turn that applies one, or not,
-- with others before it, which tell nothing, and behind it that do not. Left out are an exchange and the end of a process.
pub record OfSingle (m : Nodes) (New : OpId → State → Type 0) (Asks : OpId → Update → Type 0) (F R : State → NodeTurn → Type 0) : Type 0 where
  pub alone : (s : State) (t : NodeTurn) → F s t → R s t
  pub before : (s : State) (t : NodeTurn) (next : State → NodeTurn) → t.reported ≡ nothing → F s t → R t.state (next t.state) → R s (and_then t next)
  pub behind : (s : State) (t : NodeTurn) (next : State → NodeTurn) → (t.reported.answered ≡ None) × (t.reported.gave ≡ None) → R s t → F t.state (next t.state) → R s (and_then t next)
  pub stays : (s : State) → F s (becomes s)
  -- a command
  pub counted : (port : ℕ) (s : State) → F s (count_command port s)
  pub lasts : (op : OpId) (pid : Pid) (s : State) → New op s → New op (ended_in pid s)
  pub answered : (op : OpId) (response : Response) (s : State) → New op s → F s (answer op response s)
  pub opened : (op : OpId) (u : Update) (s : State) → New op s → Asks op u → F s (open_command op u s)
  pub made : (op : OpId) (s : State) → New op s → F s (make m op s)
  -- an attempt
  pub attempted : (lead : Node) (op : OpId) (u : Update) (s : State) → s.stages op ≡ Waiting u → F s (new_attempt lead op u s)
  pub asked : (who : Node → Bool) (c : ℕ) (op : OpId) (u : Update) (lead : Node) (st : Node → Status) (s : State) → s.uses c ≡ Locking op u lead st → F s (ask m who c op u lead st s)
  pub given_up : (c : ℕ) (op : OpId) (u : Update) (lead : Node) (st : Node → Status) (s : State) → s.uses c ≡ Locking op u lead st → none_missing m st ≡ true → F s (give_up m c op u st s)
  pub begun : (c : ℕ) (op : OpId) (u : Update) (lead : Node) (st : Node → Status) (s : State) → s.uses c ≡ Locking op u lead st → all_granted m st ≡ true → R s (begin m c op u s)
  pub finished : (n : ℕ) (op : OpId) (u : Update) (c : ℕ) (replied : Node → Bool) (s : State) → s.uses n ≡ Updating op u c replied → every m replied ≡ true → F s (finish m n op u c s)
  -- a reply
  pub heard : (c : ℕ) (op : OpId) (u : Update) (lead : Node) (st : Node → Status) (p : Node) (status : Status) (s : State) → s.uses c ≡ Locking op u lead st → st p ≡ Asked → F s (count_answer c op u lead st p status s)
  pub confirmed : (n : ℕ) (op : OpId) (u : Update) (c : ℕ) (replied : Node → Bool) (p : Node) (s : State) → s.uses n ≡ Updating op u c replied → replied p ≡ false → F s (count_ok n op u c replied p s)
  pub odd : (what : Odd) (s : State) → F s (strange what s)
  -- what a peer asks for
  pub requested : (p : Node) (reference : RefParts) (name : Term) (s : State) → F s (lock_request m p reference name s)
  pub updated : (p : Node) (reference : RefParts) (u : Update) (s : State) → R s (update_request p reference u s)
  pub freed : (name : Term) (reference : RefParts) (s : State) → F s (lock_freed name reference s)

module _ (m : Nodes) (New : OpId → State → Type 0) (Asks : OpId → Update → Type 0) (F R : State → NodeTurn → Type 0) (single : OfSingle m New Asks F R) where
  -- ---- what follows once answers are in

  replies_in_so : (n : ℕ) (used : Use) (s : State) → s.uses n ≡ used → F s (replies_in m n used s)
  replies_in_so n (Updating op u c replied) s is = go (every m replied) refl
    where
      go : (b : Bool) → every m replied ≡ b → F s (cond b (finish m n op u c s) (becomes s))
      go true all = single.finished n op u c replied s is all
      go false _ = single.stays s
  replies_in_so n (Locking op u lead st) s is = single.stays s
  replies_in_so n (Owning name u) s is = single.stays s
  replies_in_so n Fresh s is = single.stays s
  replies_in_so n Spent s is = single.stays s

  locks_in_so : (c : ℕ) (used : Use) (s : State) → s.uses c ≡ used → R s (locks_in m c used s)
  locks_in_so c (Locking op u lead st) s is = go (all_granted m st) (none_missing m st) refl refl
    where
      t : State
      t = (begin m c op u s).state

      go : (b d : Bool) → all_granted m st ≡ b → none_missing m st ≡ d
          → R s (cond b (and_then (begin m c op u s) (λ v. replies_in m v.references (v.uses v.references) v)) (cond d (give_up m c op u st s) (becomes s)))
      go true d all _ = single.behind s (begin m c op u s) (λ v. replies_in m v.references (v.uses v.references) v) (refl, refl) (single.begun c op u lead st s is all) (replies_in_so t.references (t.uses t.references) t refl)
      go false true _ missing = single.alone s _ (single.given_up c op u lead st s is missing)
      go false false _ _ = single.alone s _ (single.stays s)
  locks_in_so c (Updating op u lock replied) s is = single.alone s _ (single.stays s)
  locks_in_so c (Owning name u) s is = single.alone s _ (single.stays s)
  locks_in_so c Fresh s is = single.alone s _ (single.stays s)
  locks_in_so c Spent s is = single.alone s _ (single.stays s)

  go_on_so : (c : ℕ) (used : Use) (s : State) → s.uses c ≡ used → R s (go_on m c used s)
  go_on_so c (Locking op u lead st) s is = go (none_missing m st) (does_wait (after_round (round_of lead st) (none_denied m st))) refl
    where
      t : State
      t = (ask m (λ _. true) c op u lead st s).state

      go : (b d : Bool) → none_missing m st ≡ b
          → R s (cond b (cond d (give_up m c op u st s) (and_then (ask m (λ _. true) c op u lead st s) (λ v. locks_in m c (v.uses c) v))) (becomes s))
      go true false _ = single.before s (ask m (λ _. true) c op u lead st s) (λ v. locks_in m c (v.uses c) v) refl (single.asked (λ _. true) c op u lead st s is) (locks_in_so c (t.uses c) t refl)
      go true true missing = single.alone s _ (single.given_up c op u lead st s is missing)
      go false d _ = single.alone s _ (single.stays s)
  go_on_so c (Updating op u lock replied) s is = single.alone s _ (single.stays s)
  go_on_so c (Owning name u) s is = single.alone s _ (single.stays s)
  go_on_so c Fresh s is = single.alone s _ (single.stays s)
  go_on_so c Spent s is = single.alone s _ (single.stays s)

  pub attempt_so : (op : OpId) (u : Update) (s : State) → s.stages op ≡ Waiting u → R s (attempt m op u s)
  attempt_so op u s waits =
      let t = (new_attempt (greatest m) op u s).state in
      let c = t.references in
      let first = same_atom (greatest m) in
      let r = (ask m first c op u (greatest m) (λ _. Unasked) t).state in
      single.before s (new_attempt (greatest m) op u s) (λ v. and_then (ask m first v.references op u (greatest m) (λ _. Unasked) v) (λ x. go_on m v.references (x.uses v.references) x)) refl
      (single.attempted (greatest m) op u s waits)
      (single.before t (ask m first c op u (greatest m) (λ _. Unasked) t) (λ x. go_on m c (x.uses c) x) refl
      (single.asked first c op u (greatest m) (λ _. Unasked) t (upd_at nat_eq _ c _ (eq-eqb c c refl)))
      (go_on_so c (r.uses c) r refl))

  -- ---- a retry

  pub tried_so : (stage : Stage) (op : OpId) (s : State) → s.stages op ≡ stage → R s (tried_again stage m op s)
  tried_so (Waiting u) op s is = attempt_so op u s is
  tried_so (Asking c) op s is = go_on_so c (s.uses c) s refl
  tried_so (Changing n) op s is = single.alone s _ (replies_in_so n (s.uses n) s refl)
  tried_so Closed op s is = single.alone s _ (single.stays s)

  -- ---- commands

  same_op_itself : (op : OpId) → same_op op op ≡ true
  same_op_itself op = ap (λ b. b && nat_eq op.number op.number) (eq-eqb op.port op.port refl) ∙ eq-eqb op.number op.number refl

  undertake_so : (op : OpId) (u : Update) (s : State) → New op s → Asks op u → R s (undertake m op u s)
  undertake_so op u s new asks = go (nat_le OPEN_LIMIT s.opened)
    where
      go : (b : Bool) → R s (cond b (answer op (refused Busy) s) (and_then (open_command op u s) (attempt m op u)))
      go true = single.alone s _ (single.answered op (refused Busy) s new)
      go false = single.before s (open_command op u s) (attempt m op u) refl (single.opened op u s new asks)
          (attempt_so op u ((open_command op u s).state) (upd_at same_op _ op _ (same_op_itself op)))

  change_so : (op : OpId) (u : Update) (s : State) → New op s → Asks op u → R s (change m op u s)
  change_so op u s new asks = go (look (s.table (name_of u)) u)
    where
      go : (r : Option Answer) → R s (change_by r m op u s)
      go (Some r) = single.alone s _ (single.answered op (Given r) s new)
      go None = undertake_so op u s new asks

  module _ (whole : Nodes) (ends : (pid : Pid) (s : State) → same_atom pid.node whole.own ≡ true → formed whole s ≡ true → s.ended pid ≡ false
      → R s (becomes_and_sends (ended_in pid s) (to_peers m (λ _. true) (Down pid)))) where
    end_so : (op : OpId) (pid : Pid) (s : State) → New op s → same_atom pid.node whole.own ≡ true → formed whole s ≡ true → s.ended pid ≡ false → R s (end_process m op pid s)
    end_so op pid s new home full lives = single.behind s _ (answer op (Given reply.Ok)) (refl, refl) (ends pid s home full lives)
        (single.answered op (Given reply.Ok) (ended_in pid s) (single.lasts op pid s new))

    -- a process that is told to end is of this node, which is formed, and has not ended
    may_end : (home full made gone : Bool) → first_that_holds ((false, NameTooLarge) ∷ (not home, ForeignPid) ∷ (not full, NotFormed) ∷ (not made, NotMade) ∷ (gone, AlreadyEnded) ∷ (false, ProcessLimit) ∷ []) ≡ None
        → (home ≡ true) × (full ≡ true) × (gone ≡ false)
    may_end true true true false e = (refl, refl, refl)
    may_end true true true true e = absurd (cc)
    may_end true true false gone e = absurd (cc)
    may_end true false made gone e = absurd (cc)
    may_end false full made gone e = absurd (cc)

    carried_so : (op : OpId) (c : Command) (s : State) → New op s → ((u : Update) → change_of c ≡ Some u → Asks op u) → fault_of whole s c ≡ None → R s (carried_out m op c s)
    carried_so op (command.Create name) s new asks free = change_so op (update.Create name) s new (asks (update.Create name) refl)
    carried_so op (command.Delete name) s new asks free = change_so op (update.Delete name) s new (asks (update.Delete name) refl)
    carried_so op (command.Join name pid) s new asks free = change_so op (update.Join name pid) s new (asks (update.Join name pid) refl)
    carried_so op (command.Leave name pid) s new asks free = change_so op (update.Leave name pid) s new (asks (update.Leave name pid) refl)
    carried_so op command.Make s new asks free = single.alone s _ (single.made op s new)
    carried_so op (command.Finish pid) s new asks free =
        let may = may_end (same_atom pid.node whole.own) (formed whole s) (is_among s.processes pid) (s.ended pid) free in
        end_so op pid s new may.0 may.1 may.2
    carried_so op (command.Members name) s new asks free = single.alone s _ (single.answered op _ s new)
    carried_so op (command.LocalMembers name) s new asks free = single.alone s _ (single.answered op _ s new)
    carried_so op command.WhichGroups s new asks free = single.alone s _ (single.answered op _ s new)
    carried_so op (command.Closest name word) s new asks free = single.alone s _ (single.answered op _ s new)

    -- counting a command changes nothing that a fault is told by
    same_fault : (port : ℕ) (c : Command) (s : State) → fault_of whole ((count_command port s).state) c ≡ fault_of whole s c
    same_fault port (command.Create name) s = refl
    same_fault port (command.Delete name) s = refl
    same_fault port (command.Join name pid) s = refl
    same_fault port (command.Leave name pid) s = refl
    same_fault port command.Make s = refl
    same_fault port (command.Finish pid) s = refl
    same_fault port (command.Members name) s = refl
    same_fault port (command.LocalMembers name) s = refl
    same_fault port command.WhichGroups s = refl
    same_fault port (command.Closest name word) s = refl

    command_so : (port : ℕ) (c : Command) (s : State) → New (next_op port s) ((count_command port s).state) → ((u : Update) → change_of c ≡ Some u → Asks (next_op port s) u) → R s (command_in whole m port c s)
    command_so port c s new asks = single.before s (count_command port s) (command_by (fault_of whole s c) m (next_op port s) c) refl (single.counted port s) (go (fault_of whole s c) (same_fault port c s))
      where
        t : State
        t = (count_command port s).state

        go : (f : Option CommandFault) → fault_of whole t c ≡ f → R t (command_by f m (next_op port s) c t)
        go (Some f) is = single.alone t _ (single.answered (next_op port s) (refused f) t new)
        go None is = carried_so (next_op port s) c t new asks is

    -- all that a node does of its own
    pub acted_so : (ports : ℕ) (action : Action) (s : State) (t : NodeTurn) → ((port : ℕ) → New (next_op port s) ((count_command port s).state))
        → ((port : ℕ) (c : Command) (u : Update) → action ≡ Issue port c → change_of c ≡ Some u → Asks (next_op port s) u) → acted whole m ports action s ≡ Ok t → R s t
    acted_so ports (Issue port c) s t new asks is = go (nat_lt port ports) is
      where
        go : (b : Bool) → Makes (cond b (Ok (command_in whole m port c s)) (Err NoSuchPlace)) t → R s t
        go true e = subst (R s) (ok_is e) (command_so port c s (new port) (λ u. asks port c u refl))
        go false e = absurd (cc)
    acted_so ports (Retry op) s t new asks is = go (nat_lt op.port ports) (waits m (s.stages op) s) is
      where
        go : (b d : Bool) → Makes (cond b (cond d (Ok (tried_again (s.stages op) m op s)) (Err NotWaiting)) (Err NoSuchPlace)) t → R s t
        go false d e = absurd (cc)
        go true false e = absurd (cc)
        go true true e = subst (R s) (ok_is e) (tried_so (s.stages op) op s refl)

  -- ---- packets

  module _ (p : Node) where
    heard_so : (c : ℕ) (op : OpId) (u : Update) (lead : Node) (st : Node → Status) (status : Status) (s : State) → s.uses c ≡ Locking op u lead st → st p ≡ Asked
        → R s (and_then (count_answer c op u lead st p status s) (λ v. go_on m c (v.uses c) v))
    heard_so c op u lead st status s is waits =
        let t = (count_answer c op u lead st p status s).state in
        single.before s (count_answer c op u lead st p status s) (λ v. go_on m c (v.uses c) v) refl (single.heard c op u lead st p status s is waits) (go_on_so c (t.uses c) t refl)

    -- a counted reply
    counted_so : (used : Use) (c : ℕ) (said : Said) (s : State) → s.uses c ≡ used → what_of true (gathered used p) ≡ what.Counted → R s (counted used m p c said s)
    counted_so (Locking op u lead st) c said s is counts = heard_so c op u lead st (lock_status said) s is (counts_asked (st p) (same_atom lead p) counts)
    counted_so (Updating op u lock replied) n said s is counts =
        let v = (count_ok n op u lock replied p s).state in
        single.before s (count_ok n op u lock replied p s) (λ x. replies_in m n (x.uses n) x) refl
        (single.confirmed n op u lock replied p s is (counts_new (replied p) counts)) (single.alone v _ (replies_in_so n (v.uses n) v refl))
    counted_so (Owning name u) c said s is counts = absurd (cc)
    counted_so Fresh c said s is counts = absurd (cc)
    counted_so Spent c said s is counts = absurd (cc)

    -- a reply to a reference of the node's own; to another it is a stranger's
    reply_so : (used : Use) (c : ℕ) (said : Said) (s : State) (t : NodeTurn) → (used ≡ Spent) ⊎ (used ≡ s.uses c) → reply_under used m p c said s ≡ Ok t → R s t
    reply_so used c said s t own e = judged used m p c said s t
        (λ odd is. subst (R s) is (single.alone s _ (single.odd odd s)))
        (λ counts is. subst (R s) is (known own counts)) e
      where
        known : (used ≡ Spent) ⊎ (used ≡ s.uses c) → what_of true (gathered used p) ≡ what.Counted → R s (counted used m p c said s)
        known (inr is) counts = counted_so used c said s (sym is) counts
        known (inl spent) counts = absurd (none_counted p used spent counts)

    own_or_spent : (b : Bool) (used : Use) → (cond b used Spent ≡ Spent) ⊎ (cond b used Spent ≡ used)
    own_or_spent true used = inr refl
    own_or_spent false used = inl refl

    -- all that a node makes of a packet
    pub taken_so : (x : Message) (s : State) (t : NodeTurn)
        → ((node : Node) (groups : GroupList) → x ≡ Exchange node groups → is_bad_exchange p node s ≡ false → R s (exchange p groups s))
        → ((pid : Pid) → x ≡ Down pid → R s (process_end pid s))
        → taken m p x s ≡ Ok t → R s t
    taken_so (Call reference (SetLock name)) s t exchanged ended e = subst (R s) (ok_is e) (single.alone s _ (single.requested p reference name s))
    taken_so (Call reference (Change u)) s t exchanged ended e = subst (R s) (ok_is e) (single.updated p reference u s)
    taken_so (Reply reference said) s t exchanged ended e =
        reply_so (use_of m reference s) (number_in reference) said s t (own_or_spent (ref_eq (own_reference m (number_in reference)) reference) (s.uses (number_in reference))) e
    taken_so (DelLock name reference) s t exchanged ended e = subst (R s) (ok_is e) (single.alone s _ (single.freed name reference s))
    taken_so (Exchange node groups) s t exchanged ended e = go (is_bad_exchange p node s) refl e
      where
        go : (b : Bool) → is_bad_exchange p node s ≡ b → Makes (cond b (Err NotAMessage) (Ok (exchange p groups s))) t → R s t
        go true _ d = absurd (cc)
        go false good d = subst (R s) (ok_is d) (exchanged node groups refl good)
    taken_so (Down pid) s t exchanged ended e = subst (R s) (ok_is e) (ended pid refl)
