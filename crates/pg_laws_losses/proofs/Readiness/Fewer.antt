-- Where no loss is seen no command becomes ready, and a retry leaves its command not ready.
use Rattle.std.proofs.Common.{◌≡◌, ◌≢◌, ◌⊎◌, inl, inr, ℕ, ◌+◌, ◌<◌, Bool, true, false, cond, nat_eq, nat_le}
use Rattle.std.proofs.Common.{nat_lt, arith}
use Rattle.std.proofs.Common.{Option, Some, None, Ok, Err, refl, ap, sym, ◌∙◌, subst}
use Rattle.pg_term.specs.RefParts.{ref_eq}
use Rattle.pg_term.specs.Same.{same_atom}
use Rattle.pg_laws.specs.PgGroup.Functions.{upd}
use Rattle.pg_laws.specs.PgGroup.Value.{name_of}
use Rattle.pg_laws.specs.PgGroup.declared.update.Update.{Update}
use Rattle.pg_laws.specs.PgGroup.declared.update.Update.TheVariants as update
use Rattle.pg_laws.specs.PgRefs.Numbered.{number_in}
use Rattle.pg_laws.specs.PgLock.Attempts.{after_round, does_wait}
use Rattle.pg_laws.specs.PgMessageTypes.declared.message.Message.{Message}
use Rattle.pg_laws.specs.PgMessageTypes.declared.message.Message.TheVariants.{Call, Reply, DelLock, Exchange, Down}
use Rattle.pg_laws.specs.PgMessageTypes.declared.message.Request.TheVariants.{SetLock, Change}
use Rattle.pg_laws.specs.PgMessageTypes.declared.message.Said.{Said}
use Rattle.pg_laws.specs.PgStep.Machines.Machine.{Input, Own, Taken, Turn}
use Rattle.pg_laws.specs.PgStep.declared.answer.Reply.{Reply as Answer}
use Rattle.pg_laws.specs.PgStep.declared.command.Command.{Command}
use Rattle.pg_laws.specs.PgStep.declared.command.Command.TheVariants as command
use Rattle.pg_laws.specs.PgStep.declared.command.OpId.{OpId}
use Rattle.pg_laws.specs.PgStep.declared.command_fault.CommandFault.{CommandFault}
use Rattle.pg_laws.specs.PgStep.declared.command_fault.CommandFault.TheVariants.{Busy}
use Rattle.pg_laws.specs.PgStep.declared.refusal.Refusal.TheVariants.{NotAMessage, NoSuchPlace, NotWaiting}
use Rattle.pg_laws.specs.PgStep.Attempts.{all_granted, ask, attempt, begin, count_answer, count_ok, counted, finish}
use Rattle.pg_laws.specs.PgStep.Attempts.{give_up, go_on}
use Rattle.pg_laws.specs.PgStep.Attempts.{is_complete, lock_status, locks_in, new_attempt, none_denied, none_missing}
use Rattle.pg_laws.specs.PgStep.Attempts.{own_reference}
use Rattle.pg_laws.specs.PgStep.Attempts.{replies_in, reply_under, round_of, same_op, tried_again, waits, with_asked}
use Rattle.pg_laws.specs.PgStep.Commands.{OPEN_LIMIT, answer, carried_out, change, change_by, command as command_in}
use Rattle.pg_laws.specs.PgStep.Commands.{command_by, count_command, fault_of, look, next_op, open_command, refused}
use Rattle.pg_laws.specs.PgStep.Config.{Config, name_at, nodes_at, ports_at}
use Rattle.pg_laws.specs.PgStep.FrameMachine.{node_step}
use Rattle.pg_laws.specs.PgStep.Nodes.{Node, Nodes, every, greatest}
use Rattle.pg_laws.specs.PgStep.Peers.{exchange, is_bad_exchange, would_grant}
use Rattle.pg_laws.specs.PgStep.State.{Stage, State, Status, Use, live_nodes}
use Rattle.pg_laws.specs.PgStep.State.Stage.{Asking, Changing, Closed, Waiting}
use Rattle.pg_laws.specs.PgStep.State.Status.{Unasked}
use Rattle.pg_laws.specs.PgStep.State.Use.{Fresh, Locking, Owning, Spent, Updating}
use Rattle.pg_laws.specs.PgStep.Step.{Action, Issue, Retry, acted, taken}
use Rattle.pg_laws.specs.PgStep.Turns.{NodeTurn, Report, and_then, becomes}
use Rattle.pg_laws.specs.ReferencesFit.{Fits}
use Rattle.pg_laws.proofs.locks.Stages.{commands}
use Rattle.pg_laws.proofs.quiet.Linked.{HasReference, IsLockingOf, IsUpdatingOf, Linked}
use Rattle.pg_laws.proofs.references.Keys.{cases, numbers, upd_other, upd_same}
use Rattle.pg_laws.proofs.steps.Lossless.{step_sees_none}
use Rattle.pg_laws.proofs.steps.Made.{did_so, took_so}
use Rattle.pg_laws.proofs.steps.Single.{Makes, judged, ok_is}
use Rattle.pg_laws_losses.proofs.Bridge.{live_same}
use Rattle.pg_laws_losses.specs.Readiness.Ready.{is_ready}
use Rattle.pg_laws_losses.proofs.Readiness.Going.{Answered, Asks, Began, Denied, WentOn, goes, replies_go}

-- ---- other commands

-- the stage stands at the reference of this number, if at one
abbrev IsAt : ℕ → Stage → Type 0
IsAt n (Asking c) = c ≡ n
IsAt n (Changing k) = k ≡ n
IsAt n (Waiting u) = Unit {0}
IsAt n Closed = Unit {0}

-- a use is of this command, or of none
abbrev Mine : OpId → Use → Type 0
Mine op (Locking other u lead st) = other ≡ op
Mine op (Updating other u c replied) = other ≡ op
Mine op Fresh = Unit {0}
Mine op (Owning name n) = ⊥
Mine op Spent = ⊥

locking_is : (op : OpId) (used : Use) → IsLockingOf op used → (u : Update) × (lead : Node) × (st : Node → Status)
    × (used ≡ Locking op u lead st)
locking_is op (Locking other u lead st) h = (u, lead, st, ap (λ o. Locking o u lead st) h)
locking_is op Fresh h = absurd h
locking_is op Spent h = absurd h
locking_is op (Owning name n) h = absurd h
locking_is op (Updating other u c replied) h = absurd h

updating_is : (op : OpId) (used : Use) → IsUpdatingOf op used → (u : Update) × (c : ℕ) × (replied : Node → Bool)
    × (used ≡ Updating op u c replied)
updating_is op (Updating other u c replied) h = (u, c, replied, ap (λ o. Updating o u c replied) h)
updating_is op Fresh h = absurd h
updating_is op Spent h = absurd h
updating_is op (Owning name n) h = absurd h
updating_is op (Locking other u lead st) h = absurd h

-- of a state: a command that asks or changes has its reference, and references that are not made yet are of no use
record Fit (s : State) : Type 0 where
  has : (op : OpId) → HasReference op (s.stages op) s.uses
  fresh : (c : ℕ) → s.references < c → s.uses c ≡ Fresh

linked_fit : (s : State) → Linked s → Fit s
linked_fit s linked = record { has = linked.links.asked; fresh = linked.fitting.fresh }

-- where a command stands, apart from the next references
record Place (op : OpId) (s : State) : Type 0 where
  number : ℕ
  at : IsAt number (s.stages op)
  mine : Mine op (s.uses number)
  next : s.references + 1 ≢ number
  later : s.references + 1 + 1 ≢ number

made_before : (s : State) → Fit s → (n : ℕ) → (s.uses n ≡ Fresh → ⊥) → (k : ℕ) → s.references < k → k ≢ n
made_before s fit n used k above e = used (ap s.uses (sym e) ∙ fit.fresh k above)

place_of : (op : OpId) (s : State) (stage : Stage) → s.stages op ≡ stage → HasReference op stage s.uses → Fit s
    → Place op s
place_of op s (Asking c) is has fit =
    let used = locking_is op (s.uses c) has in
    let made = λ (e : s.uses c ≡ Fresh). absurd (cc (sym used.3 ∙ e)) in record {
      number = c;
      at = subst (IsAt c) (sym is) refl;
      mine = subst (Mine op) (sym used.3) refl;
      next = made_before s fit c made (s.references + 1) (omega arith);
      later = made_before s fit c made (s.references + 1 + 1) (omega arith);
    }
place_of op s (Changing n) is has fit =
    let used = updating_is op (s.uses n) has in
    let made = λ (e : s.uses n ≡ Fresh). absurd (cc (sym used.3 ∙ e)) in record {
      number = n;
      at = subst (IsAt n) (sym is) refl;
      mine = subst (Mine op) (sym used.3) refl;
      next = made_before s fit n made (s.references + 1) (omega arith);
      later = made_before s fit n made (s.references + 1 + 1) (omega arith);
    }
place_of op s (Waiting u) is has fit = record {
  number = s.references + 3;
  at = subst (IsAt (s.references + 3)) (sym is) tt;
  mine = subst (Mine op) (sym (fit.fresh (s.references + 3) (omega arith))) tt;
  next = λ e. omega (arith, e);
  later = λ e. omega (arith, e);
}
place_of op s Closed is has fit = record {
  number = s.references + 3;
  at = subst (IsAt (s.references + 3)) (sym is) tt;
  mine = subst (Mine op) (sym (fit.fresh (s.references + 3) (omega arith))) tt;
  next = λ e. omega (arith, e);
  later = λ e. omega (arith, e);
}

-- the command stands as it did, and what it gathers is the same
abbrev Aside : OpId → ℕ → State → State → Type 0
Aside op n s t = (t.stages op ≡ s.stages op) × (t.uses n ≡ s.uses n)

aside_then : (op : OpId) (n : ℕ) (s t v : State) → Aside op n s t → Aside op n t v → Aside op n s v
aside_then op n s t v a b = (b.0 ∙ a.0, b.1 ∙ a.1)

module _ (m : Nodes) where
  still_ready : (n : ℕ) (stage : Stage) (s t : State) → IsAt n stage → t.uses n ≡ s.uses n
      → is_ready m stage t ≡ is_ready m stage s
  still_ready n (Asking c) s t at same = ap (λ z. is_complete m (t.uses z)) at
      ∙ (ap (is_complete m) same ∙ ap (λ z. is_complete m (s.uses z)) (sym at))
  still_ready n (Changing k) s t at same = ap (λ z. is_complete m (t.uses z)) at
      ∙ (ap (is_complete m) same ∙ ap (λ z. is_complete m (s.uses z)) (sym at))
  still_ready n (Waiting u) s t at same = refl
  still_ready n Closed s t at same = refl

  same_uses : (stage : Stage) (s t : State) → t.uses ≡ s.uses → is_ready m stage t ≡ is_ready m stage s
  same_uses (Asking c) s t same = ap (λ (f : ℕ → Use). is_complete m (f c)) same
  same_uses (Changing n) s t same = ap (λ (f : ℕ → Use). is_complete m (f n)) same
  same_uses (Waiting u) s t same = refl
  same_uses Closed s t same = refl

  -- no command is ready that was not ready before
  abbrev NoneNew : State → State → Type 0
  NoneNew s t = (op : OpId) → is_ready m (t.stages op) t ≡ true → is_ready m (s.stages op) s ≡ true

  none_same : (s t : State) → t.stages ≡ s.stages → t.uses ≡ s.uses → NoneNew s t
  none_same s t stages uses op ready = sym (same_uses (s.stages op) s t uses)
      ∙ (ap (λ (f : OpId → Stage). is_ready m (f op) t) (sym stages) ∙ ready)

  none_then : (s t v : State) → NoneNew s t → NoneNew t v → NoneNew s v
  none_then s t v a b op ready = a op (b op ready)

  -- one command is not ready, and the others stand aside
  none_by : (op : OpId) (s t : State) → Fit s → is_ready m (t.stages op) t ≡ false
      → ((other : OpId) → op ≢ other → (at : Place other s) → Aside other at.number s t) → NoneNew s t
  none_by op s t fit unready aside other ready = go (cases same_op commands op other)
    where
      go : (op ≡ other) ⊎ (op ≢ other) → is_ready m (s.stages other) s ≡ true
      go (inl same) = absurd (cc (sym unready ∙ ap (λ z. is_ready m (t.stages z) t) same ∙ ready))
      go (inr differ) =
          let at : Place other s = place_of other s (s.stages other) refl (fit.has other) fit in
          let by = aside other differ at in
          sym (still_ready at.number (s.stages other) s t at.at by.1) ∙ (ap (λ z. is_ready m z t) (sym by.0) ∙ ready)

  module _ (op other : OpId) (differ : op ≢ other) (n : ℕ) where
    gives_aside : (c : ℕ) (u : Update) (st : Node → Status) (s : State) → c ≢ n
        → Aside other n s (give_up m c op u st s).state
    gives_aside c u st s far =
        (upd_other same_op commands s.stages op (Waiting u) other differ, upd_other nat_eq numbers s.uses c Spent n far)

    ends_aside : (k : ℕ) (u : Update) (c : ℕ) (s : State) → k ≢ n → c ≢ n → Aside other n s (finish m k op u c s).state
    ends_aside k u c s beyond far = (
      upd_other same_op commands s.stages op Closed other differ,
      upd_other nat_eq numbers (upd nat_eq s.uses c Spent) k Spent n beyond
          ∙ upd_other nat_eq numbers s.uses c Spent n far,
    )

    begins_aside : (c : ℕ) (u : Update) (s : State) → c ≢ n → s.references + 1 ≢ n
        → Aside other n s (begin m c op u s).state
    begins_aside c u s far next = (
      upd_other same_op commands s.stages op (Changing (s.references + 1)) other differ,
      upd_other nat_eq numbers (upd nat_eq s.uses c (Owning (name_of u) (s.references + 1))) (s.references + 1)
          (Updating op u c (same_atom m.own)) n next
          ∙ upd_other nat_eq numbers s.uses c (Owning (name_of u) (s.references + 1)) n far,
    )

    asks_aside : (who : Node → Bool) (c : ℕ) (u : Update) (lead : Node) (st : Node → Status) (s : State) → c ≢ n
        → Aside other n s (ask m who c op u lead st s).state
    asks_aside who c u lead st s far = (
      refl,
      upd_other nat_eq numbers s.uses c
          (Locking op u lead (with_asked m who st (would_grant m s (name_of u)))) n far,
    )

    replies_aside : (k : ℕ) (used : Use) (u : Update) (c : ℕ) (replied : Node → Bool) (s : State)
        → used ≡ Updating op u c replied → k ≢ n → c ≢ n → Aside other n s (replies_in m k used s).state
    replies_aside k used u c replied s is beyond far =
        subst (λ x. Aside other n s (replies_in m k x s).state) (sym is) (go (every m replied))
      where
        go : (b : Bool) → Aside other n s (cond b (finish m k op u c s) (becomes s)).state
        go true = ends_aside k u c s beyond far
        go false = (refl, refl)

    locks_aside : (c : ℕ) (used : Use) (u : Update) (lead : Node) (st : Node → Status) (s : State)
        → used ≡ Locking op u lead st → c ≢ n → s.references + 1 ≢ n → Aside other n s (locks_in m c used s).state
    locks_aside c used u lead st s is far next =
        subst (λ x. Aside other n s (locks_in m c x s).state) (sym is) (go (all_granted m st) (none_missing m st))
      where
        go : (b d : Bool)
            → Aside other n s
            (cond b (and_then (begin m c op u s) (λ v. replies_in m v.references (v.uses v.references) v))
            (cond d (give_up m c op u st s) (becomes s))).state
        go true d = aside_then other n s (begin m c op u s).state
            (replies_in m (s.references + 1) ((begin m c op u s).state.uses (s.references + 1))
            (begin m c op u s).state).state
            (begins_aside c u s far next)
            (replies_aside (s.references + 1) ((begin m c op u s).state.uses (s.references + 1)) u c (same_atom m.own)
            (begin m c op u s).state
            (upd_same nat_eq numbers (upd nat_eq s.uses c (Owning (name_of u) (s.references + 1))) (s.references + 1)
            (Updating op u c (same_atom m.own))) next far)
        go false true = gives_aside c u st s far
        go false false = (refl, refl)

    goes_aside : (c : ℕ) (used : Use) (u : Update) (lead : Node) (st : Node → Status) (s : State)
        → used ≡ Locking op u lead st → c ≢ n → s.references + 1 ≢ n → Aside other n s (go_on m c used s).state
    goes_aside c used u lead st s is far next =
        subst (λ x. Aside other n s (go_on m c x s).state) (sym is)
        (go (none_missing m st) (does_wait (after_round (round_of lead st) (none_denied m st))))
      where
        go : (b d : Bool)
            → Aside other n s
            (cond b (cond d (give_up m c op u st s)
            (and_then (ask m (λ _. true) c op u lead st s) (λ v. locks_in m c (v.uses c) v))) (becomes s)).state
        go true true = gives_aside c u st s far
        go true false = aside_then other n s (ask m (λ _. true) c op u lead st s).state
            (locks_in m c ((ask m (λ _. true) c op u lead st s).state.uses c)
            (ask m (λ _. true) c op u lead st s).state).state
            (asks_aside (λ _. true) c u lead st s far)
            (locks_aside c ((ask m (λ _. true) c op u lead st s).state.uses c) u lead
            (with_asked m (λ _. true) st (would_grant m s (name_of u))) (ask m (λ _. true) c op u lead st s).state
            (upd_same nat_eq numbers s.uses c
            (Locking op u lead (with_asked m (λ _. true) st (would_grant m s (name_of u))))) far next)
        go false d = (refl, refl)

    attempt_aside : (u : Update) (s : State) → s.references + 1 ≢ n → s.references + 1 + 1 ≢ n
        → Aside other n s (attempt m op u s).state
    attempt_aside u s next later =
        let c = s.references + 1 in
        let lead = greatest m in
        let t : State = (new_attempt (greatest m) op u s).state in
        let r : State = (ask m (same_atom lead) c op u lead (λ _. Unasked) t).state in
        let st = with_asked m (same_atom lead) (λ _. Unasked) (would_grant m t (name_of u)) in
        aside_then other n s r (go_on m c (r.uses c) r).state
        (aside_then other n s t r (
          upd_other same_op commands s.stages op (Asking c) other differ,
          upd_other nat_eq numbers s.uses c
              (Locking op u lead (λ _. Unasked)) n next,
        )
        (asks_aside (same_atom lead) c u lead (λ _. Unasked) t next))
        (goes_aside c (r.uses c) u lead st r (upd_same nat_eq numbers t.uses c (Locking op u lead st)) next later)

  -- ---- the command itself

  went_unready : (op : OpId) (t : State) (r : Report) → WentOn m op t r → is_ready m (t.stages op) t ≡ false
  went_unready op t r (Answered stage gave) = ap (λ z. is_ready m z t) stage
  went_unready op t r (Began u n stage began missing) = ap (λ z. is_ready m z t) stage ∙ missing
  went_unready op t r (Asks c stage missing) = ap (λ z. is_ready m z t) stage ∙ missing
  went_unready op t r (Denied u stage) = ap (λ z. is_ready m z t) stage

  module _ (op : OpId) where
    goes_unready : (c : ℕ) (used : Use) (u : Update) (lead : Node) (st : Node → Status) (s : State)
        → s.stages op ≡ Asking c → s.uses c ≡ used → used ≡ Locking op u lead st
        → is_ready m ((go_on m c used s).state.stages op) (go_on m c used s).state ≡ false
    goes_unready c used u lead st s stage has is =
        subst (λ x. is_ready m ((go_on m c x s).state.stages op) (go_on m c x s).state ≡ false) (sym is)
        (go (none_missing m st) refl)
      where
        go : (b : Bool) → none_missing m st ≡ b
            → is_ready m ((go_on m c (Locking op u lead st) s).state.stages op)
            (go_on m c (Locking op u lead st) s).state ≡ false
        go true none = went_unready op (go_on m c (Locking op u lead st) s).state
            (go_on m c (Locking op u lead st) s).reported (goes m op c u lead st s stage none)
        go false missing =
            subst (λ b. let t =
            cond b (cond (does_wait (after_round (round_of lead st) (none_denied m st))) (give_up m c op u st s)
            (and_then (ask m (λ _. true) c op u lead st s) (λ v. locks_in m c (v.uses c) v))) (becomes s) in
            is_ready m (t.state.stages op) t.state ≡ false) (sym missing)
            (ap (λ z. is_ready m z s) stage ∙ (ap (is_complete m) (has ∙ is) ∙ missing))

    replies_unready : (k : ℕ) (used : Use) (u : Update) (c : ℕ) (replied : Node → Bool) (s : State)
        → s.stages op ≡ Changing k → s.uses k ≡ used → used ≡ Updating op u c replied
        → is_ready m ((replies_in m k used s).state.stages op) (replies_in m k used s).state ≡ false
    replies_unready k used u c replied s stage has is =
        subst (λ x. is_ready m ((replies_in m k x s).state.stages op) (replies_in m k x s).state ≡ false) (sym is)
        (go (every m replied) refl)
      where
        go : (b : Bool) → every m replied ≡ b
            → is_ready m ((replies_in m k (Updating op u c replied) s).state.stages op)
            (replies_in m k (Updating op u c replied) s).state ≡ false
        go true all = went_unready op (replies_in m k (Updating op u c replied) s).state
            (replies_in m k (Updating op u c replied) s).reported (replies_go m op k u c replied s all)
        go false some = subst
            (λ b. let t = cond b (finish m k op u c s) (becomes s) in is_ready m (t.state.stages op) t.state ≡ false)
            (sym some)
            (ap (λ z. is_ready m z s) stage ∙ (ap (is_complete m) (has ∙ is) ∙ some))

    attempt_unready : (u : Update) (s : State)
        → is_ready m ((attempt m op u s).state.stages op) (attempt m op u s).state ≡ false
    attempt_unready u s =
        let c = s.references + 1 in
        let lead = greatest m in
        let t : State = (new_attempt (greatest m) op u s).state in
        let r : State = (ask m (same_atom lead) c op u lead (λ _. Unasked) t).state in
        let st = with_asked m (same_atom lead) (λ _. Unasked) (would_grant m t (name_of u)) in
        goes_unready c (r.uses c) u lead st r (upd_same same_op commands s.stages op (Asking c)) refl
        (upd_same nat_eq numbers t.uses c (Locking op u lead st))

  -- ---- a retry

  far_of : (other : OpId) (n k : ℕ) (used : Use) (s : State) → s.uses k ≡ used → (Mine other used → ⊥)
      → Mine other (s.uses n) → k ≢ n
  far_of other n k used s is never mine e = never (subst (Mine other) (ap s.uses (sym e) ∙ is) mine)

  tried_unready : (op : OpId) (stage : Stage) (s : State) → s.stages op ≡ stage → HasReference op stage s.uses
      → is_ready m ((tried_again stage m op s).state.stages op) (tried_again stage m op s).state ≡ false
  tried_unready op (Waiting u) s is has = attempt_unready op u s
  tried_unready op (Asking c) s is has = let used =
      locking_is op (s.uses c) has in goes_unready op c (s.uses c) used.0 used.1 used.2 s is refl used.3
  tried_unready op (Changing n) s is has = let used =
      updating_is op (s.uses n) has in replies_unready op n (s.uses n) used.0 used.1 used.2 s is refl used.3
  tried_unready op Closed s is has = ap (λ z. is_ready m z s) is

  -- the lock of an update is owned
  owning : (n : ℕ) (op : OpId) (u : Update) (c : ℕ) (replied : Node → Bool) (s : State) → Linked s
      → s.uses n ≡ Updating op u c replied → (s.stages op ≡ Changing n) × (s.uses c ≡ Owning (name_of u) n)
  owning n op u c replied s linked is = subst (λ x. Fits n x s.stages s.uses) is (linked.fitting.fits n)

  tried_aside : (op other : OpId) → op ≢ other → (stage : Stage) (s : State) → HasReference op stage s.uses → Linked s
      → (at : Place other s) → Aside other at.number s (tried_again stage m op s).state
  tried_aside op other differ (Waiting u) s has linked at = attempt_aside op other differ at.number u s at.next at.later
  tried_aside op other differ (Asking c) s has linked at =
      let used = locking_is op (s.uses c) has in
      goes_aside op other differ at.number c (s.uses c) used.0 used.1 used.2 s used.3
      (far_of other at.number c (Locking op used.0 used.1 used.2) s used.3 (λ same. differ same) at.mine) at.next
  tried_aside op other differ (Changing n) s has linked at =
      let used = updating_is op (s.uses n) has in
      replies_aside op other differ at.number n (s.uses n) used.0 used.1 used.2 s used.3
      (far_of other at.number n (Updating op used.0 used.1 used.2) s used.3 (λ same. differ same) at.mine)
      (far_of other at.number used.1 (Owning (name_of used.0) n) s (owning n op used.0 used.1 used.2 s linked used.3).1
      (λ never. never) at.mine)
  tried_aside op other differ Closed s has linked at = (refl, refl)

  tried_none : (op : OpId) (s : State) → Linked s → NoneNew s (tried_again (s.stages op) m op s).state
  tried_none op s linked = none_by op s (tried_again (s.stages op) m op s).state (linked_fit s linked)
      (tried_unready op (s.stages op) s refl (linked.links.asked op))
      (λ other differ at. tried_aside op other differ (s.stages op) s (linked.links.asked op) linked at)

  -- ---- a reply

  counted_none : (used : Use) (p : Node) (c : ℕ) (said : Said) (s : State) → s.uses c ≡ used → Linked s
      → NoneNew s (counted used m p c said s).state
  counted_none (Locking op u lead st) p c said s is linked =
      let v : State = (count_answer c op u lead st p (lock_status said) s).state in
      let now : Node → Status = upd same_atom st p (lock_status said) in
      let used = upd_same nat_eq numbers s.uses c (Locking op u lead now) in
      let stage : s.stages op ≡ Asking c = subst (λ x. Fits c x s.stages s.uses) is (linked.fitting.fits c) in
      none_by op s (go_on m c (v.uses c) v).state (linked_fit s linked)
      (goes_unready op c (v.uses c) u lead now v stage refl used) (λ other differ at.
      let far = far_of other at.number c (Locking op u lead st) s is (λ same. differ same) at.mine in
      aside_then other at.number s v (go_on m c (v.uses c) v).state
      (refl, upd_other nat_eq numbers s.uses c (Locking op u lead now) at.number far)
      (goes_aside op other differ at.number c (v.uses c) u lead now v used far at.next))
  counted_none (Updating op u lock replied) p n said s is linked =
      let v : State = (count_ok n op u lock replied p s).state in
      let now : Node → Bool = upd same_atom replied p true in
      let used = upd_same nat_eq numbers s.uses n (Updating op u lock now) in
      let owned = owning n op u lock replied s linked is in
      none_by op s (replies_in m n (v.uses n) v).state (linked_fit s linked)
      (replies_unready op n (v.uses n) u lock now v owned.0 refl used) (λ other differ at.
      let beyond = far_of other at.number n (Updating op u lock replied) s is (λ same. differ same) at.mine in
      let far = far_of other at.number lock (Owning (name_of u) n) s owned.1 (λ never. never) at.mine in
      aside_then other at.number s v (replies_in m n (v.uses n) v).state
      (refl, upd_other nat_eq numbers s.uses n (Updating op u lock now) at.number beyond)
      (replies_aside op other differ at.number n (v.uses n) u lock now v used beyond far))
  counted_none (Owning name n) p c said s is linked = none_same s s refl refl
  counted_none Fresh p c said s is linked = none_same s s refl refl
  counted_none Spent p c said s is linked = none_same s s refl refl

  -- what a turn leaves
  abbrev Turns : State → NodeTurn → Type 0
  Turns s t = NoneNew s t.state

  stays : (s : State) → NoneNew s s
  stays s = none_same s s refl refl

  reply_none : (b : Bool) (p : Node) (c : ℕ) (said : Said) (s : State) (t : NodeTurn) → Linked s
      → Makes (reply_under (cond b (s.uses c) Spent) m p c said s) t → Turns s t
  reply_none true p c said s t linked e =
      judged (s.uses c) m p c said s t (λ odd is. subst (Turns s) is (stays s))
      (λ counts is. subst (Turns s) is (counted_none (s.uses c) p c said s refl linked)) e
  reply_none false p c said s t linked e =
      judged Spent m p c said s t (λ odd is. subst (Turns s) is (stays s)) (λ counts is. subst (Turns s) is (stays s)) e

  taken_none : (p : Node) (x : Message) (s : State) (t : NodeTurn) → Linked s → Makes (taken m p x s) t → Turns s t
  taken_none p (Call reference (SetLock name)) s t linked is = subst (Turns s) (ok_is is) (none_same s _ refl refl)
  taken_none p (Call reference (Change u)) s t linked is = subst (Turns s) (ok_is is) (none_same s _ refl refl)
  taken_none p (Reply reference said) s t linked is =
      reply_none (ref_eq (own_reference m (number_in reference)) reference) p (number_in reference) said s t linked is
  taken_none p (DelLock name reference) s t linked is = subst (Turns s) (ok_is is) (none_same s _ refl refl)
  taken_none p (Exchange node groups) s t linked is = go (is_bad_exchange p node s) is
    where
      go : (b : Bool) → Makes (cond b (Err NotAMessage) (Ok (exchange p groups s))) t → Turns s t
      go true e = absurd (cc)
      go false e = subst (Turns s) (ok_is e) (none_same s _ refl refl)
  taken_none p (Down pid) s t linked is = subst (Turns s) (ok_is is) (none_same s _ refl refl)

  -- ---- a command

  change_none : (op : OpId) (u : Update) (s : State) → Fit s → Turns s (change m op u s)
  change_none op u s fit = go (look (s.table (name_of u)) u)
    where
      open_one : (b : Bool)
          → Turns s (cond b (answer op (refused Busy) s) (and_then (open_command op u s) (attempt m op u)))
      open_one true = stays s
      open_one false = none_by op s (attempt m op u (open_command op u s).state).state fit
          (attempt_unready op u (open_command op u s).state) (λ other differ at.
          aside_then other at.number s (open_command op u s).state (attempt m op u (open_command op u s).state).state
          (upd_other same_op commands s.stages op (Waiting u) other differ, refl)
          (attempt_aside op other differ at.number u (open_command op u s).state at.next at.later))

      go : (r : Option Answer) → Turns s (change_by r m op u s)
      go (Some r) = stays s
      go None = open_one (nat_le OPEN_LIMIT s.opened)

  carried_none : (op : OpId) (c : Command) (s : State) → Fit s → Turns s (carried_out m op c s)
  carried_none op (command.Create name) s fit = change_none op (update.Create name) s fit
  carried_none op (command.Delete name) s fit = change_none op (update.Delete name) s fit
  carried_none op (command.Join name pid) s fit = change_none op (update.Join name pid) s fit
  carried_none op (command.Leave name pid) s fit = change_none op (update.Leave name pid) s fit
  carried_none op command.Make s fit = none_same s _ refl refl
  carried_none op (command.Finish pid) s fit = none_same s _ refl refl
  carried_none op (command.Members name) s fit = stays s
  carried_none op (command.LocalMembers name) s fit = stays s
  carried_none op command.WhichGroups s fit = stays s
  carried_none op (command.Closest name word) s fit = stays s

  command_none : (whole : Nodes) (port : ℕ) (c : Command) (s : State) → Linked s → Turns s (command_in whole m port c s)
  command_none whole port c s linked = go (fault_of whole s c)
    where
      fit : Fit (count_command port s).state
      fit = record { has = linked.links.asked; fresh = linked.fitting.fresh }

      counts : NoneNew s (count_command port s).state
      counts = none_same s (count_command port s).state refl refl

      go : (f : Option CommandFault) → NoneNew s (command_by f m (next_op port s) c (count_command port s).state).state
      go (Some f) = none_same s _ refl refl
      go None = none_then s (count_command port s).state
          (carried_out m (next_op port s) c (count_command port s).state).state counts
          (carried_none (next_op port s) c (count_command port s).state fit)

  acted_none : (whole : Nodes) (ports : ℕ) (action : Action) (s : State) (t : NodeTurn) → Linked s
      → Makes (acted whole m ports action s) t → Turns s t
  acted_none whole ports (Issue port c) s t linked is = go (nat_lt port ports) is
    where
      go : (b : Bool) → Makes (cond b (Ok (command_in whole m port c s)) (Err NoSuchPlace)) t → Turns s t
      go true e = subst (Turns s) (ok_is e) (command_none whole port c s linked)
      go false e = absurd (cc)
  acted_none whole ports (Retry op) s t linked is = go (nat_lt op.port ports) (waits m (s.stages op) s) is
    where
      go : (b d : Bool)
          → Makes (cond b (cond d (Ok (tried_again (s.stages op) m op s)) (Err NotWaiting)) (Err NoSuchPlace)) t
          → Turns s t
      go false d e = absurd (cc)
      go true false e = absurd (cc)
      go true true e = subst (Turns s) (ok_is e) (tried_none op s linked)

  retried_unready : (whole : Nodes) (ports : ℕ) (op : OpId) (s : State) (t : NodeTurn) → Linked s
      → Makes (acted whole m ports (Retry op) s) t → is_ready m (t.state.stages op) t.state ≡ false
  retried_unready whole ports op s t linked is = go (nat_lt op.port ports) (waits m (s.stages op) s) is
    where
      go : (b d : Bool)
          → Makes (cond b (cond d (Ok (tried_again (s.stages op) m op s)) (Err NotWaiting)) (Err NoSuchPlace)) t
          → is_ready m (t.state.stages op) t.state ≡ false
      go false d e = absurd (cc)
      go true false e = absurd (cc)
      go true true e = subst (λ (z : NodeTurn). is_ready m (z.state.stages op) z.state ≡ false) (ok_is e)
          (tried_unready op (s.stages op) s refl (linked.links.asked op))

  -- and the others as they were
  tried_others : (op other : OpId) → op ≢ other → (s : State) → Linked s
      → is_ready m ((tried_again (s.stages op) m op s).state.stages other) (tried_again (s.stages op) m op s).state
      ≡ is_ready m (s.stages other) s
  tried_others op other differ s linked =
      let t : State = (tried_again (s.stages op) m op s).state in
      let at : Place other s =
      place_of other s (s.stages other) refl (linked.links.asked other) (linked_fit s linked) in
      let by = tried_aside op other differ (s.stages op) s (linked.links.asked op) linked at in
      ap (λ z. is_ready m z t) by.0 ∙ still_ready at.number (s.stages other) s t at.at by.1

  retried_others : (whole : Nodes) (ports : ℕ) (op other : OpId) → op ≢ other → (s : State) (t : NodeTurn) → Linked s
      → Makes (acted whole m ports (Retry op) s) t
      → is_ready m (t.state.stages other) t.state ≡ is_ready m (s.stages other) s
  retried_others whole ports op other differ s t linked is =
      go (nat_lt op.port ports) (waits m (s.stages op) s) is
    where
      go : (b d : Bool)
          → Makes (cond b (cond d (Ok (tried_again (s.stages op) m op s)) (Err NotWaiting)) (Err NoSuchPlace)) t
          → is_ready m (t.state.stages other) t.state ≡ is_ready m (s.stages other) s
      go false d e = absurd (cc)
      go true false e = absurd (cc)
      go true true e =
          subst (λ (z : NodeTurn). is_ready m (z.state.stages other) z.state ≡ is_ready m (s.stages other) s) (ok_is e)
          (tried_others op other differ s linked)

-- ---- a step

module _ (config : Config) (i : ℕ) (s : State) (linked : Linked s) where
  step_none : (input : Input Message Action) (turn : Turn State Message Report) → node_step config i s input ≡ Some turn
      → NoneNew (live_nodes (nodes_at config i) s) s turn.state
  step_none (Taken p x) turn is =
      let t = took_so config i s p x turn is in
      subst (λ (z : Turn State Message Report). NoneNew (live_nodes (nodes_at config i) s) s z.state) (sym t.2)
      (taken_none (live_nodes (nodes_at config i) s) (name_at config p) x s t.0 linked t.1)
  step_none (Own action) turn is =
      let t = did_so config i s action turn is in
      subst (λ (z : Turn State Message Report). NoneNew (live_nodes (nodes_at config i) s) s z.state) (sym t.2)
      (acted_none (live_nodes (nodes_at config i) s) (nodes_at config i) (ports_at config i) action s t.0 linked t.1)

  -- a step makes no command ready
  pub step_makes_none : (input : Input Message Action) (turn : Turn State Message Report)
      → node_step config i s input ≡ Some turn → (op : OpId)
      → is_ready (live_nodes (nodes_at config i) turn.state) (turn.state.stages op) turn.state ≡ true
      → is_ready (live_nodes (nodes_at config i) s) (s.stages op) s ≡ true
  step_makes_none input turn is op ready = step_none input turn is op
      (subst (λ m. is_ready m (turn.state.stages op) turn.state ≡ true)
      (sym (live_same (nodes_at config i) s turn.state (step_sees_none config i s input turn is))) ready)

  -- and a retry leaves its command not ready
  pub step_unready : (op : OpId) (turn : Turn State Message Report) → node_step config i s (Own (Retry op)) ≡ Some turn
      → is_ready (live_nodes (nodes_at config i) turn.state) (turn.state.stages op) turn.state ≡ false
  step_unready op turn is =
      let t = did_so config i s (Retry op) turn is in
      subst (λ m. is_ready m (turn.state.stages op) turn.state ≡ false)
      (live_same (nodes_at config i) s turn.state (step_sees_none config i s (Own (Retry op)) turn is))
      (subst (λ (z : Turn State Message Report). is_ready (live_nodes (nodes_at config i) s)
      (z.state.stages op) z.state ≡ false) (sym t.2)
      (retried_unready (live_nodes (nodes_at config i) s) (nodes_at config i) (ports_at config i) op s t.0 linked t.1))

  -- and each other command ready as it was
  pub step_others : (op other : OpId) → op ≢ other → (turn : Turn State Message Report)
      → node_step config i s (Own (Retry op)) ≡ Some turn
      → is_ready (live_nodes (nodes_at config i) turn.state) (turn.state.stages other) turn.state
      ≡ is_ready (live_nodes (nodes_at config i) s) (s.stages other) s
  step_others op other differ turn is =
      let t = did_so config i s (Retry op) turn is in
      subst (λ m. is_ready m (turn.state.stages other) turn.state
      ≡ is_ready (live_nodes (nodes_at config i) s) (s.stages other) s)
      (live_same (nodes_at config i) s turn.state (step_sees_none config i s (Own (Retry op)) turn is))
      (subst (λ (z : Turn State Message Report). is_ready (live_nodes (nodes_at config i) s) (z.state.stages other) z.state
      ≡ is_ready (live_nodes (nodes_at config i) s) (s.stages other) s) (sym t.2)
      (retried_others (live_nodes (nodes_at config i) s) (nodes_at config i) (ports_at config i) op other differ s t.0 linked t.1))
