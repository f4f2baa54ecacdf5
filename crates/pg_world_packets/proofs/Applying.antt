-- What an event applies: the update that a taken packet asks for, else that of the command that got its last grant.
use Rattle.std.proofs.Common.{◌≡◌, ◌⊎◌, ℕ, Bool, true, false, cond, nat_lt, max, ◌+◌, Option}
use Rattle.std.proofs.Common.{Some, None, Result, Ok, Err, nat_le, subst, refl, inl, inr}
use Rattle.pg_node_state.specs.PgGroup.declared.update.Update.{Update}
use Rattle.pg_node_state.specs.PgMessageTypes.declared.message.Message.{Message}
use Rattle.pg_node_state.specs.PgMessageTypes.declared.message.Message.TheVariants.{Call, Reply, DelLock, Exchange, Down}
use Rattle.pg_node_state.specs.PgMessageTypes.declared.message.Request.TheVariants.{SetLock, Change}
use Rattle.pg_node_state.specs.PgMessageTypes.declared.message.Said.{Said}
use Rattle.pg_node_state.specs.PgStep.Machines.Clocked.{Timed, Stamped}
use Rattle.pg_node_state.specs.PgMulticall.declared.gather.Taken.{Taken as Heard}
use Rattle.pg_node_state.specs.PgMulticall.declared.gather.Taken.TheVariants as what
use Rattle.pg_node_state.specs.PgStep.Attempts.{finish, begin, give_up, ask, new_attempt, count_answer, count_ok}
use Rattle.pg_node_state.specs.PgStep.Attempts.{lock_status, replies_in, locks_in, go_on, attempt, tried_again, waits, retry}
use Rattle.pg_node_state.specs.PgStep.Attempts.{counted, reply_by, use_of, all_granted, none_missing, none_denied, round_of}
use Rattle.pg_node_state.specs.PgStep.Commands.{OPEN_LIMIT, answer, refused, open_command, count_command, undertake}
use Rattle.pg_node_state.specs.PgStep.Commands.{change_by, carried_out, command_by, command, fault_of, next_op}
use Rattle.pg_node_state.specs.PgStep.declared.answer.Reply.{Reply as Answer}
use Rattle.pg_node_state.specs.PgStep.declared.command.Command.{Command}
use Rattle.pg_node_state.specs.PgStep.declared.command.Command.TheVariants as commands
use Rattle.pg_node_state.specs.PgStep.declared.command.OpId.{OpId}
use Rattle.pg_node_state.specs.PgStep.declared.command_fault.CommandFault.{CommandFault}
use Rattle.pg_node_state.specs.PgStep.declared.refusal.Refusal.{Refusal}
use Rattle.pg_node_state.specs.PgStep.declared.refusal.Refusal.TheVariants.{NotAMessage, NoSuchPlace, NodeLost}
use Rattle.pg_node_state.specs.PgStep.declared.refusal.Refusal.TheVariants.{NotDrained, NotLost, NotWaiting, ClockFull}
use Rattle.pg_node_state.specs.PgStep.declared.command_fault.CommandFault.TheVariants.{Busy}
use Rattle.pg_term.specs.Same.{same_atom}
use Rattle.pg_node_state.specs.PgLock.Attempts.{after_round, does_wait}
use Rattle.pg_node_state.specs.PgStep.Nodes.{Node, Nodes, every, greatest}
use Rattle.pg_node_state.specs.PgStep.State.{State, Use, Stage, live_nodes}
use Rattle.pg_node_state.specs.PgStep.State.Use.{Fresh, Locking, Owning, Updating, Spent}
use Rattle.pg_node_state.specs.PgStep.Peers.{is_bad_exchange, exchange}
use Rattle.pg_node_state.specs.PgStep.State.Status.{Unasked}
use Rattle.pg_node_state.specs.PgStep.State.Stage.{Closed, Waiting, Asking, Changing}
use Rattle.pg_node_state.specs.PgStep.Step.{Action, Issue, Retry, TimedTurn, taken, acted, node_takes}
use Rattle.pg_node_state.specs.PgStep.Step.{node_acts, timed, at_clock, CLOCK_LIMIT, step_take, step_act}
use Rattle.pg_node_state.specs.PgStep.Turns.{NodeTurn, Report, and_then, becomes}
use Rattle.pg_world_account.specs.Histories.{update_asked_by, begun_by}

-- what began is what was applied
abbrev pub Alike : Report → Type 0
Alike report = report.applied ≡ begun_by report.began

-- what was asked for is what was applied, and nothing began; or nothing was asked for, and what began is what was applied
abbrev pub Applies : Option Update → Report → Type 0
Applies asked report = ((report.applied ≡ asked) × (report.began ≡ None)) ⊎ ((asked ≡ None) × Alike report)

cond_alike : (b : Bool) (t u : NodeTurn) → Alike t.reported → Alike u.reported → Alike (cond b t u).reported
cond_alike true t u one two = one
cond_alike false t u one two = two

module _ (m : Nodes) where
  replies_alike : (c : ℕ) (used : Use) (s : State) → Alike (replies_in m c used s).reported
  replies_alike c (Updating op update l replied) s = cond_alike (every m replied) (finish m c op update l s) (becomes s) refl refl
  replies_alike c (Locking op update first st) s = refl
  replies_alike c (Owning name n) s = refl
  replies_alike c Fresh s = refl
  replies_alike c Spent s = refl

  locks_alike : (c : ℕ) (used : Use) (s : State) → Alike (locks_in m c used s).reported
  locks_alike c (Locking op update first st) s =
      cond_alike (all_granted m st) (and_then (begin m c op update s) (λ t. replies_in m t.references (t.uses t.references) t))
      (cond (none_missing m st) (give_up m c op update st s) (becomes s)) refl
      (cond_alike (none_missing m st) (give_up m c op update st s) (becomes s) refl refl)
  locks_alike c (Updating op update l replied) s = refl
  locks_alike c (Owning name n) s = refl
  locks_alike c Fresh s = refl
  locks_alike c Spent s = refl

  goes_alike : (c : ℕ) (used : Use) (s : State) → Alike (go_on m c used s).reported
  goes_alike c (Locking op update first st) s =
      let t : NodeTurn = ask m (λ q. true) c op update first st s in
      let denied : Bool = does_wait (after_round (round_of first st) (none_denied m st)) in
      let rest : NodeTurn = and_then t (λ r. locks_in m c (r.uses c) r) in
      cond_alike (none_missing m st) (cond denied (give_up m c op update st s) rest) (becomes s)
      (cond_alike denied (give_up m c op update st s) rest refl (locks_alike c (t.state.uses c) t.state)) refl
  goes_alike c (Updating op update l replied) s = refl
  goes_alike c (Owning name n) s = refl
  goes_alike c Fresh s = refl
  goes_alike c Spent s = refl

  attempt_alike : (op : OpId) (update : Update) (s : State) → Alike (attempt m op update s).reported
  attempt_alike op update s =
      let t : NodeTurn = new_attempt (greatest m) op update s in
      let r : NodeTurn = ask m (same_atom (greatest m)) t.state.references op update (greatest m) (λ q. Unasked) t.state in
      goes_alike t.state.references (r.state.uses t.state.references) r.state

  tried_alike : (stage : Stage) (op : OpId) (s : State) → Alike (tried_again stage m op s).reported
  tried_alike (Waiting update) op s = attempt_alike op update s
  tried_alike (Asking c) op s = goes_alike c (s.uses c) s
  tried_alike (Changing n) op s = replies_alike n (s.uses n) s
  tried_alike Closed op s = refl

  counted_alike : (used : Use) (p : Node) (c : ℕ) (said : Said) (s : State) → Alike (counted used m p c said s).reported
  counted_alike (Locking op update first st) p c said s =
      let t : NodeTurn = count_answer c op update first st p (lock_status said) s in goes_alike c (t.state.uses c) t.state
  counted_alike (Updating op update l replied) p c said s =
      let t : NodeTurn = count_ok c op update l replied p s in replies_alike c (t.state.uses c) t.state
  counted_alike (Owning name n) p c said s = refl
  counted_alike Fresh p c said s = refl
  counted_alike Spent p c said s = refl

  undertake_alike : (op : OpId) (update : Update) (s : State) → Alike (undertake m op update s).reported
  undertake_alike op update s = cond_alike (nat_le OPEN_LIMIT s.opened) (answer op (refused Busy) s) (and_then (open_command op update s) (attempt m op update)) refl
      (attempt_alike op update (open_command op update s).state)

  change_alike : (op : OpId) (update : Update) (s : State) (r : Option Answer) → Alike (change_by r m op update s).reported
  change_alike op update s (Some r) = refl
  change_alike op update s None = undertake_alike op update s

  carried_alike : (op : OpId) (c : Command) (s : State) → Alike (carried_out m op c s).reported
  carried_alike op (commands.Create name) s = change_alike op _ s _
  carried_alike op (commands.Delete name) s = change_alike op _ s _
  carried_alike op (commands.Join name pid) s = change_alike op _ s _
  carried_alike op (commands.Leave name pid) s = change_alike op _ s _
  carried_alike op commands.Make s = refl
  carried_alike op (commands.Finish pid) s = refl
  carried_alike op (commands.Members name) s = refl
  carried_alike op (commands.LocalMembers name) s = refl
  carried_alike op commands.WhichGroups s = refl
  carried_alike op (commands.Closest name word) s = refl

  by_alike : (fault : Option CommandFault) (op : OpId) (c : Command) (s : State) → Alike (command_by fault m op c s).reported
  by_alike (Some fault) op c s = refl
  by_alike None op c s = carried_alike op c s

  command_alike : (whole : Nodes) (port : ℕ) (c : Command) (s : State) → Alike (command whole m port c s).reported
  command_alike whole port c s = by_alike (fault_of whole s c) (next_op port s) c (count_command port s).state

-- ---- of what the step tells

-- what is told of a turn, if there is one
abbrev OfTurn : (Report → Type 0) → Result NodeTurn Refusal → Type 0
OfTurn Is (Ok t) = Is t.reported
OfTurn Is (Err refusal) = Unit {0}

cond_of : (Is : Report → Type 0) (b : Bool) (r u : Result NodeTurn Refusal) → OfTurn Is r → OfTurn Is u → OfTurn Is (cond b r u)
cond_of Is true r u one two = one
cond_of Is false r u one two = two

reply_of : (w : Heard) (kind : Bool) (used : Use) (m : Nodes) (p : Node) (c : ℕ) (said : Said) (s : State) → OfTurn (Applies None) (reply_by w kind used m p c said s)
reply_of what.Stranger kind used m p c said s = inr (refl, refl)
reply_of what.Double true used m p c said s = inr (refl, refl)
reply_of what.Double false used m p c said s = tt
reply_of what.Counted true used m p c said s = inr (refl, counted_alike m used p c said s)
reply_of what.Counted false used m p c said s = tt

taken_of : (m : Nodes) (p : Node) (x : Message) (s : State) → OfTurn (Applies (update_asked_by x)) (taken m p x s)
taken_of m p (Call reference (SetLock name)) s = inr (refl, refl)
taken_of m p (Call reference (Change update)) s = inl (refl, refl)
taken_of m p (Reply reference said) s = reply_of _ _ (use_of m reference s) m p _ said s
taken_of m p (DelLock name reference) s = inr (refl, refl)
taken_of m p (Exchange node groups) s = cond_of (Applies None) (is_bad_exchange p node s) (Err NotAMessage) (Ok (exchange p groups s)) tt (inr (refl, refl))
taken_of m p (Down pid) s = inr (refl, refl)

acted_of : (whole m : Nodes) (ports : ℕ) (action : Action) (s : State) → OfTurn (Applies None) (acted whole m ports action s)
acted_of whole m ports (Issue port c) s = cond_of (Applies None) (nat_lt port ports) (Ok (command whole m port c s)) (Err NoSuchPlace) (inr (refl, command_alike m whole port c s)) tt
acted_of whole m ports (Retry op) s = cond_of (Applies None) (nat_lt op.port ports) (retry m op s) (Err NoSuchPlace)
    (cond_of (Applies None) (waits m (s.stages op) s) (Ok (tried_again (s.stages op) m op s)) (Err NotWaiting) (inr (refl, tried_alike m (s.stages op) op s)) tt) tt

never_either : (b : Bool) (refusal : Refusal) (t : TimedTurn) → ◌≡◌ {A = Result TimedTurn Refusal} (cond b (Err refusal) (Err ClockFull)) (Ok t) → ⊥
never_either true refusal t e = absurd (cc)
never_either false refusal t e = absurd (cc)

never_ok : (clock : ℕ) (refusal : Refusal) (t : TimedTurn) → timed clock (Err refusal) ≡ Ok t → ⊥
never_ok clock NoSuchPlace t e = absurd (cc)
never_ok clock NodeLost t e = absurd (cc)
never_ok clock NotWaiting t e = absurd (cc)
never_ok clock NotAMessage t e = never_either (nat_le clock CLOCK_LIMIT) NotAMessage t e
never_ok clock NotDrained t e = never_either (nat_le clock CLOCK_LIMIT) NotDrained t e
never_ok clock NotLost t e = never_either (nat_le clock CLOCK_LIMIT) NotLost t e
never_ok clock ClockFull t e = never_either (nat_le clock CLOCK_LIMIT) ClockFull t e

timed_of : (Is : Report → Type 0) (clock : ℕ) (r : Result NodeTurn Refusal) (t : TimedTurn) → OfTurn Is r → timed clock r ≡ Ok t → Is t.reported
timed_of Is clock (Ok u) t is e = go (nat_le clock CLOCK_LIMIT) e
  where
    go : (b : Bool) → cond b (Ok (at_clock clock u)) (Err ClockFull) ≡ Ok t → Is t.reported
    go true f = let same : at_clock clock u ≡ t = cc in subst (λ (turn : TimedTurn). Is turn.reported) same is
    go false f = absurd (cc)
timed_of Is clock (Err refusal) t is e = absurd (never_ok clock refusal t e)

pub take_applies : (m : Nodes) (p : Node) (x : Stamped Message) (s : Timed State) (t : TimedTurn) → step_take m p x s ≡ Ok t → Applies (update_asked_by x.packet) t.reported
take_applies m p x s t e = timed_of (Applies (update_asked_by x.packet)) (max s.clock x.stamp + 1) (node_takes m p x.packet s.state) t
    (cond_of (Applies (update_asked_by x.packet)) (s.state.lost p) (Err NodeLost) (taken (live_nodes m s.state) p x.packet s.state) tt (taken_of (live_nodes m s.state) p x.packet s.state)) e

pub act_applies : (m : Nodes) (ports : ℕ) (action : Action) (s : Timed State) (t : TimedTurn) → step_act m ports action s ≡ Ok t → Applies None t.reported
act_applies m ports action s t e = timed_of (Applies None) (s.clock + 1) (node_acts m ports action s.state) t (acted_of m (live_nodes m s.state) ports action s.state) e
