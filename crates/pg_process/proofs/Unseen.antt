-- No step of a node sees a loss, but the one that is told of it.
use Rattle.std.proofs.Common.{◌≡◌, ℕ, Bool, true, false, cond, nat_lt, nat_le, Option, Some, None, Result, Ok, Err, refl, sym, ap, ◌∙◌}
use Rattle.std.specs.Prelude.{max, ◌+◌}
use Rattle.pg_node.specs.PgStep.PgGroup.declared.update.Update.{Update}
use Rattle.pg_node.specs.PgStep.PgGroup.declared.update.Update.TheVariants as update
use Rattle.pg_node.specs.PgStep.PgGroup.Value.{name_of}
use Rattle.pg_node.specs.PgStep.PgRefs.Numbered.{number_in}
use Rattle.pg_node.specs.PgStep.PgMessageTypes.declared.message.Message.{Message}
use Rattle.pg_node.specs.PgStep.PgMessageTypes.declared.message.Message.TheVariants.{Call, Reply, DelLock, Exchange, Down}
use Rattle.pg_node.specs.PgStep.PgMessageTypes.declared.message.Request.TheVariants.{SetLock, Change}
use Rattle.pg_node.specs.PgStep.PgMessageTypes.declared.message.Said.{Said}
use Rattle.pg_node.specs.PgStep.declared.command.Command.{Command}
use Rattle.pg_node.specs.PgStep.declared.command.Command.TheVariants as command
use Rattle.pg_node.specs.PgStep.declared.command.OpId.{OpId}
use Rattle.pg_node.specs.PgStep.declared.answer.Reply.{Reply as Answer}
use Rattle.pg_node.specs.PgStep.declared.command_fault.CommandFault.{CommandFault}
use Rattle.pg_node.specs.PgStep.declared.command_fault.CommandFault.TheVariants.{Busy}
use Rattle.pg_node.specs.PgStep.declared.refusal.Refusal.{Refusal}
use Rattle.pg_node.specs.PgStep.declared.refusal.Refusal.TheVariants.{NotAMessage, NoSuchPlace, NotWaiting, NodeLost, NotDrained, ClockFull, NotLost}
use Rattle.pg_node.specs.PgStep.PgMulticall.Gathered.{what_of}
use Rattle.pg_node.specs.PgStep.PgMulticall.declared.gather.Taken.{Taken as Heard}
use Rattle.pg_node.specs.PgStep.PgMulticall.declared.gather.Taken.TheVariants as what
use Rattle.pg_node.specs.PgStep.PgLock.Attempts.{after_round, does_wait}
use Rattle.pg_node.specs.PgStep.Machines.Clocked.{Timed, Stamped}
use Rattle.pg_node.specs.PgStep.Nodes.{Node, Nodes, every, greatest}
use Rattle.pg_node.specs.PgStep.State.{State, Use, Stage, live_nodes}
use Rattle.pg_node.specs.PgStep.State.Status.{Unasked}
use Rattle.pg_node.specs.PgStep.State.Use.{Fresh, Locking, Owning, Updating, Spent}
use Rattle.pg_node.specs.PgStep.State.Stage.{Closed, Waiting, Asking, Changing}
use Rattle.pg_node.specs.PgStep.Turns.{NodeTurn, becomes, and_then}
use Rattle.pg_node.specs.PgStep.Peers.{is_bad_exchange, exchange}
use Rattle.pg_node.specs.PgStep.Attempts.{round_of, all_granted, none_missing, none_denied, new_attempt, ask, give_up, begin, finish, count_answer, count_ok, replies_in, locks_in, go_on, attempt, use_of, reply_by, waits, tried_again, gathered, is_kind, lock_status, counted}
use Rattle.pg_node.specs.PgStep.Commands.{OPEN_LIMIT, fault_of, look, answer, open_command, undertake, change_by, change, carried_out, command_by, next_op, count_command, command as command_in, refused}
use Rattle.pg_node.specs.PgStep.Step.{Action, CLOCK_LIMIT, Issue, Retry, TimedTurn, acted, at_clock, step_act, step_take, taken, timed}
use Rattle.pg_term.specs.Same.{same_atom}

abbrev Same : State → NodeTurn → Type 0
Same s t = t.state.lost ≡ s.lost

same_ok : {A E : Type 0} {x y : A} → ◌≡◌ {A = Result A E} (Ok x) (Ok y) → x ≡ y
same_ok e = cc

module _ (m : Nodes) where
  -- ---- what follows once answers are in

  replies_same : (n : ℕ) (used : Use) (s : State) → Same s (replies_in m n used s)
  replies_same n (Updating op u c replied) s = go (every m replied)
    where
      go : (b : Bool) → Same s (cond b (finish m n op u c s) (becomes s))
      go true = refl
      go false = refl
  replies_same n (Locking op u lead st) s = refl
  replies_same n (Owning name u) s = refl
  replies_same n Fresh s = refl
  replies_same n Spent s = refl

  locks_same : (c : ℕ) (used : Use) (s : State) → Same s (locks_in m c used s)
  locks_same c (Locking op u lead st) s = go (all_granted m st) (none_missing m st)
    where
      t : State
      t = (begin m c op u s).state

      go : (b d : Bool) → Same s (cond b (and_then (begin m c op u s) (λ v. replies_in m v.references (v.uses v.references) v)) (cond d (give_up m c op u st s) (becomes s)))
      go true d = replies_same t.references (t.uses t.references) t
      go false true = refl
      go false false = refl
  locks_same c (Updating op u lock replied) s = refl
  locks_same c (Owning name u) s = refl
  locks_same c Fresh s = refl
  locks_same c Spent s = refl

  go_on_same : (c : ℕ) (used : Use) (s : State) → Same s (go_on m c used s)
  go_on_same c (Locking op u lead st) s = go (none_missing m st) (does_wait (after_round (round_of lead st) (none_denied m st)))
    where
      t : State
      t = (ask m (λ _. true) c op u lead st s).state

      go : (b d : Bool) → Same s (cond b (cond d (give_up m c op u st s) (and_then (ask m (λ _. true) c op u lead st s) (λ v. locks_in m c (v.uses c) v))) (becomes s))
      go true true = refl
      go true false = locks_same c (t.uses c) t
      go false d = refl
  go_on_same c (Updating op u lock replied) s = refl
  go_on_same c (Owning name u) s = refl
  go_on_same c Fresh s = refl
  go_on_same c Spent s = refl

  attempt_same : (op : OpId) (u : Update) (s : State) → Same s (attempt m op u s)
  attempt_same op u s =
      let t = (new_attempt (greatest m) op u s).state in
      let r = (ask m (same_atom (greatest m)) t.references op u (greatest m) (λ _. Unasked) t).state in
      go_on_same t.references (r.uses t.references) r

  tried_same : (stage : Stage) (op : OpId) (s : State) → Same s (tried_again stage m op s)
  tried_same (Waiting u) op s = attempt_same op u s
  tried_same (Asking c) op s = go_on_same c (s.uses c) s
  tried_same (Changing n) op s = replies_same n (s.uses n) s
  tried_same Closed op s = refl

  -- ---- commands

  undertake_same : (op : OpId) (u : Update) (s : State) → Same s (undertake m op u s)
  undertake_same op u s = go (nat_le OPEN_LIMIT s.opened)
    where
      go : (b : Bool) → Same s (cond b (answer op (refused Busy) s) (and_then (open_command op u s) (attempt m op u)))
      go true = refl
      go false = attempt_same op u (open_command op u s).state

  change_same : (op : OpId) (u : Update) (s : State) → Same s (change m op u s)
  change_same op u s = go (look (s.table (name_of u)) u)
    where
      go : (r : Option Answer) → Same s (change_by r m op u s)
      go (Some r) = refl
      go None = undertake_same op u s

  carried_same : (op : OpId) (c : Command) (s : State) → Same s (carried_out m op c s)
  carried_same op (command.Create name) s = change_same op (update.Create name) s
  carried_same op (command.Delete name) s = change_same op (update.Delete name) s
  carried_same op (command.Join name pid) s = change_same op (update.Join name pid) s
  carried_same op (command.Leave name pid) s = change_same op (update.Leave name pid) s
  carried_same op command.Make s = refl
  carried_same op (command.Finish pid) s = refl
  carried_same op (command.Members name) s = refl
  carried_same op (command.LocalMembers name) s = refl
  carried_same op command.WhichGroups s = refl
  carried_same op (command.Closest name word) s = refl

  command_same : (whole : Nodes) (port : ℕ) (c : Command) (s : State) → Same s (command_in whole m port c s)
  command_same whole port c s = go (fault_of whole t c)
    where
      t : State
      t = (count_command port s).state

      go : (f : Option CommandFault) → Same s (command_by f m (next_op port s) c t)
      go (Some f) = refl
      go None = carried_same (next_op port s) c t

  acted_same : (whole : Nodes) (ports : ℕ) (action : Action) (s : State) (t : NodeTurn) → acted whole m ports action s ≡ Ok t → Same s t
  acted_same whole ports (Issue port c) s t is = go (nat_lt port ports) is
    where
      go : (b : Bool) → ◌≡◌ {A = Result NodeTurn Refusal} (cond b (Ok (command_in whole m port c s)) (Err NoSuchPlace)) (Ok t) → Same s t
      go true e = sym (ap (λ (x : NodeTurn). x.state.lost) (same_ok e)) ∙ command_same whole port c s
      go false e = absurd (cc)
  acted_same whole ports (Retry op) s t is = go (nat_lt op.port ports) (waits m (s.stages op) s) is
    where
      go : (b d : Bool) → ◌≡◌ {A = Result NodeTurn Refusal} (cond b (cond d (Ok (tried_again (s.stages op) m op s)) (Err NotWaiting)) (Err NoSuchPlace)) (Ok t) → Same s t
      go true true e = sym (ap (λ (x : NodeTurn). x.state.lost) (same_ok e)) ∙ tried_same (s.stages op) op s
      go true false e = absurd (cc)
      go false d e = absurd (cc)

  -- ---- packets

  counted_same : (used : Use) (p : Node) (c : ℕ) (said : Said) (s : State) → Same s (counted used m p c said s)
  counted_same (Locking op u lead st) p c said s =
      let t = (count_answer c op u lead st p (lock_status said) s).state in
      go_on_same c (t.uses c) t
  counted_same (Updating op u lock replied) p n said s =
      let t = (count_ok n op u lock replied p s).state in
      replies_same n (t.uses n) t
  counted_same (Owning name u) p c said s = refl
  counted_same Fresh p c said s = refl
  counted_same Spent p c said s = refl

  reply_same : (used : Use) (p : Node) (c : ℕ) (said : Said) (s : State) (t : NodeTurn) (w : Heard) (kind : Bool) → reply_by w kind used m p c said s ≡ Ok t → Same s t
  reply_same used p c said s t what.Stranger kind e = sym (ap (λ (x : NodeTurn). x.state.lost) (same_ok e))
  reply_same used p c said s t what.Double true e = sym (ap (λ (x : NodeTurn). x.state.lost) (same_ok e))
  reply_same used p c said s t what.Double false e = absurd (cc)
  reply_same used p c said s t what.Counted true e = sym (ap (λ (x : NodeTurn). x.state.lost) (same_ok e)) ∙ counted_same used p c said s
  reply_same used p c said s t what.Counted false e = absurd (cc)

  taken_same : (p : Node) (x : Message) (s : State) (t : NodeTurn) → taken m p x s ≡ Ok t → Same s t
  taken_same p (Call reference (SetLock name)) s t e = sym (ap (λ (x : NodeTurn). x.state.lost) (same_ok e))
  taken_same p (Call reference (Change u)) s t e = sym (ap (λ (x : NodeTurn). x.state.lost) (same_ok e))
  taken_same p (Reply reference said) s t e =
      let used = use_of m reference s in
      reply_same used p (number_in reference) said s t (what_of true (gathered used p)) (is_kind used said) e
  taken_same p (DelLock name reference) s t e = sym (ap (λ (x : NodeTurn). x.state.lost) (same_ok e))
  taken_same p (Exchange node groups) s t e = go (is_bad_exchange p node s) e
    where
      go : (b : Bool) → ◌≡◌ {A = Result NodeTurn Refusal} (cond b (Err NotAMessage) (Ok (exchange p groups s))) (Ok t) → Same s t
      go true h = absurd (cc)
      go false h = sym (ap (λ (x : NodeTurn). x.state.lost) (same_ok h))
  taken_same p (Down pid) s t e = sym (ap (λ (x : NodeTurn). x.state.lost) (same_ok e))

-- ---- with clock

timed_same : (clock : ℕ) (s : State) (r : Result NodeTurn Refusal) (t : TimedTurn) → ((u : NodeTurn) → r ≡ Ok u → Same s u) → timed clock r ≡ Ok t → t.state.state.lost ≡ s.lost
timed_same clock s (Ok u) t same e = go (nat_le clock CLOCK_LIMIT) e
  where
    go : (b : Bool) → ◌≡◌ {A = Result TimedTurn Refusal} (cond b (Ok (at_clock clock u)) (Err ClockFull)) (Ok t) → t.state.state.lost ≡ s.lost
    go true h = sym (ap (λ (x : TimedTurn). x.state.state.lost) (same_ok h)) ∙ same u refl
    go false h = absurd (cc)
timed_same clock s (Err fault) t same e = by fault e
  where
    none : (b : Bool) (other : Refusal) → ◌≡◌ {A = Result TimedTurn Refusal} (cond b (Err other) (Err ClockFull)) (Ok t) → t.state.state.lost ≡ s.lost
    none true other h = absurd (cc)
    none false other h = absurd (cc)

    by : (f : Refusal) → timed clock (Err f) ≡ Ok t → t.state.state.lost ≡ s.lost
    by NoSuchPlace h = absurd (cc)
    by NodeLost h = absurd (cc)
    by NotWaiting h = absurd (cc)
    by NotAMessage h = none (nat_le clock CLOCK_LIMIT) NotAMessage h
    by NotDrained h = none (nat_le clock CLOCK_LIMIT) NotDrained h
    by ClockFull h = none (nat_le clock CLOCK_LIMIT) ClockFull h
    by NotLost h = none (nat_le clock CLOCK_LIMIT) NotLost h

-- an action of the node sees none
pub act_unseen : (m : Nodes) (ports : ℕ) (action : Action) (s : Timed State) (t : TimedTurn) → step_act m ports action s ≡ Ok t → t.state.state.lost ≡ s.state.lost
act_unseen m ports action s t is = timed_same (s.clock + 1) s.state _ t (λ u e. acted_same (live_nodes m s.state) m ports action s.state u e) is

-- a packet shows none, and comes of no lost peer
pub take_unseen : (m : Nodes) (p : Node) (x : Stamped Message) (s : Timed State) (t : TimedTurn) → step_take m p x s ≡ Ok t → (t.state.state.lost ≡ s.state.lost)
take_unseen m p x s t is = timed_same (max s.clock x.stamp + 1) s.state _ t (λ u e. go (s.state.lost p) u e) is
  where
    go : (b : Bool) (u : NodeTurn) → ◌≡◌ {A = Result NodeTurn Refusal} (cond b (Err NodeLost) (taken (live_nodes m s.state) p x.packet s.state)) (Ok u) → Same s.state u
    go true u e = absurd (cc)
    go false u e = taken_same (live_nodes m s.state) p x.packet s.state u e

pub take_sound : (m : Nodes) (p : Node) (x : Stamped Message) (s : Timed State) (t : TimedTurn) → step_take m p x s ≡ Ok t → s.state.lost p ≡ false
take_sound m p x s t is = go (s.state.lost p) is
  where
    go : (b : Bool) → ◌≡◌ {A = Result TimedTurn Refusal} (timed (max s.clock x.stamp + 1) (cond b (Err NodeLost) (taken (live_nodes m s.state) p x.packet s.state))) (Ok t) → b ≡ false
    go true e = absurd (cc)
    go false e = refl
