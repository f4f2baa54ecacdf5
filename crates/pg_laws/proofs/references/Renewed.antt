-- How many references a node makes: two at an event at most, so that the clock is full by the time they are made.
use Rattle.std.proofs.Common.{◌≡◌, ℕ, ◌+◌, ◌*◌, ◌<◌, ◌≤◌, Bool, true, false, cond, nat_le}
use Rattle.std.proofs.Common.{nat_lt, Option, Some, None, Ok, Err, refl, sym, subst, arith, List}
use Rattle.pg_term.specs.Same.{same_atom}
use Rattle.pg_step.specs.PgRefs.Numbered.{number_in}
use Rattle.pg_step.specs.PgGroup.declared.update.Update.{Update}
use Rattle.pg_step.specs.PgGroup.declared.update.Update.TheVariants as update
use Rattle.pg_step.specs.PgGroup.Value.{name_of}
use Rattle.pg_step.specs.PgMessageTypes.declared.message.Message.{Message}
use Rattle.pg_step.specs.PgMessageTypes.declared.message.Message.TheVariants.{Call, Reply, DelLock, Exchange, Down}
use Rattle.pg_step.specs.PgMessageTypes.declared.message.Request.TheVariants.{SetLock, Change}
use Rattle.pg_step.specs.PgMessageTypes.declared.message.Said.{Said}
use Rattle.pg_step.specs.declared.command.Command.{Command}
use Rattle.pg_step.specs.declared.command.Command.TheVariants as command
use Rattle.pg_step.specs.declared.command.OpId.{OpId}
use Rattle.pg_step.specs.declared.answer.Reply.{Reply as Answer}
use Rattle.pg_step.specs.Machines.Machine.{Input, Turn, Event, Taken, Own, node_of, start_of}
use Rattle.pg_step.specs.Machines.Happened.{Happened}
use Rattle.pg_step.specs.Machines.Clocked.{Timed, Stamped, unstamped, next_clock, timed, timed_turn}
use Rattle.pg_step.specs.PgLock.Attempts.{after_round, does_wait}
use Rattle.pg_step.specs.Nodes.{Node, Nodes, every, greatest}
use Rattle.pg_step.specs.State.{State, Use, Stage, live_nodes}
use Rattle.pg_step.specs.State.Status.{Unasked}
use Rattle.pg_step.specs.State.Use.{Fresh, Locking, Owning, Updating, Spent}
use Rattle.pg_step.specs.State.Stage.{Closed, Waiting, Asking, Changing}
use Rattle.pg_step.specs.Turns.{NodeTurn, Report, becomes, and_then}
use Rattle.pg_step.specs.Peers.{is_bad_exchange, exchange}
use Rattle.pg_step.specs.Attempts.{round_of, all_granted, none_missing, none_denied, new_attempt, ask, begin}
use Rattle.pg_step.specs.Attempts.{give_up, finish, count_answer, count_ok, replies_in, locks_in, go_on, attempt}
use Rattle.pg_step.specs.Attempts.{use_of, retry, waits, tried_again, lock_status, counted, reply_under}
use Rattle.pg_step.specs.Commands.{OPEN_LIMIT, fault_of, look, answer, open_command, undertake, change_by, change}
use Rattle.pg_step.specs.Commands.{carried_out, command_by, next_op, count_command, command as command_in, refused}
use Rattle.pg_step.specs.Step.{CLOCK_LIMIT, Action, Issue, Retry, taken, acted}
use Rattle.pg_step.specs.declared.refusal.Refusal.TheVariants.{NotAMessage, NoSuchPlace, NotWaiting}
use Rattle.pg_step.specs.Config.{Config, name_at, nodes_at, ports_at}
use Rattle.pg_step.specs.FrameMachine.{node_step, frame_machine}
use Rattle.pg_step.proofs.Machines.Options.{some_is}
use Rattle.pg_step.proofs.Machines.Sequences.{kept}
use Rattle.pg_laws.specs.Reached.{TimedFrameWorld, Reaches}
use Rattle.pg_laws.proofs.steps.Single.{Makes, ok_is, judged}
use Rattle.pg_laws.proofs.steps.Made.{took_so, did_so}
use Rattle.pg_laws.proofs.steps.Ways.{state_after}
use Rattle.pg_step.specs.declared.command_fault.CommandFault.TheVariants.{Busy}
use Rattle.pg_step.specs.declared.command_fault.CommandFault.{CommandFault}

-- a turn makes so many references at most
abbrev Within : ℕ → State → NodeTurn → Type 0
Within n s t = t.state.references ≤ s.references + n

more : (n k r t : ℕ) → n ≤ k → t ≤ r + n → t ≤ r + k
more n k r t le within = omega arith

none : (s : State) → s.references ≤ s.references + 0
none s = omega arith

module _ (m : Nodes) where
  replies_in_makes : (n : ℕ) (used : Use) (s : State) → Within 0 s (replies_in m n used s)
  replies_in_makes n (Updating op u c replied) s = go (every m replied)
    where
      go : (b : Bool) → Within 0 s (cond b (finish m n op u c s) (becomes s))
      go true = none s
      go false = none s
  replies_in_makes n (Locking op u lead st) s = none s
  replies_in_makes n (Owning name u) s = none s
  replies_in_makes n Fresh s = none s
  replies_in_makes n Spent s = none s

  locks_in_makes : (c : ℕ) (used : Use) (s : State) → Within 1 s (locks_in m c used s)
  locks_in_makes c (Locking op u lead st) s = go (all_granted m st) (none_missing m st)
    where
      t : State
      t = (begin m c op u s).state

      go : (b d : Bool) → Within 1 s (cond b (and_then (begin m c op u s) (λ v. replies_in m v.references (v.uses v.references) v)) (cond d (give_up m c op u st s) (becomes s)))
      go true d = let last : ((replies_in m t.references (t.uses t.references) t).state.references ≤ s.references + 1 + 0) = replies_in_makes t.references (t.uses t.references) t in omega (arith, last)
      go false true = omega arith
      go false false = omega arith
  locks_in_makes c (Updating op u lock replied) s = omega arith
  locks_in_makes c (Owning name u) s = omega arith
  locks_in_makes c Fresh s = omega arith
  locks_in_makes c Spent s = omega arith

  go_on_makes : (c : ℕ) (used : Use) (s : State) → Within 1 s (go_on m c used s)
  go_on_makes c (Locking op u lead st) s = go (none_missing m st) (does_wait (after_round (round_of lead st) (none_denied m st)))
    where
      t : State
      t = (ask m (λ _. true) c op u lead st s).state

      go : (b d : Bool) → Within 1 s (cond b (cond d (give_up m c op u st s) (and_then (ask m (λ _. true) c op u lead st s) (λ v. locks_in m c (v.uses c) v))) (becomes s))
      go true false = locks_in_makes c (t.uses c) t
      go true true = omega arith
      go false d = omega arith
  go_on_makes c (Updating op u lock replied) s = omega arith
  go_on_makes c (Owning name u) s = omega arith
  go_on_makes c Fresh s = omega arith
  go_on_makes c Spent s = omega arith

  attempt_makes : (op : OpId) (u : Update) (s : State) → Within 2 s (attempt m op u s)
  attempt_makes op u s =
      let t = (new_attempt (greatest m) op u s).state in
      let r = (ask m (same_atom (greatest m)) t.references op u (greatest m) (λ _. Unasked) t).state in
      let last : ((go_on m t.references (r.uses t.references) r).state.references ≤ s.references + 1 + 1) = go_on_makes t.references (r.uses t.references) r in
      omega (arith, last)

  undertake_makes : (op : OpId) (u : Update) (s : State) → Within 2 s (undertake m op u s)
  undertake_makes op u s = go (nat_le OPEN_LIMIT s.opened)
    where
      go : (b : Bool) → Within 2 s (cond b (answer op (refused Busy) s) (and_then (open_command op u s) (attempt m op u)))
      go true = omega arith
      go false = attempt_makes op u ((open_command op u s).state)

  change_makes : (op : OpId) (u : Update) (s : State) → Within 2 s (change m op u s)
  change_makes op u s = go (look (s.table (name_of u)) u)
    where
      go : (r : Option Answer) → Within 2 s (change_by r m op u s)
      go (Some r) = omega arith
      go None = undertake_makes op u s

  carried_makes : (op : OpId) (c : Command) (s : State) → Within 2 s (carried_out m op c s)
  carried_makes op (command.Create name) s = change_makes op (update.Create name) s
  carried_makes op (command.Delete name) s = change_makes op (update.Delete name) s
  carried_makes op (command.Join name pid) s = change_makes op (update.Join name pid) s
  carried_makes op (command.Leave name pid) s = change_makes op (update.Leave name pid) s
  carried_makes op command.Make s = omega arith
  carried_makes op (command.Finish pid) s = omega arith
  carried_makes op (command.Members name) s = omega arith
  carried_makes op (command.LocalMembers name) s = omega arith
  carried_makes op command.WhichGroups s = omega arith
  carried_makes op (command.Closest name word) s = omega arith

  command_makes : (fault : Option CommandFault) (op : OpId) (c : Command) (s : State) → Within 2 s (command_by fault m op c s)
  command_makes (Some fault) op c s = omega arith
  command_makes None op c s = carried_makes op c s

  tried_makes : (stage : Stage) (op : OpId) (s : State) → Within 2 s (tried_again stage m op s)
  tried_makes (Waiting u) op s = attempt_makes op u s
  tried_makes (Asking c) op s = let within : (go_on m c (s.uses c) s).state.references ≤ s.references + 1 = go_on_makes c (s.uses c) s in omega (arith, within)
  tried_makes (Changing n) op s =
      let within : (replies_in m n (s.uses n) s).state.references ≤ s.references + 0 = replies_in_makes n (s.uses n) s in omega (arith, within)
  tried_makes Closed op s = omega arith

  retry_makes : (op : OpId) (s : State) (t : NodeTurn) → Makes (retry m op s) t → Within 2 s t
  retry_makes op s t e = go (waits m (s.stages op) s) e
    where
      go : (b : Bool) → Makes (cond b (Ok (tried_again (s.stages op) m op s)) (Err NotWaiting)) t → Within 2 s t
      go true e = subst (Within 2 s) (ok_is e) (tried_makes (s.stages op) op s)
      go false e = absurd (cc)

  acted_makes : (whole : Nodes) (ports : ℕ) (action : Action) (s : State) (t : NodeTurn) → Makes (acted whole m ports action s) t → Within 2 s t
  acted_makes whole ports (Issue port c) s t is = go (nat_lt port ports) is
    where
      go : (b : Bool) → Makes (cond b (Ok (command_in whole m port c s)) (Err NoSuchPlace)) t → Within 2 s t
      go true e = subst (Within 2 s) (ok_is e) (command_makes (fault_of whole s c) (next_op port s) c ((count_command port s).state))
      go false e = absurd (cc)
  acted_makes whole ports (Retry op) s t is = go (nat_lt op.port ports) is
    where
      go : (b : Bool) → Makes (cond b (retry m op s) (Err NoSuchPlace)) t → Within 2 s t
      go true e = retry_makes op s t e
      go false e = absurd (cc)

  module _ (p : Node) (s : State) (t : NodeTurn) where
    leaves : (u : NodeTurn) → u.state.references ≤ s.references + 1 → Makes (Ok u) t → Within 2 s t
    leaves u few e = subst (Within 2 s) (ok_is e) (more 1 2 s.references u.state.references (omega arith) few)

    counted_makes : (used : Use) (c : ℕ) (said : Said) → (counted used m p c said s).state.references ≤ s.references + 1
    counted_makes (Locking op u lead st) c said = let v = (count_answer c op u lead st p (lock_status said) s).state in go_on_makes c (v.uses c) v
    counted_makes (Updating op u lock replied) n said =
        let v = (count_ok n op u lock replied p s).state in more 0 1 s.references ((replies_in m n (v.uses n) v).state.references) (omega arith) (replies_in_makes n (v.uses n) v)
    counted_makes (Owning name u) c said = omega arith
    counted_makes Fresh c said = omega arith
    counted_makes Spent c said = omega arith

    reply_makes : (used : Use) (c : ℕ) (said : Said) → reply_under used m p c said s ≡ Ok t → Within 2 s t
    reply_makes used c said e = judged used m p c said s t (λ odd is. subst (Within 2 s) is (omega arith))
        (λ _ is. subst (Within 2 s) is (more 1 2 s.references (counted used m p c said s).state.references (omega arith) (counted_makes used c said))) e

    taken_makes : (x : Message) → Makes (taken m p x s) t → Within 2 s t
    taken_makes (Call reference (SetLock name)) e = subst (Within 2 s) (ok_is e) (omega arith)
    taken_makes (Call reference (Change u)) e = subst (Within 2 s) (ok_is e) (omega arith)
    taken_makes (Reply reference said) e = reply_makes (use_of m reference s) (number_in reference) said e
    taken_makes (DelLock name reference) e = subst (Within 2 s) (ok_is e) (omega arith)
    taken_makes (Exchange node groups) e = go (is_bad_exchange p node s) e
      where
        go : (b : Bool) → Makes (cond b (Err NotAMessage) (Ok (exchange p groups s))) t → Within 2 s t
        go true d = absurd (cc)
        go false d = leaves (exchange p groups s) (omega arith) d
    taken_makes (Down pid) e = subst (Within 2 s) (ok_is e) (omega arith)

pub step_makes_two : (config : Config) (i : ℕ) (s : State) (input : Input Message Action) (turn : Turn State Message Report) → node_step config i s input ≡ Some turn → turn.state.references ≤ s.references + 2
step_makes_two config i s (Taken p x) turn is =
    let m = live_nodes (nodes_at config i) s in
    let t = took_so config i s p x turn is in
    subst (λ u. u.state.references ≤ s.references + 2) (sym t.2) (taken_makes m (name_at config p) s t.0 x t.1)
step_makes_two config i s (Own action) turn is =
    let m = live_nodes (nodes_at config i) s in
    let t = did_so config i s action turn is in
    subst (λ u. u.state.references ≤ s.references + 2) (sym t.2) (acted_makes m (nodes_at config i) (ports_at config i) action s t.0 t.1)

-- ---- with clocks

-- twice as many references as the clock at most
abbrev Few : Timed State → Type 0
Few s = s.state.references ≤ 2 * s.clock

next_is_later : {P C : Type 0} (clock : ℕ) (input : Input (Stamped P) C) → clock < next_clock clock input
next_is_later clock (Taken p x) = omega arith
next_is_later clock (Own c) = omega arith

few_later : (r s clock next : ℕ) → s ≤ 2 * clock → r ≤ s + 2 → clock < next → r ≤ 2 * next
few_later r s clock next few two later = omega arith

step_few : (config : Config) (i : ℕ) (s : Timed State) (input : Input (Stamped Message) Action) (turn : Turn (Timed State) (Stamped Message) Report) → (frame_machine config).step i s input ≡ Some turn → Few s → Few turn.state
step_few config i s input turn is few = go (node_step config i s.state (unstamped input)) refl is
  where
    clock : ℕ
    clock = next_clock s.clock input

    go : (r : Option (Turn State Message Report)) → node_step config i s.state (unstamped input) ≡ r → timed CLOCK_LIMIT clock r ≡ Some turn → Few turn.state
    go None made e = absurd (cc)
    go (Some u) made e = within (nat_le clock CLOCK_LIMIT) e
      where
        within : (b : Bool) → cond b (Some (timed_turn clock u)) None ≡ Some turn → Few turn.state
        within true d = subst (λ (t : Turn (Timed State) (Stamped Message) Report). Few t.state) (some_is d)
            (few_later u.state.references s.state.references s.clock clock few (step_makes_two config i s.state (unstamped input) u made) (next_is_later s.clock input))
        within false d = absurd (cc)

abbrev AllFew : TimedFrameWorld → Type 0
AllFew w = (i : ℕ) → Few (w.node i)

pub few_references : (config : Config) (es : List (Event Action)) (w : TimedFrameWorld) → Reaches config es w → (i : ℕ) → (w.node i).state.references ≤ 2 * (w.node i).clock
few_references config es w l = kept (frame_machine config) AllFew event_few es (start_of (frame_machine config)) w l (λ i. omega arith)
  where
    event_few : (w v : TimedFrameWorld) (e : Event Action) → Happened (frame_machine config) w e v → AllFew w → AllFew v
    event_few w v e h all j = state_after (frame_machine config) w v e h Few j (λ _. step_few config (node_of e) (w.node (node_of e)) h.input h.turn h.made (all (node_of e))) (λ _. all j)
