-- Who holds a lock is a reference of a node that is there, whoever is lost; each lock that is owned is of an update.
use Rattle.std.proofs.Common.{◌≡◌, ℕ, Bool, true, false, ◌&&◌, cond, nat_le, nat_lt}
use Rattle.std.proofs.Common.{length, List, Option, Some, None, Ok, Err, refl, ap, sym, ◌∙◌, subst}
use Rattle.std.specs.List.{AllByRecursion, IsDistinct}
use Rattle.pg_term.specs.declared.term.Term.{Term}
use Rattle.pg_term.specs.RefParts.{RefParts}
use Rattle.pg_term.specs.Same.{same_atom, same_term}
use Rattle.pg_laws.specs.PgGroup.declared.update.Update.{Update}
use Rattle.pg_laws.specs.PgGroup.declared.update.Update.TheVariants as update
use Rattle.pg_laws.specs.PgGroup.Value.{name_of}
use Rattle.pg_laws.specs.PgRefs.Numbered.{number_in}
use Rattle.pg_laws.specs.PgLock.Attempts.{after_round, does_wait}
use Rattle.pg_laws.specs.PgLock.Locks.{Locks, after_ask, given_up, held, is_holder}
use Rattle.pg_laws.specs.PgMessageTypes.declared.message.Message.{Message}
use Rattle.pg_laws.specs.PgMessageTypes.declared.message.Message.TheVariants.{Call, Reply, DelLock, Exchange, Down}
use Rattle.pg_laws.specs.PgMessageTypes.declared.message.Request.TheVariants.{SetLock, Change}
use Rattle.pg_laws.specs.PgMessageTypes.declared.message.Said.{Said}
use Rattle.pg_laws.specs.PgStep.Machines.Happened.{Happened}
use Rattle.pg_laws.specs.PgStep.Machines.Losing.{Noticed, Sent, LosingEvent}
use Rattle.pg_laws.specs.PgStep.Machines.Machine.{Event, Input, Own, Taken, Turn, World, node_of}
use Rattle.pg_laws.proofs.PgStep.Machines.Places.{by_place}
use Rattle.pg_laws.proofs.PgStep.Machines.Steps.{pair_apart}
use Rattle.pg_laws.specs.PgStep.declared.answer.Reply.{Reply as Answer}
use Rattle.pg_laws.specs.PgStep.declared.command.Command.{Command}
use Rattle.pg_laws.specs.PgStep.declared.command.Command.TheVariants as command
use Rattle.pg_laws.specs.PgStep.declared.command_fault.CommandFault.{CommandFault}
use Rattle.pg_laws.specs.PgStep.declared.command_fault.CommandFault.TheVariants.{Busy}
use Rattle.pg_laws.specs.PgStep.declared.command.OpId.{OpId}
use Rattle.pg_laws.specs.PgStep.declared.refusal.Refusal.TheVariants.{NotAMessage, NoSuchPlace, NotWaiting}
use Rattle.pg_laws.specs.PgStep.Attempts.{all_granted, ask, asks, attempt, begin}
use Rattle.pg_laws.specs.PgStep.Attempts.{count_answer, count_ok, counted, finish, give_up}
use Rattle.pg_laws.specs.PgStep.Attempts.{go_on, is_yes, lock_status, locks_in, new_attempt, none_denied, none_missing}
use Rattle.pg_laws.specs.PgStep.Attempts.{own_reference, replies_in, reply_under, round_of, tried_again, use_of, waits}
use Rattle.pg_laws.specs.PgStep.Commands.{OPEN_LIMIT, answer, carried_out, change, change_by, command as command_in}
use Rattle.pg_laws.specs.PgStep.Commands.{command_by, count_command, fault_of, look, next_op, open_command, refused}
use Rattle.pg_laws.specs.PgStep.Config.{Config, name_at, names_of, nodes_at, ports_at}
use Rattle.pg_laws.specs.PgStep.FrameMachine.{FrameWorld, losing_machine_of, machine_of, node_step}
use Rattle.pg_laws.specs.PgStep.Losses.{forgets, see_loss}
use Rattle.pg_laws.specs.PgStep.LossLaws.{LosingFrameWorld}
use Rattle.pg_laws.specs.PgStep.Nodes.{Node, Nodes, every, greatest}
use Rattle.pg_laws.specs.PgStep.Peers.{exchange, is_bad_exchange, would_grant}
use Rattle.pg_laws.specs.PgStep.State.{Stage, State, Status, Use, live_nodes}
use Rattle.pg_laws.specs.PgStep.State.Stage.{Asking, Changing, Closed, Waiting}
use Rattle.pg_laws.specs.PgStep.State.Status.{Unasked}
use Rattle.pg_laws.specs.PgStep.State.Use.{Fresh, Locking, Owning, Spent, Updating}
use Rattle.pg_laws.specs.PgStep.Step.{Action, Issue, Retry, acted, taken}
use Rattle.pg_laws.specs.PgStep.Turns.{NodeTurn, Report, and_then, becomes}
use Rattle.pg_laws.proofs.ends.Apart.{pair_second}
use Rattle.pg_laws.proofs.locks.Kept.{IsOurs}
use Rattle.pg_laws.proofs.places.Shown.{IsHere}
use Rattle.pg_laws.proofs.quiet.Gathering.{AsksWell, Held}
use Rattle.pg_laws.proofs.quiet.Linked.{HasReference, HasUpdate, IsLockingOf, IsUnder, IsUpdatingOf, Linked}
use Rattle.pg_laws.proofs.quiet.Linked.{first_linked, step_linked}
use Rattle.pg_laws.proofs.quiet.Runs.{IsOfNode}
use Rattle.pg_laws.proofs.steps.Made.{did_so, took_so}
use Rattle.pg_laws.proofs.steps.Single.{Makes, judged, ok_is}
use Rattle.pg_laws.proofs.steps.Ways.{own_place, packet_there, pair_there, state_after}
use Rattle.pg_laws_losses.specs.Reached.{LosingReaches}
use Rattle.pg_laws_losses.proofs.Bridge.{Left, next_left, not_true}
use Rattle.pg_laws_losses.proofs.Bridges.{Bridged, bridged}
use Rattle.pg_laws_losses.proofs.Carried.{IsKept, carried_past}
use Rattle.pg_laws_losses.proofs.Lasts.{unheard_input}
use Rattle.pg_laws_losses.proofs.Lossy.{Died, Lossy, Makes as LossyMakes, Passed, Sees}
use Rattle.pg_laws_losses.proofs.Lossy.{Steps, Went, bare, makes, noted, passed}
use Rattle.pg_laws_losses.proofs.Standing.{loss_fits}
use Rattle.pg_laws_losses.proofs.Unheld.{freed_is}
use Rattle.pg_laws_losses.proofs.Remains.Passing.{kept_all}

-- ---- locks

module _ (P : RefParts → Type 0) where
  freed_held : (b : Bool) (locks : Locks) (name : Term) → Held P locks → Held P (given_up b locks name)
  unfolding held
  freed_held true locks name known other r e = go (same_term name other) e
    where
      go : (b : Bool) → cond b None (locks other) ≡ Some r → P r
      go true is = absurd (cc)
      go false is = known other r is
  freed_held false locks name known other r e = known other r e

  lent_held : (b : Bool) (locks : Locks) (name : Term) (reference : RefParts) → P reference → Held P locks → Held P (after_ask b locks name reference)
  unfolding held
  lent_held true locks name reference good known other r e = go (same_term name other) e
    where
      go : (b : Bool) → cond b (Some reference) (locks other) ≡ Some r → P r
      go true is = subst P (let same : reference ≡ r = cc in same) good
      go false is = known other r is
  lent_held false locks name reference good known other r e = known other r e

-- P is said of each reference of the node's own
module _ (m : Nodes) (P : RefParts → Type 0) (own : (c : ℕ) → P (own_reference m c)) where
  abbrev Keeps : State → NodeTurn → Type 0
  Keeps s t = Held P s.locks → Held P t.state.locks

  -- one turn after another
  keeps_then : (s : State) (t : NodeTurn) (next : State → NodeTurn) → Keeps s t → Keeps t.state (next t.state) → Keeps s (and_then t next)
  keeps_then s t next first later h = later (first h)

  replies_keep : (n : ℕ) (used : Use) (s : State) → Keeps s (replies_in m n used s)
  replies_keep n (Updating op u c replied) s = go (every m replied)
    where
      go : (b : Bool) → Keeps s (cond b (finish m n op u c s) (becomes s))
      go true = freed_held P (is_holder (s.locks (name_of u)) (own_reference m c)) s.locks (name_of u)
      go false = λ h. h
  replies_keep n (Locking op u lead st) s = λ h. h
  replies_keep n (Owning name u) s = λ h. h
  replies_keep n Fresh s = λ h. h
  replies_keep n Spent s = λ h. h

  gives_up : (c : ℕ) (op : OpId) (u : Update) (st : Node → Status) (s : State) → Keeps s (give_up m c op u st s)
  gives_up c op u st s h = freed_held P (is_yes (st m.own) && is_holder (s.locks (name_of u)) (own_reference m c)) s.locks (name_of u) h

  ask_keeps : (who : Node → Bool) (c : ℕ) (op : OpId) (u : Update) (lead : Node) (st : Node → Status) (s : State) → Keeps s (ask m who c op u lead st s)
  ask_keeps who c op u lead st s h = lent_held P (asks who st m.own && would_grant m s (name_of u)) s.locks (name_of u) (own_reference m c) (own c) h

  locks_keep : (c : ℕ) (used : Use) (s : State) → Keeps s (locks_in m c used s)
  locks_keep c (Locking op u lead st) s = go (all_granted m st) (none_missing m st)
    where
      t : State
      t = (begin m c op u s).state

      go : (b d : Bool) → Keeps s (cond b (and_then (begin m c op u s) (λ v. replies_in m v.references (v.uses v.references) v)) (cond d (give_up m c op u st s) (becomes s)))
      go true d = keeps_then s (begin m c op u s) (λ v. replies_in m v.references (v.uses v.references) v) (λ h. h)
          (replies_keep ((begin m c op u s).state.references) ((begin m c op u s).state.uses (begin m c op u s).state.references) (begin m c op u s).state)
      go false true = gives_up c op u st s
      go false false = λ h. h
  locks_keep c (Updating op u lock replied) s = λ h. h
  locks_keep c (Owning name u) s = λ h. h
  locks_keep c Fresh s = λ h. h
  locks_keep c Spent s = λ h. h

  go_on_keeps : (c : ℕ) (used : Use) (s : State) → Keeps s (go_on m c used s)
  go_on_keeps c (Locking op u lead st) s = go (none_missing m st) (does_wait (after_round (round_of lead st) (none_denied m st)))
    where
      go : (b d : Bool) → Keeps s (cond b (cond d (give_up m c op u st s) (and_then (ask m (λ _. true) c op u lead st s) (λ v. locks_in m c (v.uses c) v))) (becomes s))
      go true true = gives_up c op u st s
      go true false = keeps_then s (ask m (λ _. true) c op u lead st s) (λ v. locks_in m c (v.uses c) v) (ask_keeps (λ _. true) c op u lead st s)
          (locks_keep c ((ask m (λ _. true) c op u lead st s).state.uses c) (ask m (λ _. true) c op u lead st s).state)
      go false d = λ h. h
  go_on_keeps c (Updating op u lock replied) s = λ h. h
  go_on_keeps c (Owning name u) s = λ h. h
  go_on_keeps c Fresh s = λ h. h
  go_on_keeps c Spent s = λ h. h

  attempt_keeps : (op : OpId) (u : Update) (s : State) → Keeps s (attempt m op u s)
  attempt_keeps op u s =
      let t = (new_attempt (greatest m) op u s).state in
      let r = (ask m (same_atom (greatest m)) t.references op u (greatest m) (λ _. Unasked) t).state in
      keeps_then s (new_attempt (greatest m) op u s) (λ v. and_then (ask m (same_atom (greatest m)) v.references op u (greatest m) (λ _. Unasked) v) (λ x. go_on m v.references (x.uses v.references) x)) (λ h. h)
      (keeps_then t (ask m (same_atom (greatest m)) t.references op u (greatest m) (λ _. Unasked) t) (λ x. go_on m t.references (x.uses t.references) x)
      (ask_keeps (same_atom (greatest m)) t.references op u (greatest m) (λ _. Unasked) t) (go_on_keeps t.references (r.uses t.references) r))

  tried_keeps : (stage : Stage) (op : OpId) (s : State) → Keeps s (tried_again stage m op s)
  tried_keeps (Waiting u) op s = attempt_keeps op u s
  tried_keeps (Asking c) op s = go_on_keeps c (s.uses c) s
  tried_keeps (Changing n) op s = replies_keep n (s.uses n) s
  tried_keeps Closed op s = λ h. h

  change_keeps : (op : OpId) (u : Update) (s : State) → Keeps s (change m op u s)
  change_keeps op u s = go (look (s.table (name_of u)) u)
    where
      open_one : (b : Bool) → Keeps s (cond b (answer op (refused Busy) s) (and_then (open_command op u s) (attempt m op u)))
      open_one true = λ h. h
      open_one false = keeps_then s (open_command op u s) (attempt m op u) (λ h. h) (attempt_keeps op u (open_command op u s).state)

      go : (r : Option Answer) → Keeps s (change_by r m op u s)
      go (Some r) = λ h. h
      go None = open_one (nat_le OPEN_LIMIT s.opened)

  carried_keeps : (op : OpId) (c : Command) (s : State) → Keeps s (carried_out m op c s)
  carried_keeps op (command.Create name) s = change_keeps op (update.Create name) s
  carried_keeps op (command.Delete name) s = change_keeps op (update.Delete name) s
  carried_keeps op (command.Join name pid) s = change_keeps op (update.Join name pid) s
  carried_keeps op (command.Leave name pid) s = change_keeps op (update.Leave name pid) s
  carried_keeps op command.Make s = λ h. h
  carried_keeps op (command.Finish pid) s = λ h. h
  carried_keeps op (command.Members name) s = λ h. h
  carried_keeps op (command.LocalMembers name) s = λ h. h
  carried_keeps op command.WhichGroups s = λ h. h
  carried_keeps op (command.Closest name word) s = λ h. h

  command_keeps : (whole : Nodes) (port : ℕ) (c : Command) (s : State) → Keeps s (command_in whole m port c s)
  command_keeps whole port c s = keeps_then s (count_command port s) (command_by (fault_of whole s c) m (next_op port s) c) (λ h. h) (go (fault_of whole s c))
    where
      go : (f : Option CommandFault) → Keeps (count_command port s).state (command_by f m (next_op port s) c (count_command port s).state)
      go (Some f) = λ h. h
      go None = carried_keeps (next_op port s) c (count_command port s).state

  acted_keeps : (whole : Nodes) (ports : ℕ) (action : Action) (s : State) (t : NodeTurn) → acted whole m ports action s ≡ Ok t → Keeps s t
  acted_keeps whole ports (Issue port c) s t is = go (nat_lt port ports) is
    where
      go : (b : Bool) → Makes (cond b (Ok (command_in whole m port c s)) (Err NoSuchPlace)) t → Keeps s t
      go true e = subst (Keeps s) (ok_is e) (command_keeps whole port c s)
      go false e = absurd (cc)
  acted_keeps whole ports (Retry op) s t is = go (nat_lt op.port ports) (waits m (s.stages op) s) is
    where
      go : (b d : Bool) → Makes (cond b (cond d (Ok (tried_again (s.stages op) m op s)) (Err NotWaiting)) (Err NoSuchPlace)) t → Keeps s t
      go false d e = absurd (cc)
      go true false e = absurd (cc)
      go true true e = subst (Keeps s) (ok_is e) (tried_keeps (s.stages op) op s)

  counted_keeps : (used : Use) (p : Node) (c : ℕ) (said : Said) (s : State) → Keeps s (counted used m p c said s)
  counted_keeps (Locking op u lead st) p c said s =
      let v = (count_answer c op u lead st p (lock_status said) s).state in
      keeps_then s (count_answer c op u lead st p (lock_status said) s) (λ t. go_on m c (t.uses c) t) (λ h. h) (go_on_keeps c (v.uses c) v)
  counted_keeps (Updating op u lock replied) p n said s =
      let v = (count_ok n op u lock replied p s).state in
      keeps_then s (count_ok n op u lock replied p s) (λ t. replies_in m n (t.uses n) t) (λ h. h) (replies_keep n (v.uses n) v)
  counted_keeps (Owning name u) p c said s = λ h. h
  counted_keeps Fresh p c said s = λ h. h
  counted_keeps Spent p c said s = λ h. h

  reply_keeps : (used : Use) (p : Node) (c : ℕ) (said : Said) (s : State) (t : NodeTurn) → reply_under used m p c said s ≡ Ok t → Keeps s t
  reply_keeps used p c said s t e = judged used m p c said s t (λ odd is. subst (Keeps s) is (λ h. h)) (λ counts is. subst (Keeps s) is (counted_keeps used p c said s)) e

  taken_keeps : (p : Node) (x : Message) (s : State) (t : NodeTurn) → AsksWell P x → taken m p x s ≡ Ok t → Keeps s t
  taken_keeps p (Call reference (SetLock name)) s t good is = subst (Keeps s) (ok_is is) (λ h. lent_held P (would_grant m s name) s.locks name reference good h)
  taken_keeps p (Call reference (Change u)) s t good is = subst (Keeps s) (ok_is is) (λ h. h)
  taken_keeps p (Reply reference said) s t good is = reply_keeps (use_of m reference s) p (number_in reference) said s t is
  taken_keeps p (DelLock name reference) s t good is = subst (Keeps s) (ok_is is) (λ h. freed_held P (is_holder (s.locks name) reference) s.locks name h)
  taken_keeps p (Exchange node groups) s t good is = go (is_bad_exchange p node s) is
    where
      go : (b : Bool) → Makes (cond b (Err NotAMessage) (Ok (exchange p groups s))) t → Keeps s t
      go true e = absurd (cc)
      go false e = subst (Keeps s) (ok_is e) (λ h. h)
  taken_keeps p (Down pid) s t good is = subst (Keeps s) (ok_is is) (λ h. h)

-- ---- a step

module _ (config : Config) (i : ℕ) (here : IsHere config i) (s : State) where
  of_own : (c : ℕ) → IsOfNode config (own_reference (live_nodes (nodes_at config i) s) c)
  of_own c = record { place = i; number = c; here = here; is = refl }

  step_keeps : (input : Input Message Action) (turn : Turn State Message Report) → node_step config i s input ≡ Some turn
      → ((p : ℕ) (x : Message) → input ≡ Taken p x → AsksWell (IsOfNode config) x) → Held (IsOfNode config) s.locks → Held (IsOfNode config) turn.state.locks
  step_keeps (Taken p x) turn is good h =
      let t = took_so config i s p x turn is in
      subst (λ (u : Turn State Message Report). Held (IsOfNode config) u.state.locks) (sym t.2) (taken_keeps (live_nodes (nodes_at config i) s) (IsOfNode config) of_own (name_at config p) x s t.0 (good p x refl) t.1 h)
  step_keeps (Own action) turn is good h =
      let t = did_so config i s action turn is in
      subst (λ (u : Turn State Message Report). Held (IsOfNode config) u.state.locks) (sym t.2) (acted_keeps (live_nodes (nodes_at config i) s) (IsOfNode config) of_own (nodes_at config i) (ports_at config i) action s t.0 t.1 h)

-- a request of node p is one under a reference of its own
asks_own : (config : Config) (p : ℕ) (to : Node) (x : Message) → IsHere config p → IsOurs (name_at config p) to x → AsksWell (IsOfNode config) x
asks_own config p to (Call reference (SetLock name)) here ours = record { place = p; number = ours.0; here = here; is = ours.1 }
asks_own config p to (Call reference (Change u)) here ours = tt
asks_own config p to (Reply reference said) here ours = tt
asks_own config p to (DelLock name reference) here ours = tt
asks_own config p to (Exchange node groups) here ours = tt
asks_own config p to (Down pid) here ours = tt

-- ---- runs

module _ (config : Config) (apart : IsDistinct same_atom (names_of config)) where
  Known : Lossy → Type 0
  Known w = (i : ℕ) → IsHere config i → Held (IsOfNode config) (w.world.node i).locks

  module _ (w v : Lossy) (b : Bridged config apart w) (d : Event Action) (h : Happened (losing_machine_of config) w.world d v.world)
      (old : (i : ℕ) → IsHere config i → Held (IsOfNode config) (w.world.node i).locks) where
    x_here : IsHere config (node_of d)
    x_here = own_place (losing_machine_of config) w.world v.world d h

    good : (given : Input Message Action) → h.input ≡ noted given → (p : ℕ) (x : Message) → given ≡ Taken p x → AsksWell (IsOfNode config) x
    good given is p x from =
        let input_is : h.input ≡ Taken p (Sent x) = is ∙ ap noted from in
        let first = packet_there (losing_machine_of config) w.world v.world d h p (Sent x) input_is in
        let pair = pair_there (losing_machine_of config) w.world v.world d h p (Sent x) input_is in
        let there : IsHere config p = pair_second (length config) (node_of d) p pair in
        let known : (w.world.node (node_of d)).lost (name_at config p) ≡ false = not_true ((w.world.node (node_of d)).lost (name_at config p)) (λ seen.
        unheard_input config (node_of d) p (w.world.node (node_of d)) (Sent x) h.turn seen (subst (λ z. (losing_machine_of config).step (node_of d) (w.world.node (node_of d)) z ≡ Some h.turn) input_is h.made)) in
        let all = next_left (w.gone p) x first.0 (b.has.ways p (node_of d)) (subst (λ z. Left (w.gone p) z (b.has.ways p (node_of d))) first.1
        (b.has.cut p (node_of d) there x_here (λ e. pair_apart (length config) (node_of d) p pair (sym e)) known)) in
        asks_own config p (name_at config (node_of d)) x there (subst (AllByRecursion (IsOurs (name_at config p) (name_at config (node_of d))))
        (b.has.shows.wire p (node_of d) there x_here ∙ all.1) (b.has.inv.tidy.ours (name_at config p) (name_at config (node_of d)))).0

    turned : LossyMakes config (node_of d) (w.world.node (node_of d)) h.input h.turn → Held (IsOfNode config) h.turn.state.locks
    turned (Steps given t is made same) = subst (λ (u : Turn State (Noticed Message) Report). Held (IsOfNode config) u.state.locks) (sym same)
        (step_keeps config (node_of d) x_here (w.world.node (node_of d)) given t made (good given is) (old (node_of d) x_here))
    turned (Sees p is not_yet same) = subst (λ (u : Turn State (Noticed Message) Report). Held (IsOfNode config) u.state.locks) (sym same)
        (λ name r e. old (node_of d) x_here name r (freed_is (name_at config p) ((w.world.node (node_of d)).locks name) r e).0)

    event_known : (i : ℕ) → IsHere config i → Held (IsOfNode config) (v.world.node i).locks
    event_known i here = state_after (losing_machine_of config) w.world v.world d h (λ (s : State). Held (IsOfNode config) s.locks) i
        (λ own. turned (makes config (node_of d) (w.world.node (node_of d)) h.input h.turn h.made)) (λ other. old i here)

  passed_known : (w v : Lossy) (e : LosingEvent Action) → Bridged config apart w → Passed config w v e → ((i : ℕ) → IsHere config i → Held (IsOfNode config) (w.world.node i).locks)
      → (i : ℕ) → IsHere config i → Held (IsOfNode config) (v.world.node i).locks
  passed_known w v e b (Went d is alive h same) old i here = event_known w v b d h old i here
  passed_known w v e b (Died j keep is there alive cut gone) old i here = subst (λ (u : World State (Noticed Message) Report). Held (IsOfNode config) (u.node i).locks) (sym cut) (old i here)

  -- the holder of each lock
  pub holders : (es : List (LosingEvent Action)) (w : LosingFrameWorld) → LosingReaches config es w → (i : ℕ) → IsHere config i → Held (IsOfNode config) (w.world.node i).state.locks
  holders es w l = kept_all config (λ done u. (i : ℕ) → IsHere config i → Held (IsOfNode config) (u.world.node i).state.locks)
      (λ done u v e r h old. passed_known (bare u) (bare v) e (bridged config apart done u r) (passed config u v e h) old) es w l (λ i here name r e. absurd (cc))

-- ---- commands and their references, where a loss is seen

forgets_locking : (peer : Node) (op : OpId) (used : Use) → IsLockingOf op used → IsLockingOf op (forgets peer used)
forgets_locking peer op (Locking other u lead st) h = h
forgets_locking peer op Fresh h = absurd h
forgets_locking peer op Spent h = absurd h
forgets_locking peer op (Owning name n) h = absurd h
forgets_locking peer op (Updating other u c replied) h = absurd h

forgets_updating : (peer : Node) (op : OpId) (used : Use) → IsUpdatingOf op used → IsUpdatingOf op (forgets peer used)
forgets_updating peer op (Updating other u c replied) h = h
forgets_updating peer op Fresh h = absurd h
forgets_updating peer op Spent h = absurd h
forgets_updating peer op (Owning name n) h = absurd h
forgets_updating peer op (Locking other u lead st) h = absurd h

forgets_reference : (peer : Node) (op : OpId) (stage : Stage) (uses : ℕ → Use) → HasReference op stage uses → HasReference op stage (λ c. forgets peer (uses c))
forgets_reference peer op (Asking c) uses has = forgets_locking peer op (uses c) has
forgets_reference peer op (Changing n) uses has = forgets_updating peer op (uses n) has
forgets_reference peer op (Waiting u) uses has = tt
forgets_reference peer op Closed uses has = tt

forgets_under : (peer : Node) (name : Term) (c : ℕ) (used : Use) → IsUnder name c used → IsUnder name c (forgets peer used)
forgets_under peer name c (Updating op u lock replied) h = h
forgets_under peer name c Fresh h = absurd h
forgets_under peer name c Spent h = absurd h
forgets_under peer name c (Owning other n) h = absurd h
forgets_under peer name c (Locking op u lead st) h = absurd h

forgets_update : (peer : Node) (c : ℕ) (used : Use) (uses : ℕ → Use) → HasUpdate c used uses → HasUpdate c (forgets peer used) (λ d. forgets peer (uses d))
forgets_update peer c (Owning name n) uses has = forgets_under peer name c (uses n) has
forgets_update peer c Fresh uses has = tt
forgets_update peer c Spent uses has = tt
forgets_update peer c (Locking op u lead st) uses has = tt
forgets_update peer c (Updating op u lock replied) uses has = tt

loss_linked : (peer : Node) (s : State) → Linked s → Linked (see_loss peer s).state
loss_linked peer s linked = record {
  fitting = loss_fits peer s linked.fitting;
  links = record {
    asked = λ op. forgets_reference peer op (s.stages op) s.uses (linked.links.asked op);
    owned = λ c. forgets_update peer c (s.uses c) s.uses (linked.links.owned c);
  };
}

AllLinked : FrameWorld → Type 0
AllLinked u = (i : ℕ) → Linked (u.node i)

linked_kept : (config : Config) → IsKept config AllLinked
unfolding AllLinked
linked_kept config = record {
  same = λ u v node reported all i. subst (λ (f : ℕ → State). Linked (f i)) (sym node) (all i);
  step = λ u v d h all i. state_after (machine_of config) u v d h Linked i
      (λ own. step_linked config (node_of d) (u.node (node_of d)) h.input h.turn h.made (all (node_of d))) (λ _. all i);
  loss = λ u i p all j. by_place u.node i (see_loss (name_at config p) (u.node i)).state Linked j (λ own. loss_linked (name_at config p) (u.node i) (all i)) (λ other. all j);
}

pub all_linked : (config : Config) (es : List (LosingEvent Action)) (w : LosingFrameWorld) → LosingReaches config es w → (i : ℕ) → Linked (w.world.node i).state
unfolding AllLinked
all_linked config es w l = carried_past config AllLinked (linked_kept config) es w l (λ j. first_linked ((machine_of config).first j) refl refl)
