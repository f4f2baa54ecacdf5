-- A process ends at its home by a command there, and else by what its home tells.
use Rattle.std.proofs.Common.{◌≡◌, ◌⊎◌, inl, inr, ℕ, Bool, true, false, ◌&&◌, cond, nat_eq, nat_le, nat_lt}
use Rattle.std.proofs.Common.{length, List, [], ◌∷◌, ◌++◌, Option, Some, None, Ok, Err, refl, ap, sym, ◌∙◌, subst}
use Rattle.std.specs.List.{AllByRecursion, IsDistinct}
use Rattle.std.proofs.lemmas.Bool.{eq-eqb}
use Rattle.std.proofs.lemmas.List.{append_assoc, append-nil}
use Rattle.pg_term.specs.declared.pid.Pid.{Pid}
use Rattle.pg_term.specs.Same.{same_atom}
use Rattle.pg_step.specs.PgGroup.declared.update.Update.{Update}
use Rattle.pg_step.specs.PgGroup.declared.update.Update.TheVariants as update
use Rattle.pg_step.specs.PgGroup.Value.{name_of}
use Rattle.pg_step.proofs.PgGroup.Changes.{upd_at}
use Rattle.pg_step.specs.PgMessageTypes.declared.message.Message.{Message}
use Rattle.pg_step.specs.PgMessageTypes.declared.message.Message.TheVariants.{Call, Reply, DelLock, Exchange, Down}
use Rattle.pg_step.specs.Machines.Happened.{Happened}
use Rattle.pg_step.specs.Machines.Machine.{Input, Turn, Event, Taken, Own, Take, Do, node_of, start_of}
use Rattle.pg_step.specs.Machines.Places.{is_place}
use Rattle.pg_step.specs.Machines.Clocked.{plain}
use Rattle.pg_step.specs.Machines.Runs.{Leads}
use Rattle.pg_step.proofs.Machines.Options.{some_is}
use Rattle.pg_step.proofs.Machines.Plain.{plain_from_start}
use Rattle.pg_step.proofs.Machines.Steps.{pair_apart, happened}
use Rattle.pg_step.specs.Attempts.{attempt, same_op, tried_again, waits}
use Rattle.pg_step.specs.Commands.{OPEN_LIMIT, answer, carried_out, change, change_by, command as command_in}
use Rattle.pg_step.specs.Commands.{command_by, count_command, fault_of, look, next_op, open_command, refused, undertake}
use Rattle.pg_step.specs.Config.{Config, name_at, names_of, nodes_at, ports_at}
use Rattle.pg_step.specs.FrameMachine.{FrameWorld, machine_of, node_step, place_turn}
use Rattle.pg_step.specs.Nodes.{Nodes}
use Rattle.pg_step.specs.Peers.{process_end}
use Rattle.pg_step.specs.State.{State, live_nodes}
use Rattle.pg_step.specs.Step.{Action, CLOCK_LIMIT, Issue, Retry, acted, taken}
use Rattle.pg_step.specs.Turns.{NodeTurn, Report, and_then}
use Rattle.pg_step.specs.declared.answer.Reply.{Reply as Answer}
use Rattle.pg_step.specs.declared.command.Command.{Command}
use Rattle.pg_step.specs.declared.command.Command.TheVariants as command
use Rattle.pg_step.specs.declared.command.OpId.{OpId}
use Rattle.pg_step.specs.declared.command_fault.CommandFault.{CommandFault}
use Rattle.pg_step.specs.declared.command_fault.CommandFault.TheVariants.{Busy}
use Rattle.pg_step.specs.declared.refusal.Refusal.TheVariants.{NoSuchPlace, NotWaiting}
use Rattle.pg_step.proofs.Once.{is_same}
use Rattle.pg_laws.specs.Reached.{TimedFrameWorld, Reaches, HasEndedAt, FinishedAt}
use Rattle.pg_laws.specs.Sent.{ends_in}
use Rattle.pg_laws.proofs.ends.Apart.{pair_second, same_place}
use Rattle.pg_laws.proofs.ends.Homes.{Homed, homed_event, homed_start}
use Rattle.pg_laws.proofs.steps.Made.{did_so, ended_by, took_so}
use Rattle.pg_laws.proofs.steps.Single.{Any, AnyUpdate, Makes as MakesTurn, OfSingle}
use Rattle.pg_laws.proofs.steps.Single.{attempt_so, ok_is, taken_so, tried_so}
use Rattle.pg_laws.proofs.steps.Ways.{own_place, packet_there, pair_there, state_after}

-- ---- one turn

-- no process ends by the turn
record EndsNone (s : State) (t : NodeTurn) : Type 0 where
  same : t.state.ended ≡ s.ended

ends_none_then : (s : State) (t : NodeTurn) (next : State → NodeTurn) → EndsNone s t → EndsNone t.state (next t.state) → EndsNone s (and_then t next)
ends_none_then s t next a b = record { same = b.same ∙ a.same }

none_singly : (m : Nodes) → OfSingle m Any AnyUpdate EndsNone EndsNone
none_singly m = record {
  alone = λ s t none. none;
  before = λ s t next _. ends_none_then s t next;
  behind = λ s t next _. ends_none_then s t next;
  stays = λ s. record { same = refl };
  counted = λ port s. record { same = refl };
  lasts = λ op pid s new. new;
  answered = λ op response s _. record { same = refl };
  opened = λ op u s _ _. record { same = refl };
  made = λ op s _. record { same = refl };
  attempted = λ lead op u s _. record { same = refl };
  asked = λ who c op u lead st s _. record { same = refl };
  given_up = λ c op u lead st s _ _. record { same = refl };
  begun = λ c op u lead st s _ _. record { same = refl };
  finished = λ n op u c replied s _ _. record { same = refl };
  heard = λ c op u lead st p status s _ _. record { same = refl };
  confirmed = λ n op u c replied p s _ _. record { same = refl };
  odd = λ what s. record { same = refl };
  requested = λ p reference name s. record { same = refl };
  updated = λ p reference u s. record { same = refl };
  freed = λ name reference s. record { same = refl };
}

-- ---- commands

-- who ends by a command is told to end
abbrev EndsBy : Command → State → NodeTurn → Type 0
EndsBy c s t = (pid : Pid) → t.state.ended pid ≡ true → (s.ended pid ≡ true) ⊎ (c ≡ command.Finish pid)

by_none : (c : Command) (s : State) (t : NodeTurn) → EndsNone s t → EndsBy c s t
by_none c s t none pid is = inl (ap (λ (f : Pid → Bool). f pid) (sym none.same) ∙ is)

by_same : (c : Command) (s : State) (t : NodeTurn) → t.state.ended ≡ s.ended → EndsBy c s t
by_same c s t same = by_none c s t (record { same = same })

module _ (whole m : Nodes) where
  single : OfSingle m Any AnyUpdate EndsNone EndsNone
  single = none_singly m

  same_op_itself : (op : OpId) → same_op op op ≡ true
  same_op_itself op = ap (λ b. b && nat_eq op.number op.number) (eq-eqb op.port op.port refl) ∙ eq-eqb op.number op.number refl

  undertake_none : (op : OpId) (u : Update) (s : State) → EndsNone s (undertake m op u s)
  undertake_none op u s = go (nat_le OPEN_LIMIT s.opened)
    where
      go : (b : Bool) → EndsNone s (cond b (answer op (refused Busy) s) (and_then (open_command op u s) (attempt m op u)))
      go true = record { same = refl }
      go false = ends_none_then s (open_command op u s) (attempt m op u) (record { same = refl })
          (attempt_so m Any AnyUpdate EndsNone EndsNone single op u ((open_command op u s).state) (upd_at same_op _ op _ (same_op_itself op)))

  change_none : (op : OpId) (u : Update) (s : State) → EndsNone s (change m op u s)
  change_none op u s = go (look (s.table (name_of u)) u)
    where
      go : (r : Option Answer) → EndsNone s (change_by r m op u s)
      go (Some r) = record { same = refl }
      go None = undertake_none op u s

  carried_by : (op : OpId) (c : Command) (s : State) → EndsBy c s (carried_out m op c s)
  carried_by op (command.Create name) s = by_none (command.Create name) s (change m op (update.Create name) s) (change_none op (update.Create name) s)
  carried_by op (command.Delete name) s = by_none (command.Delete name) s (change m op (update.Delete name) s) (change_none op (update.Delete name) s)
  carried_by op (command.Join name pid) s = by_none (command.Join name pid) s (change m op (update.Join name pid) s) (change_none op (update.Join name pid) s)
  carried_by op (command.Leave name pid) s = by_none (command.Leave name pid) s (change m op (update.Leave name pid) s) (change_none op (update.Leave name pid) s)
  carried_by op command.Make s = by_same command.Make s (carried_out m op command.Make s) refl
  carried_by op (command.Finish pid) s = λ other is. go other (ended_by pid other s is)
    where
      go : (other : Pid) → (s.ended other ≡ true) ⊎ (pid ≡ other) → (s.ended other ≡ true) ⊎ (command.Finish pid ≡ command.Finish other)
      go other (inl was) = inl was
      go other (inr is) = inr (ap command.Finish is)
  carried_by op (command.Members name) s = by_same (command.Members name) s (carried_out m op (command.Members name) s) refl
  carried_by op (command.LocalMembers name) s = by_same (command.LocalMembers name) s (carried_out m op (command.LocalMembers name) s) refl
  carried_by op command.WhichGroups s = by_same command.WhichGroups s (carried_out m op command.WhichGroups s) refl
  carried_by op (command.Closest name word) s = by_same (command.Closest name word) s (carried_out m op (command.Closest name word) s) refl

  command_ends : (port : ℕ) (c : Command) (s : State) → EndsBy c s (command_in whole m port c s)
  command_ends port c s = go (fault_of whole s c)
    where
      t : State
      t = (count_command port s).state

      go : (f : Option CommandFault) → EndsBy c t (command_by f m (next_op port s) c t)
      go (Some f) = by_same c t (command_by (Some f) m (next_op port s) c t) refl
      go None = carried_by (next_op port s) c t

  -- who ends by what a node does of its own is told to end
  acted_ends : (ports : ℕ) (action : Action) (s : State) (t : NodeTurn) → MakesTurn (acted whole m ports action s) t
      → (pid : Pid) → t.state.ended pid ≡ true → (s.ended pid ≡ true) ⊎ ((port : ℕ) × (action ≡ Issue port (command.Finish pid)))
  acted_ends ports (Issue port c) s t is pid ended = go (nat_lt port ports) is
    where
      told : (s.ended pid ≡ true) ⊎ (c ≡ command.Finish pid) → (s.ended pid ≡ true) ⊎ ((port2 : ℕ) × (Issue port c ≡ Issue port2 (command.Finish pid)))
      told (inl was) = inl was
      told (inr e) = inr (port, ap (Issue port) e)

      go : (b : Bool) → MakesTurn (cond b (Ok (command_in whole m port c s)) (Err NoSuchPlace)) t → (s.ended pid ≡ true) ⊎ ((port2 : ℕ) × (Issue port c ≡ Issue port2 (command.Finish pid)))
      go true e = told (subst (EndsBy c s) (ok_is e) (command_ends port c s) pid ended)
      go false e = absurd (cc)
  acted_ends ports (Retry op) s t is pid ended = go (nat_lt op.port ports) (waits m (s.stages op) s) is
    where
      go : (b d : Bool) → MakesTurn (cond b (cond d (Ok (tried_again (s.stages op) m op s)) (Err NotWaiting)) (Err NoSuchPlace)) t
          → (s.ended pid ≡ true) ⊎ ((port : ℕ) × (Retry op ≡ Issue port (command.Finish pid)))
      go false d e = absurd (cc)
      go true false e = absurd (cc)
      go true true e = inl (ap (λ (f : Pid → Bool). f pid) (sym (subst (EndsNone s) (ok_is e) (tried_so m Any AnyUpdate EndsNone EndsNone single (s.stages op) op s refl)).same) ∙ ended)

-- ---- a step

-- what a step makes: none ends; or it is the end that a peer tells; or who ends is told to
data StepEnds (config : Config) (s : State) (input : Input Message Action) (t : NodeTurn) : Type 0 where
  NoEnd : EndsNone s t → StepEnds config s input t
  TakenEnd : (p : ℕ) (pid : Pid) → input ≡ Taken p (Down pid) → t ≡ process_end pid s → StepEnds config s input t
  OwnEnd : (action : Action) → input ≡ Own action
      → ((pid : Pid) → t.state.ended pid ≡ true → (s.ended pid ≡ true) ⊎ ((port : ℕ) × (action ≡ Issue port (command.Finish pid)))) → StepEnds config s input t

module _ (config : Config) (i : ℕ) (s : State) where
  no_end : (p : ℕ) (x : Message) (t : NodeTurn) → ((pid : Pid) → x ≡ Down pid → EndsNone s (process_end pid s)) → MakesTurn (taken (live_nodes (nodes_at config i) s) (name_at config p) x s) t → StepEnds config s (Taken p x) t
  no_end p x t none is = NoEnd (taken_so (live_nodes (nodes_at config i) s) Any AnyUpdate EndsNone EndsNone (none_singly (live_nodes (nodes_at config i) s)) (name_at config p) x s t
      (λ node groups _ _. record { same = refl }) none is)

  packet_ends : (p : ℕ) (x : Message) (t : NodeTurn) → MakesTurn (taken (live_nodes (nodes_at config i) s) (name_at config p) x s) t → StepEnds config s (Taken p x) t
  packet_ends p (Call reference request) t is = no_end p (Call reference request) t (λ pid e. absurd (cc)) is
  packet_ends p (Reply reference said) t is = no_end p (Reply reference said) t (λ pid e. absurd (cc)) is
  packet_ends p (DelLock name reference) t is = no_end p (DelLock name reference) t (λ pid e. absurd (cc)) is
  packet_ends p (Exchange node groups) t is = no_end p (Exchange node groups) t (λ pid e. absurd (cc)) is
  packet_ends p (Down pid) t is = TakenEnd p pid refl (sym (ok_is is))

  step_ends : (input : Input Message Action) (turn : Turn State Message Report) → node_step config i s input ≡ Some turn
      → (t : NodeTurn) × (turn ≡ place_turn config t) × StepEnds config s input t
  step_ends (Taken p x) turn is =
      let t = took_so config i s p x turn is in
      (t.0, t.2, packet_ends p x t.0 t.1)
  step_ends (Own action) turn is =
      let t = did_so config i s action turn is in
      (t.0, t.2, OwnEnd action refl (acted_ends (nodes_at config i) (live_nodes (nodes_at config i) s) (ports_at config i) action s t.0 t.1))

-- ---- events

own_event : (e : Event Action) (w : FrameWorld) (action : Action) → Rattle.pg_step.specs.Machines.Machine.input_of w e ≡ Some (Own action) → e ≡ Do (node_of e) action
own_event (Do i c) w action is = ap (Do i) (own_is (some_is is))
  where
    own_is : {x y : Action} → ◌≡◌ {A = Input Message Action} (Own x) (Own y) → x ≡ y
    own_is e = cc
own_event (Take i p) w action is = go (w.wire p i) is
  where
    go : (xs : List Message) → Rattle.pg_step.specs.Machines.Machine.first_from {C = Action} p xs ≡ Some (Own action) → Take i p ≡ Do i action
    go [] e = absurd (cc)
    go (x ∷ xs) e = absurd (cc)

finished_more : (es fs : List (Event Action)) (i : ℕ) (pid : Pid) → FinishedAt es i pid → FinishedAt (es ++ fs) i pid
finished_more es fs i pid f = record {
  port = f.port;
  before = f.before;
  after = f.after ++ fs;
  is = ap (λ xs. xs ++ fs) f.is ∙ append_assoc f.before (Do i (Issue f.port (command.Finish pid)) ∷ f.after) fs;
}

-- a node's own processes which it has as ended were told to end there
pub record OwnFinished (config : Config) (es : List (Event Action)) (w : FrameWorld) : Type 0 where
  pub homed : Homed config w
  pub finished : (i : ℕ) (pid : Pid) → pid.node ≡ name_at config i → (w.node i).ended pid ≡ true → FinishedAt es i pid

module _ (config : Config) (apart : IsDistinct same_atom (names_of config)) (es : List (Event Action)) (w v : FrameWorld) (e : Event Action) (h : Happened (machine_of config) w e v) (old : OwnFinished config es w) where
  there : is_place (length config) (node_of e) ≡ true
  there = own_place (machine_of config) w v e h

  -- a process is not of this node and of a peer
  never_both : (p : ℕ) (x : Message) → h.input ≡ Taken p x → (pid : Pid) → pid.node ≡ name_at config (node_of e) → pid.node ≡ name_at config p → ⊥
  never_both p x is pid own other =
      let pair = pair_there (machine_of config) w v e h p x is in
      pair_apart (length config) (node_of e) p pair
      (same_place config apart (node_of e) p there (pair_second (length config) (node_of e) p pair) (ap (same_atom (name_at config (node_of e))) (sym other ∙ own) ∙ is_same (name_at config (node_of e))))

  before_it : (i : ℕ) (pid : Pid) → pid.node ≡ name_at config i → (w.node i).ended pid ≡ true → FinishedAt (es ++ e ∷ []) i pid
  before_it i pid own was = finished_more es (e ∷ []) i pid (old.finished i pid own was)

  stepped : (t : NodeTurn) → StepEnds config (w.node (node_of e)) h.input t → (pid : Pid) → pid.node ≡ name_at config (node_of e) → t.state.ended pid ≡ true → FinishedAt (es ++ e ∷ []) (node_of e) pid
  stepped t (NoEnd none) pid own ended = before_it (node_of e) pid own (ap (λ (f : Pid → Bool). f pid) (sym none.same) ∙ ended)
  stepped t (TakenEnd p other is same) pid own ended =
      go (ended_by other pid (w.node (node_of e)) (ap (λ (u : NodeTurn). u.state.ended pid) (sym same) ∙ ended))
    where
      of_peer : other.node ≡ name_at config p
      of_peer =
          let first = packet_there (machine_of config) w v e h p (Down other) is in
          (subst (λ xs. AllByRecursion (λ z. HasEndedAt config w z p) (ends_in xs)) first.1 (old.homed.reported p (node_of e))).0.1

      go : ((w.node (node_of e)).ended pid ≡ true) ⊎ (other ≡ pid) → FinishedAt (es ++ e ∷ []) (node_of e) pid
      go (inl was) = before_it (node_of e) pid own was
      go (inr one) = absurd (never_both p (Down other) is pid own (ap (λ (z : Pid). z.node) (sym one) ∙ of_peer))
  stepped t (OwnEnd action is tells) pid own ended = go (tells pid ended)
    where
      go : ((w.node (node_of e)).ended pid ≡ true) ⊎ ((port : ℕ) × (action ≡ Issue port (command.Finish pid))) → FinishedAt (es ++ e ∷ []) (node_of e) pid
      go (inl was) = before_it (node_of e) pid own was
      go (inr asked) = record {
        port = asked.0;
        before = es;
        after = [];
        is = ap (λ (x : Event Action). es ++ x ∷ []) (own_event e w action (h.given ∙ ap Some is) ∙ ap (Do (node_of e)) asked.1);
      }

  made : (t : NodeTurn) × (h.turn ≡ place_turn config t) × StepEnds config (w.node (node_of e)) h.input t
  made = step_ends config (node_of e) (w.node (node_of e)) h.input h.turn h.made

  finished_after : (j : ℕ) (pid : Pid) → pid.node ≡ name_at config j → (v.node j).ended pid ≡ true → FinishedAt (es ++ e ∷ []) j pid
  finished_after j pid own = state_after (machine_of config) w v e h (λ (s : State). s.ended pid ≡ true → FinishedAt (es ++ e ∷ []) j pid) j
      (λ here ended. subst (λ z. FinishedAt (es ++ e ∷ []) z pid) (sym here)
      (stepped made.0 made.2 pid (own ∙ ap (name_at config) here) (ap (λ (u : Turn State Message Report). u.state.ended pid) (sym made.1) ∙ ended)))
      (λ other. before_it j pid own)

  finished_event : OwnFinished config (es ++ e ∷ []) v
  finished_event = record { homed = homed_event config w v e h old.homed; finished = finished_after }

run_finished : (config : Config) → IsDistinct same_atom (names_of config) → (done es : List (Event Action)) (w v : FrameWorld) → Leads (machine_of config) w es v → OwnFinished config done w → OwnFinished config (done ++ es) v
run_finished config apart done [] w v l all = subst (λ es. OwnFinished config es v) (sym (append-nil done)) (subst (OwnFinished config done) l all)
run_finished config apart done (e ∷ es) w v l all = subst (λ fs. OwnFinished config fs v) (append_assoc done (e ∷ []) es)
    (run_finished config apart (done ++ e ∷ []) es l.0 v l.2 (finished_event config apart done w l.0 e (happened (machine_of config) w l.0 e l.1) all))

pub finished_timed : (config : Config) → IsDistinct same_atom (names_of config) → (es : List (Event Action)) (w : TimedFrameWorld) → Reaches config es w → OwnFinished config es (plain w)
finished_timed config apart es w l = run_finished config apart [] es (start_of (machine_of config)) (plain w) (plain_from_start (machine_of config) CLOCK_LIMIT es w l)
    (record { homed = homed_start config; finished = λ i pid own ended. absurd (cc) })
