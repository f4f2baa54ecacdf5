-- An end that the home of its process has is of a process that the home made: it ends by a command that is refused else.
use Rattle.std.proofs.Common.{◌≡◌, ◌⊎◌, inl, inr, ℕ, ◌+◌, Bool, true, false, not, ◌&&◌}
use Rattle.std.proofs.Common.{◌||◌, cond, nat_eq, nat_le, nat_lt, length, List, [], ◌∷◌}
use Rattle.std.proofs.Common.{Option, Some, None, Ok, Err, refl, ap, sym, ◌∙◌, subst, arith}
use Rattle.std.specs.List.{IsDistinct}
use Rattle.std.proofs.lemmas.Bool.{eq-eqb}
use Rattle.std.proofs.lemmas.Bool.Decides.{nat_tests}
use Rattle.pg_term.specs.declared.pid.Pid.{Pid}
use Rattle.pg_term.specs.Same.{same_atom}
use Rattle.pg_laws.specs.PgGroup.declared.update.Update.{Update}
use Rattle.pg_laws.specs.PgGroup.declared.update.Update.TheVariants as update
use Rattle.pg_laws.specs.PgGroup.Value.{name_of}
use Rattle.pg_laws.proofs.PgGroup.Changes.{upd_at}
use Rattle.pg_laws.specs.PgEnds.Numbers.{is_among, number_in}
use Rattle.pg_laws.specs.PgMessageTypes.declared.message.Message.{Message}
use Rattle.pg_laws.specs.PgMessageTypes.declared.message.Message.TheVariants.{Call, Reply, DelLock, Exchange, Down}
use Rattle.pg_laws.specs.PgStep.Machines.Happened.{Happened}
use Rattle.pg_laws.specs.PgStep.Machines.Losing.{Noticed, Sent, Last, LosingEvent, nobody_gone}
use Rattle.pg_laws.specs.PgStep.Machines.Machine.{Input, Turn, Event, Taken, Own, node_of, start_of}
use Rattle.pg_laws.specs.PgStep.Machines.Places.{is_place}
use Rattle.pg_laws.proofs.PgStep.Machines.Plain.{plain_start}
use Rattle.pg_laws.proofs.PgStep.Machines.Steps.{pair_apart}
use Rattle.pg_laws.specs.PgStep.Attempts.{attempt, same_op, tried_again, waits}
use Rattle.pg_laws.specs.PgStep.Commands.{OPEN_LIMIT, answer, carried_out, change, change_by}
use Rattle.pg_laws.specs.PgStep.Commands.{command as command_in, command_by, count_command, end_process}
use Rattle.pg_laws.specs.PgStep.Commands.{fault_of, look, next_op, open_command, refused, undertake}
use Rattle.pg_laws.specs.PgStep.Config.{Config, name_at, names_of, nodes_at, ports_at}
use Rattle.pg_laws.specs.PgStep.Faults.{first_that_holds}
use Rattle.pg_laws.specs.PgStep.FrameMachine.{losing_frame_machine, losing_machine_of, node_step, place_turn}
use Rattle.pg_laws.specs.PgStep.LossLaws.{LosingFrameWorld}
use Rattle.pg_laws.specs.PgStep.Nodes.{Nodes}
use Rattle.pg_laws.specs.PgStep.Peers.{exchange, process_end}
use Rattle.pg_laws.specs.PgStep.State.{State, formed, live_nodes}
use Rattle.pg_laws.specs.PgStep.Step.{Action, CLOCK_LIMIT, Issue, Retry, acted, taken}
use Rattle.pg_laws.specs.PgStep.Turns.{NodeTurn, Report, and_then}
use Rattle.pg_laws.specs.PgStep.declared.answer.Reply.{Reply as Answer}
use Rattle.pg_laws.specs.PgStep.declared.command.Command.{Command}
use Rattle.pg_laws.specs.PgStep.declared.command.Command.TheVariants as command
use Rattle.pg_laws.specs.PgStep.declared.command.OpId.{OpId}
use Rattle.pg_laws.specs.PgStep.declared.command_fault.CommandFault.{CommandFault}
use Rattle.pg_laws.specs.PgStep.declared.command_fault.CommandFault.TheVariants.{Busy, NameTooLarge, ForeignPid, NotFormed}
use Rattle.pg_laws.specs.PgStep.declared.command_fault.CommandFault.TheVariants.{NotMade, AlreadyEnded, ProcessLimit}
use Rattle.pg_laws.specs.PgStep.declared.refusal.Refusal.TheVariants.{NoSuchPlace, NotWaiting}
use Rattle.pg_laws.proofs.PgStep.Once.{is_same, same_is}
use Rattle.pg_laws.proofs.ends.Apart.{pair_second, same_place}
use Rattle.pg_laws.proofs.steps.Made.{did_so, ended_by, took_so}
use Rattle.pg_laws.proofs.steps.Single.{Any, AnyUpdate, Makes as MakesTurn, OfSingle}
use Rattle.pg_laws.proofs.steps.Single.{attempt_so, ok_is, taken_so, tried_so}
use Rattle.pg_laws.proofs.steps.Ways.{own_place, packet_there, pair_there, state_after}
use Rattle.pg_laws_losses.specs.Reached.{LosingReaches}
use Rattle.pg_laws_losses.proofs.Homes.{AllOwn, Homed, passed_homed, start_homed}
use Rattle.pg_laws_losses.proofs.Lossy.{Lossy, Passed, Went, Died, kept_past, Makes, Steps, Sees, makes, noted}

-- ---- one turn

-- no process is unmade by the turn, and who ends by it was made
record EndsMade (s : State) (t : NodeTurn) : Type 0 where
  among : (pid : Pid) → is_among s.processes pid ≡ true → is_among t.state.processes pid ≡ true
  ended : (pid : Pid) → t.state.ended pid ≡ true → (s.ended pid ≡ true) ⊎ (is_among t.state.processes pid ≡ true)

-- a turn that makes and ends none
none_ends : (s : State) (t : NodeTurn) → t.state.processes ≡ s.processes → t.state.ended ≡ s.ended → EndsMade s t
none_ends s t made ended = record {
  among = λ pid is. ap (λ n. is_among n pid) made ∙ is;
  ended = λ pid is. inl (ap (λ (f : Pid → Bool). f pid) (sym ended) ∙ is);
}

-- one process more
one_more : (a b c d e : Bool) → (d ≡ true → e ≡ true) → a && b && c && d ≡ true → a && b && c && e ≡ true
one_more true true true true e up is = up refl
one_more true true true false e up is = absurd (cc)
one_more true true false d e up is = absurd (cc)
one_more true false c d e up is = absurd (cc)
one_more false b c d e up is = absurd (cc)

still_below : (n made : ℕ) → nat_le n made ≡ true → nat_le n (made + 1) ≡ true
still_below n made is = grind (arith, nat_tests)

among_more : (made : ℕ) (pid : Pid) → is_among made pid ≡ true → is_among (made + 1) pid ≡ true
among_more made pid is = one_more (nat_eq pid.creation 1) (nat_lt pid.id 32768) (nat_le 1 (number_in pid)) (nat_le (number_in pid) made) (nat_le (number_in pid) (made + 1))
    (still_below (number_in pid) made) is

ends_then : (s : State) (t : NodeTurn) (next : State → NodeTurn) → EndsMade s t → EndsMade t.state (next t.state) → EndsMade s (and_then t next)
ends_then s t next a b = record {
  among = λ pid is. b.among pid (a.among pid is);
  ended = λ pid is. before pid (b.ended pid is);
}
  where
    first : (pid : Pid) → (s.ended pid ≡ true) ⊎ (is_among t.state.processes pid ≡ true) → (s.ended pid ≡ true) ⊎ (is_among (next t.state).state.processes pid ≡ true)
    first pid (inl was) = inl was
    first pid (inr made) = inr (b.among pid made)

    before : (pid : Pid) → (t.state.ended pid ≡ true) ⊎ (is_among (next t.state).state.processes pid ≡ true) → (s.ended pid ≡ true) ⊎ (is_among (next t.state).state.processes pid ≡ true)
    before pid (inl is) = first pid (a.ended pid is)
    before pid (inr made) = inr made

ends_singly : (m : Nodes) → OfSingle m Any AnyUpdate EndsMade EndsMade
ends_singly m = record {
  alone = λ s t ends. ends;
  before = λ s t next _. ends_then s t next;
  behind = λ s t next _. ends_then s t next;
  stays = λ s. none_ends s _ refl refl;
  counted = λ port s. none_ends s _ refl refl;
  lasts = λ op pid s new. new;
  answered = λ op response s _. none_ends s _ refl refl;
  opened = λ op u s _ _. none_ends s _ refl refl;
  made = λ op s _. record { among = λ pid. among_more s.processes pid; ended = λ pid is. inl is };
  attempted = λ lead op u s _. none_ends s _ refl refl;
  asked = λ who c op u lead st s _. none_ends s _ refl refl;
  given_up = λ c op u lead st s _ _. none_ends s _ refl refl;
  begun = λ c op u lead st s _ _. none_ends s _ refl refl;
  finished = λ n op u c replied s _ _. none_ends s _ refl refl;
  heard = λ c op u lead st p status s _ _. none_ends s _ refl refl;
  confirmed = λ n op u c replied p s _ _. none_ends s _ refl refl;
  odd = λ what s. none_ends s _ refl refl;
  requested = λ p reference name s. none_ends s _ refl refl;
  updated = λ p reference u s. none_ends s _ refl refl;
  freed = λ name reference s. none_ends s _ refl refl;
}

-- ---- commands

-- a process that is told to end was made
pub was_made : (home full made gone : Bool) → first_that_holds ((false, NameTooLarge) ∷ (not home, ForeignPid) ∷ (not full, NotFormed) ∷ (not made, NotMade) ∷ (gone, AlreadyEnded) ∷ (false, ProcessLimit) ∷ []) ≡ None → made ≡ true
was_made true true true gone e = refl
was_made true true false gone e = absurd (cc)
was_made true false made gone e = absurd (cc)
was_made false full made gone e = absurd (cc)

module _ (whole m : Nodes) where
  single : OfSingle m Any AnyUpdate EndsMade EndsMade
  single = ends_singly m

  same_op_itself : (op : OpId) → same_op op op ≡ true
  same_op_itself op = ap (λ b. b && nat_eq op.number op.number) (eq-eqb op.port op.port refl) ∙ eq-eqb op.number op.number refl

  undertake_ends : (op : OpId) (u : Update) (s : State) → EndsMade s (undertake m op u s)
  undertake_ends op u s = go (nat_le OPEN_LIMIT s.opened)
    where
      go : (b : Bool) → EndsMade s (cond b (answer op (refused Busy) s) (and_then (open_command op u s) (attempt m op u)))
      go true = none_ends s _ refl refl
      go false = ends_then s (open_command op u s) (attempt m op u) (none_ends s _ refl refl)
          (attempt_so m Any AnyUpdate EndsMade EndsMade single op u ((open_command op u s).state) (upd_at same_op _ op _ (same_op_itself op)))

  change_ends : (op : OpId) (u : Update) (s : State) → EndsMade s (change m op u s)
  change_ends op u s = go (look (s.table (name_of u)) u)
    where
      go : (r : Option Answer) → EndsMade s (change_by r m op u s)
      go (Some r) = none_ends s _ refl refl
      go None = undertake_ends op u s

  finish_ends : (op : OpId) (pid : Pid) (s : State) → is_among s.processes pid ≡ true → EndsMade s (end_process m op pid s)
  finish_ends op pid s made = record {
    among = λ other is. is;
    ended = λ other is. go other (ended_by pid other s is);
  }
    where
      go : (other : Pid) → (s.ended other ≡ true) ⊎ (pid ≡ other) → (s.ended other ≡ true) ⊎ (is_among s.processes other ≡ true)
      go other (inl was) = inl was
      go other (inr is) = inr (subst (λ (z : Pid). is_among s.processes z ≡ true) is made)

  carried_ends : (op : OpId) (c : Command) (s : State) → fault_of whole s c ≡ None → EndsMade s (carried_out m op c s)
  carried_ends op (command.Create name) s free = change_ends op (update.Create name) s
  carried_ends op (command.Delete name) s free = change_ends op (update.Delete name) s
  carried_ends op (command.Join name pid) s free = change_ends op (update.Join name pid) s
  carried_ends op (command.Leave name pid) s free = change_ends op (update.Leave name pid) s
  carried_ends op command.Make s free = single.made op s tt
  carried_ends op (command.Finish pid) s free = finish_ends op pid s (was_made (same_atom pid.node whole.own) (formed whole s) (is_among s.processes pid) (s.ended pid) free)
  carried_ends op (command.Members name) s free = none_ends s _ refl refl
  carried_ends op (command.LocalMembers name) s free = none_ends s _ refl refl
  carried_ends op command.WhichGroups s free = none_ends s _ refl refl
  carried_ends op (command.Closest name word) s free = none_ends s _ refl refl

  command_ends : (port : ℕ) (c : Command) (s : State) → EndsMade s (command_in whole m port c s)
  command_ends port c s = ends_then s (count_command port s) (command_by (fault_of whole s c) m (next_op port s) c) (none_ends s _ refl refl) (go (fault_of whole s c) (same_fault c))
    where
      t : State
      t = (count_command port s).state

      same_fault : (c : Command) → fault_of whole t c ≡ fault_of whole s c
      same_fault (command.Create name) = refl
      same_fault (command.Delete name) = refl
      same_fault (command.Join name pid) = refl
      same_fault (command.Leave name pid) = refl
      same_fault command.Make = refl
      same_fault (command.Finish pid) = refl
      same_fault (command.Members name) = refl
      same_fault (command.LocalMembers name) = refl
      same_fault command.WhichGroups = refl
      same_fault (command.Closest name word) = refl

      go : (f : Option CommandFault) → fault_of whole t c ≡ f → EndsMade t (command_by f m (next_op port s) c t)
      go (Some f) is = none_ends t _ refl refl
      go None is = carried_ends (next_op port s) c t is

  acted_ends : (ports : ℕ) (action : Action) (s : State) (t : NodeTurn) → MakesTurn (acted whole m ports action s) t → EndsMade s t
  acted_ends ports (Issue port c) s t is = go (nat_lt port ports) is
    where
      go : (b : Bool) → MakesTurn (cond b (Ok (command_in whole m port c s)) (Err NoSuchPlace)) t → EndsMade s t
      go true e = subst (EndsMade s) (ok_is e) (command_ends port c s)
      go false e = absurd (cc)
  acted_ends ports (Retry op) s t is = go (nat_lt op.port ports) (waits m (s.stages op) s) is
    where
      go : (b d : Bool) → MakesTurn (cond b (cond d (Ok (tried_again (s.stages op) m op s)) (Err NotWaiting)) (Err NoSuchPlace)) t → EndsMade s t
      go false d e = absurd (cc)
      go true false e = absurd (cc)
      go true true e = subst (EndsMade s) (ok_is e) (tried_so m Any AnyUpdate EndsMade EndsMade single (s.stages op) op s refl)

-- ---- a step

-- what a step makes: who ends by it was made, or it is the end that a peer tells
data StepEnds (config : Config) (s : State) (input : Input Message Action) (t : NodeTurn) : Type 0 where
  OwnEnds : EndsMade s t → StepEnds config s input t
  TakenEnd : (p : ℕ) (pid : Pid) → input ≡ Taken p (Down pid) → t ≡ process_end pid s → StepEnds config s input t

module _ (config : Config) (i : ℕ) (s : State) where
  own_packet : (p : ℕ) (x : Message) (t : NodeTurn) → ((pid : Pid) → x ≡ Down pid → EndsMade s (process_end pid s)) → MakesTurn (taken (live_nodes (nodes_at config i) s) (name_at config p) x s) t → StepEnds config s (Taken p x) t
  own_packet p x t none is = OwnEnds (taken_so (live_nodes (nodes_at config i) s) Any AnyUpdate EndsMade EndsMade (ends_singly (live_nodes (nodes_at config i) s)) (name_at config p) x s t
      (λ node groups _ _. none_ends s (exchange (name_at config p) groups s) refl refl) none is)

  packet_ends : (p : ℕ) (x : Message) (t : NodeTurn) → MakesTurn (taken (live_nodes (nodes_at config i) s) (name_at config p) x s) t → StepEnds config s (Taken p x) t
  packet_ends p (Call reference request) t is = own_packet p (Call reference request) t (λ pid e. absurd (cc)) is
  packet_ends p (Reply reference said) t is = own_packet p (Reply reference said) t (λ pid e. absurd (cc)) is
  packet_ends p (DelLock name reference) t is = own_packet p (DelLock name reference) t (λ pid e. absurd (cc)) is
  packet_ends p (Exchange node groups) t is = own_packet p (Exchange node groups) t (λ pid e. absurd (cc)) is
  packet_ends p (Down pid) t is = TakenEnd p pid refl (sym (ok_is is))

  step_ends : (input : Input Message Action) (turn : Turn State Message Report) → node_step config i s input ≡ Some turn
      → (t : NodeTurn) × (turn ≡ place_turn config t) × StepEnds config s input t
  step_ends (Taken p x) turn is =
      let t = took_so config i s p x turn is in
      (t.0, t.2, packet_ends p x t.0 t.1)
  step_ends (Own action) turn is =
      let t = did_so config i s action turn is in
      (t.0, t.2, OwnEnds (acted_ends (nodes_at config i) (live_nodes (nodes_at config i) s) (ports_at config i) action s t.0 t.1))

-- ---- events

-- the ends that a node has of its own processes are of processes that it made
record OwnMade (config : Config) (w : Lossy) : Type 0 where
  homed : Homed config w
  made : (i : ℕ) (pid : Pid) → pid.node ≡ name_at config i → (w.world.node i).ended pid ≡ true → is_among (w.world.node i).processes pid ≡ true

module _ (config : Config) (apart : IsDistinct same_atom (names_of config)) (w v : Lossy) (d : Event Action) (h : Happened (losing_machine_of config) w.world d v.world) (old : OwnMade config w) where
  there : is_place (length config) (node_of d) ≡ true
  there = own_place (losing_machine_of config) w.world v.world d h

  -- a process is not of this node and of a peer
  never_both : (p : ℕ) (x : Noticed Message) → h.input ≡ Taken p x → (pid : Pid) → pid.node ≡ name_at config (node_of d) → pid.node ≡ name_at config p → ⊥
  never_both p x is pid own other =
      let pair = pair_there (losing_machine_of config) w.world v.world d h p x is in
      pair_apart (length config) (node_of d) p pair
      (same_place config apart (node_of d) p there (pair_second (length config) (node_of d) p pair) (ap (same_atom (name_at config (node_of d))) (sym other ∙ own) ∙ is_same (name_at config (node_of d))))

  abbrev OwnAmong : State → Type 0
  OwnAmong s = (pid : Pid) → pid.node ≡ name_at config (node_of d) → s.ended pid ≡ true → is_among s.processes pid ≡ true

  stepped : (given : Input Message Action) (t : NodeTurn) → h.input ≡ noted given → StepEnds config (w.world.node (node_of d)) given t → OwnAmong t.state
  stepped given t is (OwnEnds ends) pid own ended = go (ends.ended pid ended)
    where
      go : ((w.world.node (node_of d)).ended pid ≡ true) ⊎ (is_among t.state.processes pid ≡ true) → is_among t.state.processes pid ≡ true
      go (inl was) = ends.among pid (old.made (node_of d) pid own was)
      go (inr made) = made
  stepped given t is (TakenEnd p other from same) pid own ended = subst (λ (u : NodeTurn). is_among u.state.processes pid ≡ true) (sym same)
      (go (ended_by other pid (w.world.node (node_of d)) (ap (λ (u : NodeTurn). u.state.ended pid) (sym same) ∙ ended)))
    where
      taken_is : h.input ≡ Taken p (Sent (Down other))
      taken_is = is ∙ ap noted from

      of_peer : other.node ≡ name_at config p
      of_peer =
          let first = packet_there (losing_machine_of config) w.world v.world d h p (Sent (Down other)) taken_is in
          (subst (AllOwn config p (w.world.node p)) first.1 (old.homed.ways p (node_of d))).0.0.0

      go : ((w.world.node (node_of d)).ended pid ≡ true) ⊎ (other ≡ pid) → is_among (w.world.node (node_of d)).processes pid ≡ true
      go (inl was) = old.made (node_of d) pid own was
      go (inr one) = absurd (never_both p (Sent (Down other)) taken_is pid own (ap (λ (z : Pid). z.node) (sym one) ∙ of_peer))

  turned : Makes config (node_of d) (w.world.node (node_of d)) h.input h.turn → OwnAmong h.turn.state
  turned (Steps given t is made same) =
      let kind = step_ends config (node_of d) (w.world.node (node_of d)) given t made in
      let states : kind.0.state ≡ h.turn.state = sym (ap (λ (u : Turn State (Noticed Message) Report). u.state) same ∙ ap (λ (u : Turn State Message Report). u.state) kind.1) in
      subst OwnAmong states (stepped given kind.0 is kind.2)
  turned (Sees p is not_yet same) = subst (λ (u : Turn State (Noticed Message) Report). OwnAmong u.state) (sym same) (λ pid own ended. go pid own (same_atom (name_at config p) pid.node) refl ended)
    where
      go : (pid : Pid) → pid.node ≡ name_at config (node_of d) → (b : Bool) → same_atom (name_at config p) pid.node ≡ b → b || (w.world.node (node_of d)).ended pid ≡ true → is_among (w.world.node (node_of d)).processes pid ≡ true
      go pid own false _ was = old.made (node_of d) pid own was
      go pid own true lost _ = absurd (never_both p Last is pid own (sym (same_is (name_at config p) pid.node lost)))

  event_made : (j : ℕ) (pid : Pid) → pid.node ≡ name_at config j → (v.world.node j).ended pid ≡ true → is_among (v.world.node j).processes pid ≡ true
  event_made j pid own = state_after (losing_machine_of config) w.world v.world d h (λ (s : State). s.ended pid ≡ true → is_among s.processes pid ≡ true) j
      (λ here. turned (makes config (node_of d) (w.world.node (node_of d)) h.input h.turn h.made) pid (own ∙ ap (name_at config) here))
      (λ other. old.made j pid own)

passed_made : (config : Config) → IsDistinct same_atom (names_of config) → (w v : Lossy) (e : LosingEvent Action) → Passed config w v e → OwnMade config w → OwnMade config v
passed_made config apart w v e (Went d is lives h same) old = record {
  homed = passed_homed config w v e (Went d is lives h same) old.homed;
  made = event_made config apart w v d h old;
}
passed_made config apart w v e (Died i keep is there_ lives cut gone) old = record {
  homed = passed_homed config w v e (Died i keep is there_ lives cut gone) old.homed;
  made = λ j pid own. subst (λ u. (u.node j).ended pid ≡ true → is_among (u.node j).processes pid ≡ true) (sym cut) (old.made j pid own);
}

-- what a node has of its own processes as ended it made
pub own_ends_made : (config : Config) → IsDistinct same_atom (names_of config) → (es : List (LosingEvent Action)) (w : LosingFrameWorld) → LosingReaches config es w
    → (i : ℕ) (pid : Pid) → pid.node ≡ name_at config i → (w.world.node i).state.ended pid ≡ true → is_among (w.world.node i).state.processes pid ≡ true
own_ends_made config apart es w l = (kept_past config (OwnMade config) (passed_made config apart) es (nobody_gone (start_of (losing_frame_machine config))) w l
    (subst (λ u. OwnMade config (nobody_gone u)) (sym (plain_start (losing_machine_of config) CLOCK_LIMIT))
    (record { homed = start_homed config; made = λ i pid own ended. absurd (cc) }))).made
