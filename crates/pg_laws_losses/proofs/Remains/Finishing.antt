-- A process of a node which that node has as ended was told to end there, also where nodes are lost.
use Rattle.std.proofs.Common.{◌≡◌, ◌⊎◌, inl, inr, ℕ, Bool, true, false, ◌&&◌, ◌||◌, cond, nat_eq, nat_le, nat_lt}
use Rattle.std.proofs.Common.{length, List, [], ◌∷◌, ◌++◌, Option, Some, None, Ok, Err, refl, ap, sym, ◌∙◌, subst}
use Rattle.std.specs.List.{IsDistinct}
use Rattle.std.proofs.lemmas.Bool.{eq-eqb}
use Rattle.std.proofs.lemmas.List.{append_assoc}
use Rattle.pg_term.specs.declared.pid.Pid.{Pid}
use Rattle.pg_term.specs.Same.{same_atom}
use Rattle.pg_laws.specs.PgGroup.declared.update.Update.{Update}
use Rattle.pg_laws.specs.PgGroup.declared.update.Update.TheVariants as update
use Rattle.pg_laws.specs.PgGroup.Value.{name_of}
use Rattle.pg_laws.proofs.PgGroup.Changes.{upd_at}
use Rattle.pg_laws.specs.PgMessageTypes.declared.message.Message.{Message}
use Rattle.pg_laws.specs.PgMessageTypes.declared.message.Message.TheVariants.{Call, Reply, DelLock, Exchange, Down}
use Rattle.pg_laws.specs.PgStep.Machines.Happened.{Happened}
use Rattle.pg_laws.specs.PgStep.Machines.Losing.{Last, Lose, LosingEvent, Noticed, Sent, Step, nobody_gone}
use Rattle.pg_laws.specs.PgStep.Machines.Machine.{Input, Turn, Event, Taken, Own, Take, Do}
use Rattle.pg_laws.specs.PgStep.Machines.Machine.{World, first_from, input_of, node_of, start_of}
use Rattle.pg_laws.specs.PgStep.Machines.Places.{is_place}
use Rattle.pg_laws.proofs.PgStep.Machines.Options.{some_is}
use Rattle.pg_laws.proofs.PgStep.Machines.Plain.{plain_start}
use Rattle.pg_laws.proofs.PgStep.Machines.Steps.{pair_apart}
use Rattle.pg_laws.specs.PgStep.Attempts.{attempt, same_op, tried_again, waits}
use Rattle.pg_laws.specs.PgStep.Commands.{OPEN_LIMIT, answer, carried_out, change, change_by, command as command_in}
use Rattle.pg_laws.specs.PgStep.Commands.{command_by, count_command, fault_of, look, next_op, open_command, refused, undertake}
use Rattle.pg_laws.specs.PgStep.Config.{Config, name_at, names_of, nodes_at, ports_at}
use Rattle.pg_laws.specs.PgStep.FrameMachine.{losing_frame_machine, losing_machine_of, node_step, place_turn}
use Rattle.pg_laws.specs.PgStep.LossLaws.{LosingFrameWorld}
use Rattle.pg_laws.specs.PgStep.Nodes.{Nodes}
use Rattle.pg_laws.specs.PgStep.Peers.{process_end}
use Rattle.pg_laws.specs.PgStep.State.{State, live_nodes}
use Rattle.pg_laws.specs.PgStep.Step.{Action, CLOCK_LIMIT, Issue, Retry, acted, taken}
use Rattle.pg_laws.specs.PgStep.Turns.{NodeTurn, Report, and_then}
use Rattle.pg_laws.specs.PgStep.declared.answer.Reply.{Reply as Answer}
use Rattle.pg_laws.specs.PgStep.declared.command.Command.{Command}
use Rattle.pg_laws.specs.PgStep.declared.command.Command.TheVariants as command
use Rattle.pg_laws.specs.PgStep.declared.command.OpId.{OpId}
use Rattle.pg_laws.specs.PgStep.declared.command_fault.CommandFault.{CommandFault}
use Rattle.pg_laws.specs.PgStep.declared.command_fault.CommandFault.TheVariants.{Busy}
use Rattle.pg_laws.specs.PgStep.declared.refusal.Refusal.TheVariants.{NoSuchPlace, NotWaiting}
use Rattle.pg_laws.proofs.PgStep.Once.{is_same, same_is}
use Rattle.pg_laws.specs.Reached.{FinishedAt}
use Rattle.pg_laws.proofs.ends.Apart.{pair_second, same_place}
use Rattle.pg_laws.proofs.steps.Made.{did_so, ended_by, took_so}
use Rattle.pg_laws.proofs.steps.Single.{Any, AnyUpdate, Makes as MakesTurn, OfSingle}
use Rattle.pg_laws.proofs.steps.Single.{attempt_so, ok_is, taken_so, tried_so}
use Rattle.pg_laws.proofs.steps.Ways.{own_place, packet_there, pair_there, state_after}
use Rattle.pg_laws_losses.specs.Reached.{LosingReaches, steps_of}
use Rattle.pg_laws_losses.proofs.Homes.{AllOwn, Homed, passed_homed, start_homed}
use Rattle.pg_laws_losses.proofs.Lossy.{bare, Passed, Went, Died, passed, kept_past, Makes, Steps, Sees, makes, noted}
use Rattle.pg_laws_losses.proofs.Remains.Passing.{Leaves, kept_all}

-- ---- one turn

-- no process ends by the turn
record EndsNone (s : State) (t : NodeTurn) : Type 0 where
  same : t.state.ended ≡ s.ended

ends_none_then : (s : State) (t : NodeTurn) (next : State → NodeTurn) → EndsNone s t → EndsNone t.state (next t.state) → EndsNone s (and_then t next)
ends_none_then s t next a b = record { same = b.same ∙ a.same }

none_singly : (m : Nodes) → OfSingle m Any AnyUpdate EndsNone EndsNone
none_singly m = record {
  alone = λ s t none. none;
  before = λ s t next _. ends_none_then s t next;
  behind = λ s t next _. ends_none_then s t next;
  stays = λ s. record { same = refl };
  counted = λ port s. record { same = refl };
  lasts = λ op pid s new. new;
  answered = λ op response s _. record { same = refl };
  opened = λ op u s _ _. record { same = refl };
  made = λ op s _. record { same = refl };
  attempted = λ lead op u s _. record { same = refl };
  asked = λ who c op u lead st s _. record { same = refl };
  given_up = λ c op u lead st s _ _. record { same = refl };
  begun = λ c op u lead st s _ _. record { same = refl };
  finished = λ n op u c replied s _ _. record { same = refl };
  heard = λ c op u lead st p status s _ _. record { same = refl };
  confirmed = λ n op u c replied p s _ _. record { same = refl };
  odd = λ what s. record { same = refl };
  requested = λ p reference name s. record { same = refl };
  updated = λ p reference u s. record { same = refl };
  freed = λ name reference s. record { same = refl };
}

-- ---- commands

-- who ends by a command is told to end
abbrev EndsBy : Command → State → NodeTurn → Type 0
EndsBy c s t = (pid : Pid) → t.state.ended pid ≡ true → (s.ended pid ≡ true) ⊎ (c ≡ command.Finish pid)

by_none : (c : Command) (s : State) (t : NodeTurn) → EndsNone s t → EndsBy c s t
by_none c s t none pid is = inl (ap (λ (f : Pid → Bool). f pid) (sym none.same) ∙ is)

by_same : (c : Command) (s : State) (t : NodeTurn) → t.state.ended ≡ s.ended → EndsBy c s t
by_same c s t same = by_none c s t (record { same = same })

module _ (whole m : Nodes) where
  single : OfSingle m Any AnyUpdate EndsNone EndsNone
  single = none_singly m

  same_op_itself : (op : OpId) → same_op op op ≡ true
  same_op_itself op = ap (λ b. b && nat_eq op.number op.number) (eq-eqb op.port op.port refl) ∙ eq-eqb op.number op.number refl

  undertake_none : (op : OpId) (u : Update) (s : State) → EndsNone s (undertake m op u s)
  undertake_none op u s = go (nat_le OPEN_LIMIT s.opened)
    where
      go : (b : Bool) → EndsNone s (cond b (answer op (refused Busy) s) (and_then (open_command op u s) (attempt m op u)))
      go true = record { same = refl }
      go false = ends_none_then s (open_command op u s) (attempt m op u) (record { same = refl })
          (attempt_so m Any AnyUpdate EndsNone EndsNone single op u ((open_command op u s).state) (upd_at same_op _ op _ (same_op_itself op)))

  change_none : (op : OpId) (u : Update) (s : State) → EndsNone s (change m op u s)
  change_none op u s = go (look (s.table (name_of u)) u)
    where
      go : (r : Option Answer) → EndsNone s (change_by r m op u s)
      go (Some r) = record { same = refl }
      go None = undertake_none op u s

  carried_by : (op : OpId) (c : Command) (s : State) → EndsBy c s (carried_out m op c s)
  carried_by op (command.Create name) s = by_none (command.Create name) s (change m op (update.Create name) s) (change_none op (update.Create name) s)
  carried_by op (command.Delete name) s = by_none (command.Delete name) s (change m op (update.Delete name) s) (change_none op (update.Delete name) s)
  carried_by op (command.Join name pid) s = by_none (command.Join name pid) s (change m op (update.Join name pid) s) (change_none op (update.Join name pid) s)
  carried_by op (command.Leave name pid) s = by_none (command.Leave name pid) s (change m op (update.Leave name pid) s) (change_none op (update.Leave name pid) s)
  carried_by op command.Make s = by_same command.Make s (carried_out m op command.Make s) refl
  carried_by op (command.Finish pid) s = λ other is. go other (ended_by pid other s is)
    where
      go : (other : Pid) → (s.ended other ≡ true) ⊎ (pid ≡ other) → (s.ended other ≡ true) ⊎ (command.Finish pid ≡ command.Finish other)
      go other (inl was) = inl was
      go other (inr is) = inr (ap command.Finish is)
  carried_by op (command.Members name) s = by_same (command.Members name) s (carried_out m op (command.Members name) s) refl
  carried_by op (command.LocalMembers name) s = by_same (command.LocalMembers name) s (carried_out m op (command.LocalMembers name) s) refl
  carried_by op command.WhichGroups s = by_same command.WhichGroups s (carried_out m op command.WhichGroups s) refl
  carried_by op (command.Closest name word) s = by_same (command.Closest name word) s (carried_out m op (command.Closest name word) s) refl

  command_ends : (port : ℕ) (c : Command) (s : State) → EndsBy c s (command_in whole m port c s)
  command_ends port c s = go (fault_of whole s c)
    where
      t : State
      t = (count_command port s).state

      go : (f : Option CommandFault) → EndsBy c t (command_by f m (next_op port s) c t)
      go (Some f) = by_same c t (command_by (Some f) m (next_op port s) c t) refl
      go None = carried_by (next_op port s) c t

  -- who ends by what a node does of its own is told to end
  acted_ends : (ports : ℕ) (action : Action) (s : State) (t : NodeTurn) → MakesTurn (acted whole m ports action s) t
      → (pid : Pid) → t.state.ended pid ≡ true → (s.ended pid ≡ true) ⊎ ((port : ℕ) × (action ≡ Issue port (command.Finish pid)))
  acted_ends ports (Issue port c) s t is pid ended = go (nat_lt port ports) is
    where
      told : (s.ended pid ≡ true) ⊎ (c ≡ command.Finish pid) → (s.ended pid ≡ true) ⊎ ((port2 : ℕ) × (Issue port c ≡ Issue port2 (command.Finish pid)))
      told (inl was) = inl was
      told (inr e) = inr (port, ap (Issue port) e)

      go : (b : Bool) → MakesTurn (cond b (Ok (command_in whole m port c s)) (Err NoSuchPlace)) t → (s.ended pid ≡ true) ⊎ ((port2 : ℕ) × (Issue port c ≡ Issue port2 (command.Finish pid)))
      go true e = told (subst (EndsBy c s) (ok_is e) (command_ends port c s) pid ended)
      go false e = absurd (cc)
  acted_ends ports (Retry op) s t is pid ended = go (nat_lt op.port ports) (waits m (s.stages op) s) is
    where
      go : (b d : Bool) → MakesTurn (cond b (cond d (Ok (tried_again (s.stages op) m op s)) (Err NotWaiting)) (Err NoSuchPlace)) t
          → (s.ended pid ≡ true) ⊎ ((port : ℕ) × (Retry op ≡ Issue port (command.Finish pid)))
      go false d e = absurd (cc)
      go true false e = absurd (cc)
      go true true e = inl (ap (λ (f : Pid → Bool). f pid) (sym (subst (EndsNone s) (ok_is e) (tried_so m Any AnyUpdate EndsNone EndsNone single (s.stages op) op s refl)).same) ∙ ended)

-- ---- a step

-- what a step makes: none ends; or it is the end that a peer tells; or who ends is told to
data StepEnds (config : Config) (s : State) (input : Input Message Action) (t : NodeTurn) : Type 0 where
  NoEnd : EndsNone s t → StepEnds config s input t
  TakenEnd : (p : ℕ) (pid : Pid) → input ≡ Taken p (Down pid) → t ≡ process_end pid s → StepEnds config s input t
  OwnEnd : (action : Action) → input ≡ Own action
      → ((pid : Pid) → t.state.ended pid ≡ true → (s.ended pid ≡ true) ⊎ ((port : ℕ) × (action ≡ Issue port (command.Finish pid)))) → StepEnds config s input t

module _ (config : Config) (i : ℕ) (s : State) where
  no_end : (p : ℕ) (x : Message) (t : NodeTurn) → ((pid : Pid) → x ≡ Down pid → EndsNone s (process_end pid s)) → MakesTurn (taken (live_nodes (nodes_at config i) s) (name_at config p) x s) t → StepEnds config s (Taken p x) t
  no_end p x t none is = NoEnd (taken_so (live_nodes (nodes_at config i) s) Any AnyUpdate EndsNone EndsNone (none_singly (live_nodes (nodes_at config i) s)) (name_at config p) x s t
      (λ node groups _ _. record { same = refl }) none is)

  packet_ends : (p : ℕ) (x : Message) (t : NodeTurn) → MakesTurn (taken (live_nodes (nodes_at config i) s) (name_at config p) x s) t → StepEnds config s (Taken p x) t
  packet_ends p (Call reference request) t is = no_end p (Call reference request) t (λ pid e. absurd (cc)) is
  packet_ends p (Reply reference said) t is = no_end p (Reply reference said) t (λ pid e. absurd (cc)) is
  packet_ends p (DelLock name reference) t is = no_end p (DelLock name reference) t (λ pid e. absurd (cc)) is
  packet_ends p (Exchange node groups) t is = no_end p (Exchange node groups) t (λ pid e. absurd (cc)) is
  packet_ends p (Down pid) t is = TakenEnd p pid refl (sym (ok_is is))

  step_ends : (input : Input Message Action) (turn : Turn State Message Report) → node_step config i s input ≡ Some turn
      → (t : NodeTurn) × (turn ≡ place_turn config t) × StepEnds config s input t
  step_ends (Taken p x) turn is =
      let t = took_so config i s p x turn is in
      (t.0, t.2, packet_ends p x t.0 t.1)
  step_ends (Own action) turn is =
      let t = did_so config i s action turn is in
      (t.0, t.2, OwnEnd action refl (acted_ends (nodes_at config i) (live_nodes (nodes_at config i) s) (ports_at config i) action s t.0 t.1))

-- ---- events

own_event : (e : Event Action) (w : World State (Noticed Message) Report) (action : Action) → input_of w e ≡ Some (Own action) → e ≡ Do (node_of e) action
own_event (Do i c) w action is = ap (Do i) (own_is (some_is is))
  where
    own_is : {x y : Action} → ◌≡◌ {A = Input (Noticed Message) Action} (Own x) (Own y) → x ≡ y
    own_is e = cc
own_event (Take i p) w action is = go (w.wire p i) is
  where
    go : (xs : List (Noticed Message)) → first_from {C = Action} p xs ≡ Some (Own action) → Take i p ≡ Do i action
    go [] e = absurd (cc)
    go (x ∷ xs) e = absurd (cc)

steps-append : (es fs : List (LosingEvent Action)) → steps_of (es ++ fs) ≡ steps_of es ++ steps_of fs
steps-append [] fs = refl
steps-append (Step d ∷ es) fs = ap (λ xs. d ∷ xs) (steps-append es fs)
steps-append (Lose i keep ∷ es) fs = steps-append es fs

finished_more : (es fs : List (Event Action)) (i : ℕ) (pid : Pid) → FinishedAt es i pid → FinishedAt (es ++ fs) i pid
finished_more es fs i pid f = record {
  port = f.port;
  before = f.before;
  after = f.after ++ fs;
  is = ap (λ xs. xs ++ fs) f.is ∙ append_assoc f.before (Do i (Issue f.port (command.Finish pid)) ∷ f.after) fs;
}

homed : (config : Config) (es : List (LosingEvent Action)) (w : LosingFrameWorld) → LosingReaches config es w → Homed config (bare w)
homed config es w l = kept_past config (Homed config) (passed_homed config) es (nobody_gone (start_of (losing_frame_machine config))) w l
    (subst (λ u. Homed config (nobody_gone u)) (sym (plain_start (losing_machine_of config) CLOCK_LIMIT)) (start_homed config))

module _ (config : Config) (apart : IsDistinct same_atom (names_of config)) where
  -- a node's own processes which it has as ended were told to end there
  abbrev OwnFinished : List (LosingEvent Action) → LosingFrameWorld → Type 0
  OwnFinished es w = (i : ℕ) (pid : Pid) → pid.node ≡ name_at config i → (w.world.node i).state.ended pid ≡ true → FinishedAt (steps_of es) i pid

  module _ (done : List (LosingEvent Action)) (w v : LosingFrameWorld) (e : LosingEvent Action) (l : LosingReaches config done w) (h : Leaves config w e v) (old : OwnFinished done w) where
    before_it : (i : ℕ) (pid : Pid) → pid.node ≡ name_at config i → (w.world.node i).state.ended pid ≡ true → FinishedAt (steps_of (done ++ e ∷ [])) i pid
    before_it i pid own was = subst (λ xs. FinishedAt xs i pid) (sym (steps-append done (e ∷ []))) (finished_more (steps_of done) (steps_of (e ∷ [])) i pid (old i pid own was))

    module _ (d : Event Action) (is_step : e ≡ Step d) (hap : Happened (losing_machine_of config) (bare w).world d (bare v).world) where
      abbrev s : State
      s = (w.world.node (node_of d)).state

      there : is_place (length config) (node_of d) ≡ true
      there = own_place (losing_machine_of config) (bare w).world (bare v).world d hap

      -- a process is not of this node and of a peer
      never_both : (p : ℕ) (x : Noticed Message) → hap.input ≡ Taken p x → (pid : Pid) → pid.node ≡ name_at config (node_of d) → pid.node ≡ name_at config p → ⊥
      never_both p x is pid own other =
          let pair = pair_there (losing_machine_of config) (bare w).world (bare v).world d hap p x is in
          pair_apart (length config) (node_of d) p pair
          (same_place config apart (node_of d) p there (pair_second (length config) (node_of d) p pair) (ap (same_atom (name_at config (node_of d))) (sym other ∙ own) ∙ is_same (name_at config (node_of d))))

      stepped : (given : Input Message Action) (t : NodeTurn) → hap.input ≡ noted given → StepEnds config s given t → (pid : Pid) → pid.node ≡ name_at config (node_of d) → t.state.ended pid ≡ true
          → FinishedAt (steps_of (done ++ e ∷ [])) (node_of d) pid
      stepped given t is (NoEnd none) pid own ended = before_it (node_of d) pid own (ap (λ (f : Pid → Bool). f pid) (sym none.same) ∙ ended)
      stepped given t is (TakenEnd p other from same) pid own ended = go (ended_by other pid s (ap (λ (u : NodeTurn). u.state.ended pid) (sym same) ∙ ended))
        where
          taken_is : hap.input ≡ Taken p (Sent (Down other))
          taken_is = is ∙ ap noted from

          of_peer : other.node ≡ name_at config p
          of_peer =
              let first = packet_there (losing_machine_of config) (bare w).world (bare v).world d hap p (Sent (Down other)) taken_is in
              (subst (AllOwn config p ((bare w).world.node p)) first.1 ((homed config done w l).ways p (node_of d))).0.0.0

          go : (s.ended pid ≡ true) ⊎ (other ≡ pid) → FinishedAt (steps_of (done ++ e ∷ [])) (node_of d) pid
          go (inl was) = before_it (node_of d) pid own was
          go (inr one) = absurd (never_both p (Sent (Down other)) taken_is pid own (ap (λ (z : Pid). z.node) (sym one) ∙ of_peer))
      stepped given t is (OwnEnd action own_is tells) pid own ended = go (tells pid ended)
        where
          go : (s.ended pid ≡ true) ⊎ ((port : ℕ) × (action ≡ Issue port (command.Finish pid))) → FinishedAt (steps_of (done ++ e ∷ [])) (node_of d) pid
          go (inl was) = before_it (node_of d) pid own was
          go (inr asked) = record {
            port = asked.0;
            before = steps_of done;
            after = [];
            is =
                let event : d ≡ Do (node_of d) (Issue asked.0 (command.Finish pid)) =
                own_event d (bare w).world action (hap.given ∙ ap Some (is ∙ ap noted own_is)) ∙ ap (Do (node_of d)) asked.1 in
                steps-append done (e ∷ []) ∙ (λ k. steps_of done ++ steps_of (is_step k ∷ [])) ∙ ap (λ (x : Event Action). steps_of done ++ x ∷ []) event;
          }

      turned : Makes config (node_of d) s hap.input hap.turn → (pid : Pid) → pid.node ≡ name_at config (node_of d) → hap.turn.state.ended pid ≡ true → FinishedAt (steps_of (done ++ e ∷ [])) (node_of d) pid
      turned (Steps given t is made same) pid own ended =
          let kind = step_ends config (node_of d) s given t made in
          let states : kind.0.state.ended ≡ hap.turn.state.ended = sym (ap (λ (u : Turn State (Noticed Message) Report). u.state.ended) same ∙ ap (λ (u : Turn State Message Report). u.state.ended) kind.1) in
          stepped given kind.0 is kind.2 pid own (ap (λ (f : Pid → Bool). f pid) states ∙ ended)
      turned (Sees p is not_yet same) pid own ended =
          go (same_atom (name_at config p) pid.node) refl (ap (λ (u : Turn State (Noticed Message) Report). u.state.ended pid) (sym same) ∙ ended)
        where
          go : (b : Bool) → same_atom (name_at config p) pid.node ≡ b → b || s.ended pid ≡ true → FinishedAt (steps_of (done ++ e ∷ [])) (node_of d) pid
          go false _ was = before_it (node_of d) pid own was
          go true lost _ = absurd (never_both p Last is pid own (sym (same_is (name_at config p) pid.node lost)))

      stepped_after : OwnFinished (done ++ e ∷ []) v
      stepped_after j pid own = state_after (losing_machine_of config) (bare w).world (bare v).world d hap (λ (z : State). z.ended pid ≡ true → FinishedAt (steps_of (done ++ e ∷ [])) j pid) j
          (λ here ended. subst (λ z. FinishedAt (steps_of (done ++ e ∷ [])) z pid) (sym here)
          (turned (makes config (node_of d) s hap.input hap.turn hap.made) pid (own ∙ ap (name_at config) here) ended))
          (λ other. before_it j pid own)

    finished_by : Passed config (bare w) (bare v) e → OwnFinished (done ++ e ∷ []) v
    finished_by (Went d is lives hap same) j pid own ended = stepped_after d is hap j pid own ended
    finished_by (Died i keep is there_ lives cut gone) j pid own ended = before_it j pid own (ap (λ (z : World State (Noticed Message) Report). (z.node j).ended pid) (sym cut) ∙ ended)

    finished_after : OwnFinished (done ++ e ∷ []) v
    finished_after = finished_by (passed config w v e h)

  pub own_finished : (es : List (LosingEvent Action)) (w : LosingFrameWorld) → LosingReaches config es w → (i : ℕ) (pid : Pid) → pid.node ≡ name_at config i → (w.world.node i).state.ended pid ≡ true → FinishedAt (steps_of es) i pid
  own_finished es w l = kept_all config OwnFinished (λ done u v e r h old. finished_after done u v e r h old) es w l (λ i pid own ended. absurd (cc))
