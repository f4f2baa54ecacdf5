-- A node makes its processes by their numbers.
use Rattle.std.proofs.Common.{◌≡◌, ◌⊎◌, inl, inr, ℕ, zero, suc, ◌+◌, ◌<◌, Bool, true, false, ◌&&◌}
use Rattle.std.proofs.Common.{◌||◌, cond, nat_eq, nat_le, nat_lt, length, List, [], ◌∷◌, ◌++◌}
use Rattle.std.proofs.Common.{Option, Some, None, Ok, Err, refl, ap, sym, ◌∙◌, subst, arith, add-one}
use Rattle.std.specs.List.{IsDistinct, list_any}
use Rattle.std.proofs.lemmas.Bool.{eq-eqb, ne_eqb, cases_eq}
use Rattle.std.proofs.Math.Nat.{mod-eq-sub-div-mul, div-mul-le_self}
use Rattle.std.proofs.lemmas.List.Folds.{list_any-append}
use Rattle.std.proofs.lemmas.Map.Keys.{IsDistinct-push}
use Rattle.pg_term.specs.Same.{same_pid}
use Rattle.pg_term.specs.contracts.pid.PidEq.TheImpl.Laws as pid_laws
use Rattle.pg_term.proofs.Same.{pid_is}
use Rattle.std.proofs.lemmas.List.{append-nil, length-append}
use Rattle.pg_term.specs.declared.pid.Pid.{Pid}
use Rattle.pg_step.specs.PgGroup.declared.update.Update.{Update}
use Rattle.pg_step.specs.PgGroup.declared.update.Update.TheVariants as update
use Rattle.pg_step.specs.PgGroup.Value.{Value, name_of}
use Rattle.pg_step.proofs.PgGroup.Changes.{upd_at}
use Rattle.pg_step.specs.PgEnds.Numbers.{number_in, pid_of}
use Rattle.pg_step.specs.PgMessageTypes.declared.message.Message.{Message}
use Rattle.pg_step.specs.Machines.Happened.{Happened}
use Rattle.pg_step.specs.Machines.Machine.{Input, Turn, Event, Taken, Own, node_of, start_of}
use Rattle.pg_step.specs.Machines.Clocked.{plain}
use Rattle.pg_step.proofs.Machines.Plain.{plain_from_start}
use Rattle.pg_step.proofs.Machines.Sequences.{kept}
use Rattle.pg_step.proofs.Machines.Steps.{changes}
use Rattle.pg_step.specs.Attempts.{attempt, same_op, tried_again, waits}
use Rattle.pg_step.specs.Commands.{OPEN_LIMIT, answer, carried_out, change, change_by, command as command_in}
use Rattle.pg_step.specs.Commands.{command_by, count_command, fault_of, look, next_op, open_command, refused, undertake}
use Rattle.pg_step.specs.Config.{Config, made_at, name_at, nodes_at, ports_at}
use Rattle.pg_step.specs.FrameMachine.{machine_of, node_step, FrameWorld}
use Rattle.pg_step.specs.Nodes.{Node, Nodes}
use Rattle.pg_step.specs.State.{State, live_nodes}
use Rattle.pg_step.specs.Step.{Action, CLOCK_LIMIT, Issue, Retry, acted}
use Rattle.pg_step.specs.Turns.{NodeTurn, Report, and_then, nothing}
use Rattle.pg_step.specs.declared.command.Command.{Command}
use Rattle.pg_step.specs.declared.command.Command.TheVariants as command
use Rattle.pg_step.specs.declared.command.OpId.{OpId}
use Rattle.pg_step.specs.declared.command_fault.CommandFault.{CommandFault}
use Rattle.pg_step.specs.declared.command_fault.CommandFault.TheVariants.{Busy}
use Rattle.pg_step.specs.declared.refusal.Refusal.TheVariants.{NoSuchPlace, NotWaiting}
use Rattle.pg_laws.specs.Fresh.{given_by, made_by, made_in, numbered_after}
use Rattle.pg_laws.specs.Reached.{Reaches, TimedFrameWorld}
use Rattle.pg_laws.proofs.steps.Made.{did_so, took_so}
use Rattle.pg_laws.proofs.steps.Single.{AnyUpdate, Makes as MakesTurn, OfSingle}
use Rattle.pg_laws.proofs.steps.Single.{attempt_so, ok_is, taken_so, tried_so}
use Rattle.pg_laws.proofs.steps.Ways.{state_after, told_append}

-- ---- one turn

-- a turn of a node that gives no new process, or the next one
abbrev pub GivesNext : Node → State → NodeTurn → Type 0
GivesNext own s t = ((t.state.processes ≡ s.processes) × (given_by t.reported.gave ≡ []))
    ⊎ ((t.state.processes ≡ s.processes + 1) × (given_by t.reported.gave ≡ pid_of own (s.processes + 1) ∷ []))

-- no command is known to be new
abbrev Never : OpId → State → Type 0
Never op s = ⊥

module _ (own : Node) where
  -- what follows a turn that answers nothing
  gives_then : (s : State) (t : NodeTurn) (next : State → NodeTurn) → t.reported.gave ≡ None → GivesNext own s t → GivesNext own t.state (next t.state) → GivesNext own s (and_then t next)
  gives_then s t next silent (inr new) later = absurd (cc (sym (ap given_by silent) ∙ new.1))
  gives_then s t next silent (inl kept) (inl later) = inl (later.0 ∙ kept.0, none t.reported.gave silent)
    where
      none : (o : _) → o ≡ None → given_by (Rattle.pg_step.specs.Turns.first_of o (next t.state).reported.gave) ≡ []
      none o e = ap (λ z. given_by (Rattle.pg_step.specs.Turns.first_of z (next t.state).reported.gave)) e ∙ later.1
  gives_then s t next silent (inl kept) (inr later) = inr (
    later.0 ∙ ap (λ n. n + 1) kept.0,
    ap (λ z. given_by (Rattle.pg_step.specs.Turns.first_of z (next t.state).reported.gave)) silent ∙ later.1 ∙ ap (λ n. pid_of own (n + 1) ∷ []) kept.0,
  )

  gives_singly : (m : Nodes) → OfSingle m Never AnyUpdate (GivesNext own) (GivesNext own)
  gives_singly m = record {
    alone = λ s t gives. gives;
    before = λ s t next told. gives_then s t next (ap (λ (r : Report). r.gave) told);
    behind = λ s t next told. gives_then s t next told.1;
    stays = λ s. inl (refl, refl);
    counted = λ port s. inl (refl, refl);
    lasts = λ op pid s new. new;
    answered = λ op response s never. absurd never;
    opened = λ op u s never _. absurd never;
    made = λ op s never. absurd never;
    attempted = λ lead op u s _. inl (refl, refl);
    asked = λ who c op u lead st s _. inl (refl, refl);
    given_up = λ c op u lead st s _ _. inl (refl, refl);
    begun = λ c op u lead st s _ _. inl (refl, refl);
    finished = λ n op u c replied s _ _. inl (refl, refl);
    heard = λ c op u lead st p status s _ _. inl (refl, refl);
    confirmed = λ n op u c replied p s _ _. inl (refl, refl);
    odd = λ what s. inl (refl, refl);
    requested = λ p reference name s. inl (refl, refl);
    updated = λ p reference u s. inl (refl, refl);
    freed = λ name reference s. inl (refl, refl);
  }

-- ---- commands

module _ (whole m : Nodes) where
  single : OfSingle m Never AnyUpdate (GivesNext m.own) (GivesNext m.own)
  single = gives_singly m.own m

  same_op_itself : (op : OpId) → same_op op op ≡ true
  same_op_itself op = ap (λ b. b && nat_eq op.number op.number) (eq-eqb op.port op.port refl) ∙ eq-eqb op.number op.number refl

  undertake_gives : (op : OpId) (u : Update) (s : State) → GivesNext m.own s (undertake m op u s)
  undertake_gives op u s = go (nat_le OPEN_LIMIT s.opened)
    where
      go : (b : Bool) → GivesNext m.own s (cond b (answer op (refused Busy) s) (and_then (open_command op u s) (attempt m op u)))
      go true = inl (refl, refl)
      go false = gives_then m.own s (open_command op u s) (attempt m op u) refl (inl (refl, refl))
          (attempt_so m Never AnyUpdate (GivesNext m.own) (GivesNext m.own) single op u ((open_command op u s).state) (upd_at same_op _ op _ (same_op_itself op)))

  -- the look gives no process
  look_gives : (op : OpId) (v : Value) (u : Update) (s : State) → GivesNext m.own s (undertake m op u s) → GivesNext m.own s (change_by (look v u) m op u s)
  look_gives op (Some counts) (update.Create name) s later = inl (refl, refl)
  look_gives op None (update.Join name pid) s later = inl (refl, refl)
  look_gives op None (update.Leave name pid) s later = inl (refl, refl)
  look_gives op None (update.Create name) s later = later
  look_gives op None (update.Delete name) s later = later
  look_gives op (Some counts) (update.Delete name) s later = later
  look_gives op (Some counts) (update.Join name pid) s later = later
  look_gives op (Some counts) (update.Leave name pid) s later = later

  change_gives : (op : OpId) (u : Update) (s : State) → GivesNext m.own s (change m op u s)
  change_gives op u s = look_gives op (s.table (name_of u)) u s (undertake_gives op u s)

  carried_gives : (op : OpId) (c : Command) (s : State) → GivesNext m.own s (carried_out m op c s)
  carried_gives op (command.Create name) s = change_gives op (update.Create name) s
  carried_gives op (command.Delete name) s = change_gives op (update.Delete name) s
  carried_gives op (command.Join name pid) s = change_gives op (update.Join name pid) s
  carried_gives op (command.Leave name pid) s = change_gives op (update.Leave name pid) s
  carried_gives op command.Make s = inr (refl, refl)
  carried_gives op (command.Finish pid) s = inl (refl, refl)
  carried_gives op (command.Members name) s = inl (refl, refl)
  carried_gives op (command.LocalMembers name) s = inl (refl, refl)
  carried_gives op command.WhichGroups s = inl (refl, refl)
  carried_gives op (command.Closest name word) s = inl (refl, refl)

  command_gives : (port : ℕ) (c : Command) (s : State) → GivesNext m.own s (command_in whole m port c s)
  command_gives port c s = gives_then m.own s (count_command port s) (command_by (fault_of whole s c) m (next_op port s) c) refl (inl (refl, refl)) (go (fault_of whole s c))
    where
      t : State
      t = (count_command port s).state

      go : (f : Option CommandFault) → GivesNext m.own t (command_by f m (next_op port s) c t)
      go (Some f) = inl (refl, refl)
      go None = carried_gives (next_op port s) c t

  acted_gives : (ports : ℕ) (action : Action) (s : State) (t : NodeTurn) → MakesTurn (acted whole m ports action s) t → GivesNext m.own s t
  acted_gives ports (Issue port c) s t is = go (nat_lt port ports) is
    where
      go : (b : Bool) → MakesTurn (cond b (Ok (command_in whole m port c s)) (Err NoSuchPlace)) t → GivesNext m.own s t
      go true e = subst (GivesNext m.own s) (ok_is e) (command_gives port c s)
      go false e = absurd (cc)
  acted_gives ports (Retry op) s t is = go (nat_lt op.port ports) (waits m (s.stages op) s) is
    where
      go : (b d : Bool) → MakesTurn (cond b (cond d (Ok (tried_again (s.stages op) m op s)) (Err NotWaiting)) (Err NoSuchPlace)) t → GivesNext m.own s t
      go false d e = absurd (cc)
      go true false e = absurd (cc)
      go true true e = subst (GivesNext m.own s) (ok_is e) (tried_so m Never AnyUpdate (GivesNext m.own) (GivesNext m.own) single (s.stages op) op s refl)

-- ---- a step

abbrev Gives : Node → State → Turn State Message Report → Type 0
Gives own s turn = ((turn.state.processes ≡ s.processes) × (given_by turn.reported.gave ≡ []))
    ⊎ ((turn.state.processes ≡ s.processes + 1) × (given_by turn.reported.gave ≡ pid_of own (s.processes + 1) ∷ []))

pub step_gives : (config : Config) (i : ℕ) (s : State) (input : Input Message Action) (turn : Turn State Message Report) → node_step config i s input ≡ Some turn → Gives (name_at config i) s turn
step_gives config i s (Taken p x) turn is =
    let m = live_nodes (nodes_at config i) s in
    let t = took_so config i s p x turn is in
    subst (Gives (name_at config i) s) (sym t.2)
    (taken_so m Never AnyUpdate (GivesNext m.own) (GivesNext m.own) (gives_singly m.own m) (name_at config p) x s t.0 (λ node groups _ _. inl (refl, refl)) (λ pid _. inl (refl, refl)) t.1)
step_gives config i s (Own action) turn is =
    let m = live_nodes (nodes_at config i) s in
    let t = did_so config i s action turn is in
    subst (Gives (name_at config i) s) (sym t.2) (acted_gives (nodes_at config i) m (ports_at config i) action s t.0 t.1)

-- ---- numbers

-- the next process has the next number
next_number : (own : Node) (from made : ℕ) (pids : List Pid) → pids ≡ numbered_after own from (length pids) → made ≡ from + length pids
    → (pids ++ pid_of own (made + 1) ∷ [] ≡ numbered_after own from (length (pids ++ pid_of own (made + 1) ∷ []))) × (made + 1 ≡ from + length (pids ++ pid_of own (made + 1) ∷ []))
unfolding numbered_after
next_number own from made pids is count =
    let more : length (pids ++ pid_of own (made + 1) ∷ []) ≡ suc (length pids) = length-append pids (pid_of own (made + 1) ∷ []) ∙ add-one (length pids) in
    let number : made + 1 ≡ from + suc (length pids) = omega (arith, count) in (
      ap (λ ps. ps ++ pid_of own (made + 1) ∷ []) is ∙ ap (λ n. numbered_after own from (length pids) ++ pid_of own n ∷ []) number ∙ ap (numbered_after own from) (sym more),
      number ∙ ap (λ n. from + n) (sym more),
    )

pub none_yet : (own : Node) (from : ℕ) → [] ≡ numbered_after own from 0
unfolding numbered_after
none_yet own from = refl

-- ---- runs

module _ (config : Config) (i : ℕ) where
  -- what is said of the numbers, of a state and of what was made
  abbrev pub Say : State → List Pid → Type 0
  Say s pids = (pids ≡ numbered_after (name_at config i) (made_at config i) (length pids)) × (s.processes ≡ made_at config i + length pids)

  say_after : (s : State) (pids : List Pid) (turn : Turn State Message Report) → Gives (name_at config i) s turn → Say s pids → Say turn.state (pids ++ given_by turn.reported.gave)
  say_after s pids turn (inl kept) said = subst (Say turn.state) (sym (ap (λ ps. pids ++ ps) kept.1 ∙ append-nil pids)) (said.0, kept.0 ∙ said.1)
  say_after s pids turn (inr new) said =
      let next = next_number (name_at config i) (made_at config i) s.processes pids said.0 said.1 in
      subst (Say turn.state) (sym (ap (λ ps. pids ++ ps) new.1)) (next.0, new.0 ∙ next.1)

  pub event_says : (w v : FrameWorld) (e : Event Action) → Happened (machine_of config) w e v → Say (w.node i) (made_by i w.reported) → Say (v.node i) (made_by i v.reported)
  event_says w v e h said = go (cases_eq i (node_of e))
    where
      reported : made_by i v.reported ≡ made_by i w.reported ++ (cond (nat_eq (node_of e) i) (given_by h.turn.reported.gave) [] ++ [])
      reported = ap (made_by i) ((changes (machine_of config) w v e h).reported) ∙ told_append (made_in i) w.reported ((node_of e, h.turn.reported) ∷ [])

      pick : (b : Bool) → nat_eq (node_of e) i ≡ b → made_by i v.reported ≡ made_by i w.reported ++ cond b (given_by h.turn.reported.gave) []
      pick b is = reported ∙ ap (λ ps. made_by i w.reported ++ ps) (append-nil _ ∙ ap (λ c. cond c (given_by h.turn.reported.gave) []) is)

      go : (i ≡ node_of e) ⊎ (i ≡ node_of e → ⊥) → Say (v.node i) (made_by i v.reported)
      go (inl own) =
          subst (Say (v.node i)) (sym (pick true (eq-eqb (node_of e) i (sym own))))
          (state_after (machine_of config) w v e h (λ s. Say s (made_by i w.reported ++ given_by h.turn.reported.gave)) i
          (λ here. say_after (w.node i) (made_by i w.reported) h.turn
          (subst (λ j. Gives (name_at config j) (w.node j) h.turn) (sym here) (step_gives config (node_of e) (w.node (node_of e)) h.input h.turn h.made)) said)
          (λ other. absurd (other own)))
      go (inr other) =
          subst (Say (v.node i)) (sym (pick false (ne_eqb (node_of e) i (λ same. other (sym same))) ∙ append-nil (made_by i w.reported)))
          (state_after (machine_of config) w v e h (λ s. Say s (made_by i w.reported)) i (λ here. absurd (other here)) (λ _. said))

  pub says : (es : List (Event Action)) (w : TimedFrameWorld) → Reaches config es w → Say ((plain w).node i) (made_by i (plain w).reported)
  says es w l =
      kept (machine_of config) (λ u. Say (u.node i) (made_by i u.reported)) (λ u v e h. event_says u v e h) es (start_of (machine_of config)) (plain w)
      (plain_from_start (machine_of config) CLOCK_LIMIT es w l) (none_yet (name_at config i) (made_at config i), omega arith)

-- ---- different numbers

number_is : (own : Node) (k : ℕ) → number_in (pid_of own k) ≡ k
number_is own k = omega (arith, mod-eq-sub-div-mul k 32768, div-mul-le_self k 32768)

others : (own : Node) (j k : ℕ) → j < k → same_pid (pid_of own k) (pid_of own j) ≡ false
others own j k below = go (same_pid (pid_of own k) (pid_of own j)) refl
  where
    go : (b : Bool) → same_pid (pid_of own k) (pid_of own j) ≡ b → same_pid (pid_of own k) (pid_of own j) ≡ false
    go false t = t
    go true t =
        let same : k ≡ j = sym (number_is own k) ∙ ap number_in (pid_is (pid_of own k) (pid_of own j) t) ∙ number_is own j in
        absurd (omega (arith, below, same))

neither : (a b : Bool) → a ≡ false → b ≡ false → (a || (b || false)) ≡ false
neither false false e f = refl
neither true b e f = absurd (cc)
neither false true e f = absurd (cc)

-- a process with a greater number is another
apart_from : (own : Node) (from n k : ℕ) → from + n < k → list_any (same_pid (pid_of own k)) (numbered_after own from n) ≡ false
unfolding numbered_after
apart_from own from zero k above = refl
apart_from own from (suc n) k above =
    list_any-append (same_pid (pid_of own k)) (numbered_after own from n) (pid_of own (from + suc n) ∷ [])
    ∙ neither _ _ (apart_from own from n k (omega (arith, above))) (others own (from + suc n) k above)

numbered_apart : (own : Node) (from n : ℕ) → IsDistinct same_pid (numbered_after own from n)
unfolding numbered_after IsDistinct
numbered_apart own from zero = tt
numbered_apart own from (suc n) = IsDistinct-push pid_laws.laws-law (numbered_after own from n) (pid_of own (from + suc n)) (numbered_apart own from n) (apart_from own from n (from + suc n) (omega arith))

pub numbered_once : (config : Config) (i : ℕ) (pids : List Pid) → pids ≡ numbered_after (name_at config i) (made_at config i) (length pids) → IsDistinct same_pid pids
numbered_once config i pids is = subst (IsDistinct same_pid) (sym is) (numbered_apart (name_at config i) (made_at config i) (length pids))
