-- What an act of a node makes of its table, and whom it ends.
use Rattle.std.proofs.Common.{◌≡◌, ◌⊎◌, inl, inr, ◌∙◌, List, ℕ, ◌+◌, Bool, true, false, not, ◌&&◌, cond, [], ◌∷◌, refl, sym, ap, subst}
use Rattle.std.specs.Prelude.{nat_le, nat_lt, max, Option, Some, None, Result, Ok, Err, ⊤}
use Rattle.pg_term.specs.declared.pid.Pid.{Pid}
use Rattle.pg_term.specs.declared.term.Term.{Term}
use Rattle.pg_term.specs.RefParts.{RefParts}
use Rattle.pg_term.specs.Same.{same_atom, same_pid}
use Rattle.pg_term.specs.contracts.pid.PidEq.TheImpl.Laws as pid_laws
use Rattle.pg_node.specs.PgGroup.declared.update.Update.{Update}
use Rattle.pg_node.specs.PgGroup.declared.update.Update.TheVariants as update
use Rattle.pg_node.specs.PgGroup.Functions.{upd}
use Rattle.pg_node.specs.PgGroup.Table.{GroupList, Table, all_merged, changed, without}
use Rattle.pg_node.specs.PgMessageTypes.declared.message.Message.{Message}
use Rattle.pg_node.specs.PgMessageTypes.declared.message.Message.TheVariants.{Call, Reply, DelLock, Exchange, Down}
use Rattle.pg_node.specs.PgMessageTypes.declared.message.Request.TheVariants.{SetLock, Change}
use Rattle.pg_node.specs.PgMessageTypes.declared.message.Said.{Said}
use Rattle.pg_node.specs.PgStep.Attempts.{round_of, use_of, count_answer, count_ok, reply_by, waits, tried_again, strange}
use Rattle.pg_node.specs.PgStep.Attempts.{all_granted, none_missing, none_denied, ask, give_up, begin, finish, replies_in, locks_in, go_on}
use Rattle.pg_node.specs.PgStep.Attempts.{new_attempt, attempt, gathered, is_kind, lock_status, counted, reply_under}
use Rattle.pg_node.specs.PgStep.Commands.{OPEN_LIMIT, answer, carried_out, change_by, command as command_in, command_by, count_command}
use Rattle.pg_node.specs.PgStep.Commands.{fault_of, has_foreign_pid, ends_unformed, ends_unmade, look, make, next_op, open_command, refused, undertake}
use Rattle.pg_node.specs.PgStep.Faults.{first_that_holds}
use Rattle.pg_node.specs.PgStep.Machines.Clocked.{Timed, Stamped}
use Rattle.pg_node.specs.PgStep.Nodes.{Node, Nodes, every, greatest}
use Rattle.pg_node.specs.PgStep.Peers.{exchange, is_bad_exchange}
use Rattle.pg_node.specs.PgStep.PgLock.Attempts.{after_round, does_wait}
use Rattle.pg_node.specs.PgStep.PgMulticall.Gathered.{what_of}
use Rattle.pg_node.specs.PgStep.PgMulticall.declared.gather.Taken.{Taken as Heard}
use Rattle.pg_node.specs.PgStep.PgMulticall.declared.gather.Taken.TheVariants as what
use Rattle.pg_node.specs.PgStep.PgRefs.Numbered.{number_in}
use Rattle.pg_node.specs.PgStep.State.{State, Stage, Status, Use, Response, live_nodes}
use Rattle.pg_node.specs.PgStep.State.Response.{Read}
use Rattle.pg_node.specs.PgStep.State.Stage.{Closed, Waiting, Asking, Changing}
use Rattle.pg_node.specs.PgStep.State.Status.{Unasked}
use Rattle.pg_node.specs.PgStep.State.Use.{Locking, Owning, Updating, Fresh, Spent}
use Rattle.pg_node.specs.PgStep.Step.{Action, Issue, Retry, TimedTurn, CLOCK_LIMIT, acted, at_clock, node_acts, node_takes, taken, timed}
use Rattle.pg_node.specs.PgStep.Turns.{NodeTurn, Report, and_then, becomes, first_of}
use Rattle.pg_node.specs.PgStep.declared.answer.Odd.{Odd}
use Rattle.pg_node.specs.PgStep.declared.answer.Odd.TheVariants.{Stranger, Double}
use Rattle.pg_node.specs.PgStep.declared.answer.Reply.{Reply as Answer}
use Rattle.pg_node.specs.PgStep.declared.command.Command.{Command}
use Rattle.pg_node.specs.PgStep.declared.command.Command.TheVariants as command
use Rattle.pg_node.specs.PgStep.declared.command.OpId.{OpId}
use Rattle.pg_node.specs.PgStep.declared.command_fault.CommandFault.{CommandFault}
use Rattle.pg_node.specs.PgStep.declared.command_fault.CommandFault.TheVariants.{AlreadyEnded, Busy, ForeignPid, NameTooLarge, NotFormed, NotMade, ProcessLimit}
use Rattle.pg_node.specs.PgStep.declared.refusal.Refusal.{Refusal}
use Rattle.pg_node.specs.PgStep.declared.refusal.Refusal.TheVariants as refusals
use Rattle.pg_node.specs.PgNodeOpens.Places.{name_at, whole_in}
use Rattle.pg_node_run.specs.Acts.{Given, Took, Saw, Did, act_step}
use Rattle.pg_process.specs.Tables.{NotSaw, applied_taken, began_update, by_update, table_acted, table_after, table_taken}

-- ---- what a turn makes of table and ends

-- it leaves both, applies no update, and begins none
record Quiet (s : State) (t : NodeTurn) : Type 0 where
  table : t.state.table ≡ s.table
  ended : t.state.ended ≡ s.ended
  none : t.reported.applied ≡ None
  began : t.reported.began ≡ None

-- it ends nobody, and applies the update of the command that began, where one did
record Moves (s : State) (t : NodeTurn) : Type 0 where
  table : t.state.table ≡ by_update t.reported.applied s.table s.ended
  ended : t.state.ended ≡ s.ended
  began : t.reported.applied ≡ began_update t.reported.began

-- it leads to this table and these ends, and applies this update
record Leads (to : Table) (ends : Pid → Bool) (update : Option Update) (t : NodeTurn) : Type 0 where
  table : t.state.table ≡ to
  ended : t.state.ended ≡ ends
  applied : t.reported.applied ≡ update

-- a process ends that had not ended, or the turn is quiet
data Finishes (pid : Pid) (s : State) (t : NodeTurn) : Type 0 where
  Stays : Quiet s t → Finishes pid s t
  Ends : s.ended pid ≡ false → t.state.table ≡ without s.table pid → t.state.ended ≡ upd same_pid s.ended pid true
      → t.reported.applied ≡ None → t.reported.began ≡ None → Finishes pid s t

quiet_so : (s : State) (t : NodeTurn) → t.state.table ≡ s.table → t.state.ended ≡ s.ended → t.reported.applied ≡ None → t.reported.began ≡ None → Quiet s t
quiet_so s t table ended none began = record { table = table; ended = ended; none = none; began = began }

moves_quiet : (s : State) (t : NodeTurn) → Quiet s t → Moves s t
moves_quiet s t h = record {
  table = h.table ∙ ap (λ o. by_update o s.table s.ended) (sym h.none);
  ended = h.ended;
  began = h.none ∙ ap began_update (sym h.began);
}

-- ---- one turn after another

no_later : {A : Type 0} (first later : Option A) → later ≡ None → first_of first later ≡ first
no_later None later none = none
no_later (Some x) later none = refl

no_first : {A : Type 0} (first later : Option A) → first ≡ None → first_of first later ≡ later
no_first first later none = ap (λ o. first_of o later) none

module _ (s : State) (t : NodeTurn) (next : State → NodeTurn) where
  quiet_both : Quiet s t → Quiet t.state (next t.state) → Quiet s (and_then t next)
  quiet_both h k = record {
    table = k.table ∙ h.table;
    ended = k.ended ∙ h.ended;
    none = no_first t.reported.applied (next t.state).reported.applied h.none ∙ k.none;
    began = no_first t.reported.began (next t.state).reported.began h.began ∙ k.began;
  }

  moves_behind : Quiet s t → Moves t.state (next t.state) → Moves s (and_then t next)
  moves_behind h k =
      let u = (next t.state).reported in
      let applied : first_of t.reported.applied u.applied ≡ u.applied = no_first t.reported.applied u.applied h.none in
      let began : first_of t.reported.began u.began ≡ u.began = no_first t.reported.began u.began h.began in
      record {
        table = k.table ∙ ap (λ (f : Table). by_update u.applied f t.state.ended) h.table ∙ ap (by_update u.applied s.table) h.ended ∙ ap (λ o. by_update o s.table s.ended) (sym applied);
        ended = k.ended ∙ h.ended;
        began = applied ∙ k.began ∙ ap began_update (sym began);
      }

  moves_before : Moves s t → Quiet t.state (next t.state) → Moves s (and_then t next)
  moves_before h k =
      let u = (next t.state).reported in
      let applied : first_of t.reported.applied u.applied ≡ t.reported.applied = no_later t.reported.applied u.applied k.none in
      let began : first_of t.reported.began u.began ≡ t.reported.began = no_later t.reported.began u.began k.began in
      record {
        table = k.table ∙ h.table ∙ ap (λ o. by_update o s.table s.ended) (sym applied);
        ended = k.ended ∙ h.ended;
        began = applied ∙ h.began ∙ ap began_update (sym began);
      }

  finishes_behind : (pid : Pid) → Quiet s t → Finishes pid t.state (next t.state) → Finishes pid s (and_then t next)
  finishes_behind pid h (Stays k) = Stays (quiet_both h k)
  finishes_behind pid h (Ends living table ended none began) =
      let u = (next t.state).reported in
      Ends (ap (λ (f : Pid → Bool). f pid) (sym h.ended) ∙ living) (table ∙ ap (λ (f : Table). without f pid) h.table)
      (ended ∙ ap (λ (f : Pid → Bool). upd same_pid f pid true) h.ended) (no_first t.reported.applied u.applied h.none ∙ none) (no_first t.reported.began u.began h.began ∙ began)

-- ---- what follows once answers are in

quiet_still : (s : State) → Quiet s (becomes s)
quiet_still s = quiet_so s _ refl refl refl refl

module _ (m : Nodes) where
  quiet_finish : (n : ℕ) (op : OpId) (u : Update) (c : ℕ) (s : State) → Quiet s (finish m n op u c s)
  quiet_finish n op u c s = quiet_so s _ refl refl refl refl

  quiet_ask : (who : Node → Bool) (c : ℕ) (op : OpId) (u : Update) (lead : Node) (st : Node → Status) (s : State) → Quiet s (ask m who c op u lead st s)
  quiet_ask who c op u lead st s = quiet_so s _ refl refl refl refl

  quiet_up : (c : ℕ) (op : OpId) (u : Update) (st : Node → Status) (s : State) → Quiet s (give_up m c op u st s)
  quiet_up c op u st s = quiet_so s _ refl refl refl refl

  moves_begin : (c : ℕ) (op : OpId) (u : Update) (s : State) → Moves s (begin m c op u s)
  moves_begin c op u s = record { table = refl; ended = refl; began = refl }

  replies_quiet : (n : ℕ) (used : Use) (s : State) → Quiet s (replies_in m n used s)
  replies_quiet n (Updating op u c replied) s = go (every m replied)
    where
      go : (b : Bool) → Quiet s (cond b (finish m n op u c s) (becomes s))
      go true = quiet_finish n op u c s
      go false = quiet_still s
  replies_quiet n (Locking op u lead st) s = quiet_still s
  replies_quiet n (Owning name u) s = quiet_still s
  replies_quiet n Fresh s = quiet_still s
  replies_quiet n Spent s = quiet_still s

  still_moves : (s : State) → Moves s (becomes s)
  still_moves s = moves_quiet s _ (quiet_still s)

  locks_move : (c : ℕ) (used : Use) (s : State) → Moves s (locks_in m c used s)
  locks_move c (Locking op u lead st) s = go (all_granted m st) (none_missing m st)
    where
      go : (b d : Bool) → Moves s (cond b (and_then (begin m c op u s) (λ t. replies_in m t.references (t.uses t.references) t)) (cond d (give_up m c op u st s) (becomes s)))
      go true d =
          let t = (begin m c op u s).state in
          moves_before s (begin m c op u s) (λ t. replies_in m t.references (t.uses t.references) t) (moves_begin c op u s) (replies_quiet t.references (t.uses t.references) t)
      go false true = moves_quiet s _ (quiet_up c op u st s)
      go false false = still_moves s
  locks_move c (Updating op u lock replied) s = still_moves s
  locks_move c (Owning name u) s = still_moves s
  locks_move c Fresh s = still_moves s
  locks_move c Spent s = still_moves s

  goes_move : (c : ℕ) (used : Use) (s : State) → Moves s (go_on m c used s)
  goes_move c (Locking op u lead st) s = go (none_missing m st) (does_wait (after_round (round_of lead st) (none_denied m st)))
    where
      go : (b d : Bool) → Moves s (cond b (cond d (give_up m c op u st s) (and_then (ask m (λ _. true) c op u lead st s) (λ t. locks_in m c (t.uses c) t))) (becomes s))
      go true true = moves_quiet s _ (quiet_up c op u st s)
      go true false =
          let t = (ask m (λ _. true) c op u lead st s).state in
          moves_behind s (ask m (λ _. true) c op u lead st s) (λ t. locks_in m c (t.uses c) t) (quiet_ask (λ _. true) c op u lead st s) (locks_move c (t.uses c) t)
      go false d = still_moves s
  goes_move c (Updating op u lock replied) s = still_moves s
  goes_move c (Owning name u) s = still_moves s
  goes_move c Fresh s = still_moves s
  goes_move c Spent s = still_moves s

  -- ---- attempts and retries

  attempt_moves : (op : OpId) (u : Update) (s : State) → Moves s (attempt m op u s)
  attempt_moves op u s =
      let lead = greatest m in
      let t = (new_attempt lead op u s).state in
      let c = t.references in
      let r = (ask m (same_atom lead) c op u lead (λ q. Unasked) t).state in
      moves_behind s (new_attempt lead op u s) (λ t. and_then (ask m (same_atom lead) t.references op u lead (λ q. Unasked) t) (λ r. go_on m t.references (r.uses t.references) r))
      (quiet_so s _ refl refl refl refl)
      (moves_behind t (ask m (same_atom lead) c op u lead (λ q. Unasked) t) (λ r. go_on m c (r.uses c) r) (quiet_ask (same_atom lead) c op u lead (λ q. Unasked) t) (goes_move c (r.uses c) r))

  tries_move : (stage : Stage) (op : OpId) (s : State) → Moves s (tried_again stage m op s)
  tries_move (Waiting u) op s = attempt_moves op u s
  tries_move (Asking c) op s = goes_move c (s.uses c) s
  tries_move (Changing n) op s = moves_quiet s _ (replies_quiet n (s.uses n) s)
  tries_move Closed op s = still_moves s

  -- ---- commands

  quiet_answer : (op : OpId) (response : Response) (s : State) → Quiet s (answer op response s)
  quiet_answer op response s = quiet_so s _ refl refl refl refl

  answer_moves : (op : OpId) (response : Response) (s : State) → Moves s (answer op response s)
  answer_moves op response s = moves_quiet s _ (quiet_answer op response s)

  undertake_moves : (op : OpId) (u : Update) (s : State) → Moves s (undertake m op u s)
  undertake_moves op u s = go (nat_le OPEN_LIMIT s.opened)
    where
      go : (b : Bool) → Moves s (cond b (answer op (refused Busy) s) (and_then (open_command op u s) (attempt m op u)))
      go true = answer_moves op (refused Busy) s
      go false = moves_behind s (open_command op u s) (attempt m op u) (quiet_so s _ refl refl refl refl) (attempt_moves op u (open_command op u s).state)

  change_moves : (looked : Option Answer) (op : OpId) (u : Update) (s : State) → Moves s (change_by looked m op u s)
  change_moves (Some r) op u s = answer_moves op _ s
  change_moves None op u s = undertake_moves op u s

  make_moves : (op : OpId) (s : State) → Moves s (make m op s)
  make_moves op s = moves_quiet s _ (quiet_so s _ refl refl refl refl)

-- the process that a command ends
abbrev pub finished_by : Command → Option Pid
finished_by (command.Finish pid) = Some pid
finished_by c = None

-- what a turn makes of a command, by the process that the command ends
abbrev Issues : Option Pid → State → NodeTurn → Type 0
Issues None s t = Moves s t
Issues (Some pid) s t = Finishes pid s t

quiet_issues : (ends : Option Pid) (s : State) (t : NodeTurn) → Quiet s t → Issues ends s t
quiet_issues None s t h = moves_quiet s t h
quiet_issues (Some pid) s t h = Stays h

issues_behind : (ends : Option Pid) (s : State) (t : NodeTurn) (next : State → NodeTurn) → Quiet s t → Issues ends t.state (next t.state) → Issues ends s (and_then t next)
issues_behind None s t next h k = moves_behind s t next h k
issues_behind (Some pid) s t next h k = finishes_behind s t next pid h k

-- a process whose end no fault refuses has not ended
living_by : (m : Nodes) (s : State) (pid : Pid) → fault_of m s (command.Finish pid) ≡ None → s.ended pid ≡ false
living_by m s pid none = go (has_foreign_pid m (command.Finish pid)) (ends_unformed m s (command.Finish pid)) (ends_unmade s (command.Finish pid)) (s.ended pid) none
  where
    go : (a b c d : Bool) → first_that_holds ((false, NameTooLarge) ∷ (a, ForeignPid) ∷ (b, NotFormed) ∷ (c, NotMade) ∷ (d, AlreadyEnded) ∷ (false, ProcessLimit) ∷ []) ≡ None → d ≡ false
    go true b c d e = absurd (cc)
    go false true c d e = absurd (cc)
    go false false true d e = absurd (cc)
    go false false false true e = absurd (cc)
    go false false false false e = refl

-- the process has not ended
abbrev IsLiving : Option Pid → State → Type 0
IsLiving None s = ⊤
IsLiving (Some pid) s = s.ended pid ≡ false

living_command : (m : Nodes) (s : State) (c : Command) → fault_of m s c ≡ None → IsLiving (finished_by c) s
living_command m s (command.Create name) none = tt
living_command m s (command.Delete name) none = tt
living_command m s (command.Join name pid) none = tt
living_command m s (command.Leave name pid) none = tt
living_command m s command.Make none = tt
living_command m s (command.Finish pid) none = living_by m s pid none
living_command m s (command.Members name) none = tt
living_command m s (command.LocalMembers name) none = tt
living_command m s command.WhichGroups none = tt
living_command m s (command.Closest name word) none = tt

module _ (m : Nodes) where
  carries_out : (op : OpId) (c : Command) (s : State) → IsLiving (finished_by c) s → Issues (finished_by c) s (carried_out m op c s)
  carries_out op (command.Create name) s living = change_moves m (look (s.table name) (update.Create name)) op (update.Create name) s
  carries_out op (command.Delete name) s living = change_moves m (look (s.table name) (update.Delete name)) op (update.Delete name) s
  carries_out op (command.Join name pid) s living = change_moves m (look (s.table name) (update.Join name pid)) op (update.Join name pid) s
  carries_out op (command.Leave name pid) s living = change_moves m (look (s.table name) (update.Leave name pid)) op (update.Leave name pid) s
  carries_out op command.Make s living = make_moves m op s
  carries_out op (command.Finish pid) s living = Ends living refl refl refl refl
  carries_out op (command.Members name) s living = answer_moves m op (Read (command.Members name) s.table) s
  carries_out op (command.LocalMembers name) s living = answer_moves m op (Read (command.LocalMembers name) s.table) s
  carries_out op command.WhichGroups s living = answer_moves m op (Read command.WhichGroups s.table) s
  carries_out op (command.Closest name word) s living = answer_moves m op (Read (command.Closest name word) s.table) s

  issues_command : (whole : Nodes) (port : ℕ) (c : Command) (s : State) → Issues (finished_by c) s (command_in whole m port c s)
  issues_command whole port c s =
      issues_behind (finished_by c) s (count_command port s) (command_by (fault_of whole s c) m (next_op port s) c) (quiet_so s _ refl refl refl refl) (go (fault_of whole s c) refl)
    where
      t : State
      t = (count_command port s).state

      living : (ends : Option Pid) → IsLiving ends s → IsLiving ends t
      living None is = tt
      living (Some pid) is = is

      go : (f : Option CommandFault) → fault_of whole s c ≡ f → Issues (finished_by c) t (command_by f m (next_op port s) c t)
      go (Some fault) is = quiet_issues (finished_by c) t _ (quiet_answer m (next_op port s) (refused fault) t)
      go None is = carries_out (next_op port s) c t (living (finished_by c) (living_command whole s c is))

-- ---- actions

abbrev Acts : Action → State → NodeTurn → Type 0
Acts (Issue port c) s t = Issues (finished_by c) s t
Acts (Retry op) s t = Moves s t

-- the turn is of this kind, where one is made
abbrev IfMade : (NodeTurn → Type 0) → Result NodeTurn Refusal → Type 0
IfMade P (Ok t) = P t
IfMade P (Err f) = ⊤

acts_so : (whole m : Nodes) (ports : ℕ) (action : Action) (s : State) → IfMade (Acts action s) (acted whole m ports action s)
acts_so whole m ports (Issue port c) s = go (nat_lt port ports)
  where
    go : (b : Bool) → IfMade (Issues (finished_by c) s) (cond b (Ok (command_in whole m port c s)) (Err refusals.NoSuchPlace))
    go true = issues_command m whole port c s
    go false = tt
acts_so whole m ports (Retry op) s = go (nat_lt op.port ports) (waits m (s.stages op) s)
  where
    go : (b d : Bool) → IfMade (Moves s) (cond b (cond d (Ok (tried_again (s.stages op) m op s)) (Err refusals.NotWaiting)) (Err refusals.NoSuchPlace))
    go false d = tt
    go true false = tt
    go true true = tries_move m (s.stages op) op s

-- ---- packets

abbrev Takes : Message → State → NodeTurn → Type 0
Takes (Call reference (SetLock name)) s t = Leads s.table s.ended None t
Takes (Call reference (Change u)) s t = Leads (changed s.table u s.ended) s.ended (Some u) t
Takes (Reply reference said) s t = Moves s t
Takes (DelLock name reference) s t = Leads s.table s.ended None t
Takes (Exchange node groups) s t = Leads (all_merged s.table groups s.ended) s.ended None t
Takes (Down pid) s t = Leads (without s.table pid) (upd same_pid s.ended pid true) None t

leads_so : (table : Table) (ended : Pid → Bool) (applied : Option Update) (t : NodeTurn) → t.state.table ≡ table → t.state.ended ≡ ended → t.reported.applied ≡ applied
    → Leads table ended applied t
leads_so table ended applied t is ends applies = record { table = is; ended = ends; applied = applies }

module _ (m : Nodes) (p : Node) where
  counted_moves : (used : Use) (c : ℕ) (said : Said) (s : State) → Moves s (counted used m p c said s)
  counted_moves (Locking op u lead st) c said s =
      let t = (count_answer c op u lead st p (lock_status said) s).state in
      moves_behind s (count_answer c op u lead st p (lock_status said) s) (λ t. go_on m c (t.uses c) t) (quiet_so s _ refl refl refl refl) (goes_move m c (t.uses c) t)
  counted_moves (Updating op u lock replied) n said s =
      let t = (count_ok n op u lock replied p s).state in
      moves_quiet s _ (quiet_both s (count_ok n op u lock replied p s) (λ t. replies_in m n (t.uses n) t) (quiet_so s _ refl refl refl refl) (replies_quiet m n (t.uses n) t))
  counted_moves (Owning name u) c said s = still_moves m s
  counted_moves Fresh c said s = still_moves m s
  counted_moves Spent c said s = still_moves m s

  strange_moves : (odd : Odd) (s : State) → Moves s (strange odd s)
  strange_moves odd s = moves_quiet s _ (quiet_so s _ refl refl refl refl)

  reply_moves : (used : Use) (c : ℕ) (said : Said) (s : State) → IfMade (Moves s) (reply_under used m p c said s)
  reply_moves used c said s = go (what_of true (gathered used p)) (is_kind used said)
    where
      go : (w : Heard) (kind : Bool) → IfMade (Moves s) (reply_by w kind used m p c said s)
      go what.Stranger kind = strange_moves Stranger s
      go what.Double true = strange_moves Double s
      go what.Double false = tt
      go what.Counted true = counted_moves used c said s
      go what.Counted false = tt

  takes_so : (x : Message) (s : State) → IfMade (Takes x s) (taken m p x s)
  takes_so (Call reference (SetLock name)) s = leads_so s.table s.ended None _ refl refl refl
  takes_so (Call reference (Change u)) s = leads_so (changed s.table u s.ended) s.ended (Some u) _ refl refl refl
  takes_so (Reply reference said) s = reply_moves (use_of m reference s) (number_in reference) said s
  takes_so (DelLock name reference) s = leads_so s.table s.ended None _ refl refl refl
  takes_so (Exchange node groups) s = go (is_bad_exchange p node s)
    where
      go : (b : Bool) → IfMade (Takes (Exchange node groups) s) (cond b (Err refusals.NotAMessage) (Ok (exchange p groups s)))
      go true = tt
      go false = leads_so (all_merged s.table groups s.ended) s.ended None (exchange p groups s) refl refl refl
  takes_so (Down pid) s = leads_so (without s.table pid) (upd same_pid s.ended pid true) None _ refl refl refl

-- ---- with clock

-- a turn of this kind, at a clock
record MadeBy (P : NodeTurn → Type 0) (turn : TimedTurn) : Type 0 where
  clock : ℕ
  plain : NodeTurn
  is : turn ≡ at_clock clock plain
  so : P plain

abbrev Gives : Result TimedTurn Refusal → TimedTurn → Type 0
Gives r turn = r ≡ Ok turn

ok_is : (x y : TimedTurn) → Gives (Ok x) y → x ≡ y
ok_is x y e = cc

-- where a refusal is told, or a full clock, no turn is made
unmade : (b : Bool) (fault : Refusal) (turn : TimedTurn) → Gives (cond b (Err fault) (Err refusals.ClockFull)) turn → ⊥
unmade true fault turn e = absurd (cc)
unmade false fault turn e = absurd (cc)

made_by : (P : NodeTurn → Type 0) (clock : ℕ) (r : Result NodeTurn Refusal) (turn : TimedTurn) → IfMade P r → timed clock r ≡ Ok turn → MadeBy P turn
made_by P clock (Ok t) turn so e = go (nat_le clock CLOCK_LIMIT) e
  where
    go : (b : Bool) → Gives (cond b (Ok (at_clock clock t)) (Err refusals.ClockFull)) turn → MadeBy P turn
    go true e = record { clock = clock; plain = t; is = sym (ok_is (at_clock clock t) turn e); so = so }
    go false e = absurd (cc)
made_by P clock (Err refusals.NoSuchPlace) turn so e = absurd (cc)
made_by P clock (Err refusals.NodeLost) turn so e = absurd (cc)
made_by P clock (Err refusals.NotWaiting) turn so e = absurd (cc)
made_by P clock (Err refusals.NotAMessage) turn so e = absurd (unmade (nat_le clock CLOCK_LIMIT) refusals.NotAMessage turn e)
made_by P clock (Err refusals.NotDrained) turn so e = absurd (unmade (nat_le clock CLOCK_LIMIT) refusals.NotDrained turn e)
made_by P clock (Err refusals.NotLost) turn so e = absurd (unmade (nat_le clock CLOCK_LIMIT) refusals.NotLost turn e)
made_by P clock (Err refusals.ClockFull) turn so e = absurd (unmade (nat_le clock CLOCK_LIMIT) refusals.ClockFull turn e)

-- what a turn makes of what the node was given
abbrev Does : Given → State → NodeTurn → Type 0
Does (Took p x) s t = Takes x.packet s t
Does (Saw p last) s t = ⊥
Does (Did action) s t = Acts action s t

act_does : (names : List Node) (ports : ℕ) (s : Timed State) (input : Given) (turn : TimedTurn) → act_step names ports s input ≡ Ok turn → NotSaw input → MadeBy (Does input s.state) turn
act_does names ports s (Took p x) turn made other =
    made_by (Takes x.packet s.state) (max s.clock x.stamp + 1) (node_takes (whole_in names) (name_at names (p + 1)) x.packet s.state) turn (go (s.state.lost (name_at names (p + 1)))) made
  where
    m : Nodes
    m = live_nodes (whole_in names) s.state

    go : (b : Bool) → IfMade (Takes x.packet s.state) (cond b (Err refusals.NodeLost) (taken m (name_at names (p + 1)) x.packet s.state))
    go true = tt
    go false = takes_so m (name_at names (p + 1)) x.packet s.state
act_does names ports s (Saw p last) turn made other = absurd other
act_does names ports s (Did action) turn made other =
    made_by (Acts action s.state) (s.clock + 1) (node_acts (whole_in names) ports action s.state) turn (acts_so (whole_in names) (live_nodes (whole_in names) s.state) ports action s.state) made

-- what holds of each turn of a kind holds of the turn of an act
of_act : (names : List Node) (ports : ℕ) (s : Timed State) (input : Given) (turn : TimedTurn) (Q : State → Report → Type 0) → act_step names ports s input ≡ Ok turn → NotSaw input
    → ((t : NodeTurn) → Does input s.state t → Q t.state t.reported) → Q turn.state.state turn.reported
of_act names ports s input turn Q made other each =
    let h = act_does names ports s input turn made other in
    subst (λ (x : TimedTurn). Q x.state.state x.reported) (sym h.is) (each h.plain h.so)

-- ---- the table

leads_to : (s : State) (ended : Pid → Bool) (o : Option Update) (t : NodeTurn) → Leads (by_update o s.table s.ended) ended o t → t.state.table ≡ by_update t.reported.applied s.table s.ended
leads_to s ended o t h = h.table ∙ ap (λ o. by_update o s.table s.ended) (sym h.applied)

table_of_takes : (x : Message) (s : State) (t : NodeTurn) → Takes x s t → t.state.table ≡ table_taken x t.reported.applied s
table_of_takes (Call reference (SetLock name)) s t h = leads_to s s.ended None t h
table_of_takes (Call reference (Change u)) s t h = leads_to s s.ended (Some u) t h
table_of_takes (Reply reference said) s t h = h.table
table_of_takes (DelLock name reference) s t h = leads_to s s.ended None t h
table_of_takes (Exchange node groups) s t h = h.table
table_of_takes (Down pid) s t h = h.table

never_both : {A : Type 0} (b : Bool) (x y : A) → cond (b && not b) x y ≡ y
never_both true x y = refl
never_both false x y = refl

just_ended : {A : Type 0} (now before : Bool) (x y : A) → now ≡ true → before ≡ false → cond (now && not before) x y ≡ x
just_ended true false x y now before = refl
just_ended true true x y now before = absurd (cc)
just_ended false before x y now was = absurd (cc)

ended_now : (s : State) (pid : Pid) → upd same_pid s.ended pid true pid ≡ true
unfolding upd
ended_now s pid = ap (λ b. cond b true (s.ended pid)) (pid_laws.laws-law.refl pid)

table_of_finish : (pid : Pid) (s : State) (t : NodeTurn) → Finishes pid s t → t.state.table ≡ cond (t.state.ended pid && not (s.ended pid)) (without s.table pid) s.table
table_of_finish pid s t (Stays h) =
    h.table ∙ sym (ap (λ (f : Pid → Bool). cond (f pid && not (s.ended pid)) (without s.table pid) s.table) h.ended ∙ never_both (s.ended pid) (without s.table pid) s.table)
table_of_finish pid s t (Ends living table ended none began) =
    table ∙ sym (just_ended (t.state.ended pid) (s.ended pid) (without s.table pid) s.table (ap (λ (f : Pid → Bool). f pid) ended ∙ ended_now s pid) living)

table_of_acts : (action : Action) (s : State) (t : NodeTurn) → Acts action s t → t.state.table ≡ table_acted action t.reported.applied s t.state.ended
table_of_acts (Issue port (command.Create name)) s t h = h.table
table_of_acts (Issue port (command.Delete name)) s t h = h.table
table_of_acts (Issue port (command.Join name pid)) s t h = h.table
table_of_acts (Issue port (command.Leave name pid)) s t h = h.table
table_of_acts (Issue port command.Make) s t h = h.table
table_of_acts (Issue port (command.Finish pid)) s t h = table_of_finish pid s t h
table_of_acts (Issue port (command.Members name)) s t h = h.table
table_of_acts (Issue port (command.LocalMembers name)) s t h = h.table
table_of_acts (Issue port command.WhichGroups) s t h = h.table
table_of_acts (Issue port (command.Closest name word)) s t h = h.table
table_of_acts (Retry op) s t h = h.table

table_of : (input : Given) (s : State) (t : NodeTurn) → Does input s t → t.state.table ≡ table_after input t.reported.applied s t.state.ended
table_of (Took p x) s t h = table_of_takes x.packet s t h
table_of (Saw p last) s t h = absurd h
table_of (Did action) s t h = table_of_acts action s t h

-- The table that an act leaves is told by what it was given, the update that it reports, and who has ended behind it.
pub table_moves : (names : List Node) (ports : ℕ) (s : Timed State) (input : Given) (turn : TimedTurn) → act_step names ports s input ≡ Ok turn → NotSaw input
    → turn.state.state.table ≡ table_after input turn.reported.applied s.state turn.state.state.ended
table_moves names ports s input turn made other =
    of_act names ports s input turn (λ t reported. t.table ≡ table_after input reported.applied s.state t.ended) made other (table_of input s.state)

-- ---- what is applied

-- the update that an act applies
abbrev pub applied_by : Given → Option (OpId × Update) → Option Update
applied_by (Took p x) began = applied_taken x.packet began
applied_by (Saw p last) began = None
applied_by (Did action) began = began_update began

applies_taken : (x : Message) (s : State) (t : NodeTurn) → Takes x s t → t.reported.applied ≡ applied_taken x t.reported.began
applies_taken (Call reference (SetLock name)) s t h = h.applied
applies_taken (Call reference (Change u)) s t h = h.applied
applies_taken (Reply reference said) s t h = h.began
applies_taken (DelLock name reference) s t h = h.applied
applies_taken (Exchange node groups) s t h = h.applied
applies_taken (Down pid) s t h = h.applied

applies_issued : (ends : Option Pid) (s : State) (t : NodeTurn) → Issues ends s t → t.reported.applied ≡ began_update t.reported.began
applies_issued None s t h = h.began
applies_issued (Some pid) s t (Stays h) = h.none ∙ ap began_update (sym h.began)
applies_issued (Some pid) s t (Ends living table ended none began) = none ∙ ap began_update (sym began)

applies : (input : Given) (s : State) (t : NodeTurn) → Does input s t → t.reported.applied ≡ applied_by input t.reported.began
applies (Took p x) s t h = applies_taken x.packet s t h
applies (Saw p last) s t h = absurd h
applies (Did (Issue port c)) s t h = applies_issued (finished_by c) s t h
applies (Did (Retry op)) s t h = h.began

module _ (names : List Node) (ports : ℕ) (s : Timed State) where
  pub applies_so : (input : Given) (turn : TimedTurn) → act_step names ports s input ≡ Ok turn → NotSaw input → turn.reported.applied ≡ applied_by input turn.reported.began
  applies_so input turn made other = of_act names ports s input turn (λ t reported. reported.applied ≡ applied_by input reported.began) made other (applies input s.state)

  -- an action applies the update of the command that it begins
  pub applies_what_began : (action : Action) (turn : TimedTurn) → act_step names ports s (Did action) ≡ Ok turn → turn.reported.applied ≡ began_update turn.reported.began
  applies_what_began action turn made = applies_so (Did action) turn made tt

  module _ (p : ℕ) (x : Stamped Message) (turn : TimedTurn) (made : act_step names ports s (Took p x) ≡ Ok turn) where
    applies_packet : (y : Message) → x.packet ≡ y → turn.reported.applied ≡ applied_taken y turn.reported.began
    applies_packet y is = applies_so (Took p x) turn made tt ∙ ap (λ z. applied_taken z turn.reported.began) is

    -- so does a reply
    pub reply_applies : (reference : RefParts) (said : Said) → x.packet ≡ Reply reference said → turn.reported.applied ≡ began_update turn.reported.began
    reply_applies reference said is = applies_packet (Reply reference said) is

    -- a request for an update applies it
    pub change_applies : (reference : RefParts) (u : Update) → x.packet ≡ Call reference (Change u) → turn.reported.applied ≡ Some u
    change_applies reference u is = applies_packet (Call reference (Change u)) is

    -- the other packets apply none
    pub lock_applies_none : (reference : RefParts) (name : Term) → x.packet ≡ Call reference (SetLock name) → turn.reported.applied ≡ None
    lock_applies_none reference name is = applies_packet (Call reference (SetLock name)) is

    pub freed_applies_none : (name : Term) (reference : RefParts) → x.packet ≡ DelLock name reference → turn.reported.applied ≡ None
    freed_applies_none name reference is = applies_packet (DelLock name reference) is

    pub exchange_applies_none : (node : Node) (groups : GroupList) → x.packet ≡ Exchange node groups → turn.reported.applied ≡ None
    exchange_applies_none node groups is = applies_packet (Exchange node groups) is

    pub down_applies_none : (pid : Pid) → x.packet ≡ Down pid → turn.reported.applied ≡ None
    down_applies_none pid is = applies_packet (Down pid) is

-- ---- who has ended

abbrev pub down_of : Message → Option Pid
down_of (Down pid) = Some pid
down_of message = None

-- the process that an act may end
abbrev pub end_in : Given → Option Pid
end_in (Took p x) = down_of x.packet
end_in (Saw p last) = None
end_in (Did (Issue port c)) = finished_by c
end_in (Did (Retry op)) = None

stays_taken : (x : Message) (s : State) (t : NodeTurn) → Takes x s t → down_of x ≡ None → t.state.ended ≡ s.ended
stays_taken (Call reference (SetLock name)) s t h none = h.ended
stays_taken (Call reference (Change u)) s t h none = h.ended
stays_taken (Reply reference said) s t h none = h.ended
stays_taken (DelLock name reference) s t h none = h.ended
stays_taken (Exchange node groups) s t h none = h.ended
stays_taken (Down pid) s t h none = absurd (cc)

stays_issued : (ends : Option Pid) (s : State) (t : NodeTurn) → Issues ends s t → ends ≡ None → t.state.ended ≡ s.ended
stays_issued None s t h none = h.ended
stays_issued (Some pid) s t h none = absurd (cc)

stays : (input : Given) (s : State) (t : NodeTurn) → Does input s t → end_in input ≡ None → t.state.ended ≡ s.ended
stays (Took p x) s t h none = stays_taken x.packet s t h none
stays (Saw p last) s t h none = absurd h
stays (Did (Issue port c)) s t h none = stays_issued (finished_by c) s t h none
stays (Did (Retry op)) s t h none = h.ended

ends_taken : (x : Message) (pid : Pid) (s : State) (t : NodeTurn) → x ≡ Down pid → Takes x s t → t.state.ended ≡ upd same_pid s.ended pid true
ends_taken x pid s t is h = (subst (λ y. Takes y s t) is h).ended

-- nobody ends, or the process, which had not ended
abbrev pub MayEnd : Pid → (Pid → Bool) → (Pid → Bool) → Type 0
MayEnd pid before after = (after ≡ before) ⊎ ((before pid ≡ false) × (after ≡ upd same_pid before pid true))

ends_issued : (pid : Pid) (s : State) (t : NodeTurn) → Finishes pid s t → MayEnd pid s.ended t.state.ended
ends_issued pid s t (Stays h) = inl h.ended
ends_issued pid s t (Ends living table ended none began) = inr (living, ended)

module _ (names : List Node) (ports : ℕ) (s : Timed State) where
  -- an act that can end no process ends none
  pub ended_stays : (input : Given) (turn : TimedTurn) → act_step names ports s input ≡ Ok turn → NotSaw input → end_in input ≡ None → turn.state.state.ended ≡ s.state.ended
  ended_stays input turn made other none = of_act names ports s input turn (λ t reported. t.ended ≡ s.state.ended) made other (λ t h. stays input s.state t h none)

  -- where a peer tells the end of a process, that process is added to the ended
  pub ended_by_down : (p : ℕ) (x : Stamped Message) (pid : Pid) (turn : TimedTurn) → x.packet ≡ Down pid → act_step names ports s (Took p x) ≡ Ok turn
      → turn.state.state.ended ≡ upd same_pid s.state.ended pid true
  ended_by_down p x pid turn is made = of_act names ports s (Took p x) turn (λ t reported. t.ended ≡ upd same_pid s.state.ended pid true) made tt (λ t h. ends_taken x.packet pid s.state t is h)

  -- a command to end a process ends it, or is refused
  pub ended_by_finish : (port : ℕ) (pid : Pid) (turn : TimedTurn) → act_step names ports s (Did (Issue port (command.Finish pid))) ≡ Ok turn
      → MayEnd pid s.state.ended turn.state.state.ended
  ended_by_finish port pid turn made = of_act names ports s (Did (Issue port (command.Finish pid))) turn (λ t reported. MayEnd pid s.state.ended t.ended) made tt (ends_issued pid s.state)
