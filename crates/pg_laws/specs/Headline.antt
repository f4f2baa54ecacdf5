-- What is true of each world that the nodes of a configuration come to, whatever is done there and in whatever order
-- packets are taken: one history of each group.
use Rattle.std.specs.Prelude.{◌≡◌, ◌≢◌, ◌⊎◌, ℕ, ◌+◌, ◌<◌, ◌≤◌, true, false}
use Rattle.std.specs.Prelude.{List, ◌∷◌, ◌++◌, [], length, take, Some, None}
use Rattle.std.specs.List.{AllByRecursion}
use Rattle.pg_term.specs.declared.pid.Pid.{Pid}
use Rattle.pg_term.specs.declared.term.Term.{Term}
use Rattle.pg_step.specs.PgGroup.Value.{less}
use Rattle.pg_step.specs.PgRefs.Numbered.{numbered}
use Rattle.pg_step.specs.PgLock.Locks.{is_holder}
use Rattle.pg_step.specs.PgMessageTypes.declared.message.Message.{Message}
use Rattle.pg_step.specs.declared.command.Command.{Command}
use Rattle.pg_step.specs.declared.command.OpId.{OpId}
use Rattle.pg_step.specs.Machines.Clocked.{plain}
use Rattle.pg_step.specs.Machines.Machine.{Event, Taken, Do}
use Rattle.pg_step.specs.Machines.Places.{is_place, is_pair}
use Rattle.pg_step.specs.Turns.{Report}
use Rattle.pg_step.specs.Step.{Action, Issue}
use Rattle.pg_step.specs.State.{Response}
use Rattle.pg_step.specs.State.Response.{Read}
use Rattle.pg_step.specs.StepLaws.{is_query}
use Rattle.pg_step.specs.Config.{Config, name_at}
use Rattle.pg_step.specs.FrameMachine.{node_step, FrameWorld}
use Rattle.pg_laws.specs.History.{Entry, entries, history, updates_of, applied_by, applied_count, answered_count}
use Rattle.pg_laws.specs.History.{times, replay, known, base, command_at, answers_by, has_answer, answers_to}
use Rattle.pg_laws.specs.History.{IsAnsweredOk, ok_means_lock, is_formed, has_groups, LockFree, NonePending}
use Rattle.pg_step.specs.Commands.{change_of, has_large_name, next_op}
use Rattle.pg_laws.specs.Exclusive.{ExclusiveLocks}
use Rattle.pg_laws.specs.Reached.{Reaches, TimedFrameWorld}
use Rattle.pg_laws.specs.RealTime.{InRealTime}

-- Each answered change stands, once, in one history.
pub record HoldsAnswered (config : Config) (events : List (Event Action)) (w : FrameWorld) : Type 0 where
  -- a change that was answered behind its lock stands there once, and it is answered once
  pub answered : (i : ℕ) (op : OpId) → 0 < answered_count i op w.reported → times i op (entries w.reported) ≡ 1
  pub answered_once : (i : ℕ) (op : OpId) → answered_count i op w.reported ≤ 1
  -- no command stands there more than once
  pub at_most_once : (i : ℕ) (op : OpId) → times i op (entries w.reported) ≤ 1
  -- an entry that is not answered yet is the last of its group
  pub one_more : (name : Term) (before after : List Entry) (e : Entry) → history name w.reported ≡ before ++ e ∷ after
      → answered_count e.node e.op w.reported ≡ 0 → after ≡ []
  -- and it has every grant: one reference of its node holds the lock of the group at each node
  pub granted : (name : Term) (before after : List Entry) (e : Entry) → history name w.reported ≡ before ++ e ∷ after
      → answered_count e.node e.op w.reported ≡ 0
      → (c : ℕ) × ((x : ℕ) → is_place (length config) x ≡ true → is_holder ((w.node x).locks name) (numbered (name_at config e.node) c) ≡ true)
  -- each entry is the change that was asked for by that command of that node, which was taken before
  pub given : (before after : List Entry) (e : Entry) → entries w.reported ≡ before ++ e ∷ after
      → (c : Command) × (command_at e.node e.op events ≡ Some c) × (change_of c ≡ Some e.update)
  -- a command that was refused, or answered by the look, does not stand there
  pub not_looked : (i : ℕ) (op : OpId) → has_answer op (answers_by i w.reported) ≡ true → answered_count i op w.reported ≡ 0 → times i op (entries w.reported) ≡ 0
  -- no command has two answers
  pub one_answer : (i : ℕ) (op : OpId) → answers_to op (answers_by i w.reported) ≤ 1
  -- a change that was answered behind its lock was answered ok
  pub answered_ok : (i : ℕ) (op : OpId) → 0 < answered_count i op w.reported → IsAnsweredOk op (answers_by i w.reported)
  -- a delete, a join or a leave that was answered ok was answered behind its lock
  pub ok_behind_lock : (i : ℕ) (op : OpId) (c : Command) → command_at i op events ≡ Some c → ok_means_lock c ≡ true
      → IsAnsweredOk op (answers_by i w.reported) → 0 < answered_count i op w.reported

-- What each node has applied of the history of a group.
pub record AppliesHistory (config : Config) (w : FrameWorld) : Type 0 where
  -- the updates of the history from its beginning, in their order, and nothing else
  pub order : (i : ℕ) (name : Term) → is_place (length config) i ≡ true
      → applied_by i name w.reported ≡ take (applied_count i name w.reported) (updates_of (history name w.reported))
  -- the whole of it, or all but its last update
  pub applied : (i : ℕ) (name : Term) → is_place (length config) i ≡ true
      → (applied_count i name w.reported ≡ length (history name w.reported)) ⊎ (applied_count i name w.reported + 1 ≡ length (history name w.reported))
  -- an answered update was applied by each node
  pub everywhere : (i : ℕ) (name : Term) (before after : List Entry) (e : Entry) → is_place (length config) i ≡ true
      → history name w.reported ≡ before ++ e ∷ after → 0 < answered_count e.node e.op w.reported
      → length before < applied_count i name w.reported
  -- where one node sees the lock free, every node has applied the whole
  pub free : (i x : ℕ) (name : Term) → is_place (length config) i ≡ true → is_place (length config) x ≡ true
      → LockFree w x name → applied_count i name w.reported ≡ length (history name w.reported)

-- What the tables are.
pub record HasTables (config : Config) (w : FrameWorld) : Type 0 where
  -- a formed node's: what all nodes began with, after the updates that the node has applied, less the ends that it took
  pub formed : (i : ℕ) (name : Term) → is_place (length config) i ≡ true → is_formed config w i ≡ true
      → (w.node i).table name ≡ less
      (replay (base config name) (take (applied_count i name w.reported) (updates_of (history name w.reported)))) (w.node i).ended
  -- an unformed node's: what it and those began with whose exchange it took, less the ends that it took
  pub unformed : (i : ℕ) (name : Term) → is_place (length config) i ≡ true → is_formed config w i ≡ false
      → (w.node i).table name ≡ less (known (has_groups config w i) name config) (w.node i).ended
  -- while one node is unformed no update has every grant
  pub nothing_yet : (i : ℕ) → is_place (length config) i ≡ true → is_formed config w i ≡ false → entries w.reported ≡ []
  -- formed nodes agree on a group where one node sees its lock free and no end is pending
  pub agree : (i j x : ℕ) (name : Term) → is_place (length config) i ≡ true → is_place (length config) j ≡ true
      → is_place (length config) x ≡ true → is_formed config w i ≡ true → is_formed config w j ≡ true
      → LockFree w x name → NonePending config w → (w.node i).table name ≡ (w.node j).table name
  -- each end is at its home
  pub home : (i : ℕ) (pid : Pid) → is_place (length config) i ≡ true → (w.node i).ended pid ≡ true
      → (h : ℕ) × (is_place (length config) h ≡ true) × (pid.node ≡ name_at config h) × ((w.node h).ended pid ≡ true)

-- Nobody is harmed: no reply is a stranger's or a double, and no packet on the way will be refused, but by a full clock.
pub record HarmsNobody (config : Config) (w : FrameWorld) : Type 0 where
  pub replies : AllByRecursion (λ (t : ℕ × Report). t.1.odd ≡ None) w.reported
  pub packets : (i p : ℕ) (x : Message) (rest : List Message) → is_pair (length config) i p ≡ true
      → w.wire p i ≡ x ∷ rest → node_step config i (w.node i) (Taken p x) ≢ None

-- A later world's history of each group is that of the earlier one, and more.
abbrev pub GoesOn : FrameWorld → FrameWorld → Type 0
GoesOn w v = (name : Term) → (more : List Entry) × (history name v.reported ≡ history name w.reported ++ more)

-- Of a world w to which events led, and of each world m that the first of them had led to.
pub record GoesOnFromAll (config : Config) (events : List (Event Action)) (w : FrameWorld) : Type 0 where
  -- the history of each group is that of m, and more
  pub grown : (first last : List (Event Action)) (m : TimedFrameWorld) → events ≡ first ++ last → Reaches config first m → GoesOn (plain m) w
  -- a query came in then whose name can be sent: its answer, the next of its port, is what it read in its node's table then, formed or not
  pub read : (first last : List (Event Action)) (m : TimedFrameWorld) (i port : ℕ) (c : Command) → events ≡ first ++ Do i (Issue port c) ∷ last → Reaches config first m
      → is_query c ≡ true → has_large_name c ≡ false
      → (more : List (ℕ × Response)) × (answers_by i w.reported port ≡ answers_by i (plain m).reported port
      ++ ((next_op port ((plain m).node i)).number, Read c ((plain m).node i).table) ∷ more)

-- The headline, of a world and the events that led to it.
pub record OneHistory (config : Config) (events : List (Event Action)) (w : FrameWorld) : Type 0 where
  pub answered : HoldsAnswered config events w
  pub applies : AppliesHistory config w
  pub tables : HasTables config w
  pub from_all : GoesOnFromAll config events w
  pub real_time : InRealTime config events w
  pub exclusive : ExclusiveLocks config (is_place (length config)) w.node
  pub harmless : HarmsNobody config w
