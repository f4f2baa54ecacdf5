-- What is true of each world that nodes come to which can be lost, whoever is lost and whenever: what the laws say of one world.
use Rattle.std.specs.Prelude.{◌≡◌, ◌≢◌, ℕ, ◌<◌, ◌≤◌, true, false, length, List, [], ◌∷◌, ◌++◌, Some, None}
use Rattle.std.specs.List.{AllByRecursion}
use Rattle.pg_term.specs.declared.pid.Pid.{Pid}
use Rattle.pg_term.specs.declared.term.Term.{Term}
use Rattle.pg_laws.specs.PgGroup.Value.{NoneEnded}
use Rattle.pg_laws.specs.PgEnds.Numbers.{is_among}
use Rattle.pg_laws.specs.PgRefs.Numbered.{numbered}
use Rattle.pg_laws.specs.PgLock.Locks.{is_holder}
use Rattle.pg_laws.specs.PgMessageTypes.declared.message.Message.{Message}
use Rattle.pg_laws.specs.PgStep.Machines.Clocked.{plain}
use Rattle.pg_laws.specs.PgStep.Machines.Losing.{LosingEvent, Noticed}
use Rattle.pg_laws.specs.PgStep.Machines.Machine.{Taken}
use Rattle.pg_laws.specs.PgStep.Machines.Places.{is_pair, is_place}
use Rattle.pg_laws.specs.PgStep.declared.command.Command.{Command}
use Rattle.pg_laws.specs.PgStep.declared.command.OpId.{OpId}
use Rattle.pg_laws.specs.PgStep.Commands.{change_of}
use Rattle.pg_laws.specs.PgStep.Config.{Config, name_at, nodes_at}
use Rattle.pg_laws.specs.PgStep.FrameMachine.{losing_machine_of}
use Rattle.pg_laws.specs.PgStep.LossLaws.{LosingFrameWorld}
use Rattle.pg_laws.specs.PgStep.State.{formed}
use Rattle.pg_laws.specs.PgStep.Step.{Action}
use Rattle.pg_laws.specs.PgStep.Turns.{Report}
use Rattle.pg_laws.specs.Counted.{CountsCommands}
use Rattle.pg_laws.specs.History.{Entry, IsAnsweredOk, answered_count, answers_by, answers_to, applied_by}
use Rattle.pg_laws.specs.History.{command_at, entries, has_answer, history, ok_means_lock, times}
use Rattle.pg_laws.specs.Exclusive.{ExclusiveLocks}
use Rattle.pg_laws.specs.RealTime.{StandsBefore}
use Rattle.pg_laws.specs.WithLosses.{FormedAtLosses, NoLockOfLost, NonePendingLive, HasTablesPastLosses}
use Rattle.pg_laws_losses.specs.Agreeing.{EndedHome, SawAll}
use Rattle.pg_laws_losses.specs.Reached.{lives_in, LosingReaches, nodes_of, steps_of}
use Rattle.pg_laws_losses.specs.Thinned.{AppliesThinned}

-- Each answered change stands, once.
pub record StandsAnswered (events : List (LosingEvent Action)) (w : LosingFrameWorld) : Type 0 where
  -- a change that was answered behind its lock stands among the entries once, and it is answered once
  pub answered : (i : ℕ) (op : OpId) → 0 < answered_count i op w.world.reported → times i op (entries w.world.reported) ≡ 1
  pub answered_once : (i : ℕ) (op : OpId) → answered_count i op w.world.reported ≤ 1
  -- no command stands there more than once
  pub at_most_once : (i : ℕ) (op : OpId) → times i op (entries w.world.reported) ≤ 1
  -- each entry is the change that was asked for by that command of that node, which came in before
  pub given : (before after : List Entry) (e : Entry) → entries w.world.reported ≡ before ++ e ∷ after
      → (c : Command) × (command_at e.node e.op (steps_of events) ≡ Some c) × (change_of c ≡ Some e.update)
  -- a command that was refused, or answered by the look, does not stand there
  pub not_looked : (i : ℕ) (op : OpId) → has_answer op (answers_by i w.world.reported) ≡ true → answered_count i op w.world.reported ≡ 0 → times i op (entries w.world.reported) ≡ 0
  -- no command has two answers
  pub one_answer : (i : ℕ) (op : OpId) → answers_to op (answers_by i w.world.reported) ≤ 1
  -- a change that was answered behind its lock was answered ok
  pub answered_ok : (i : ℕ) (op : OpId) → 0 < answered_count i op w.world.reported → IsAnsweredOk op (answers_by i w.world.reported)
  -- a delete, a join or a leave that was answered ok was answered behind its lock
  pub ok_behind_lock : (i : ℕ) (op : OpId) (c : Command) → command_at i op (steps_of events) ≡ Some c → ok_means_lock c ≡ true
      → IsAnsweredOk op (answers_by i w.world.reported) → 0 < answered_count i op w.world.reported

-- An entry of a node that is not lost, which is not answered yet, is the last of its group, and its node holds the lock.
pub record StandsLast (config : Config) (w : LosingFrameWorld) (name : Term) (before after : List Entry) (e : Entry) : Type 0 where
  pub last : after ≡ []
  -- one reference of its node, at each node that it does not see lost
  pub granted : (c : ℕ) × ((x : ℕ) → is_place (length config) x ≡ true → (w.world.node e.node).state.lost (name_at config x) ≡ false
      → is_holder ((w.world.node x).state.locks name) (numbered (name_at config e.node) c) ≡ true)

-- What is left agrees, and ends are told.
pub record LiveAgree (config : Config) (events : List (LosingEvent Action)) (w : LosingFrameWorld) : Type 0 where
  -- Two formed live nodes and have applied the same updates of a group agree on it, where each has seen every loss, no end
  -- is pending among the live, and every node was formed at the first loss.
  pub agree : (i j : ℕ) (name : Term) → FormedAtLosses config events → NonePendingLive config w
      → is_place (length config) i ≡ true → is_place (length config) j ≡ true → w.gone i ≡ false → w.gone j ≡ false
      → formed (nodes_at config i) (w.world.node i).state ≡ true → formed (nodes_at config j) (w.world.node j).state ≡ true
      → SawAll config w i → SawAll config w j
      → applied_by i name w.world.reported ≡ applied_by j name w.world.reported
      → (w.world.node i).state.table name ≡ (w.world.node j).state.table name
  -- an end that a node has taken is at the home of its process, or the node has seen the loss of the home
  pub home : (i : ℕ) (pid : Pid) → is_place (length config) i ≡ true → (w.world.node i).state.ended pid ≡ true → EndedHome config w i pid
  -- a process of a node which that node has as ended is one that it made
  pub made : (i : ℕ) (pid : Pid) → pid.node ≡ name_at config i → (w.world.node i).state.ended pid ≡ true → is_among (w.world.node i).state.processes pid ≡ true
  -- who has ended at a node is a member of no group there
  pub ended : (i : ℕ) (name : Term) → NoneEnded ((w.world.node i).state.table name) (w.world.node i).state.ended

-- Nobody is harmed.
pub record HarmsNobodyLive (config : Config) (w : LosingFrameWorld) : Type 0 where
  -- no reply that a node takes is a stranger's or a double
  pub replies : AllByRecursion (λ (t : ℕ × Report). t.1.odd ≡ None) w.world.reported
  -- the first packet on a way to a node that is not lost, from one whose loss it has not seen, is one that its step without its clock takes
  pub packets : (i p : ℕ) (packet : Noticed Message) (rest : List (Noticed Message)) → is_pair (length config) i p ≡ true → w.gone i ≡ false
      → (w.world.node i).state.lost (name_at config p) ≡ false → (plain w.world).wire p i ≡ packet ∷ rest
      → (losing_machine_of config).step i ((plain w.world).node i) (Taken p packet) ≢ None

-- What a run has kept, of the world that it led to and its events.
pub record OneHistoryPastLosses (config : Config) (events : List (LosingEvent Action)) (w : LosingFrameWorld) : Type 0 where
  -- what live nodes have, where every node was formed at the first loss
  pub survives : FormedAtLosses config events → HasTablesPastLosses config events w
  -- what each node that is not lost has applied of a group, whoever was formed when
  pub applies : (i : ℕ) (name : Term) → is_place (length config) i ≡ true → w.gone i ≡ false → AppliesThinned config w i name
  -- no lock is held, at any node, for one whose loss it saw
  pub unheld : (i : ℕ) → is_place (length config) i ≡ true → NoLockOfLost w i
  pub stands : StandsAnswered events w
  pub unanswered : (name : Term) (before after : List Entry) (e : Entry) → history name w.world.reported ≡ before ++ e ∷ after
      → answered_count e.node e.op w.world.reported ≡ 0 → w.gone e.node ≡ false → StandsLast config w name before after e
  pub left : LiveAgree config events w
  -- the history of each group is that of each world on the way, and more
  pub grown : (first last : List (LosingEvent Action)) (m : LosingFrameWorld) (name : Term) → events ≡ first ++ last → LosingReaches config first m
      → (more : List Entry) × (history name w.world.reported ≡ history name m.world.reported ++ more)
  -- what was reported until a time stands before what comes in later
  pub order : (first last : List (LosingEvent Action)) (m : LosingFrameWorld) → events ≡ first ++ last → LosingReaches config first m
      → StandsBefore (steps_of first) m.world.reported w.world.reported
  -- locks are exclusive among the nodes that are not lost
  pub exclusive : ExclusiveLocks config (lives_in config w) (nodes_of w).node
  pub harmless : HarmsNobodyLive config w
  -- each command that came in is answered or open, and a node counts as open as many as are
  pub counted : (i : ℕ) → CountsCommands config (nodes_of w) i
