-- What a node keeps.
use Rattle.std.specs.Prelude.{ℕ, Bool, false, not, None}
use Rattle.std.specs.List.{list_all, filter}
use Rattle.pg_term.specs.declared.pid.Pid.{Pid}
use Rattle.pg_term.specs.declared.term.Term.{Term}
use Rattle.pg_message_types.specs.PgGroup.declared.update.Update.{Update}
use Rattle.pg_message_types.specs.PgGroup.Table.{Table}
use Rattle.pg_lock.specs.Locks.{Locks}
use Rattle.pg_step.specs.declared.command.Command.{Command}
use Rattle.pg_step.specs.declared.command.OpId.{OpId}
use Rattle.pg_step.specs.declared.answer.Reply.{Reply}
use Rattle.pg_step.specs.Nodes.{Node, Nodes}

-- what has come of a request for a lock at one node
pub data Status : Type 0 where
  Unasked : Status
  Asked : Status
  -- granted
  Yes : Status
  -- denied
  No : Status

-- what a node does with a reference of its own, which it knows by its number
pub data Use : Type 0 where
  -- it is not made yet
  Fresh : Use
  -- a command asks, for its update, for the lock of the group at each node, of which it asked one first and alone
  Locking : OpId → Update → (first : Node) → (Node → Status) → Use
  -- it holds the lock of that group everywhere, while the update goes out under the reference of this number
  Owning : Term → (update : ℕ) → Use
  -- the update of a command goes out, under the lock of the reference of that number, and these nodes have applied it
  Updating : OpId → Update → (lock : ℕ) → (Node → Bool) → Use
  -- it is of no use any more
  Spent : Use

-- how a command stands
pub data Stage : Type 0 where
  -- it is not open: not given, answered, or refused
  Closed : Stage
  -- it is open, and waits for its retry
  Waiting : Update → Stage
  -- it asks for the lock, under the reference of this number
  Asking : (lock : ℕ) → Stage
  -- its update goes out, under the reference of this number
  Changing : (update : ℕ) → Stage

-- an answer
pub data Response : Type 0 where
  -- this reply
  Given : Reply → Response
  -- what a query reads in the table as it is
  Read : Command → Table → Response

pub record State : Type 0 where
  -- the groups, the processes that have ended, and the holder of each lock
  pub table : Table
  pub ended : Pid → Bool
  pub locks : Locks
  -- the peers whose exchange was taken
  pub merged : Node → Bool
  -- the peers whose loss the node has seen
  pub lost : Node → Bool
  -- how many references were made, and what each is used for
  pub references : ℕ
  pub uses : ℕ → Use
  -- how many processes were made
  pub processes : ℕ
  -- how many commands are open, and how each command stands
  pub opened : ℕ
  pub stages : OpId → Stage
  -- for each port how many commands came in there
  pub counts : ℕ → ℕ

-- a node as it is made: no lock, no end, no command
abbrev pub new_state : Table → ℕ → State
new_state table made = record {
  table = table;
  ended = λ pid. false;
  locks = λ name. None;
  merged = λ q. false;
  lost = λ q. false;
  references = 0;
  uses = λ c. Fresh;
  processes = made;
  opened = 0;
  stages = λ op. Closed;
  counts = λ port. 0;
}

-- a node is formed once the exchange of each peer was taken
abbrev pub formed : Nodes → State → Bool
formed m s = list_all s.merged m.peers

-- the nodes that count for a node: itself, and its peers whose loss it has not seen
abbrev pub live_nodes : Nodes → State → Nodes
live_nodes m s = record { own = m.own; peers = filter (λ q. not (s.lost q)) m.peers }
