-- The step of one node: what it makes of a packet, a command or a retry. It looks at that node and that one event.
use Rattle.std.specs.Prelude.{ℕ, ◌+◌, cond, max, nat_le, nat_lt, List, Result, Ok, Err}
use Rattle.pg_message_types.specs.declared.message.Message.{Message}
use Rattle.pg_message_types.specs.Limits.{max_stamp}
use Rattle.pg_message_types.specs.declared.message.Message.TheVariants.{Call, Reply, DelLock, Exchange, Down}
use Rattle.pg_message_types.specs.declared.message.Request.TheVariants.{SetLock, Change}
use Rattle.pg_step.specs.declared.command.Command.{Command}
use Rattle.pg_step.specs.declared.command.OpId.{OpId}
use Rattle.pg_step.specs.Machines.Clocked.{Timed, Stamped, stamped}
use Rattle.pg_step.specs.Nodes.{Node, Nodes}
use Rattle.pg_step.specs.State.{State, live_nodes}
use Rattle.pg_step.specs.Turns.{NodeTurn, Report}
use Rattle.pg_step.specs.Peers.{lock_request, update_request, lock_freed, is_bad_exchange, exchange, process_end}
use Rattle.pg_step.specs.Attempts.{reply_taken, retry}
use Rattle.pg_step.specs.Commands.{command}
use Rattle.pg_step.specs.declared.refusal.Refusal.{Refusal}
use Rattle.pg_step.specs.declared.refusal.Refusal.TheVariants.{NotAMessage, NoSuchPlace}
use Rattle.pg_step.specs.declared.refusal.Refusal.TheVariants.{NodeLost, NotWaiting, ClockFull}

-- ---- without clock, where m are the nodes that count

-- A message of a peer.
abbrev pub taken : Nodes → Node → Message → State → Result NodeTurn Refusal
taken m p (Call reference (SetLock name)) s = Ok (lock_request m p reference name s)
taken m p (Call reference (Change update)) s = Ok (update_request p reference update s)
taken m p (Reply reference said) s = reply_taken m p reference said s
taken m p (DelLock name reference) s = Ok (lock_freed name reference s)
taken m p (Exchange node groups) s = cond (is_bad_exchange p node s) (Err NotAMessage) (Ok (exchange p groups s))
taken m p (Down pid) s = Ok (process_end pid s)

-- what a node does of its own: a command comes in at a port, or one that waits is tried again
pub data Action : Type 0 where
  Issue : (port : ℕ) → Command → Action
  Retry : OpId → Action

abbrev pub acted : Nodes → Nodes → ℕ → Action → State → Result NodeTurn Refusal
acted whole m ports (Issue port c) s = cond (nat_lt port ports) (Ok (command whole m port c s)) (Err NoSuchPlace)
acted whole m ports (Retry op) s = cond (nat_lt op.port ports) (retry m op s) (Err NoSuchPlace)

-- ---- without clock, where those count whose loss was not seen

-- A message of a peer, which must not be lost.
abbrev pub node_takes : Nodes → Node → Message → State → Result NodeTurn Refusal
node_takes m p x s = cond (s.lost p) (Err NodeLost) (taken (live_nodes m s) p x s)

abbrev pub node_acts : Nodes → ℕ → Action → State → Result NodeTurn Refusal
node_acts m ports action s = acted m (live_nodes m s) ports action s

-- ---- with clock

-- the greatest clock of a node: the greatest stamp that a packet can carry
abbrev pub CLOCK_LIMIT : ℕ
CLOCK_LIMIT = max_stamp

pub record TimedTurn : Type 0 where
  pub state : Timed State
  pub sends : Node → List (Stamped Message)
  pub reported : Report

-- what is sent carries the clock that the event sets
abbrev pub at_clock : ℕ → NodeTurn → TimedTurn
at_clock clock t = record {
  state = record { clock = clock; state = t.state };
  sends = λ q. stamped clock (t.sends q);
  reported = t.reported;
}

-- An event that would set the clock beyond its limit does not happen. A command that does not wait, a port that is not
-- there and a lost peer are told before it, and what is no message behind it.
abbrev pub timed : ℕ → Result NodeTurn Refusal → Result TimedTurn Refusal
timed clock (Err NoSuchPlace) = Err NoSuchPlace
timed clock (Err NodeLost) = Err NodeLost
timed clock (Err NotWaiting) = Err NotWaiting
timed clock (Err fault) = cond (nat_le clock CLOCK_LIMIT) (Err fault) (Err ClockFull)
timed clock (Ok t) = cond (nat_le clock CLOCK_LIMIT) (Ok (at_clock clock t)) (Err ClockFull)

-- A packet is taken later than it was sent, and later than what the node did before.
abbrev pub step_take : Nodes → Node → Stamped Message → Timed State → Result TimedTurn Refusal
step_take m p x s = timed (max s.clock x.stamp + 1) (node_takes m p x.packet s.state)

-- Any other event adds 1 to the clock.
abbrev pub step_act : Nodes → ℕ → Action → Timed State → Result TimedTurn Refusal
step_act m ports action s = timed (s.clock + 1) (node_acts m ports action s.state)
