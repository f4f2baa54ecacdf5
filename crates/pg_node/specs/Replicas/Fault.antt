-- The faults' place in the one list of faults, and what a call may refuse.
use Rattle.std.specs.Prelude.{◌≡◌, ℕ, Result, Err}
use Rattle.pg_term.specs.declared.faults.TheConstants.{CLOCK_FULL, READ_FAULT, TOO_LONG, WRITE_FAULT}
use Rattle.pg_term.specs.declared.fault.TermFault.TheVariants.{OutOfMemory}
use Rattle.pg_node_state.specs.PgMessageTypes.Fault.{message_number_of}
use Rattle.pg_node_state.specs.PgMessageTypes.declared.fault.MessageFault.TheVariants.{Term, NotAMessage}
use Rattle.pg_node_state.specs.PgStep.declared.refusal.Refusal.{Refusal}
use Rattle.pg_node_state.specs.PgStep.declared.refusal.Refusal.TheVariants as refusal
use Rattle.pg_node.specs.declared.replica.fault.ServeFault.{ServeFault}
use Rattle.pg_node.specs.declared.replica.fault.ServeFault.TheVariants.{Message, FrameTooLong, ClockFull}
use Rattle.pg_node.specs.declared.replica.fault.ServeFault.TheVariants.{ReadFault, WriteFault}
use Rattle.pg_node_state.specs.declared.state.fault.NodeFault.{NodeFault}
use Rattle.pg_node_state.specs.declared.state.fault.NodeFault.TheVariants as node

-- the number of a fault
abbrev pub number_of : ServeFault → ℕ
number_of (Message fault) = message_number_of fault
number_of FrameTooLong = TOO_LONG
number_of ClockFull = CLOCK_FULL
number_of ReadFault = READ_FAULT
number_of WriteFault = WRITE_FAULT

-- memory ran out
abbrev pub out_of_memory : ServeFault
out_of_memory = Message (Term OutOfMemory)

-- The fault of a packet that the node's step refuses: the clock is full, or it is no message. The other refusals are none of
-- a packet of a peer whose loss was not seen; they stand here so that each has a fault.
abbrev pub refused_as : Refusal → ServeFault
refused_as refusal.ClockFull = ClockFull
refused_as refusal.NotAMessage = Message NotAMessage
refused_as refusal.NoSuchPlace = Message NotAMessage
refused_as refusal.NotWaiting = Message NotAMessage
refused_as refusal.NodeLost = Message NotAMessage
refused_as refusal.NotLost = Message NotAMessage
refused_as refusal.NotDrained = Message NotAMessage

-- The fault of a packet that a node does not take: the node's step refuses it, or memory ran out. The others are none of a
-- packet that was read; they stand here so that each has a fault.
abbrev pub untaken_as : NodeFault → ServeFault
untaken_as (node.Refused refusal) = refused_as refusal
untaken_as node.OutOfMemory = out_of_memory
untaken_as (node.Message fault) = Message fault
untaken_as node.TooLong = FrameTooLong
untaken_as node.Damaged = Message NotAMessage

-- a fault is the one that is told, or memory ran out
abbrev pub Refuses : {A : Type 0} → Result A ServeFault → ServeFault → Type 0
Refuses told (Message (Term OutOfMemory)) = Unit {0}
Refuses told fault = told ≡ Err fault
