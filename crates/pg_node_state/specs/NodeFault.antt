-- The faults of a node's events, and how they stand to what the step tells.
use Rattle.std.specs.Prelude.{ℕ}
use Rattle.pg_term.specs.declared.faults.TheConstants.{DAMAGED, OUT_OF_MEMORY, TOO_LONG}
use Rattle.pg_term.specs.declared.fault.TermFault.TheVariants as term
use Rattle.pg_node_ports.specs.PgMessageTypes.declared.fault.MessageFault.{MessageFault}
use Rattle.pg_node_ports.specs.PgMessageTypes.declared.fault.MessageFault.TheVariants.{Term}
use Rattle.pg_node_ports.specs.PgMessageTypes.Fault.{message_number_of}
use Rattle.pg_node_ports.specs.PgStep.Faults.{refusal_number_of}
use Rattle.pg_node_state.specs.declared.state.fault.NodeFault.{NodeFault}
use Rattle.pg_node_state.specs.declared.state.fault.NodeFault.TheVariants.{Refused, OutOfMemory}
use Rattle.pg_node_state.specs.declared.state.fault.NodeFault.TheVariants.{Message, TooLong, Damaged}

-- the number of a fault
abbrev pub node_number_of : NodeFault → ℕ
node_number_of (Refused refusal) = refusal_number_of refusal
node_number_of OutOfMemory = OUT_OF_MEMORY
node_number_of (Message fault) = message_number_of fault
node_number_of TooLong = TOO_LONG
node_number_of Damaged = DAMAGED

-- the fault of a packet that can't be read
abbrev pub from_message : MessageFault → NodeFault
from_message (Term term.OutOfMemory) = OutOfMemory
from_message fault = Message fault
