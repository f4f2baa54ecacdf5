-- Packets that fit into a frame.
use Rattle.std.specs.Prelude.{◌<◌, ◌≤◌, length}
use Rattle.pg_node_state.specs.PgMessageTypes.declared.packet.Packet.{Packet}
use Rattle.pg_node_state.specs.PgMessageTypes.Writing.{term_of_packet}
use Rattle.pg_node_state.specs.PgTermIo.Limits.{max_len}
use Rattle.pg_node_state.specs.PgTermIo.Writing.{written}
use Rattle.pg_world_config.specs.declared.fault.WorldFault.{WorldFault}
use Rattle.pg_world_config.specs.declared.fault.WorldFault.TheVariants.{TooLong, OutOfMemory}

-- its body takes at most 16,777,216 bytes
abbrev pub FitsFrame : Packet → Type 0
FitsFrame packet = length (written (term_of_packet packet)) ≤ max_len

abbrev pub IsOverlong : Packet → Type 0
IsOverlong packet = max_len < length (written (term_of_packet packet))

-- memory ran out, or the packet is too long
abbrev pub CantSend : Packet → WorldFault → Type 0
CantSend packet OutOfMemory = Unit {0}
CantSend packet TooLong = IsOverlong packet
CantSend packet fault = ⊥
