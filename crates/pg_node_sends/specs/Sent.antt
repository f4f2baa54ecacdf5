-- What is sent to each node.
use Rattle.std.specs.Prelude.{ℕ, ◌+◌, ◌++◌, cond, List, [], ◌∷◌}
use Rattle.pg_term.specs.Same.{same_atom}
use Rattle.pg_node_opens.specs.PgMessageTypes.declared.message.Message.{Message}
use Rattle.pg_node_opens.specs.PgMessageTypes.declared.packet.Packet.{Packet}
use Rattle.pg_node_opens.specs.PgStep.Machines.Clocked.{Stamped}
use Rattle.pg_node_opens.specs.Places.{name_at}
use Rattle.pg_node_opens.specs.PgStep.Nodes.{Node}

abbrev pub stamped_of : Packet → Stamped Message
stamped_of packet = record { stamp = packet.stamp; packet = packet.message }

-- the packets to each node, where each goes to a peer by its place among the peers
abbrev pub sends_in : List Node → List (ℕ × Packet) → Node → List (Stamped Message)
sends_in names [] q = []
sends_in names (sent ∷ others) q = cond (same_atom (name_at names (sent.0 + 1)) q) (stamped_of sent.1 ∷ []) [] ++ sends_in names others q
