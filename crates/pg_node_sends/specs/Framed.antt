-- The packets of a frame that goes to peers.
use Rattle.std.specs.Prelude.{ℕ, List}
use Rattle.pg_node_opens.specs.PgMessageTypes.declared.packet.Packet.{Packet}
use Rattle.pg_node_sends.specs.declared.framed.Framed.{Framed}
use Rattle.pg_node_sends.specs.Going.{going_framed}

abbrev pub listed_of : Framed → List (ℕ × Packet)
listed_of framed = going_framed framed.goes framed.frame.items
