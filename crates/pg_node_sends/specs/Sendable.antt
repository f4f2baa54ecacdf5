-- What an event of a node sends can be written: one small packet, to a peer or to several.
use Rattle.std.specs.Prelude.{◌≡◌, ◌≤◌, ◌<◌, ◌+◌, ℕ, true, false, List, [], ◌∷◌, length}
use Rattle.std.specs.List.{AllByRecursion}
use Rattle.pg_node_opens.specs.PgMessageTypes.declared.packet.Packet.{Packet}
use Rattle.pg_node_opens.specs.PgMessageTypes.Limits.{max_stamp}
use Rattle.pg_node_opens.specs.PgMessageTypes.Writing.{is_exchange, is_sayable}
use Rattle.pg_node_opens.specs.PgStep.Nodes.{Node}

-- it goes to the place of a peer, each name in it is a name, its stamp is within the limit, and it is no exchange
pub record IsSendable (names : List Node) (sent : ℕ × Packet) : Type 0 where
  pub place : sent.0 + 1 < length names
  pub named : is_sayable sent.1.message ≡ true
  pub stamp : sent.1.stamp ≤ max_stamp
  pub small : is_exchange sent.1.message ≡ false

-- the places ascend from this one on
abbrev pub Ascends : ℕ → List (ℕ × Packet) → Type 0
Ascends place [] = Unit {0}
Ascends place (sent ∷ others) = (place ≤ sent.0) × Ascends (sent.0 + 1) others

-- all are one packet
abbrev pub AreOnePacket : List (ℕ × Packet) → Type 0
AreOnePacket [] = Unit {0}
AreOnePacket (sent ∷ others) = AllByRecursion (λ other. other.1 ≡ sent.1) others

-- each can be sent, they go to different peers, in the order of the peers, and are one packet
pub record AreSendable (names : List Node) (sends : List (ℕ × Packet)) : Type 0 where
  pub each : AllByRecursion (IsSendable names) sends
  pub apart : Ascends 0 sends
  pub alike : AreOnePacket sends

-- what is sent can be written in the outboxes of so many peers
abbrev pub FitLinks : ℕ → List (ℕ × Packet) → Type 0
FitLinks peers sends = (names : List Node) × (peers + 1 ≡ length names) × AreSendable names sends
