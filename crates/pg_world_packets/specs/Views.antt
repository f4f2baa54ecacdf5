-- What nodes and the packets on the way between them are seen as.
use Rattle.std.specs.Prelude.{◌≡◌, ℕ, ◌+◌, ◌-◌, ◌<◌, ◌≤◌, cond, nat_eq, nat_lt, map, length}
use Rattle.std.specs.Prelude.{get_or, slice_get, List, [], ◌∷◌, ◌++◌, Option, Some, None}
use Rattle.std.specs.VecDeque.{deque_len, deque_capacity}
use Rattle.pg_node_state.specs.PgGroup.declared.table.GroupTable.{Ghosts}
use Rattle.pg_node_state.specs.PgMessageTypes.declared.message.Message.{Message}
use Rattle.pg_node_state.specs.PgMessageTypes.declared.packet.Packet.{Packet}
use Rattle.pg_node_state.specs.PgStep.Machines.Clocked.{Stamped}
use Rattle.pg_node_state.specs.PgStep.Nodes.{Node}
use Rattle.pg_node_state.specs.declared.state.NodeState.{NodeState}
use Rattle.pg_node_state.specs.PgNodeSends.Sendable.{AreSendable}
use Rattle.pg_node_state.specs.PgNodeSends.Sent.{stamped_of}
use Rattle.pg_world_config.specs.Seen.{Seen, seen_of}
use Rattle.pg_world_packets.specs.declared.ways.Ways.{Ways}
use Rattle.pg_world_packets.specs.declared.way.Way.{Way}
use Rattle.pg_world_account.specs.Histories.{Account, no_account}

-- ---- what is on the way

-- the packets on a way, the first to be taken first
abbrev pub packets_of : Way → List (Stamped Message)
packets_of way = map stamped_of way.packets.items

-- one more packet needs no memory
abbrev pub HasWayRoom : Way → Type 0
HasWayRoom way = deque_len way.packets < deque_capacity way.packets

-- the packets on the way to each peer, by the places of the peers
abbrev pub ways_of : Ways → List (List (Stamped Message))
ways_of outgoing = map packets_of outgoing.ways.items

-- one more packet to each peer needs no memory
abbrev pub HaveWayRoom : Ways → Type 0
HaveWayRoom outgoing = (place : ℕ) (way : Way) → slice_get outgoing.ways.items place ≡ Some way → HasWayRoom way

-- the first of some packets
abbrev pub next_packet_of : List (Stamped Message) → Option (Stamped Message)
next_packet_of [] = None
next_packet_of (x ∷ rest) = Some x

-- the packets that go to a place
abbrev pub packets_to : List (ℕ × Packet) → ℕ → List (Stamped Message)
packets_to [] place = []
packets_to (sent ∷ others) place = cond (nat_eq sent.0 place) (stamped_of sent.1 ∷ []) [] ++ packets_to others place

-- what is sent goes to places among so many peers, and to each at most once
abbrev pub FitWays : ℕ → List (ℕ × Packet) → Type 0
FitWays peers sends = (names : List Node) × (peers + 1 ≡ length names) × AreSendable names sends

-- so many packets can stay on the ways to the peers, by their places: on each as many as are there at most
pub record CanStay (keep : List ℕ) (ways : List (List (Stamped Message))) : Type 0 where
  pub len : length keep ≡ length ways
  pub fits : (place : ℕ) → place < length ways → get_or keep place 0 ≤ length (get_or ways place [])

-- ---- a world as it is seen

-- the nodes of a world by their places, and the packets on the way from each of them to each of its peers
pub record Traffic : Type 0 where
  pub nodes : List Seen
  pub ways : List (List (List (Stamped Message)))

abbrev pub traffic_in : {T : Type 0} {g : Ghosts T} → List (NodeState T g) → List Ways → Traffic
traffic_in nodes outgoing = record { nodes = map seen_of nodes; ways = map ways_of outgoing }

-- a world as it is seen: its nodes and what is on the way, and what it has kept of its updates
pub record View : Type 0 where
  pub traffic : Traffic
  pub account : Account

-- a world where nothing has begun
abbrev pub fresh_view : Traffic → View
fresh_view traffic = record { traffic = traffic; account = no_account }

-- the place of another node among the peers of a node, which are the others in their order
abbrev pub peer_place : ℕ → ℕ → ℕ
peer_place i other = cond (nat_lt other i) other (other - 1)

-- and the other way: which node is the peer at a place
abbrev pub place_of_peer : ℕ → ℕ → ℕ
place_of_peer i place = cond (nat_lt place i) place (place + 1)

-- the packets on the way from one node to another
abbrev pub on_the_way : Traffic → ℕ → ℕ → List (Stamped Message)
on_the_way traffic x y = get_or (get_or traffic.ways x []) (peer_place x y) []

-- each node knows as many as there are, and has a way to each other
pub record IsWhole (traffic : Traffic) : Type 0 where
  pub rows : length traffic.ways ≡ length traffic.nodes
  pub known : (i : ℕ) (node : Seen) → slice_get traffic.nodes i ≡ Some node → length node.names ≡ length traffic.nodes
  pub others : (i : ℕ) → i < length traffic.nodes → length (get_or traffic.ways i []) + 1 ≡ length traffic.nodes
