-- A world whose packets cross as bytes: how it is seen, and the frame world that it shows.
use Rattle.std.specs.Prelude.{◌≡◌, ◌≢◌, ◌≤◌, ◌+◌, ◌-◌, ℕ, Bool, true, false, map, length}
use Rattle.std.specs.Prelude.{get_or, replicate, List, [], ◌∷◌, Ok, Err}
use Rattle.std.specs.List.{AllByRecursion}
use Rattle.pg_world_packets.specs.PgTermIo.Writing.{written}
use Rattle.pg_world_packets.specs.PgFrame.Frames.{IsBody}
use Rattle.pg_world_packets.specs.PgGroup.declared.table.GroupTable.{Ghosts}
use Rattle.pg_world_packets.specs.PgMessageTypes.declared.message.Message.{Message}
use Rattle.pg_world_packets.specs.PgMessageTypes.declared.packet.Packet.{Packet}
use Rattle.pg_world_packets.specs.PgMessageTypes.Reading.{packet_spelled}
use Rattle.pg_world_packets.specs.PgMessageTypes.Writing.{is_exchange, term_of_packet}
use Rattle.pg_world_packets.specs.PgStep.Machines.Places.{is_pair}
use Rattle.pg_world_packets.specs.PgStep.Machines.Machine.{Event}
use Rattle.pg_world_packets.specs.PgStep.Machines.Clocked.{Stamped}
use Rattle.pg_world_packets.specs.PgFrame.Pieces.{Bytes, ArePackets, AreCut}
use Rattle.pg_world_packets.specs.PgStep.declared.refusal.Refusal.TheVariants.{NotAMessage}
use Rattle.pg_world_packets.specs.PgStep.Config.{Config, name_at, nodes_at}
use Rattle.pg_world_packets.specs.PgStep.Step.{step_take}
use Rattle.pg_node.specs.declared.node.Node.{Node}
use Rattle.pg_node.specs.Links.{Link, idle_link}
use Rattle.pg_node.specs.Nodes.{held_by, links_of}
use Rattle.pg_world.specs.declared.rings.Rings.{Rings}
use Rattle.pg_world.specs.declared.step.Step.{Step}
use Rattle.pg_world.specs.declared.step.Step.TheVariants as steps
use Rattle.pg_world.specs.declared.bytes.ByteNodes.{ByteNodes}
use Rattle.pg_world_packets.specs.PgWorldAccount.Losses.{is_lost}
use Rattle.pg_world_packets.specs.PgWorldConfig.Seen.{Seen, seen_of}
use Rattle.pg_world_packets.specs.Views.{peer_place}
use Rattle.pg_world_packets.specs.PgWorldAccount.Histories.{Account}
use Rattle.pg_world_packets.specs.Worlds.{TimedFrameWorld, ShowsNodes, ShowsUpdates, is_loss}

-- ---- a world as it is seen

-- the nodes, the links of each to its peers by the places of the peers, and the bytes on the ring from each node to each peer
pub record Crossing : Type 0 where
  pub nodes : List Seen
  pub links : List (ℕ → Link)
  pub rings : List (List (List ℕ))

-- the bytes on each ring
abbrev pub bytes_of : Rings → List (List ℕ)
bytes_of row = map (λ ring. ring.unread) row.rings.items

-- a node over bytes, as it is seen
abbrev pub node_of : {T : Type 0} {g : Ghosts T} → Node T g → Seen
node_of node = seen_of (held_by node)

abbrev pub crossing_in : {T : Type 0} {g : Ghosts T} → List (Node T g) → List Rings → Crossing
crossing_in nodes rings = record { nodes = map node_of nodes; links = map links_of nodes; rings = map bytes_of rings }

abbrev pub crossing_of : {T : Type 0} {g : Ghosts T} → ByteNodes T g → Crossing
crossing_of world = crossing_in world.nodes.items world.rings.items

-- how much room each ring has, in bytes
abbrev pub room_of : {T : Type 0} {g : Ghosts T} → ByteNodes T g → ℕ
room_of world = world.ring

-- nodes between which the rings are empty
abbrev pub idle_crossing : {T : Type 0} {g : Ghosts T} → List (Node T g) → Crossing
idle_crossing nodes = record { nodes = map node_of nodes; links = map links_of nodes; rings = replicate (length nodes) (replicate (length nodes - 1) []) }

-- those of a node that is not there
abbrev pub no_links : ℕ → Link
no_links place = idle_link

-- the link of one node to another
abbrev pub link_at : Crossing → ℕ → ℕ → Link
link_at crossing x y = get_or crossing.links x no_links (peer_place x y)

-- the bytes on the way from one node to another
abbrev pub bytes_at : Crossing → ℕ → ℕ → Bytes
bytes_at crossing x y = record { outbox = (link_at crossing x y).outbox; ring = get_or (get_or crossing.rings x []) (peer_place x y) []; came = (link_at crossing y x).unread }

-- ---- the frame world that it shows

-- a packet that is on the way
abbrev pub packet_as : Stamped Message → Packet
packet_as x = record { stamp = x.stamp; message = x.packet }

-- the packets on the way from one node to another
abbrev pub packets_between : TimedFrameWorld → ℕ → ℕ → List Packet
packets_between w x y = map packet_as (w.wire x y)

-- what is written of a packet
abbrev pub written_of : Packet → List ℕ
written_of packet = written (term_of_packet packet)

-- A packet can cross: it is read as it was written, and a frame can hold it; the frame takes at most 4,096 bytes, unless it
-- tells the groups of a node.
pub record CanCross (packet : Packet) : Type 0 where
  pub read : packet_spelled (written_of packet) ≡ Ok packet
  pub fits : IsBody (written_of packet)
  pub small : is_exchange packet.message ≡ false → 4 + length (written_of packet) ≤ 4096

-- What is on the way to a node from another, by which of the two are lost: the bytes are the frames of the packets; of a lost node they
-- are those whose frames were put whole, and a piece of the next; to a lost node they are any.
abbrev pub IsOnWay : (to_lost from_lost : Bool) → List Packet → Bytes → Type 0
IsOnWay true from_lost packets bytes = Unit {0}
IsOnWay false true packets bytes = AreCut written_of packets bytes
IsOnWay false false packets bytes = ArePackets written_of packets bytes

-- The nodes of a frame world are as they are seen, and what is on the way there is what the bytes on the way are, all of which
-- can cross, where these nodes are lost. No link is damaged, and nothing goes out from a node to one whose loss it has seen.
pub record ShowsPast (config : Config) (lost : List ℕ) (crossing : Crossing) (w : TimedFrameWorld) : Type 0 where
  pub nodes : ShowsNodes config crossing.nodes w
  pub ways : (x y : ℕ) → is_pair (length config) x y ≡ true → IsOnWay (is_lost lost y) (is_lost lost x) (packets_between w x y) (bytes_at crossing x y)
  pub cross : (x y : ℕ) → is_pair (length config) x y ≡ true → AllByRecursion CanCross (packets_between w x y)
  pub sound : (x y : ℕ) → is_pair (length config) x y ≡ true → (link_at crossing x y).damaged ≡ false
  pub silent : (x y : ℕ) → is_pair (length config) x y ≡ true → (w.node x).state.lost (name_at config y) ≡ true → (link_at crossing x y).outbox ≡ []

-- the same with its updates
pub record ShowsBytesPast (config : Config) (lost : List ℕ) (crossing : Crossing) (account : Account) (w : TimedFrameWorld) : Type 0 where
  pub traffic : ShowsPast config lost crossing w
  pub updates : ShowsUpdates account w

-- where no node is lost
abbrev pub ShowsCrossing : Config → Crossing → TimedFrameWorld → Type 0
ShowsCrossing config crossing w = ShowsPast config [] crossing w

abbrev pub ShowsBytes : Config → Crossing → Account → TimedFrameWorld → Type 0
ShowsBytes config crossing account w = ShowsBytesPast config [] crossing account w

-- the first packet on the way to node i from node p is never refused as no message
abbrev pub IsWelcome : Config → TimedFrameWorld → ℕ → ℕ → Type 0
IsWelcome config w i p = (x : Stamped Message) (rest : List (Stamped Message)) → w.wire p i ≡ x ∷ rest
    → step_take (nodes_at config i) (name_at config p) x (w.node i) ≢ Err NotAMessage

-- ---- steps

-- a step by which a node is lost
abbrev pub is_loss_in : Step → Bool
is_loss_in (steps.Event step) = is_loss step
is_loss_in (steps.Lose node) = true
is_loss_in step = false
