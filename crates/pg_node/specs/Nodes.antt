-- What a node over bytes is seen as, and what an event makes of it.
use Rattle.std.specs.Prelude.{◌≡◌, ℕ, ◌+◌, Bool, cond, List, Option, Some, None, Result, Ok, Err}
use Rattle.bytes.specs.Filled.{Filled}
use Rattle.pg_node_state.specs.PgGroup.declared.table.GroupTable.{Ghosts}
use Rattle.pg_node_state.specs.PgStep.Machines.Clocked.{Timed}
use Rattle.pg_node_state.specs.PgMessageTypes.declared.packet.Packet.{Packet}
use Rattle.pg_node_state.specs.PgNodeOpens.Places.{name_at}
use Rattle.pg_node_state.specs.PgStep.declared.answer.Answer.{Answer}
use Rattle.pg_node_state.specs.PgStep.declared.refusal.Refusal.{Refusal}
use Rattle.pg_node_state.specs.PgStep.declared.refusal.Refusal.TheVariants.{NodeLost, NotDrained}
use Rattle.pg_node_state.specs.PgStep.Nodes.{Node as Name, Nodes}
use Rattle.pg_node_state.specs.PgStep.State.{State}
use Rattle.pg_node_state.specs.PgStep.Step.{TimedTurn, step_take}
use Rattle.pg_node.specs.declared.node.Node.{Node}
use Rattle.pg_node_state.specs.declared.state.NodeState.{NodeState}
use Rattle.pg_node_state.specs.PgNodeSends.Dones.{FramedDone}
use Rattle.pg_node_state.specs.declared.state.fault.NodeFault.{NodeFault}
use Rattle.pg_node_state.specs.declared.state.fault.NodeFault.TheVariants.{Refused, OutOfMemory, Message}
use Rattle.pg_node_state.specs.PgNodeSends.Frames.{frames_to}
use Rattle.pg_node.specs.Links.{Link, links_in, with_more}
use Rattle.pg_node.specs.Bytes.{next_packet, is_drained}
use Rattle.pg_node_state.specs.States.{names_of, kept_by, step_see_loss, Happens}
use Rattle.pg_node_state.specs.PgNodeSends.Sent.{stamped_of}

-- the node over packets
abbrev pub held_by : {T : Type 0} {g : Ghosts T} → Node T g → NodeState T g
held_by node = node.state

-- the links to its peers, by their places
abbrev pub links_of : {T : Type 0} {g : Ghosts T} → Node T g → ℕ → Link
links_of node = links_in node.wires.items

-- the memory for the frame of the next event: what stands there, and for how many more bytes it has room
abbrev pub buffer_of : {T : Type 0} {g : Ghosts T} → Node T g → Filled
buffer_of node = node.buffer

-- the loss of the peer at a place was seen
abbrev pub has_lost : {T : Type 0} {g : Ghosts T} → NodeState T g → ℕ → Bool
has_lost node peer = (kept_by node).lost (name_at (names_of node) (peer + 1))

-- ---- a packet is read

-- the next packet of a peer by what stands in its link, of which nothing is read once its loss was seen
abbrev pub read_next : Bool → Link → Result (Option Packet) NodeFault
read_next lost link = cond lost (Err (Refused NodeLost)) (next_packet link)

-- ---- a packet is taken

abbrev pub taken_as : Result TimedTurn Refusal → Result (Option TimedTurn) NodeFault
taken_as (Ok t) = Ok (Some t)
taken_as (Err refusal) = Err (Refused refusal)

abbrev pub taken_of : Nodes → Name → Timed State → Result (Option Packet) NodeFault → Result (Option TimedTurn) NodeFault
taken_of m p s (Ok (Some packet)) = taken_as (step_take m p (stamped_of packet) s)
taken_of m p s (Ok None) = Ok None
taken_of m p s (Err fault) = Err fault

-- what the next packet of a peer leads to, by what stands in its link
abbrev pub step_link : Nodes → Name → Link → Timed State → Result (Option TimedTurn) NodeFault
step_link m p link s = cond (s.state.lost p) (Err (Refused NodeLost)) (taken_of m p s (next_packet link))

-- What came of it: the event happened as the turn does; there was no packet, and nothing changed; or the fault is what is told.
-- Memory may run out where a packet or a fault of it is told.
abbrev pub TakesNext : List Name → Result (Option TimedTurn) NodeFault → Result (Option FramedDone) NodeFault → Timed State → Timed State → (ℕ → List Answer) → (ℕ → List Answer) → Type 0
TakesNext names (Ok (Some t)) (Ok (Some done)) s0 s before after = Happens names t done s before after
TakesNext names (Ok (Some t)) (Err OutOfMemory) s0 s before after = Unit {0}
TakesNext names (Ok None) (Ok None) s0 s before after = (s ≡ s0) × (after ≡ before)
TakesNext names (Err (Message fault)) (Err OutOfMemory) s0 s before after = Unit {0}
TakesNext names (Err (Refused refusal)) (Err OutOfMemory) s0 s before after = Unit {0}
TakesNext names (Err fault) result s0 s before after = result ≡ Err fault
TakesNext names told result s0 s before after = ⊥

-- ---- the links

-- each outbox is followed by the frames of the packets that go to its place
abbrev pub sent_out : List (ℕ × Packet) → (ℕ → Link) → ℕ → Link
sent_out sends links place = with_more (links place) (frames_to sends place)

-- ---- the loss of a peer

-- where a frame is left to be taken the loss is not seen
abbrev pub step_lose : Name → ℕ → Link → Timed State → Result TimedTurn Refusal
step_lose p last link s = cond (s.state.lost p) (Err NodeLost) (cond (is_drained link) (step_see_loss p last s) (Err NotDrained))
