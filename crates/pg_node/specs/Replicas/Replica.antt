-- A replica: a node with one peer, no port and no group, which sent no exchange. What it makes of packets is the step of a
-- node, and what it writes for a stream of bytes are the packets that it sends to its peer.
use Rattle.std.specs.Prelude.{◌≡◌, ℕ, List, [], ◌∷◌, ◌++◌, length, take, map, ◌==◌}
use Rattle.std.specs.Prelude.{if◌then◌else◌, Option, Some, None, Result, Ok, Err}
use Rattle.std.specs.List.{flat_map}
use Rattle.std.specs.Io.KnownBytes.{Appends}
use Rattle.pg_term.specs.declared.fault.TermFault.TheVariants.{Truncated, OutOfMemory}
use Rattle.pg_node_state.specs.PgTermIo.Writing.{written}
use Rattle.pg_node_state.specs.PgFrame.declared.fault.TooLong.{TooLong}
use Rattle.pg_node_state.specs.PgFrame.Frames.{frame, front_of, bodies_of, rest_of}
use Rattle.pg_node_state.specs.PgGroup.declared.table.GroupTable.{Ghosts}
use Rattle.pg_node_state.specs.PgMessageTypes.declared.fault.MessageFault.{MessageFault}
use Rattle.pg_node_state.specs.PgMessageTypes.declared.fault.MessageFault.TheVariants.{Term}
use Rattle.pg_node_state.specs.PgMessageTypes.declared.message.Message.{Message}
use Rattle.pg_node_state.specs.PgMessageTypes.declared.packet.Packet.{Packet}
use Rattle.pg_node_state.specs.PgMessageTypes.Reading.{packet_spelled}
use Rattle.pg_node_state.specs.PgMessageTypes.Writing.{term_of_packet}
use Rattle.pg_node_state.specs.PgStep.Machines.Clocked.{Timed, Stamped}
use Rattle.pg_node_state.specs.PgStep.Nodes.{Node, Nodes}
use Rattle.pg_node_state.specs.PgStep.State as machine
use Rattle.pg_node_state.specs.PgStep.State.{new_state}
use Rattle.pg_node_state.specs.PgNodeOpens.Places.{name_at}
use Rattle.pg_node_state.specs.PgStep.Step.{TimedTurn, step_take}
use Rattle.pg_node_state.specs.PgStep.declared.refusal.Refusal.{Refusal}
use Rattle.pg_node.specs.declared.replica.fault.ServeFault.{ServeFault}
use Rattle.pg_node.specs.declared.replica.fault.ServeFault.TheVariants as faults
use Rattle.pg_node_state.specs.declared.state.NodeState.{NodeState}
use Rattle.pg_node.specs.Replicas.Fault.{refused_as}
use Rattle.pg_node_state.specs.States.{names_of}
use Rattle.pg_node_state.specs.PgNodeSends.Sent.{stamped_of}

-- ---- one packet

-- the node and its peer
pub record Pair : Type 0 where
  pub own : Node
  pub peer : Node

abbrev pub nodes_of : Pair → Nodes
nodes_of pair = record { own = pair.own; peers = pair.peer ∷ [] }

abbrev pub State : Type 0
State = Timed machine.State

-- clock 0, no group, no end, no lock
abbrev pub start : State
start = record { clock = 0; state = new_state (λ name. None) 0 }

-- the body of a packet that is sent
abbrev pub body_sent : Stamped Message → List ℕ
body_sent x = written (term_of_packet (record { stamp = x.stamp; message = x.packet }))

-- what is sent to the peer
abbrev pub bodies_to : Pair → TimedTurn → List (List ℕ)
bodies_to pair t = map body_sent (t.sends pair.peer)

-- the state after a body, and the bodies that are sent for it
pub record Answer : Type 0 where
  pub state : State
  pub sent : List (List ℕ)

abbrev pub turned : Pair → Result TimedTurn Refusal → Result Answer ServeFault
turned pair (Ok t) = Ok (record { state = t.state; sent = bodies_to pair t })
turned pair (Err refusal) = Err (refused_as refusal)

-- what a packet leads to
abbrev pub taken_packet : Pair → State → Packet → Result Answer ServeFault
taken_packet pair s packet = turned pair (step_take (nodes_of pair) pair.peer (stamped_of packet) s)

abbrev pub taken_in : Pair → State → Result Packet MessageFault → Result Answer ServeFault
taken_in pair s (Ok packet) = taken_packet pair s packet
taken_in pair s (Err fault) = Err (faults.Message fault)

-- what a body leads to
unfoldable pub answered : Pair → State → List ℕ → Result Answer ServeFault
answered pair s body = taken_in pair s (packet_spelled body)

-- ---- a stream

-- the bodies that are sent, the state in the end, and the fault that ended it
pub record Run : Type 0 where
  pub replies : List (List ℕ)
  pub state : State
  pub fault : Option ServeFault

-- some replies, and then those that follow
abbrev pub preceded : List (List ℕ) → Run → Run
preceded sent r = record { replies = sent ++ r.replies; state = r.state; fault = r.fault }

abbrev pub goes_on : State → Result Answer ServeFault → (State → Run) → Run
goes_on s (Ok answer) others = preceded answer.sent (others answer.state)
goes_on s (Err fault) others = record { replies = []; state = s; fault = Some fault }

-- bodies one after another, up to the first fault
abbrev pub replica_run : Pair → State → List (List ℕ) → Run
replica_run pair s [] = record { replies = []; state = s; fault = None }
replica_run pair s (body ∷ bodies) = goes_on s (answered pair s body) (λ new. replica_run pair new bodies)

-- what the bytes behind all whole frames say
abbrev pub rest_fault : List ℕ → Result (Option (List ℕ)) TooLong → Option ServeFault
rest_fault rest (Err fault) = Some faults.FrameTooLong
rest_fault rest (Ok body) = if length rest == 0 then None else Some (faults.Message (Term Truncated))

abbrev pub first_fault : Option ServeFault → Option ServeFault → Option ServeFault
first_fault None later = later
first_fault (Some fault) later = Some fault

-- the replies of a byte stream, and how it ends: with no fault where each body was served and no byte is left over
abbrev pub served : Pair → List ℕ → Run
served pair bytes =
    let r = replica_run pair start (bodies_of bytes) in
    record { replies = r.replies; state = r.state; fault = first_fault r.fault (rest_fault (rest_of bytes) (front_of (rest_of bytes))) }

-- replies as they are written
abbrev pub frames_of : List (List ℕ) → List ℕ
frames_of replies = flat_map frame replies

-- What was written for a stream, by the outcome.
abbrev pub WroteFor : Run → Result (Unit {0}) ServeFault → List ℕ → Type 0
-- all replies, and there is no fault
WroteFor r (Ok done) output = (r.fault ≡ None) × (output ≡ frames_of r.replies)
-- the first replies, each whole
WroteFor r (Err faults.ReadFault) output = (n : ℕ) × (output ≡ frames_of (take n r.replies))
WroteFor r (Err (faults.Message (Term OutOfMemory))) output = (n : ℕ) × (output ≡ frames_of (take n r.replies))
-- a prefix of all replies
WroteFor r (Err faults.WriteFault) output = (behind : List ℕ) × (output ++ behind ≡ frames_of r.replies)
-- all replies up to the first fault, which is told
WroteFor r (Err fault) output = (r.fault ≡ Some fault) × (output ≡ frames_of r.replies)

-- What a server did with an input: it wrote, behind what the writer held, what the outcome says and nothing else.
pub record Serves (pair : Pair) (before after : Option (List ℕ)) (input : List ℕ) (result : Result (Unit {0}) ServeFault) : Type 0 where
  pub output : List ℕ
  pub wrote : Appends before after output
  pub is : WroteFor (served pair input) result output

-- ---- by the code

-- the first two of some names
abbrev pub pair_in : List Node → Pair
pair_in names = record { own = name_at names 0; peer = name_at names 1 }

abbrev pub pair_of : {T : Type 0} {g : Ghosts T} → NodeState T g → Pair
pair_of node = pair_in (names_of node)

-- what is told came about: the state is the next one, and what is sent stands framed at the end of the output
pub record AnswersServed (told : Result Answer ServeFault) (s1 : State) (output0 output1 : List ℕ) : Type 0 where
  pub sent : List (List ℕ)
  pub is : told ≡ Ok (record { state = s1; sent = sent })
  pub output : output1 ≡ output0 ++ frames_of sent
