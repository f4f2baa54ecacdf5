-- What the events of one node make, by the step of the node and in the bytes of its links.
use Rattle.std.specs.Prelude.{◌≡◌, ℕ, ◌+◌, ◌<◌, Bool, false, cond, nat_eq, length, List, [], ◌∷◌, Some, Result, Ok}
use Rattle.std.specs.List.{flat_map}
use Rattle.pg_node.specs.PgFrame.Frames.{front_of}
use Rattle.pg_node.specs.PgStep.Machines.Clocked.{Timed, Stamped}
use Rattle.pg_node.specs.PgMessageTypes.declared.message.Message.{Message}
use Rattle.pg_node.specs.PgMessageTypes.declared.packet.Packet.{Packet}
use Rattle.pg_node.specs.PgMessageTypes.Reading.{packet_spelled}
use Rattle.pg_node.specs.PgNodeSends.Frames.{frames_to, AreSmallFrames}
use Rattle.pg_node.specs.PgNodeSends.Sendable.{AreSendable}
use Rattle.pg_node.specs.PgNodeState.States.{step_see_loss, Gave}
use Rattle.pg_node.specs.PgNodeSends.Sent.{stamped_of, sends_in}
use Rattle.pg_node.specs.PgNodeOpens.Places.{name_at, whole_in}
use Rattle.pg_node_run.specs.declared.log.NodeEvent.{NodeEvent}
use Rattle.pg_node_run.specs.declared.notices.Notice.{Notice}
use Rattle.pg_node_run.specs.declared.log.NodeEvent.TheVariants as events
use Rattle.pg_node.specs.PgStep.declared.answer.Answer.{Answer}
use Rattle.pg_node.specs.PgStep.declared.refusal.Refusal.{Refusal}
use Rattle.pg_node.specs.PgStep.Nodes.{Node}
use Rattle.pg_node.specs.PgStep.State.{State}
use Rattle.pg_node.specs.PgStep.Step.{Action, Issue, Retry, TimedTurn, step_take, step_act}

-- what a node is given: a packet, by the place of the peer that sent it among the peers; the loss of the peer at a place, whose clock
-- was this at last; or an action of its own
pub data Given : Type 0 where
  Took : (peer : ℕ) → Stamped Message → Given
  Saw : (peer last : ℕ) → Given
  Did : Action → Given

-- the step of the node with these names, of which the own one is the first, and so many ports
abbrev pub act_step : List Node → ℕ → Timed State → Given → Result TimedTurn Refusal
act_step names ports s (Took p x) = step_take (whole_in names) (name_at names (p + 1)) x s
act_step names ports s (Saw p last) = step_see_loss (name_at names (p + 1)) last s
act_step names ports s (Did action) = step_act (whole_in names) ports action s

-- what a node was given, the turn that its step made of it, the packets that it sent, by the places of the peers, and the bytes
-- that it took out of what came in
pub record Act : Type 0 where
  pub input : Given
  pub turn : TimedTurn
  pub sends : List (ℕ × Packet)
  pub came : List ℕ

-- the bytes are one whole frame, and its body spells the packet
pub record IsFrameOf (bytes : List ℕ) (x : Stamped Message) : Type 0 where
  pub body : List ℕ
  pub packet : Packet
  pub front : front_of bytes ≡ Ok (Some body)
  pub alone : length bytes ≡ 4 + length body
  pub spelled : packet_spelled body ≡ Ok packet
  pub is : stamped_of packet ≡ x

-- a packet was taken in its frame, and nothing else takes bytes
abbrev pub Came : Given → List ℕ → Type 0
Came (Took p x) bytes = IsFrameOf bytes x
Came (Saw p last) bytes = bytes ≡ []
Came (Did action) bytes = bytes ≡ []

-- a packet is taken of a peer, and the loss of a peer is seen, by its place among the peers
abbrev pub IsFromPeer : List Node → Given → Type 0
IsFromPeer names (Took p x) = p + 1 < length names
IsFromPeer names (Saw p last) = p + 1 < length names
IsFromPeer names (Did action) = Unit {0}

-- ---- one act after another

-- the state of a node, and the answers that were given at each port
pub record Standing : Type 0 where
  pub state : Timed State
  pub answers : ℕ → List Answer

-- An act leads the node with these names and ports from one standing to another.
pub record ActLeads (names : List Node) (ports : ℕ) (a : Standing) (act : Act) (b : Standing) : Type 0 where
  pub there : IsFromPeer names act.input
  pub made : act_step names ports a.state act.input ≡ Ok act.turn
  pub state : b.state ≡ act.turn.state
  pub answers : Gave (name_at names 0) act.turn.reported.gave a.answers b.answers
  pub sends : sends_in names act.sends ≡ act.turn.sends
  pub fits : AreSendable names act.sends
  pub small : AreSmallFrames act.sends
  pub came : Came act.input act.came

-- the acts, one after another
abbrev pub AllLead : List Node → ℕ → Standing → List Act → Standing → Type 0
AllLead names ports a [] b = b ≡ a
AllLead names ports a (act ∷ acts) b = (m : Standing) × ActLeads names ports a act m × AllLead names ports m acts b

-- ---- what a log keeps of them

abbrev pub event_of : Given → NodeEvent
event_of (Took p x) = events.Take p
event_of (Saw p last) = events.SeeLoss p
event_of (Did (Issue port command)) = events.Command port command
event_of (Did (Retry op)) = events.Retry op

-- the clock that it set, and the event
abbrev pub log_entry : Act → ℕ × NodeEvent
log_entry act = (act.turn.state.clock, event_of act.input)

-- ---- their bytes

-- the frames that go out to the peer at a place
abbrev pub frames_sent : ℕ → List Act → List ℕ
frames_sent place acts = flat_map (λ act. frames_to act.sends place) acts

abbrev pub is_from : ℕ → Given → Bool
is_from place (Took p x) = nat_eq p place
is_from place (Saw p last) = false
is_from place (Did action) = false

-- the frames that were taken of the peer at a place
abbrev pub frames_taken : ℕ → List Act → List ℕ
frames_taken place acts = flat_map (λ act. cond (is_from place act.input) act.came []) acts

-- ---- losses

-- the last clock of the peer at a place, where its loss was seen
abbrev pub loss_of : ℕ → Given → List ℕ
loss_of place (Took p x) = []
loss_of place (Saw p last) = cond (nat_eq p place) (last ∷ []) []
loss_of place (Did action) = []

abbrev pub losses_of : ℕ → List Act → List ℕ
losses_of place acts = flat_map (λ act. loss_of place act.input) acts

-- the loss that was seen, as a notice tells it
abbrev pub seen_in : Given → List Notice
seen_in (Took p x) = []
seen_in (Saw p last) = record { peer = p; last = last } ∷ []
seen_in (Did action) = []

-- the losses that these acts saw, in their order
abbrev pub seen_by : List Act → List Notice
seen_by acts = flat_map (λ act. seen_in act.input) acts

-- none of these acts saw a loss
abbrev pub SawNone : List Act → Type 0
SawNone acts = (place : ℕ) → losses_of place acts ≡ []
