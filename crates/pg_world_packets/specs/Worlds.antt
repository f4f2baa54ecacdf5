-- The frame world that a world of nodes shows, and what a step makes of it.
use Rattle.std.specs.Prelude.{◌≡◌, ◌<◌, ℕ, Bool, true, false, ◌&&◌, nat_lt, length, slice_get}
use Rattle.std.specs.Prelude.{List, [], ◌∷◌, Option, Some, None}
use Rattle.std.specs.List.{IsDistinct}
use Rattle.std.specs.Option.{option_map_or}
use Rattle.pg_term.specs.declared.term.Term.{Term}
use Rattle.pg_term.specs.Same.{same_atom}
use Rattle.pg_node_state.specs.PgGroup.declared.table.GroupTable.{Ghosts}
use Rattle.pg_node_state.specs.PgMessageTypes.declared.message.Message.{Message}
use Rattle.pg_node_state.specs.PgStep.Machines.Places.{is_pair}
use Rattle.pg_node_state.specs.PgStep.Machines.Machine.{Event, Take, Do}
use Rattle.pg_node_state.specs.PgStep.Machines.Clocked.{TimedWorld}
use Rattle.pg_node_state.specs.PgStep.declared.answer.Answer.{Answer}
use Rattle.pg_node_state.specs.PgStep.Commands.{Answers}
use Rattle.pg_node_state.specs.PgStep.Config.{Config, names_of as names_in, name_at, nodes_at, ports_at}
use Rattle.pg_node_state.specs.PgStep.Nodes.{Node, all_of}
use Rattle.pg_node_state.specs.PgStep.State.{State, Response}
use Rattle.pg_node_state.specs.PgStep.Step.{Action, Issue, Retry}
use Rattle.pg_node_state.specs.PgStep.Turns.{Report}
use Rattle.pg_laws_losses.specs.PgLaws.History.{answers_by, history, applied_count}
use Rattle.pg_world_packets.specs.declared.step.FrameStep.{FrameStep}
use Rattle.pg_world_packets.specs.declared.step.FrameStep.TheVariants as steps
use Rattle.pg_world_packets.specs.declared.world.FrameNodes.{FrameNodes}
use Rattle.pg_world_account.specs.Histories.{account_of}
use Rattle.pg_world_config.specs.Seen.{Seen}
use Rattle.pg_world_packets.specs.Views.{Traffic, View, traffic_in, on_the_way}
use Rattle.pg_world_account.specs.Histories.{Account}
use Rattle.pg_laws_losses.specs.Remains.Missed.{marks}

-- a world as it is seen
abbrev pub traffic_of : {T : Type 0} {g : Ghosts T} → FrameNodes T g → Traffic
traffic_of world = traffic_in world.nodes.items world.outgoing.items

abbrev pub view_of : {T : Type 0} {g : Ghosts T} → FrameNodes T g → View
view_of world = record { traffic = traffic_of world; account = account_of world.histories }

-- ---- the frame world that it shows

-- the nodes by their steps, with their clocks, and the packets on the way, with their stamps
abbrev pub TimedFrameWorld : Type 0
TimedFrameWorld = TimedWorld State Message Report

-- answers were given as they are reported: each to the command of its number, with what the response is
abbrev pub AreAnswers : Node → List (ℕ × Response) → List Answer → Type 0
AreAnswers own [] [] = Unit {0}
AreAnswers own (gave ∷ more) (answer ∷ answers) = (answer.number ≡ gave.0) × Answers own gave.1 answer.reply × AreAnswers own more answers
AreAnswers own given answers = ⊥

-- Node i of a frame world is as a node is seen.
pub record ShowsNode (config : Config) (w : TimedFrameWorld) (i : ℕ) (node : Seen) : Type 0 where
  pub names : node.names ≡ all_of (nodes_at config i)
  pub ports : node.ports ≡ ports_at config i
  pub state : w.node i ≡ node.state
  pub answers : (port : ℕ) → AreAnswers (name_at config i) (answers_by i w.reported port) (node.answers port)

-- The nodes of a frame world are as they are seen, each at its place, and they are those of the configuration.
pub record ShowsNodes (config : Config) (nodes : List Seen) (w : TimedFrameWorld) : Type 0 where
  pub apart : IsDistinct same_atom (names_in config)
  pub size : length nodes ≡ length config
  pub each : (i : ℕ) (node : Seen) → slice_get nodes i ≡ Some node → ShowsNode config w i node
  -- nothing is on the way between places that are not there, or from a node to itself
  pub nowhere : (x y : ℕ) → is_pair (length config) x y ≡ false → w.wire x y ≡ []

-- The nodes of a frame world and what is on the way there are as they are seen.
pub record ShowsTraffic (config : Config) (traffic : Traffic) (w : TimedFrameWorld) : Type 0 where
  pub nodes : ShowsNodes config traffic.nodes w
  pub ways : (x y : ℕ) → is_pair (length config) x y ≡ true → w.wire x y ≡ on_the_way traffic x y

-- What is kept of the updates is what a frame world tells: the history of each group, how many each node has applied, and which.
pub record ShowsUpdates (account : Account) (w : TimedFrameWorld) : Type 0 where
  pub history : (name : Term) → account.histories name ≡ history name w.reported
  pub applied : (i : ℕ) (name : Term) → account.applied i name ≡ applied_count i name w.reported
  pub marked : (i : ℕ) (name : Term) → i < 16 → account.marked i name ≡ marks i name w.reported

-- a world shows a frame world of a configuration: its nodes, what is on the way, and its updates
pub record ShowsWorld (config : Config) (view : View) (w : TimedFrameWorld) : Type 0 where
  pub traffic : ShowsTraffic config view.traffic w
  pub updates : ShowsUpdates view.account w

-- ---- steps

-- the event of a step, where it is one of nodes that know of no loss
abbrev pub event_of : FrameStep → Option (Event Action)
event_of (steps.Take node peer) = Some (Take node peer)
event_of (steps.Command node port command) = Some (Do node (Issue port command))
event_of (steps.Retry node op) = Some (Do node (Retry op))
event_of (steps.SeeLoss node peer) = None
event_of (steps.Lose node keep) = None

-- a node has that port
abbrev pub has_port : List Seen → ℕ → ℕ → Bool
has_port nodes i port = option_map_or (λ node. nat_lt port node.ports) (slice_get nodes i) false

-- the places that a step names are there
abbrev pub has_places : List Seen → FrameStep → Bool
has_places nodes (steps.Take node peer) = is_pair (length nodes) node peer
has_places nodes (steps.Command node port command) = has_port nodes node port
has_places nodes (steps.Retry node op) = has_port nodes node op.port
has_places nodes (steps.SeeLoss node peer) = is_pair (length nodes) node peer
has_places nodes (steps.Lose node keep) = nat_lt node (length nodes)

-- a step by which a node is lost
abbrev pub is_loss : FrameStep → Bool
is_loss (steps.Lose i keep) = true
is_loss step = false
