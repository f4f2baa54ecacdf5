-- What a cluster that has ended did, as one run of its configuration.
use Rattle.std.specs.Prelude.{◌≡◌, ℕ, ◌<◌, ◌≤◌, Bool, true, false, length, map, slice_get, List, [], ◌∷◌, Some}
use Rattle.std.specs.List.{IsDistinct}
use Rattle.pg_term.specs.Same.{same_atom}
use Rattle.pg_world.specs.PgStep.Machines.Machine.{Event, start_of}
use Rattle.pg_world.specs.PgStep.Machines.Clocked.{plain}
use Rattle.pg_world.specs.PgStep.Machines.Places.{is_pair}
use Rattle.pg_world.specs.PgStep.Machines.Runs.{Leads, events_of}
use Rattle.pg_world.specs.PgLaws.Headline.{OneHistory}
use Rattle.pg_cluster_judges.specs.Merge.{log_at}
use Rattle.pg_world.specs.PgNode.Nodes.{links_of}
use Rattle.pg_node_run.specs.declared.log.NodeEvent.{NodeEvent}
use Rattle.pg_world.specs.PgStep.Config.{Config, names_of}
use Rattle.pg_world.specs.PgStep.FrameMachine.{frame_machine, last_notice, losing_frame_machine}
use Rattle.pg_world.specs.PgStep.Step.{Action}
use Rattle.pg_cluster_judges.specs.Apart.{event_at}
use Rattle.pg_world.specs.PgWorldPackets.declared.step.FrameStep.{FrameStep}
use Rattle.pg_world.specs.Crossings.{node_of}
use Rattle.pg_world.specs.PgWorldPackets.Starts.{Orders}
use Rattle.pg_world.specs.PgWorldPackets.Views.{peer_place}
use Rattle.pg_world.specs.PgWorldPackets.Worlds.{TimedFrameWorld, ShowsNode, event_of}
use Rattle.pg_world.specs.PgStep.Machines.Losing.{LosingEvent, Step, Lose, losing_happens, nobody_gone}
use Rattle.pg_world.specs.PgStep.Machines.Machine.{Take, Do}
use Rattle.pg_world.specs.PgLawsLosses.Reached.{LosingReaches}
use Rattle.pg_world.specs.PgLawsLosses.Retrying.Survived.{LossesSurvived}
use Rattle.pg_world.specs.PgStep.LossLaws.{LosingFrameWorld}
use Rattle.pg_world.specs.PgStep.Step.{Issue, Retry}
use Rattle.pg_cluster_judges.specs.ApartWithLosses.{nodes_in}
use Rattle.pg_world.specs.PgWorldPackets.declared.step.FrameStep.TheVariants as steps
use Rattle.pg_world.specs.PgWorldPackets.Losing.{CanBeMade, keep_of, told_of}
use Rattle.pg_cluster_judges.specs.Schedule.{is_lost_in}
use Rattle.pg_cluster_judges.specs.NodeOf.{NodeOf}

-- The steps of a schedule are events that happen one after another from the start of a configuration. They are, of each node, the
-- events of its log, and lead to a world that shows each node as it ended, and of which the headline holds. No link is damaged.
pub record AreOneRun (given : Config) (nodes : List NodeOf) (logs : List (List (ℕ × NodeEvent))) (schedule : List FrameStep) : Type 0 where
  -- the configuration with the groups of each node in order
  pub config : Config
  pub orders : Orders given config
  -- its nodes have different names
  pub apart : IsDistinct same_atom (names_of config)
  pub events : List (Event Action)
  pub are : map event_of schedule ≡ map Some events
  pub w : TimedFrameWorld
  pub leads : Leads (frame_machine config) (start_of (frame_machine config)) events w
  pub size : length nodes ≡ length config
  pub shown : (i : ℕ) (node : NodeOf) → slice_get nodes i ≡ Some node → ShowsNode config w i (node_of node)
  pub logged : (i : ℕ) → i < length config → events_of i events ≡ map (λ entry. event_at i entry.1) (log_at logs i)
  pub history : OneHistory config events (plain w)
  -- no link from one node to another is
  pub sound : (i j : ℕ) (node : NodeOf) → slice_get nodes i ≡ Some node → is_pair (length config) i j ≡ true → (links_of node (peer_place i j)).damaged ≡ false

-- ---- where nodes were lost

-- the event of the machine with losses that a step is
abbrev pub losing_event : FrameStep → LosingEvent Action
losing_event (steps.Take i p) = Step (Take i p)
losing_event (steps.Command i port command) = Step (Do i (Issue port command))
losing_event (steps.Retry i op) = Step (Do i (Retry op))
losing_event (steps.SeeLoss i p) = Step (Take i p)
losing_event (steps.Lose i keep) = Lose i (keep_of i keep.items)

-- From the world u each of these steps can be made, one after another, and they lead to the world v.
abbrev pub MadeInTurn : Config → LosingFrameWorld → List FrameStep → LosingFrameWorld → Type 0
MadeInTurn config u [] v = u ≡ v
MadeInTurn config u (step ∷ schedule) v =
    CanBeMade (told_of config u step)
    × (x : LosingFrameWorld) × (losing_happens (losing_frame_machine config) last_notice u (losing_event step) ≡ Some x) × MadeInTurn config x schedule v

-- The steps of a schedule are events of the machine with losses that happen one after another from the start of a configuration. They
-- lead to a world in which just these nodes are lost, that shows each node as it ended, and of which all holds that survives losses.
pub record AreOneLosingRun (given : Config) (lost : List Bool) (nodes : List NodeOf) (schedule : List FrameStep) : Type 0 where
  -- the configuration with the groups of each node in order
  pub config : Config
  pub orders : Orders given config
  -- its nodes are few, and have different names
  pub few : length config ≤ 16
  pub apart : IsDistinct same_atom (names_of config)
  pub u : LosingFrameWorld
  pub reached : LosingReaches config (map losing_event schedule) u
  -- no step is refused or finds nothing on the way: a loss is seen by its last notice, and what is taken is a packet
  pub made : MadeInTurn config (nobody_gone (start_of (losing_frame_machine config))) schedule u
  pub gone : (i : ℕ) → i < length config → u.gone i ≡ is_lost_in lost i
  pub size : length nodes ≡ length config
  pub shown : (i : ℕ) (node : NodeOf) → slice_get nodes i ≡ Some node → ShowsNode config (nodes_in u) i (node_of node)
  pub survived : LossesSurvived config (map losing_event schedule) u
