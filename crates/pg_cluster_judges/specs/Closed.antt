-- What a cluster whose threads have ended is seen as.
use Rattle.std.specs.Prelude.{ℕ, Bool, List, length, map}
use Rattle.pg_term.specs.declared.term.Term.{Term}
use Rattle.pg_world.specs.PgLaws.History.{Entry}
use Rattle.pg_cluster_judges.specs.Merge.{Merges, clocks_in}
use Rattle.pg_node_run.specs.declared.log.NodeEvent.{NodeEvent}
use Rattle.pg_node_run.specs.declared.port.Client.{Client}
use Rattle.pg_cluster_judges.specs.declared.closed.Closed.{Closed}
use Rattle.pg_cluster_judges.specs.declared.closed.Stopped.{Stopped}
use Rattle.pg_cluster_judges.specs.declared.closed.TurnCount.{TurnCount}
use Rattle.pg_cluster_judges.specs.Judges.{Replays}
use Rattle.pg_cluster_judges.specs.Schedule.{AreSteps, IsSchedule, IsLosingSchedule}
use Rattle.pg_cluster_judges.specs.NodeOf.{NodeOf}
use Rattle.pg_cluster_judges.specs.Together.{AreOneLosingRun, AreOneRun}
use Rattle.pg_cluster_judges.specs.Told.{HasHistory}
use Rattle.pg_world.specs.PgStep.Config.{Config}
use Rattle.pg_world.specs.PgWorldPackets.declared.step.FrameStep.{FrameStep}

-- the nodes of a cluster whose threads have ended, their logs and turns, and its clients
abbrev pub nodes_of : Stopped → List NodeOf
nodes_of stopped = stopped.nodes.items

abbrev pub losses_of : Stopped → List Bool
losses_of stopped = stopped.lost.items

abbrev pub logs_of : Stopped → List (List (ℕ × NodeEvent))
logs_of stopped = map (λ v. v.items) stopped.logs.items

abbrev pub turns_of : Stopped → List TurnCount
turns_of stopped = stopped.turns.items

abbrev pub clients_of : Stopped → List Client
clients_of stopped = stopped.clients.items

-- where such logs join to a schedule, that is one run of the configuration, in which these nodes ended
abbrev pub JoinsToOneRun : Config → List NodeOf → List (List (ℕ × NodeEvent)) → Type 0
JoinsToOneRun given nodes logs = (schedule : List FrameStep) → IsSchedule logs (length logs) schedule → AreOneRun given nodes logs schedule

-- where such logs, with the losses of these nodes, join to a schedule, that is one run of the machine with losses
abbrev pub JoinsToOneLosingRun : Config → List Bool → List NodeOf → List (List (ℕ × NodeEvent)) → Type 0
JoinsToOneLosingRun given lost nodes logs = (schedule : List FrameStep) → IsLosingSchedule logs lost schedule → ∥ AreOneLosingRun given lost nodes schedule ∥₁

-- ---- a cluster that has ended

-- the logs of its nodes
abbrev pub logs_in : Closed → List (List (ℕ × NodeEvent))
logs_in closed = map (λ v. v.items) closed.logs.items

-- their entries are merged by clock and then by node
abbrev pub IsByClock : Closed → Type 0
IsByClock closed = Merges (length (logs_in closed)) (clocks_in (logs_in closed)) closed.order.items

-- these steps are its nodes' events and losses, in their order
abbrev pub AreStepsOf : Closed → List FrameStep → Type 0
AreStepsOf closed steps = AreSteps (logs_in closed) closed.lost.items closed.order.items steps

-- there are such steps
abbrev pub HasSteps : Closed → Type 0
HasSteps closed = ∥ ((steps : List FrameStep) × AreStepsOf closed steps) ∥₁

-- they are one run of the configuration
abbrev pub IsOneRun : Config → Closed → Type 0
IsOneRun given closed = (steps : List FrameStep) → AreStepsOf closed steps → AreOneRun given closed.nodes.items (logs_in closed) steps

-- they are one run of the machine with losses
abbrev pub IsOneLosingRun : Config → Closed → Type 0
IsOneLosingRun given closed = (steps : List FrameStep) → AreStepsOf closed steps → ∥ AreOneLosingRun given closed.lost.items closed.nodes.items steps ∥₁

-- They lead from the start of the configuration to its nodes, and none is refused.
pub record IsReplayed (given : Config) (closed : Closed) : Type 0 where
  pub steps : List FrameStep
  pub are : AreStepsOf closed steps
  pub replays : Replays given steps closed.nodes.items

-- They lead from the start of the configuration to a world in which these entries are the history of the group, and none is refused.
pub record IsHistory (given : Config) (closed : Closed) (name : Term) (entries : List Entry) : Type 0 where
  pub steps : List FrameStep
  pub are : AreStepsOf closed steps
  pub has : HasHistory given steps name entries
