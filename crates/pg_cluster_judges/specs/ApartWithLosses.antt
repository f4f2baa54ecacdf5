-- Nodes that ran apart, of which some were lost, and the one run that they made together.
use Rattle.std.specs.Prelude.{◌≡◌, ℕ, zero, suc, ◌+◌, ◌<◌, Bool, true, false, ◌&&◌}
use Rattle.std.specs.Prelude.{cond, nat_eq, length, map, List, [], ◌∷◌, ◌++◌}
use Rattle.std.specs.List.{AllByRecursion}
use Rattle.pg_world.specs.PgGroup.declared.table.GroupTable.{Ghosts}
use Rattle.pg_cluster_judges.specs.Losses.{MarkedEvent, MarkedLeads}
use Rattle.pg_cluster_judges.specs.Merge.{entry_at}
use Rattle.pg_world.specs.PgLawsLosses.Reached.{LosingReaches}
use Rattle.pg_world.specs.PgLawsLosses.Retrying.Survived.{LossesSurvived}
use Rattle.pg_world.specs.PgStep.Machines.Clocked.{Stamped}
use Rattle.pg_world.specs.PgStep.Machines.Losing.{LosingEvent, Noticed, Step, Lose, nobody_gone}
use Rattle.pg_world.specs.PgStep.Machines.Machine.{start_of}
use Rattle.pg_world.specs.PgStep.Machines.Places.{is_pair}
use Rattle.pg_world.specs.PgMessageTypes.declared.message.Message.{Message}
use Rattle.pg_world.specs.PgNode.declared.node.Node.{Node}
use Rattle.pg_world.specs.PgNode.Nodes.{held_by}
use Rattle.pg_world.specs.PgNodeState.States.{state_of}
use Rattle.pg_node_run.specs.declared.log.NodeEvent.{NodeEvent}
use Rattle.pg_node_run.specs.declared.log.NodeEvent.TheVariants as events
use Rattle.pg_node_run.specs.Acts.{losses_of}
use Rattle.pg_node_run.specs.Follows.{node_of}
use Rattle.pg_world.specs.PgStep.Config.{Config}
use Rattle.pg_world.specs.PgStep.FrameMachine.{last_notice, losing_frame_machine}
use Rattle.pg_world.specs.PgStep.LossLaws.{LosingFrameWorld, is_notice}
use Rattle.pg_world.specs.PgStep.Step.{Action}
use Rattle.pg_cluster_judges.specs.Apart.{HaveRun, Linked, event_at}
use Rattle.pg_world.specs.Crossings.{node_of as seen_node}
use Rattle.pg_world.specs.PgWorldPackets.Views.{peer_place, place_of_peer}
use Rattle.pg_world.specs.PgWorldPackets.Worlds.{ShowsNode, TimedFrameWorld}

-- ---- the events that logs tell

-- the logs of the nodes, by their places
abbrev pub Logs : Type 0
Logs = ℕ → List (ℕ × NodeEvent)

-- the event of node q is that it took a packet of node p
abbrev pub is_take : (p q : ℕ) → NodeEvent → Bool
is_take p q (events.Take peer) = nat_eq (place_of_peer q peer) p
is_take p q (events.Command port command) = false
is_take p q (events.Retry op) = false
is_take p q (events.SeeLoss peer) = false

-- how many of these events of node q are
abbrev pub takes_of : (p q : ℕ) → List NodeEvent → ℕ
takes_of p q [] = 0
takes_of p q (e ∷ es) = cond (is_take p q e) 1 0 + takes_of p q es

-- how many packets of node p node q takes by the entry at a place, and by the entries at these places
abbrev pub takes_one : Logs → (p q : ℕ) → ℕ × ℕ → ℕ
takes_one logs p q x = cond (nat_eq x.0 q) (takes_of p q (entry_at (logs q) x.1)) 0

abbrev pub takes_in : Logs → (p q : ℕ) → List (ℕ × ℕ) → ℕ
takes_in logs p q [] = 0
takes_in logs p q (x ∷ order) = takes_one logs p q x + takes_in logs p q order

-- The loss of a node: of what is on the way from it as many packets stay as are taken by the entries that follow.
abbrev pub loss_before : Logs → ℕ → List (ℕ × ℕ) → MarkedEvent Action
loss_before logs i order = (Lose i (λ q. takes_in logs i q order), false)

-- the event of node i is that it saw a loss
abbrev pub sees_loss : NodeEvent → Bool
sees_loss (events.Take peer) = false
sees_loss (events.Command port command) = false
sees_loss (events.Retry op) = false
sees_loss (events.SeeLoss peer) = true

-- the event of all nodes that an entry in the log of node i tells, which takes a last notice where a loss was seen
abbrev pub marked_at : ℕ → NodeEvent → MarkedEvent Action
marked_at i e = (Step (event_at i e), sees_loss e)

-- the losses of those of the first so many nodes that did nothing, before all entries
abbrev pub losses_first : Logs → (ℕ → Bool) → List (ℕ × ℕ) → ℕ → List (MarkedEvent Action)
losses_first logs lost order zero = []
losses_first logs lost order (suc n) = losses_first logs lost order n ++ cond (lost n && nat_eq (length (logs n)) 0) (loss_before logs n order ∷ []) []

-- the events that the entries at these places tell, and behind the last entry of a node that is lost its loss
abbrev pub events_behind : Logs → (ℕ → Bool) → List (ℕ × ℕ) → List (MarkedEvent Action)
events_behind logs lost [] = []
events_behind logs lost (x ∷ order) =
    (map (marked_at x.0) (entry_at (logs x.0) x.1) ++ cond (lost x.0 && nat_eq (x.1 + 1) (length (logs x.0))) (loss_before logs x.0 order ∷ []) [])
    ++ events_behind logs lost order

-- The events that the logs of so many nodes tell, merged in an order, with the losses of those that are lost; with each goes whether a
-- last notice is taken by it.
abbrev pub losing_events : ℕ → Logs → (ℕ → Bool) → List (ℕ × ℕ) → List (MarkedEvent Action)
losing_events size logs lost order = losses_first logs lost order size ++ events_behind logs lost order

-- ---- the nodes

-- the nodes of a world with losses, and what was reported there
abbrev pub nodes_in : LosingFrameWorld → TimedFrameWorld
nodes_in u = record { node = u.world.node; wire = λ x y. []; reported = u.world.reported }

-- the events without their marks
abbrev pub without_marks : List (MarkedEvent Action) → List (LosingEvent Action)
without_marks events = map (λ x. x.0) events

-- a packet on the way is a last notice
abbrev pub is_last_notice : Stamped (Noticed Message) → Bool
is_last_notice x = is_notice x.packet

-- from the start these events happen as they are marked, and lead to a world
abbrev pub MarkedReaches : Config → List (MarkedEvent Action) → LosingFrameWorld → Type 0
MarkedReaches config events u =
    MarkedLeads (losing_frame_machine config) last_notice is_last_notice (nobody_gone (start_of (losing_frame_machine config))) events u

module _ {T : Type 0} {g : Ghosts T} where
  -- the clock of a node
  abbrev pub clock_of : Linked T g → ℕ
  clock_of node = (state_of (held_by (node_of node))).clock

  -- The acts of the nodes saw the losses of none but those that are lost, with their clocks at last.
  abbrev pub SeesLost : (config : Config) (nodes : List (Node T g)) (begun ended : ℕ → Linked T g) → HaveRun config nodes begun ended → (ℕ → Bool) → Type 0
  SeesLost config nodes begun ended ran lost = (x y : ℕ) → is_pair (length config) x y ≡ true
      → AllByRecursion (λ last. (lost y ≡ true) × (last ≡ clock_of (ended y))) (losses_of (peer_place x y) (ran.acts x))

  -- The nodes of a configuration ran as in `HaveRun`, and these were lost where they ended.
  pub record RanLosing (config : Config) (nodes : List (Node T g)) (begun ended : ℕ → Linked T g) (lost : ℕ → Bool) : Type 0 where
    pub ran : HaveRun config nodes begun ended
    pub seen : SeesLost config nodes begun ended ran lost

  -- These events are one run of the configuration, in which these nodes are lost. It leads to a world that shows each node as it
  -- ended, and of which all holds that survives losses. A last notice is taken where a loss was seen, and nowhere else.
  pub record RanPastLosses (config : Config) (lost : ℕ → Bool) (ended : ℕ → Linked T g) (events : List (MarkedEvent Action)) : Type 0 where
    pub u : LosingFrameWorld
    pub reached : LosingReaches config (without_marks events) u
    pub marked : MarkedReaches config events u
    pub gone : (i : ℕ) → i < length config → u.gone i ≡ lost i
    pub nodes : (i : ℕ) → i < length config → ShowsNode config (nodes_in u) i (seen_node (node_of (ended i)))
    pub survived : LossesSurvived config (without_marks events) u
