-- The schedule to which logs join.
use Rattle.std.specs.Prelude.{◌≡◌, ℕ, zero, suc, ◌+◌, ◌-◌, ◌^◌, Bool, false, ◌&&◌, cond}
use Rattle.std.specs.Prelude.{nat_eq, nat_lt, min, get_or, length, map, List, [], ◌∷◌, ◌++◌}
use Rattle.std.specs.List.{flat_map}
use Rattle.std.specs.List.{All}
use Rattle.pg_cluster_judges.specs.Merge.{Merges, clocks_in, log_at, entry_at}
use Rattle.pg_node_run.specs.declared.log.NodeEvent.{NodeEvent}
use Rattle.pg_node_run.specs.declared.log.NodeEvent.TheVariants as events
use Rattle.pg_cluster_judges.specs.ApartWithLosses.{takes_in}
use Rattle.pg_world.specs.PgWorldPackets.declared.step.FrameStep.{FrameStep}
use Rattle.pg_world.specs.PgWorldPackets.declared.step.FrameStep.TheVariants as steps

-- which node the peer at a place among the peers of a node is, as a machine word counts
abbrev pub node_of_peer : ℕ → ℕ → ℕ
node_of_peer node peer = cond (nat_lt peer node) peer (min (peer + 1) (2 ^ 64 - 1))

-- the step of a world that the event of a node is
abbrev pub step_as : ℕ → NodeEvent → FrameStep
step_as node (events.Take peer) = steps.Take node (node_of_peer node peer)
step_as node (events.Command port command) = steps.Command node port command
step_as node (events.Retry op) = steps.Retry node op
step_as node (events.SeeLoss peer) = steps.SeeLoss node (node_of_peer node peer)

-- the steps that the entries of these logs are, in this order
abbrev pub steps_of : List (List (ℕ × NodeEvent)) → List (ℕ × ℕ) → List FrameStep
steps_of logs order = flat_map (λ x. map (step_as x.0) (entry_at (log_at logs x.0) x.1)) order

-- The steps are the entries of the logs, merged by clock and then by node.
pub record IsSchedule (logs : List (List (ℕ × NodeEvent))) (size : ℕ) (schedule : List FrameStep) : Type 0 where
  pub order : List (ℕ × ℕ)
  pub merges : Merges size (clocks_in logs) order
  pub is : schedule ≡ steps_of logs order

-- ---- where nodes were lost

-- a step as it is seen: an event of a node, or the loss of one, and how many packets stay on the way to each of its peers
pub data SeenStep : Type 0 where
  Turned : FrameStep → SeenStep
  Lost : (node : ℕ) → (keep : List ℕ) → SeenStep

abbrev pub seen_step : FrameStep → SeenStep
seen_step (steps.Lose node keep) = Lost node keep.items
seen_step (steps.Take node peer) = Turned (steps.Take node peer)
seen_step (steps.Command node port command) = Turned (steps.Command node port command)
seen_step (steps.Retry node op) = Turned (steps.Retry node op)
seen_step (steps.SeeLoss node peer) = Turned (steps.SeeLoss node peer)

-- none of these nodes was lost, each told by its place
abbrev pub NobodyLost : List Bool → Type 0
NobodyLost lost = All (λ one. one ≡ false) lost

-- which of the nodes were lost, by their places
abbrev pub is_lost_in : List Bool → ℕ → Bool
is_lost_in lost node = get_or lost node false

-- how many packets of a node each of the first so many, but for that node, takes by the entries at these places
abbrev pub keeps : List (List (ℕ × NodeEvent)) → ℕ → List (ℕ × ℕ) → ℕ → List ℕ
keeps logs node order zero = []
keeps logs node order (suc n) = keeps logs node order n ++ cond (nat_eq n node) [] (takes_in (log_at logs) node n order ∷ [])

-- the loss of a node: of what is on the way to each of its peers as many packets stay as that takes by the entries that follow
abbrev pub loss_seen : List (List (ℕ × NodeEvent)) → ℕ → List (ℕ × ℕ) → SeenStep
loss_seen logs node order = Lost node (keeps logs node order (length logs))

-- that, if it is due
abbrev pub loss_if : Bool → List (List (ℕ × NodeEvent)) → ℕ → List (ℕ × ℕ) → List SeenStep
loss_if due logs node order = cond due (loss_seen logs node order ∷ []) []

-- a node was lost and did nothing, or was lost behind the entry at this place of its log
abbrev pub is_alone : List (List (ℕ × NodeEvent)) → List Bool → ℕ → Bool
is_alone logs lost node = is_lost_in lost node && nat_eq (length (log_at logs node)) 0

abbrev pub is_last_of : List (List (ℕ × NodeEvent)) → List Bool → ℕ × ℕ → Bool
is_last_of logs lost x = is_lost_in lost x.0 && nat_eq (x.1 + 1) (length (log_at logs x.0))

-- the losses of those of the first so many nodes that did nothing
abbrev pub losses_first : List (List (ℕ × NodeEvent)) → List Bool → List (ℕ × ℕ) → ℕ → List SeenStep
losses_first logs lost order zero = []
losses_first logs lost order (suc n) = losses_first logs lost order n ++ loss_if (is_alone logs lost n) logs n order

-- the step that the entry at a place is, and behind the last of a node that was lost its loss
abbrev pub steps_at : List (List (ℕ × NodeEvent)) → List Bool → ℕ × ℕ → List (ℕ × ℕ) → List SeenStep
steps_at logs lost x order = map (λ event. Turned (step_as x.0 event)) (entry_at (log_at logs x.0) x.1) ++ loss_if (is_last_of logs lost x) logs x.0 order

abbrev pub steps_behind : List (List (ℕ × NodeEvent)) → List Bool → List (ℕ × ℕ) → List SeenStep
steps_behind logs lost [] = []
steps_behind logs lost (x ∷ order) = steps_at logs lost x order ++ steps_behind logs lost order

-- The steps that the entries of these logs are, in this order, with the losses of the nodes that were lost.
abbrev pub losing_steps : List (List (ℕ × NodeEvent)) → List Bool → List (ℕ × ℕ) → List SeenStep
losing_steps logs lost order = losses_first logs lost order (length logs) ++ steps_behind logs lost order

-- The steps are what the entries of these logs are, in this order, and the losses of these nodes in their places.
abbrev pub AreSteps : List (List (ℕ × NodeEvent)) → List Bool → List (ℕ × ℕ) → List FrameStep → Type 0
AreSteps logs lost order steps = map seen_step steps ≡ losing_steps logs lost order

-- The steps are the entries of the logs, merged by clock and then by node, and the losses of these nodes in their places.
pub record IsLosingSchedule (logs : List (List (ℕ × NodeEvent))) (lost : List Bool) (schedule : List FrameStep) : Type 0 where
  pub order : List (ℕ × ℕ)
  pub merges : Merges (length logs) (clocks_in logs) order
  pub is : AreSteps logs lost order schedule
