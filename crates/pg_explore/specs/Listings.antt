-- The steps that can be made at a moment within limits.
use Rattle.std.specs.Prelude.{◌≡◌, ◌≢◌, ◌⊎◌, ◌↔◌, ◌<◌, ◌-◌, ℕ, Bool, true, false}
use Rattle.std.specs.Prelude.{length, get_or, slice_get, List, [], Option, Some}
use Rattle.std.specs.List.{Contains}
use Rattle.std.specs.Option.{option_map_or}
use Rattle.pg_world_packets.specs.PgStep.Machines.Clocked.{Stamped}
use Rattle.pg_world_packets.specs.PgStep.Machines.Places.{is_pair}
use Rattle.pg_world_packets.specs.PgMessageTypes.declared.message.Message.{Message}
use Rattle.pg_world_packets.specs.PgNodeOpens.Places.{whole_in}
use Rattle.pg_world_packets.specs.PgStep.declared.command.OpId.{OpId}
use Rattle.pg_world_packets.specs.PgStep.Attempts.{waits}
use Rattle.pg_world_packets.specs.PgStep.State.{live_nodes}
use Rattle.pg_world_packets.specs.declared.step.FrameStep.{FrameStep}
use Rattle.pg_world_packets.specs.Losing.{seen_at}
use Rattle.pg_world_packets.specs.PgWorldAccount.Losses.{is_lost}
use Rattle.pg_world_packets.specs.PgWorldConfig.Seen.{Seen}
use Rattle.pg_world_packets.specs.Views.{CanStay, on_the_way}
use Rattle.pg_explore.specs.declared.moves.Move.{Move}
use Rattle.pg_explore.specs.declared.moves.Move.TheVariants.{Take, Next, Loss, Retry, SeeLoss}
use Rattle.pg_explore.specs.declared.plan.Plan.{Plan}
use Rattle.pg_explore.specs.declared.plan.Planned.{Planned}
use Rattle.pg_explore.specs.declared.plan.Planned.TheVariants as planned
use Rattle.pg_explore.specs.Moments.{Progress, Sight}
use Rattle.pg_explore.specs.Moves.{planned_next}

-- the node is there, and not lost
pub record IsThere (sight : Sight) (i : ℕ) : Type 0 where
  pub place : i < length sight.progress
  pub alive : is_lost sight.lost i ≡ false

-- something is planned next of a node
abbrev pub IsStep : Option Planned → Type 0
IsStep next = (step : FrameStep) × (next ≡ Some (planned.Step step))

-- a command of a node waits
abbrev pub sight_waits_at : List Seen → ℕ → OpId → Bool
sight_waits_at nodes i op = option_map_or (λ (node : Seen). waits (live_nodes (whole_in node.names) node.state.state) (node.state.state.stages op) node.state.state) (slice_get nodes i) false

-- a command of this number came in at a node, and was tried again fewer times than this
abbrev pub MayRetry : ℕ → List Progress → ℕ → ℕ → Type 0
MayRetry most progress i number = (strand : Progress) × (made : ℕ) × (slice_get progress i ≡ Some strand) × (slice_get strand.retries (number - 1) ≡ Some made) × (made < most)

-- A step can be made: a packet of a peer is on the way; something is planned next; a node is lost as is planned, and of what is on the way
-- from it so many packets can stay; a command waits and may be tried again; or the loss of a peer can be seen, of which nothing is on the way.
abbrev pub IsOpenMove : List Plan → ℕ → Sight → Move → Type 0
IsOpenMove plans most sight (Take i p) = IsThere sight i × (is_pair (length sight.progress) p i ≡ true) × (on_the_way sight.view.traffic p i ≢ [])
IsOpenMove plans most sight (Next i) = IsThere sight i × IsStep (planned_next plans sight.progress i)
IsOpenMove plans most sight (Loss i keep) = IsThere sight i × (planned_next plans sight.progress i ≡ Some planned.Loss) × CanStay keep (get_or sight.view.traffic.ways i [])
IsOpenMove plans most sight (Retry i op) = IsThere sight i × (sight_waits_at sight.view.traffic.nodes i op ≡ true) × MayRetry most sight.progress i op.number
IsOpenMove plans most sight (SeeLoss i p) = IsThere sight i × (is_pair (length sight.progress) p i ≡ true) × (on_the_way sight.view.traffic p i ≡ [])
    × (is_lost sight.lost p ≡ true) × (seen_at sight.view.traffic.nodes i p ≡ false)

-- ---- which steps are those of a node

-- one that takes of this peer, or sees its loss
abbrev pub IsMoveOfPeer : ℕ → ℕ → Move → Type 0
IsMoveOfPeer i p (Take j q) = (j ≡ i) × (q ≡ p)
IsMoveOfPeer i p (SeeLoss j q) = (j ≡ i) × (q ≡ p)
IsMoveOfPeer i p step = ⊥

-- of a peer whose place is below this one
abbrev pub IsOfPeersBelow : ℕ → ℕ → Move → Type 0
IsOfPeersBelow i count (Take j q) = (j ≡ i) × (q < count)
IsOfPeersBelow i count (SeeLoss j q) = (j ≡ i) × (q < count)
IsOfPeersBelow i count step = ⊥

-- of some peer
abbrev pub IsOfPeers : ℕ → Move → Type 0
IsOfPeers i (Take j q) = j ≡ i
IsOfPeers i (SeeLoss j q) = j ≡ i
IsOfPeers i step = ⊥

-- the one that is planned
abbrev pub IsPlannedOf : ℕ → Move → Type 0
IsPlannedOf i (Next j) = j ≡ i
IsPlannedOf i (Loss j keep) = j ≡ i
IsPlannedOf i step = ⊥

-- one that tries a command again
abbrev pub IsRetryOf : ℕ → Move → Type 0
IsRetryOf i (Retry j op) = j ≡ i
IsRetryOf i step = ⊥

-- the node whose step it is
abbrev pub node_of : Move → ℕ
node_of (Take i p) = i
node_of (Next i) = i
node_of (Loss i keep) = i
node_of (Retry i op) = i
node_of (SeeLoss i p) = i

abbrev pub IsAtNode : ℕ → Move → Type 0
IsAtNode i step = node_of step ≡ i

-- ---- listings

-- a list has all that were there, and those steps that are wanted, and no others
pub record ListsWanted (Wanted : Move → Type 0) (old new : List Move) : Type 0 where
  pub kept : (step : Move) → Contains old step → Contains new step
  pub all : (step : Move) → Wanted step → Contains new step
  pub only : (step : Move) → Contains new step → Contains old step ⊎ Wanted step

-- those that can be made, and are of this kind
abbrev pub AddsOpen : List Plan → ℕ → Sight → (Move → Type 0) → List Move → List Move → Type 0
AddsOpen plans most sight IsKind old new = ListsWanted (λ step. IsOpenMove plans most sight step × IsKind step) old new

-- those steps that can be made, and no others
abbrev pub IsListed : List Plan → ℕ → Sight → List Move → Type 0
IsListed plans most sight moves = (step : Move) → Contains moves step ↔ IsOpenMove plans most sight step

-- the losses of a node, of whose packets on the way so many stay as can
abbrev pub IsLossOf : ℕ → List (List (Stamped Message)) → Move → Type 0
IsLossOf i ways (Loss j keep) = (j ≡ i) × CanStay keep ways
IsLossOf i ways step = ⊥
