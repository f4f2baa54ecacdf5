-- What bars a step over bytes where nodes may be lost: a place that is not there, and losses.
use Rattle.std.specs.Prelude.{◌≡◌, ℕ, Bool, true, false, not, ◌||◌, nat_lt}
use Rattle.std.specs.Prelude.{length, List, [], ◌∷◌, Option, Some, None, Result, Err}
use Rattle.pg_world_packets.specs.PgStep.Machines.Places.{is_pair}
use Rattle.pg_world_packets.specs.PgStep.declared.refusal.Refusal.{Refusal}
use Rattle.pg_world_packets.specs.PgStep.declared.refusal.Refusal.TheVariants.{NoSuchPlace, NodeLost, NotLost, NotDrained}
use Rattle.pg_world_packets.specs.PgStep.Faults.{first_that_holds}
use Rattle.pg_world_packets.specs.PgNodeState.declared.state.fault.NodeFault.{NodeFault}
use Rattle.pg_world_packets.specs.PgNodeState.declared.state.fault.NodeFault.TheVariants.{Refused, OutOfMemory}
use Rattle.pg_node.specs.Bytes.{is_drained}
use Rattle.pg_world_packets.specs.declared.step.FrameStep.{FrameStep}
use Rattle.pg_world_packets.specs.declared.step.FrameStep.TheVariants as frames
use Rattle.pg_world.specs.declared.step.Step.{Step}
use Rattle.pg_world.specs.declared.step.Step.TheVariants as steps
use Rattle.pg_world_packets.specs.declared.step.Stepped.{Stepped}
use Rattle.pg_world.specs.Crossings.{Crossing, bytes_at, link_at}
use Rattle.pg_world_packets.specs.Losing.{formed_after, formed_with, is_cut_off, is_barred, lost_with, lost_after}
use Rattle.pg_world_packets.specs.PgWorldAccount.Losses.{is_lost}
use Rattle.pg_world_packets.specs.PgWorldConfig.Seen.{Seen}
use Rattle.pg_world_packets.specs.Worlds.{has_places}

-- a ring has bytes that were not pulled
abbrev pub has_bytes : List ℕ → Bool
has_bytes [] = false
has_bytes (x ∷ bytes) = true

-- bytes of a lost node are not put
abbrev pub put_bar : Crossing → List ℕ → ℕ → ℕ → Option Refusal
put_bar crossing lost x y = first_that_holds ((not (is_pair (length crossing.nodes) x y), NoSuchPlace) ∷ (is_lost lost x, NodeLost) ∷ [])

-- a lost node pulls nothing, and of a peer whose loss it has seen no node does
abbrev pub pull_bar : Crossing → List ℕ → ℕ → ℕ → Option Refusal
pull_bar crossing lost y x = first_that_holds ((not (is_pair (length crossing.nodes) x y), NoSuchPlace) ∷ (is_cut_off crossing.nodes lost y x, NodeLost) ∷ [])

-- bytes of a peer are on the ring, or a whole frame of it has come
abbrev pub is_undrained : Crossing → ℕ → ℕ → Bool
is_undrained crossing i p = has_bytes (bytes_at crossing p i).ring || not (is_drained (link_at crossing i p))

-- why a loss is not seen, but for a full clock
abbrev pub sight_bar : Crossing → List ℕ → ℕ → ℕ → Option Refusal
sight_bar crossing lost i p = first_that_holds (
    (not (is_pair (length crossing.nodes) i p), NoSuchPlace)
    ∷ (is_cut_off crossing.nodes lost i p, NodeLost)
    ∷ (not (is_lost lost p), NotLost)
    ∷ (is_undrained crossing i p, NotDrained) ∷ [])

-- a loss is told as not drained there alone
abbrev pub TellsUndrained : Crossing → FrameStep → Result Stepped NodeFault → Type 0
TellsUndrained crossing (frames.SeeLoss i p) result = result ≡ Err (Refused NotDrained) → is_undrained crossing i p ≡ true
TellsUndrained crossing step result = Unit {0}

abbrev pub StepTellsUndrained : Crossing → Step → Result Stepped NodeFault → Type 0
StepTellsUndrained crossing (steps.Event step) result = TellsUndrained crossing step result
StepTellsUndrained crossing step result = Unit {0}

-- why a node is not lost
abbrev pub loss_bar : Crossing → List ℕ → ℕ → Option Refusal
loss_bar crossing lost i = first_that_holds ((not (nat_lt i (length crossing.nodes)), NoSuchPlace) ∷ (is_lost lost i, NodeLost) ∷ [])

-- what bars an event
abbrev pub event_bar : Crossing → List ℕ → FrameStep → Option Refusal
event_bar crossing lost (frames.SeeLoss i p) = sight_bar crossing lost i p
event_bar crossing lost (frames.Lose i keep) = loss_bar crossing lost i
event_bar crossing lost step = first_that_holds ((not (has_places crossing.nodes step), NoSuchPlace) ∷ (is_barred crossing.nodes lost step, NodeLost) ∷ [])

abbrev pub bar_of : Crossing → List ℕ → Step → Option Refusal
bar_of crossing lost (steps.Put x y max) = put_bar crossing lost x y
bar_of crossing lost (steps.Pull y x max) = pull_bar crossing lost y x
bar_of crossing lost (steps.Event step) = event_bar crossing lost step
bar_of crossing lost (steps.Lose i) = loss_bar crossing lost i

-- what is barred is refused so, whatever memory there is
abbrev pub RefusesBarred : Option Refusal → Result Stepped NodeFault → Type 0
RefusesBarred None result = Unit {0}
RefusesBarred (Some refusal) result = result ≡ Err (Refused refusal)

-- a fault is the refusal of what is barred so, or memory ran out
abbrev pub IsFaultOf : Option Refusal → NodeFault → Type 0
IsFaultOf bar OutOfMemory = Unit {0}
IsFaultOf bar (Refused refusal) = bar ≡ Some refusal
IsFaultOf bar fault = ⊥

-- the lost nodes behind a step over bytes
abbrev pub bytes_lost_after : Step → Result Stepped NodeFault → List ℕ → List ℕ
bytes_lost_after (steps.Event step) result lost = lost_after step result lost
bytes_lost_after (steps.Lose i) result lost = lost_with i result lost
bytes_lost_after step result lost = lost

-- whether every node was formed when the first was lost, behind a step over bytes
abbrev pub bytes_formed_after : Step → Result Stepped NodeFault → List Seen → List ℕ → Bool → Bool
bytes_formed_after (steps.Event step) result nodes lost formed = formed_after step result nodes lost formed
bytes_formed_after (steps.Lose i) result nodes lost formed = formed_with result nodes lost formed
bytes_formed_after step result nodes lost formed = formed
