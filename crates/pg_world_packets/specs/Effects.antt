-- What an event did beside its change of the node that made it: what its turn sends and reports, in short.
use Rattle.std.specs.Prelude.{ℕ, zero, suc, ◌+◌, length, Option, Some, None, option_map}
use Rattle.pg_node_state.specs.PgGroup.declared.update.Update.{Update}
use Rattle.pg_node_state.specs.PgStep.Machines.Losing.{LosingEvent, Step, Lose}
use Rattle.pg_node_state.specs.PgStep.Machines.Machine.{Machine, World, Event, Turn, turn_of}
use Rattle.pg_node_state.specs.PgStep.declared.command.OpId.{OpId}
use Rattle.pg_node_state.specs.PgStep.Config.{Config}
use Rattle.pg_node_state.specs.PgStep.FrameMachine.{losing_frame_machine}
use Rattle.pg_node_state.specs.PgStep.LossLaws.{LosingFrameWorld}
use Rattle.pg_node_state.specs.PgStep.Step.{Action}
use Rattle.pg_node_state.specs.PgStep.Turns.{Report}
use Rattle.pg_node_state.specs.PgNodeSends.declared.done.Done.{Done}
use Rattle.pg_node_state.specs.PgNodeSends.declared.outgoing.Outgoing.{Ghosts as Listing}
use Rattle.pg_world_packets.specs.declared.effect.Effect.{Effect}

-- the sum of what is counted at each place below
abbrev pub sum_below : ℕ → (ℕ → ℕ) → ℕ
sum_below zero count = 0
sum_below (suc n) count = count n + sum_below n count

-- the command that began
abbrev pub op_of : Option (OpId × Update) → Option OpId
op_of None = None
op_of (Some begun) = Some begun.0

-- what a turn did among so many nodes: how many packets it sends to all of them, and what it reports
abbrev pub effect_of : {S P : Type 0} → ℕ → Turn S P Report → Effect
effect_of size turn = record {
  sent = sum_below size (λ y. length (turn.sends y));
  began = op_of turn.reported.began;
  odd = turn.reported.odd;
}

-- what an event did, by the turn that its node makes; None where it makes none
abbrev pub effect_in : {S P C : Type 0} → Machine S P C Report → World S P Report → Event C → Option Effect
effect_in m w e = option_map (effect_of m.size) (turn_of m w e)

-- the same where nodes may be lost; the loss of a node is no turn
abbrev pub losing_effect_in : Config → LosingFrameWorld → LosingEvent Action → Option Effect
losing_effect_in config u (Step e) = effect_in (losing_frame_machine config) u.world e
losing_effect_in config u (Lose i keep) = None

-- ---- what was done, in short

abbrev pub effect_by : {S : Type 0} {listing : Listing S} → Done S listing → Effect
effect_by {S} {listing} done = record { sent = length (listing.listed done.sends); began = op_of done.began; odd = done.odd }

abbrev pub no_effect : Effect
no_effect = record { sent = 0; began = None; odd = None }
