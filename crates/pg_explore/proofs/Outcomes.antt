-- What the step of a world came to.
use Rattle.std.proofs.Common.{◌≡◌, ◌⊎◌, Bool, true, false, List, ℕ, Option}
use Rattle.std.proofs.Common.{Some, None, Result, Ok, Err, inl, inr, subst, sym}
use Rattle.pg_world_packets.specs.PgStep.Config.{Config}
use Rattle.pg_world_packets.specs.PgStep.LossLaws.{LosingFrameWorld}
use Rattle.pg_world_packets.specs.PgNodeState.declared.state.fault.NodeFault.{NodeFault}
use Rattle.pg_world_packets.specs.PgNodeState.declared.state.fault.NodeFault.TheVariants as faults
use Rattle.pg_world_packets.specs.declared.step.Stepped.{Stepped}
use Rattle.pg_world_packets.specs.declared.step.Stepped.TheVariants.{Nothing, Moved, Happened, Gone}
use Rattle.pg_world_packets.specs.Losing.{Telling, LosingComesTo}
use Rattle.pg_explore.specs.Moves.{MoveCame, IsOutcome}

-- what is told of a step came, or not, by whether it happened
pub came : (config : Config) (u : LosingFrameWorld) (telling : Telling) (stepped : Result Stepped NodeFault) (Shown : LosingFrameWorld → Type 0) (b : Bool)
    → LosingComesTo config u telling stepped Shown → IsOutcome stepped b → MoveCame config u (Some telling) b Shown
came config u telling (Ok Nothing) Shown b h o = subst (λ b. MoveCame config u (Some telling) b Shown) (sym o) (inl h.0)
came config u telling (Ok (Moved n)) Shown b h o = absurd h
came config u telling (Ok (Happened effect)) Shown b (loss, busy, did, led) o = subst (λ b. MoveCame config u (Some telling) b Shown) (sym o) (busy, led)
came config u telling (Ok Gone) Shown b h o = subst (λ b. MoveCame config u (Some telling) b Shown) (sym o) (h.1, h.2)
came config u telling (Err faults.OutOfMemory) Shown b h o = absurd o
came config u telling (Err (faults.Refused refusal)) Shown b h o = subst (λ b. MoveCame config u (Some telling) b Shown) (sym o) (inr (refusal, h.0))
came config u telling (Err fault) Shown b h o = absurd h
