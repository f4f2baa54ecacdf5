-- Which steps over bytes lose no node.
use Rattle.std.proofs.Common.{◌≡◌, ℕ, false, List, Result, refl}
use Rattle.pg_world_packets.specs.PgNodeState.declared.state.fault.NodeFault.{NodeFault}
use Rattle.pg_world.specs.declared.step.Step.{Step}
use Rattle.pg_world.specs.declared.step.Step.TheVariants as steps
use Rattle.pg_world_packets.specs.declared.step.Stepped.{Stepped}
use Rattle.pg_world.specs.Bars.{bytes_lost_after}
use Rattle.pg_world_packets.proofs.Running.{none_more}
use Rattle.pg_world.specs.Crossings.{is_loss_in}

-- no more nodes are lost by a step over bytes that is no loss
pub none_lost_in : (step : Step) (result : Result Stepped NodeFault) (lost : List ℕ) → is_loss_in step ≡ false → bytes_lost_after step result lost ≡ lost
none_lost_in (steps.Put from to max) result lost keeps = refl
none_lost_in (steps.Pull to from max) result lost keeps = refl
none_lost_in (steps.Event step) result lost keeps = none_more step result lost keeps
none_lost_in (steps.Lose node) result lost keeps = absurd (cc)
