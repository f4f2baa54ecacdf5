use Rattle.std.proofs.Common.{◌≤◌, length, ap, sym, subst}
use Rattle.pg_world_packets.specs.Losing.{lost_of}
use Rattle.pg_world_packets.specs.Starts.{Begins}
use Rattle.pg_world_packets.specs.Worlds.{view_of}
use Rattle.pg_node_state.specs.PgStep.Config.{Config}
use Rattle.pg_world_config.specs.declared.config.Config.{Config as Given}
use Rattle.pg_world_packets.proofs.Leading.{frames_begin}
use Rattle.pg_world_packets.proofs.frame_world.FrameWorld+IndexTable.new.Goals as goal

pub invariant_of-result : goal.invariant_of-result
invariant_of-result c = record {
  past = ∣ frames_begin c.each_world_past_losses.ensures c.of-given.result.value.starts.items (view_of c.in-Ok.frames) (lost_of c.in-Ok.frames) c.in-Ok.ensures.lost c.in-Ok.ensures.formed
      (subst (λ (given : Config). length given ≤ 16) (sym (ap (λ (config : Given). config.starts.items) c.of-given.ensures)) c.in-Ok.ensures.good.0.few)
      (subst (λ (given : Config). Begins given (view_of c.in-Ok.frames)) (sym (ap (λ (config : Given). config.starts.items) c.of-given.ensures)) c.in-Ok.ensures.begins) ∣₁;
}
