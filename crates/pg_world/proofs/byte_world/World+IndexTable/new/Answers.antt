use Rattle.std.proofs.Common.{◌≤◌, length, ap, sym, subst}
use Rattle.pg_world_packets.specs.PgStep.Config.{Config}
use Rattle.pg_world_packets.specs.PgWorldConfig.declared.config.Config.{Config as Given}
use Rattle.pg_world.specs.BytesStart.{BytesBegin}
use Rattle.pg_world.specs.Crossings.{crossing_of}
use Rattle.pg_world_packets.specs.PgWorldAccount.Histories.{account_of}
use Rattle.pg_world_packets.specs.PgWorldAccount.Losses.{lost_in}
use Rattle.pg_world.proofs.over_bytes.Leading.{bytes_begin}
use Rattle.pg_world.proofs.byte_world.World+IndexTable.new.Goals as goal

pub invariant_of-result : goal.invariant_of-result
invariant_of-result c =
    let bytes = c.in-Ok.bytes in
    record {
      past = ∣ bytes_begin c.each_world_past_losses.ensures c.of-given.result.value.starts.items (crossing_of bytes) (account_of bytes.histories) (lost_in bytes.losses) c.in-Ok.ensures.lost c.in-Ok.ensures.formed
          (subst (λ (given : Config). length given ≤ 16) (sym (ap (λ (config : Given). config.starts.items) c.of-given.ensures)) c.in-Ok.ensures.good.0.few)
          (subst (λ (given : Config). BytesBegin given (crossing_of bytes) (account_of bytes.histories)) (sym (ap (λ (config : Given). config.starts.items) c.of-given.ensures)) c.in-Ok.ensures.begins) ∣₁;
    }
