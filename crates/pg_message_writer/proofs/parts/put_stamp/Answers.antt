use Rattle.std.proofs.Common.{ℤ, arith, ap, length}
use Rattle.std.specs.Prelude.{pos}
use Rattle.pg_message_types.specs.PgTermIo.Writing.{int_bytes}
use Rattle.std.specs.Int.{w64}
use mir.Val.{to_z, of_z}
use Rattle.pg_message_writer.proofs.Put.{stamp_put}
use Rattle.pg_message_writer.proofs.Stamps.{stamp_is}
use Rattle.pg_message_writer.proofs.Words.{int_is}
use Rattle.pg_message_writer.proofs.parts.put_stamp.Goals as goal

pub put_int-requires : goal.put_int-requires
put_int-requires c =
    let e = stamp_is c.args.stamp c.from.result c.ranges.stamp.fits c.from.ensures in
    omega (arith, ap (λ (z : ℤ). length (int_bytes z)) e, ap length (int_is (pos c.args.stamp)), c.requires)

pub returns : goal.returns
returns c =
    stamp_put c.args.out.now c.put_int.new.out (to_z w64 (of_z w64 c.from.result)) c.args.stamp (stamp_is c.args.stamp c.from.result c.ranges.stamp.fits c.from.ensures) c.put_int.ensures.items c.put_int.ensures.spare c.put_int.ensures.spelled
