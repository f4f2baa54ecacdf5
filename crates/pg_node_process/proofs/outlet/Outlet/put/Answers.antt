use Rattle.std.proofs.Common.{Err, length, ap, arith}
use Rattle.pg_frame.proofs.Fronts.{length-frame}
use Rattle.pg_node_process.proofs.Framed.{two_parts}
use Rattle.pg_node_process.proofs.outlet.Outlet.put.Goals as goal

pub returns-in-Ok-clause-room : goal.returns-in-Ok-clause-room
returns-in-Ok-clause-room c =
    let both = two_parts c.clear.new.self.items c.reserve.new.self.items c.extend_reserved.new.self.items c.extend_reserved-2.new.self.items c.args.head.now c.args.rest.now
    c.clear.ensures.items c.reserve.ensures.items c.extend_reserved.ensures.items c.extend_reserved-2.ensures.items in
    let whole = ap length c.as_slice.ensures in (
      omega (arith, both, c.clear.ensures.spare, c.reserve.ensures.spare.0, c.extend_reserved.ensures.spare, c.extend_reserved-2.ensures.spare),
      omega (arith, both, whole, c.in-Ok.ensures.spare, length-frame c.as_slice.result.now),
    )

pub returns-in-Err-OutOfMemory-clause-succeeds : goal.returns-in-Err-OutOfMemory-clause-succeeds
returns-in-Err-OutOfMemory-clause-succeeds c room =
    let both = two_parts c.clear.new.self.items c.reserve.new.self.items c.extend_reserved.new.self.items c.extend_reserved-2.new.self.items c.args.head.now c.args.rest.now
    c.clear.ensures.items c.reserve.ensures.items c.extend_reserved.ensures.items c.extend_reserved-2.ensures.items in
    let whole = ap length c.as_slice.ensures in
    let short = c.in-Err-OutOfMemory.ensures.out_of_memory (ap (λ fault. Err fault) c.in-Err-OutOfMemory.field-0-is) in
    let none : ⊥ = omega (arith, both, whole, room.1, short, length-frame c.as_slice.result.now) in absurd none
