use Rattle.std.proofs.Common.{◌≡◌, ◌+◌, drop, arith}
use Rattle.std.specs.List.{flat_map}
use Rattle.pg_index_members.specs.Rows.{total_of}
use Rattle.pg_index_members.proofs.Parts.{total_next}
use Rattle.pg_index_members.proofs.level.sum.Goals as goal

pub overflow_add-total : goal.overflow_add-total
overflow_add-total g c =
    let next = total_next g.P.Part.rows c.args.parts.now c.loop-part.part-index c.part-item.result c.loop-part-test.true c.part-item.is in
    let so_far : c.loop-part.total + total_of (flat_map g.P.Part.rows (drop c.loop-part.part-index c.args.parts.now)) ≡ total_of (flat_map g.P.Part.rows c.args.parts.now) = c.loop-part.invariant in
    let fits = c.requires in
    omega arith

pub loop-part-preserved : goal.loop-part-preserved
loop-part-preserved g c =
    let next = total_next g.P.Part.rows c.args.parts.now c.loop-part.part-index c.part-item.result c.loop-part-test.true c.part-item.is in
    let so_far : c.loop-part.total + total_of (flat_map g.P.Part.rows (drop c.loop-part.part-index c.args.parts.now)) ≡ total_of (flat_map g.P.Part.rows c.args.parts.now) = c.loop-part.invariant in
    omega arith
