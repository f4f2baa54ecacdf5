use Rattle.std.proofs.Common.{arith, ◌≡◌, ◌<◌, ◌-◌, length}
use Rattle.pg_cluster.proofs.Settling.{rows_compose, rows_changed, row_composes, arrived_more}
use Rattle.pg_cluster.proofs.pairs.settle_last.Goals as goal

pub loop-place-preserved : goal.loop-place-preserved
loop-place-preserved c =
    let was = c.loop-place.invariant in
    let rows = c.args.rows.now.items in
    let rows2 = c.loop-place.rows.items in
    let row = c.args.row.now.items in
    let row2 = c.loop-place.row.items in
    let place = c.loop-place.place in
    let v = c.index_mut.result.now in
    let count : length rows2 ≡ length rows = was.0.0 in
    let test = c.loop-place-test.true in
    let low : place < length rows2 = omega arith in
    let told = c.len-last.ensures in
    let last : c.len-last.result - 1 ≡ length rows - 1 = omega arith in (
      rows_compose rows rows2 _ was.0 (rows_changed rows2 place v c.settle.new.low low c.index_mut.ensures.value c.settle.ensures.low),
      row_composes row row2 _ was.1 c.settle.ensures.high,
      arrived_more rows rows2 row row2 place (length rows - 1) (c.len-last.result - 1) v was.0 was.1 low c.index_mut.ensures.value last c.settle.ensures.arrived was.2,
    )
