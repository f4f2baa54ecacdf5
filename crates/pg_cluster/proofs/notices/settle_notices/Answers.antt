use Rattle.std.proofs.Common.{arith, ◌≡◌, ◌<◌, ◌++◌, ap, length, sym, ◌∙◌}
use Rattle.pg_ring.specs.Slots.{slots_left}
use Rattle.pg_cluster.specs.Notices.{Told}
use Rattle.pg_cluster.proofs.Telling.{tellers_more, inlets_more, told_more}
use Rattle.pg_cluster.proofs.notices.settle_notices.Goals as goal

pub loop-place-preserved : goal.loop-place-preserved
loop-place-preserved c =
    let was = c.loop-place.invariant in
    let inlets = c.args.inlets.items in
    let inlets2 = c.loop-place.inlets.items in
    let tellers = c.args.tellers.items in
    let tellers2 = c.loop-place.tellers.items in
    let place = c.loop-place.place in
    let count : length inlets2 ≡ length inlets = was.1.len in
    let test = c.loop-place-test.true in
    let told = c.len-place-end.ensures in
    let low : place < length inlets2 = omega arith in
    let teller = c.index_mut.result.now in
    let inlet = c.index_mut-in-loop-place.result.now in
    let teller_is = c.index_mut.ensures.value in
    let inlet_is = c.index_mut-in-loop-place.ensures.value in
    let looked = c.slots_together.ensures in
    let left = slots_left c.slots_together.new.inlet in
    let here : Told teller inlet = record { on_the_way = left; is = sym looked.given ∙ (sym looked.whole ∙ ap (λ w. w ++ left) looked.taken) } in (
      tellers_more tellers tellers2 inlets inlets2 c.requires was.0 was.1 place low teller inlet teller_is inlet_is _ looked.out looked.given,
      inlets_more tellers tellers2 inlets inlets2 c.requires was.0 was.1 place low teller inlet teller_is inlet_is _ looked.inlet looked.taken,
      told_more tellers tellers2 inlets inlets2 c.requires was.0 was.1 place low teller inlet teller_is inlet_is here was.2,
    )
