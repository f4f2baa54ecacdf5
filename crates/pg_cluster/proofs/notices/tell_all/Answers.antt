use Rattle.std.proofs.Common.{rules, ◌<◌, length}
use Rattle.pg_cluster.proofs.Telling.{tellers_itself, tellers_set}
use Rattle.pg_cluster.proofs.TellingAll.{told_more, told_none}
use Rattle.pg_cluster.proofs.notices.tell_all.Goals as goal

pub loop-place-init : goal.loop-place-init
loop-place-init c = (tellers_itself c.args.tellers.now.items, told_none c.args.node c.args.last c.args.tellers.now.items)

pub loop-place-preserved : goal.loop-place-preserved
loop-place-preserved c =
    let was = c.loop-place.invariant in
    let tellers = c.loop-place.tellers.items in
    let place = c.loop-place.place in
    let low : place < length tellers = search rules in
    let teller = c.index_mut.result.now in
    let is = c.index_mut.ensures.value in (
      tellers_set c.args.tellers.now.items tellers place teller c.tell.new.teller was.0 low is c.tell.ensures.same,
      told_more c.args.node c.args.last place c.args.tellers.now.items tellers teller c.tell.new.teller was.1 low is c.tell.ensures.told,
    )
