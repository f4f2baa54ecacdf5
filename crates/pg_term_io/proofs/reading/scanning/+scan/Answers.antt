use Rattle.std.proofs.Common.{refl}
use Rattle.std.proofs.lemmas.Result.{err_from_is_err_and}
use Rattle.pg_term_io.specs.Scanning.{over_all, over_item}
use Rattle.pg_term_io.proofs.Walked.{item-nothing, tail-nothing, item-deep, tail-deep}
use Rattle.pg_term_io.proofs.Walked.{item-more, tail-more, goes_on, stops, is_done}
use Rattle.pg_term_io.proofs.reading.scanning.+scan.Goals as goal

pub item-returns-in-empty : goal.item-returns-in-empty
item-returns-in-empty t c = item-nothing c.args.room c.args.bytes.now c.in-empty.len_below

pub item-returns-then-room-eq0 : goal.item-returns-then-room-eq0
item-returns-then-room-eq0 t c = item-deep c.args.room c.args.bytes.now c.in-len1-up.len_at_least c.if-room-eq0.true

pub item-returns-else-room-eq0 : goal.item-returns-else-room-eq0
item-returns-else-room-eq0 t c = rw (item-more c.args.room c.args.bytes.now c.in-len1-up.len_at_least c.if-room-eq0.false, ← c.of.ensures) c.behind.ensures

pub tail-returns-in-empty : goal.tail-returns-in-empty
tail-returns-in-empty t c = tail-nothing c.args.room c.args.bytes.now c.in-empty.len_below

pub tail-returns-then-room-eq0 : goal.tail-returns-then-room-eq0
tail-returns-then-room-eq0 t c = tail-deep c.args.room c.args.bytes.now c.in-len1-up.len_at_least c.if-room-eq0.true

pub tail-returns-in-Some : goal.tail-returns-in-Some
tail-returns-in-Some t c = rw (tail-more c.args.room c.args.bytes.now c.in-len1-up.len_at_least c.if-room-eq0.false, ← c.of_list.ensures, c.in-Some.is) c.elements.ensures

pub tail-returns-in-None : goal.tail-returns-in-None
tail-returns-in-None t c = rw (tail-more c.args.room c.args.bytes.now c.in-len1-up.len_at_least c.if-room-eq0.false, ← c.of_list.ensures, c.in-None.is) refl

pub items-returns-in_err-rest : goal.items-returns-in_err-rest
items-returns-in_err-rest t c =
    let p = err_from_is_err_and c.from_residual.result c.from_residual.ensures.1 in
    rw (p.1, p.2) (stops (over_item c.args.room) c.args.count c.loop.counter c.loop.rest.now (over_all (over_item c.args.room) c.args.count c.args.bytes.now) c.in_err-rest.field-0.0 c.loop-test.true c.in_err-rest.ensures c.loop.invariant)

pub items-loop-preserved : goal.items-loop-preserved
items-loop-preserved t c = goes_on (over_item c.args.room) c.args.count c.loop.counter c.loop.rest.now (over_all (over_item c.args.room) c.args.count c.args.bytes.now) c.in_ok-rest.rest.now c.loop-test.true c.in_ok-rest.ensures c.loop.invariant

pub items-returns : goal.items-returns
items-returns t c = is_done (over_item c.args.room) c.args.count c.loop.counter c.loop.rest.now (over_all (over_item c.args.room) c.args.count c.args.bytes.now) c.loop-test.false c.loop.invariant
