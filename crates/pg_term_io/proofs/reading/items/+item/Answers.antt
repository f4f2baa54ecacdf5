use Rattle.std.proofs.Common.{ap, refl, Ok, ◌≡◌, ◌∙◌, ◌-◌, length, take, drop, get_or}
use Rattle.std.specs.Int.{w32}
use Rattle.pg_term_io.specs.Numbers.{int_of}
use Rattle.std.proofs.lemmas.Result.{err_from_is_err_and}
use Rattle.pg_term_io.specs.Reading.{item_at, items_at, with_front, as_term, atom_behind, pid_at}
use Rattle.pg_term.specs.Fault.{Fails}
use Rattle.pg_term_io.proofs.Loop.{fails_as, goes_on, ends, is_done, list_count_fails, list_items_fail, list_goes_on}
use Rattle.pg_term_io.proofs.Steps.{item_at-nothing, tail_at-nothing, item_at-deep, tail_at-deep, item_at-more}
use Rattle.pg_term_io.proofs.Steps.{tail_at-more, item_at-small, item_at-tuple, item_at-name, item_at-pid}
use Rattle.pg_term_io.proofs.reading.items.+item.Goals as goal
use Rattle.pg_term_io.proofs.reading.items.+item.Goals.{items-in-len2-up+in_ok-push-in-len2-up}
use Rattle.pg_term_io.proofs.reading.items.+item.Goals.{items-in-len2-up-2+in_ok-inner-in-len2-up-2+in_ok-push-in-len2-up-2}
use Rattle.pg_term_io.proofs.reading.items.+item.Goals.{items-else-rest-lt1+in-len1-up+in_ok-atom-in-len1-up+in_ok-push-in-len1-up}
use Rattle.pg_term_io.proofs.reading.items.+item.Goals.{items-else-rest-lt1+in-len1-up-2+in_ok-pid-in-len1-up-2+in_ok-push-in-len1-up-2}
use Rattle.pg_term_io.proofs.reading.items.+item.Goals.{items-in_default+in_ok-term-in_default+in_ok-push-in_default}
use Rattle.pg_term.specs.declared.term.Term.{Tuple}
use Rattle.pg_term_io.specs.declared.tag.Size.TheVariants.{Small}
use Rattle.pg_term_io.specs.declared.tag.Encoding.TheVariants.{Utf8}
use Rattle.pg_term.specs.declared.term.Term.TheVariants.{Atom, Pid}

pub item-returns-in-empty : goal.item-returns-in-empty
item-returns-in-empty t c = item_at-nothing c.args.room c.args.bytes.now c.in-empty.len_below

pub item-returns-then-room-eq0 : goal.item-returns-then-room-eq0
item-returns-then-room-eq0 t c = item_at-deep c.args.room c.args.bytes.now c.in-len1-up.len_at_least c.if-room-eq0.true

pub item-returns-else-room-eq0 : goal.item-returns-else-room-eq0
item-returns-else-room-eq0 t c = rw (item_at-more c.args.room c.args.bytes.now c.in-len1-up.len_at_least c.if-room-eq0.false, ← c.of.ensures) c.item_behind.ensures

pub tail-returns-in-empty : goal.tail-returns-in-empty
tail-returns-in-empty t c = ap (with_front c.args.terms.now.items) (tail_at-nothing c.args.room c.args.bytes.now c.in-empty.len_below)

pub tail-returns-then-room-eq0 : goal.tail-returns-then-room-eq0
tail-returns-then-room-eq0 t c = ap (with_front c.args.terms.now.items) (tail_at-deep c.args.room c.args.bytes.now c.in-len1-up.len_at_least c.if-room-eq0.true)

pub tail-returns-in-Some : goal.tail-returns-in-Some
tail-returns-in-Some t c = rw (tail_at-more c.args.room c.args.bytes.now c.in-len1-up.len_at_least c.if-room-eq0.false, ← c.of_list.ensures, c.in-Some.is) c.elements.ensures

pub tail-returns-in-None : goal.tail-returns-in-None
tail-returns-in-None t c = rw (tail_at-more c.args.room c.args.bytes.now c.in-len1-up.len_at_least c.if-room-eq0.false, ← c.of_list.ensures, c.in-None.is) refl

pub items-returns-in_err-term-in_default : goal.items-returns-in_err-term-in_default
items-returns-in_err-term-in_default t c =
    let p = err_from_is_err_and c.from_residual-in_err-term-in_default.result c.from_residual-in_err-term-in_default.ensures.1 in
    rw (p.1, p.2) (ends (item_at c.args.room) c.loop-index.terms.items c.args.count c.loop-index.index c.loop-index.rest.now (with_front c.args.terms.now.items (items_at (item_at c.args.room) c.args.count c.args.bytes.now)) c.in_err-term-in_default.field-0.0 c.loop-index-test.true c.in_err-term-in_default.ensures c.loop-index.invariant)

pub items-loop-index-preserved : goal.items-loop-index-preserved
items-loop-index-preserved t c =
    let total = with_front c.args.terms.now.items (items_at (item_at c.args.room) c.args.count c.args.bytes.now) in
    let bytes = c.loop-index.rest.now in
    elim c.if-rest-lt1.branch [
      | items-in-len2-up+in_ok-push-in-len2-up w ↦ rw (w.terms-is, w.rest-is, w.in_ok-push-in-len2-up.ensures.items, w.small.ensures) (goes_on (item_at c.args.room) c.loop-index.terms.items c.args.count c.loop-index.index c.loop-index.rest.now (int_of (get_or bytes 1 0)) (take (length bytes - 2) (drop 2 bytes)) total c.loop-index-test.true (item_at-small c.args.room bytes w.in-len2-up.len_at_least w.if-room-gt0.true w.if-tag-eq-SMALL_INTEGER_EXT.true) c.loop-index.invariant)
      | items-in-len2-up-2+in_ok-inner-in-len2-up-2+in_ok-push-in-len2-up-2 w ↦
          let inner = w.in_ok-inner-in-len2-up-2 in
          let found : items_at (item_at (c.args.room - 1)) (get_or bytes 1 0) (take (length bytes - 2) (drop 2 bytes)) ≡ Ok (inner.inner.items, inner.after.now) = rw (← w.from.ensures) inner.ensures in
          rw (w.terms-is, w.rest-is, w.in_ok-push-in-len2-up-2.ensures.items, w.from_vec.ensures) (goes_on (item_at c.args.room) c.loop-index.terms.items c.args.count c.loop-index.index c.loop-index.rest.now (Tuple inner.inner.items) inner.after.now total c.loop-index-test.true (item_at-tuple c.args.room bytes w.in-len2-up.len_at_least w.if-room-gt0-2.true w.if-tag-eq-SMALL_TUPLE_EXT.true ∙ ap (as_term Tuple) found) c.loop-index.invariant)
      | items-else-rest-lt1+in-len1-up+in_ok-atom-in-len1-up+in_ok-push-in-len1-up w ↦
          let name = w.in_ok-atom-in-len1-up in
          rw (w.terms-is, w.rest-is, w.in_ok-push-in-len1-up.ensures.items) (goes_on (item_at c.args.room) c.loop-index.terms.items c.args.count c.loop-index.index c.loop-index.rest.now (Atom name.atom) name.after.now total c.loop-index-test.true (item_at-name c.args.room bytes w.if-room-gt0-3.true w.if-tag-eq-SMALL_ATOM_UTF8_EXT.true ∙ ap (as_term Atom) name.ensures) c.loop-index.invariant)
      | items-else-rest-lt1+in-len1-up-2+in_ok-pid-in-len1-up-2+in_ok-push-in-len1-up-2 w ↦
          let pid = w.in_ok-pid-in-len1-up-2 in
          rw (w.terms-is, w.rest-is, w.in_ok-push-in-len1-up-2.ensures.items) (goes_on (item_at c.args.room) c.loop-index.terms.items c.args.count c.loop-index.index c.loop-index.rest.now (Pid pid.pid) pid.after.now total c.loop-index-test.true (item_at-pid c.args.room bytes w.if-room-gt0-4.true w.if-tag-eq-NEW_PID_EXT.true ∙ ap (as_term Pid) pid.ensures) c.loop-index.invariant)
      | items-in_default+in_ok-term-in_default+in_ok-push-in_default w ↦ rw (w.terms-is, w.rest-is, w.in_ok-push-in_default.ensures.items) (goes_on (item_at c.args.room) c.loop-index.terms.items c.args.count c.loop-index.index c.loop-index.rest.now w.in_ok-term-in_default.term w.in_ok-term-in_default.after.now total c.loop-index-test.true w.in_ok-term-in_default.ensures c.loop-index.invariant)
    ]

pub items-returns : goal.items-returns
items-returns t c = is_done (item_at c.args.room) c.loop-index.terms.items c.args.count c.loop-index.index c.loop-index.rest.now (with_front c.args.terms.now.items (items_at (item_at c.args.room) c.args.count c.args.bytes.now)) c.loop-index-test.false c.loop-index.invariant

pub list_at-returns-in_err-count : goal.list_at-returns-in_err-count
list_at-returns-in_err-count t c =
    let p = err_from_is_err_and c.from_residual.result c.from_residual.ensures.1 in
    rw (p.1, p.2) (list_count_fails c.in_err-count.field-0.0 c.args.terms.now.items c.args.room c.args.bytes.now c.in_err-count.ensures.given)

pub list_at-returns-in_err-rest : goal.list_at-returns-in_err-rest
list_at-returns-in_err-rest t c =
    let p = err_from_is_err_and c.from_residual-in_err-rest.result c.from_residual-in_err-rest.ensures.1 in
    rw (p.1, p.2) (list_items_fail c.in_err-rest.field-0.0 c.args.terms.now.items c.args.room c.args.bytes.now c.in_ok-count.count c.in_ok-count.rest.now c.in_ok-count.ensures.given c.in_err-rest.ensures)

pub list_at-returns : goal.list_at-returns
list_at-returns t c =
    rw (list_goes_on c.args.terms.now.items c.items.new.terms.items c.args.room c.args.bytes.now c.in_ok-count.count c.in_ok-count.rest.now c.in_ok-rest.rest.now c.in_ok-count.ensures.given c.in_ok-rest.ensures) c.tail.ensures

pub items-returns-in_err-inner-in-len2-up-2 : goal.items-returns-in_err-inner-in-len2-up-2
items-returns-in_err-inner-in-len2-up-2 t c =
    let p = err_from_is_err_and c.from_residual-in_err-inner-in-len2-up-2.result c.from_residual-in_err-inner-in-len2-up-2.ensures.1 in
    let e = c.in_err-inner-in-len2-up-2.field-0.0 in
    let bytes = c.loop-index.rest.now in
    let read = items_at (item_at (c.args.room - 1)) (get_or bytes 1 0) (take (length bytes - 2) (drop 2 bytes)) in
    let failed : Fails e read = rw (← c.from.ensures) c.in_err-inner-in-len2-up-2.ensures in
    let there : Fails e (item_at c.args.room bytes) = rw (item_at-tuple c.args.room bytes c.in-len2-up.len_at_least c.if-room-gt0-2.true c.if-tag-eq-SMALL_TUPLE_EXT.true) (fails_as e read (as_term Tuple read) failed (λ k. ap (as_term Tuple) k)) in
    rw (p.1, p.2) (ends (item_at c.args.room) c.loop-index.terms.items c.args.count c.loop-index.index bytes (with_front c.args.terms.now.items (items_at (item_at c.args.room) c.args.count c.args.bytes.now)) e c.loop-index-test.true there c.loop-index.invariant)

pub items-returns-in_err-atom-in-len1-up : goal.items-returns-in_err-atom-in-len1-up
items-returns-in_err-atom-in-len1-up t c =
    let p = err_from_is_err_and c.from_residual-in_err-atom-in-len1-up.result c.from_residual-in_err-atom-in-len1-up.ensures.1 in
    let e = c.in_err-atom-in-len1-up.field-0.0 in
    let bytes = c.loop-index.rest.now in
    let read = atom_behind Small Utf8 (take (length bytes - 1) (drop 1 bytes)) in
    let there : Fails e (item_at c.args.room bytes) = rw (item_at-name c.args.room bytes c.if-room-gt0-3.true c.if-tag-eq-SMALL_ATOM_UTF8_EXT.true) (fails_as e read (as_term Atom read) c.in_err-atom-in-len1-up.ensures (λ k. ap (as_term Atom) k)) in
    rw (p.1, p.2) (ends (item_at c.args.room) c.loop-index.terms.items c.args.count c.loop-index.index bytes (with_front c.args.terms.now.items (items_at (item_at c.args.room) c.args.count c.args.bytes.now)) e c.loop-index-test.true there c.loop-index.invariant)

pub items-returns-in_err-pid-in-len1-up-2 : goal.items-returns-in_err-pid-in-len1-up-2
items-returns-in_err-pid-in-len1-up-2 t c =
    let p = err_from_is_err_and c.from_residual-in_err-pid-in-len1-up-2.result c.from_residual-in_err-pid-in-len1-up-2.ensures.1 in
    let e = c.in_err-pid-in-len1-up-2.field-0.0 in
    let bytes = c.loop-index.rest.now in
    let read = pid_at w32 (take (length bytes - 1) (drop 1 bytes)) in
    let there : Fails e (item_at c.args.room bytes) = rw (item_at-pid c.args.room bytes c.if-room-gt0-4.true c.if-tag-eq-NEW_PID_EXT.true) (fails_as e read (as_term Pid read) c.in_err-pid-in-len1-up-2.ensures (λ k. ap (as_term Pid) k)) in
    rw (p.1, p.2) (ends (item_at c.args.room) c.loop-index.terms.items c.args.count c.loop-index.index bytes (with_front c.args.terms.now.items (items_at (item_at c.args.room) c.args.count c.args.bytes.now)) e c.loop-index-test.true there c.loop-index.invariant)
