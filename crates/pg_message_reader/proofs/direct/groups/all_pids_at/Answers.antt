use Rattle.std.proofs.Common.{◌≡◌, ℕ, suc, ◌-◌, map, ap, subst, ◌∙◌, arith}
use Rattle.pg_term.specs.declared.term.Term.TheVariants.{Pid as Process}
use Rattle.pg_term_io.specs.Reading.{items_at, item_at, with_front}
use Rattle.pg_message_reader.proofs.Rows.{row_goes_on, row_is_done}
use Rattle.pg_message_reader.proofs.direct.groups.all_pids_at.Goals as goal

pub alike_at-requires : goal.alike_at-requires
alike_at-requires c = record { front = c.loop-more.pids.items; pid = c.in_ok-pid.pid; after = c.in_ok-pid.after.now; are = c.in_ok-push.ensures.items; here = c.in_ok-pid.ensures }

pub loop-more-preserved : goal.loop-more-preserved
loop-more-preserved c = λ room.
    let read = item_at (suc room) in
    let more = c.loop-more.more in
    let total = items_at read c.args.count c.args.bytes.now in
    let so_far = subst (λ (n : ℕ). with_front (map Process c.loop-more.pids.items) (items_at read n c.loop-more.rest.now) ≡ total) {x = more} {y = more - 0} (omega arith) (c.loop-more.invariant room) in
    c.in_ok-others.ensures.pids room
    ∙ ap (λ ps. with_front (map Process ps) (items_at read (more - 1) c.in_ok-pid.after.now)) c.in_ok-push.ensures.items
    ∙ row_goes_on Process read more c.loop-more.pids.items 0 c.loop-more.rest.now total c.in_ok-pid.pid c.in_ok-pid.after.now (omega (arith, c.loop-more-test.true)) (c.in_ok-pid.ensures room) so_far

pub returns : goal.returns
returns c = λ room.
    let read = item_at (suc room) in
    let more = c.loop-more.more in
    let total = items_at read c.args.count c.args.bytes.now in
    let so_far = subst (λ (n : ℕ). with_front (map Process c.loop-more.pids.items) (items_at read n c.loop-more.rest.now) ≡ total) {x = more} {y = more - 0} (omega arith) (c.loop-more.invariant room) in
    row_is_done Process read more c.loop-more.pids.items 0 c.loop-more.rest.now total (omega (arith, c.loop-more-test.false)) so_far
