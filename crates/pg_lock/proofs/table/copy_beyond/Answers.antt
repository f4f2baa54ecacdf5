use Rattle.pg_lock.proofs.Copies.{names_begun, names_more, names_all}
use Rattle.pg_lock.proofs.table.copy_beyond.Goals as goal

pub loop-name-init : goal.loop-name-init
loop-name-init c =
    let gives = c.into_iter-name-iterator.ensures.into_iter_gives in
    names_begun c.args.holders.now c.new-copy.result c.into_iter-name-iterator.result gives.0 gives.6 c.new-copy.ensures.empty

pub loop-name-preserved-in_ok-insert : goal.loop-name-preserved-in_ok-insert
loop-name-preserved-in_ok-insert c =
    names_more c.args.holders.now c.loop-name.copy c.insert.new.self c.in-Some.name.now c.in_ok-copy.field-0 c.in-Some.reference.now c.in_ok-copy-2.field-0 c.loop-name.name-iterator c.next.new.self
    c.in-Some.ensures.steps c.in_ok-copy.ensures c.in_ok-copy-2.ensures c.loop-name.invariant c.in_ok-insert.ensures.updates.0

pub loop-name-preserved : goal.loop-name-preserved
loop-name-preserved c =
    names_more c.args.holders.now c.loop-name.copy c.insert.new.self c.in-Some.name.now c.in_ok-copy.field-0 c.in-Some.reference.now c.in_ok-copy-2.field-0 c.loop-name.name-iterator c.next.new.self
    c.in-Some.ensures.steps c.in_ok-copy.ensures c.in_ok-copy-2.ensures c.loop-name.invariant c.in_ok-insert.ensures.updates.0

pub returns : goal.returns
returns c = names_all c.args.holders.now c.loop-name.copy c.loop-name.name-iterator c.in-None.ensures.steps.0 c.loop-name.invariant
