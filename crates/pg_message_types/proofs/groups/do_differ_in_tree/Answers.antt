use Rattle.std.proofs.Common.{sym, ◌∙◌}
use Rattle.pg_message_types.proofs.Ascents.{twice, once_more, told_more, was_new, was_there}
use Rattle.pg_message_types.proofs.groups.do_differ_in_tree.Goals as goal

pub returns-then-not-branch : goal.returns-then-not-branch
returns-then-not-branch c =
    let group = c.loop-name-item.result in
    let found = was_there c.in_ok-insert.field-0 _ c.in_ok-insert.ensures.added c.if-not-branch.true in
    sym (twice c.args.groups.now c.loop-name.name-index group c.loop-name-test.true c.loop-name-item.is (sym (c.loop-name.invariant.1 group.0) ∙ found))

pub loop-name-preserved : goal.loop-name-preserved
loop-name-preserved c =
    let group = c.loop-name-item.result in
    let groups = c.args.groups.now in
    let i = c.loop-name.name-index in
    let absent = was_new c.in_ok-insert.field-0 _ c.in_ok-insert.ensures.added c.if-not-branch.false in
    let h = c.in_ok-insert.ensures.updates.0 in (
      once_more groups i group c.loop-name-test.true c.loop-name-item.is c.loop-name.invariant.0 (sym (c.loop-name.invariant.1 group.0) ∙ absent),
      λ q. told_more groups i group c.loop-name-test.true c.loop-name-item.is q _ _ (h (record { ref_ptr = c.args.groups.ref_ptr; now = q })) (c.loop-name.invariant.1 q),
    )
