use Rattle.pg_term_io.specs.Reading.{items_at, item_at}
use Rattle.pg_message_types.specs.Name.{is_name}
use Rattle.pg_message_types.specs.Writing.{group_term}
use Rattle.pg_message_reader.proofs.Rows.{row_goes_on, row_is_done, all_with}
use Rattle.pg_message_reader.proofs.direct.groups.all_groups_at.Goals as goal

pub loop-preserved : goal.loop-preserved
loop-preserved c =
    let total = items_at (item_at 60) c.args.count c.args.bytes.now in
    rw c.in_ok-push.ensures.items (
      row_goes_on group_term (item_at 60) c.args.count c.loop.groups.items c.loop.counter c.loop.rest.now total c.in_ok-group.group c.in_ok-group.after.now c.loop-test.true c.in_ok-group.ensures.term c.loop.invariant.0,
      all_with (λ group. is_name group.0) c.loop.groups.items c.in_ok-group.group c.loop.invariant.1 c.in_ok-group.ensures.name,
    )

pub returns-clause-terms : goal.returns-clause-terms
returns-clause-terms c =
    row_is_done group_term (item_at 60) c.args.count c.loop.groups.items c.loop.counter c.loop.rest.now (items_at (item_at 60) c.args.count c.args.bytes.now) c.loop-test.false c.loop.invariant.0
