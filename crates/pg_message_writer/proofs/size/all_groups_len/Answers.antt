use Rattle.std.proofs.Common.{arith}
use Rattle.pg_message_types.specs.Name.{is_name}
use Rattle.pg_message_types.specs.Writing.{group_term}
use Rattle.pg_message_writer.proofs.Listed.{part_len, all_more}
use Rattle.pg_message_writer.proofs.size.all_groups_len.Goals as goal

pub loop-group-preserved : goal.loop-group-preserved
loop-group-preserved c =
    let len = part_len group_term c.args.groups.now c.loop-group.group-index c.group-item.result c.loop-group-test.true c.group-item.is in (
      omega (arith, len, c.in_ok-group_len.ensures.len, c.loop-group.invariant.0),
      all_more (λ group. is_name group.0) c.args.groups.now c.loop-group.group-index c.group-item.result c.loop-group-test.true c.group-item.is c.in_ok-group_len.ensures.some c.loop-group.invariant.1,
    )
