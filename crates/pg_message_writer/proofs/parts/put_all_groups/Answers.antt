use Rattle.std.proofs.Common.{arith}
use Rattle.pg_message_types.specs.Writing.{group_term}
use Rattle.pg_message_writer.proofs.Listed.{part_room}
use Rattle.pg_message_writer.proofs.Put.{nothing, one_more}
use Rattle.pg_message_writer.proofs.parts.put_all_groups.Goals as goal

pub loop-group-init : goal.loop-group-init
loop-group-init c = nothing c.args.out.now

pub loop-group-preserved : goal.loop-group-preserved
loop-group-preserved c = one_more group_term c.args.groups.now c.loop-group.group-index c.group-item.result c.loop-group-test.true c.group-item.is c.loop-group.invariant c.put_group.ensures

pub put_group-requires-clause-short : goal.put_group-requires-clause-short
put_group-requires-clause-short c =
    let fits = part_room group_term c.args.groups.now c.loop-group.group-index c.group-item.result c.loop-group-test.true c.group-item.is in
    omega (arith, fits, c.requires.short)

pub put_group-requires-clause-room : goal.put_group-requires-clause-room
put_group-requires-clause-room c =
    let fits = part_room group_term c.args.groups.now c.loop-group.group-index c.group-item.result c.loop-group-test.true c.group-item.is in
    omega (arith, fits, c.requires.room, c.loop-group.invariant.spare)
