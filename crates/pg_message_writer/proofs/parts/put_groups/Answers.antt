use Rattle.std.proofs.Common.{arith, map}
use Rattle.std.proofs.Math.ListN.{length-map}
use Rattle.pg_message_types.specs.Writing.{group_term}
use Rattle.pg_message_writer.proofs.Listed.{made_len}
use Rattle.pg_message_writer.proofs.Put.{made_put, count_few}
use Rattle.pg_message_writer.proofs.parts.put_groups.Goals as goal

pub overflow_cast-groups : goal.overflow_cast-groups
overflow_cast-groups c = omega (arith, length-map c.args.groups.now group_term, count_few (map group_term c.args.groups.now) c.requires.short)

pub put_list_head-requires : goal.put_list_head-requires
put_list_head-requires c = omega (arith, made_len group_term c.args.groups.now, c.requires.room)

pub put_all_groups-requires-clause-short : goal.put_all_groups-requires-clause-short
put_all_groups-requires-clause-short c = omega (arith, made_len group_term c.args.groups.now, c.requires.short)

pub put_all_groups-requires-clause-room : goal.put_all_groups-requires-clause-room
put_all_groups-requires-clause-room c = omega (arith, made_len group_term c.args.groups.now, c.requires.room)

pub extend_reserved-requires : goal.extend_reserved-requires
extend_reserved-requires c = omega (arith, made_len group_term c.args.groups.now, c.requires.room, c.put_all_groups.ensures.spare)

pub returns : goal.returns
returns c =
    made_put group_term c.args.groups.now c.args.out.now c.put_list_head.new.out c.put_all_groups.new.out c.extend_reserved.new.self c.requires.short c.put_list_head.ensures.items c.put_list_head.ensures.spare c.put_all_groups.ensures c.extend_reserved.ensures.items c.extend_reserved.ensures.spare
