use Rattle.std.proofs.Common.{map, take}
use Rattle.pg_message_types.specs.Writing.{group_term}
use Rattle.pg_message_writer.specs.Puts.{PutsAll}
use Rattle.pg_message_writer.proofs.parts.put_all_groups.Given as goal

abbrev pub invariant-loop-group : goal.invariant-loop-group
invariant-loop-group l = PutsAll l.fn.out l.out (take l.group-index (map group_term l.groups))
