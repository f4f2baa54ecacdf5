use Rattle.std.proofs.Common.{◌≡◌, take}
use Rattle.pg_message_types.proofs.message.copy_groups.Given as goal

abbrev pub invariant-loop-name : goal.invariant-loop-name
invariant-loop-name l = l.copies.items ≡ take l.name-index l.groups
