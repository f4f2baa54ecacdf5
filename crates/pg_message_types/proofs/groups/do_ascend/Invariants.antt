use Rattle.std.proofs.Common.{◌≡◌, length}
use Rattle.pg_message_types.specs.Groups.{is_ascending}
use Rattle.pg_message_types.proofs.groups.do_ascend.Given as goal

abbrev pub invariant-loop-left : goal.invariant-loop-left
invariant-loop-left l = is_ascending l.left ≡ is_ascending l.groups

abbrev pub decreases-loop-left : goal.decreases-loop-left
decreases-loop-left l = length l.left
