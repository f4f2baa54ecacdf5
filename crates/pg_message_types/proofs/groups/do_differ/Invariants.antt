use Rattle.std.proofs.Common.{◌≡◌, length}
use Rattle.pg_message_types.specs.Reading.{is_named_once}
use Rattle.pg_message_types.proofs.groups.do_differ.Given as goal

abbrev pub invariant-loop-left : goal.invariant-loop-left
invariant-loop-left l = is_named_once l.left ≡ is_named_once l.groups

abbrev pub decreases-loop-left : goal.decreases-loop-left
decreases-loop-left l = length l.left
