use Rattle.std.proofs.Common.{◌≡◌, take}
use Rattle.pg_message_types.proofs.message.copy_pids.Given as goal

abbrev pub invariant-loop-pid : goal.invariant-loop-pid
invariant-loop-pid l = l.copies.items ≡ take l.pid-index l.pids
