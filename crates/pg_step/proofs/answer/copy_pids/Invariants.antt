use Rattle.std.proofs.Common.{◌≡◌, take}
use Rattle.pg_step.proofs.answer.copy_pids.Given as goal

-- the pids so far
abbrev pub invariant-loop-pid : goal.invariant-loop-pid
invariant-loop-pid l = l.copies.items ≡ take l.pid-index l.pids
