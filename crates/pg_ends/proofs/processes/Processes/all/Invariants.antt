use Rattle.std.proofs.Common.{◌≡◌}
use Rattle.pg_ends.specs.Numbers.{first_pids}
use Rattle.pg_ends.proofs.processes.Processes.all.Given as goal

-- the processes so far
abbrev pub invariant-loop-before : goal.invariant-loop-before
invariant-loop-before l = l.pids.items ≡ first_pids l.self.node l.before
