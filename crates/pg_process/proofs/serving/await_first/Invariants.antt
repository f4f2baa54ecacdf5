use Rattle.std.proofs.Common.{◌≡◌, ℕ, List, length}
use Rattle.pg_process.specs.Stories.{Waits}
use Rattle.pg_process.proofs.serving.await_first.Given as goal

-- no body came whole so far
abbrev pub invariant-loop : goal.invariant-loop
invariant-loop g l = (pieces : List (List ℕ)) × Waits g.R.Source.gives g.R.Source.remaining l.fn.reader pieces l.deframer.unread l.reader × (length pieces ≡ l.counter)
