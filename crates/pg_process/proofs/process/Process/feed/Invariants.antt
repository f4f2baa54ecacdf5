use Rattle.std.proofs.Common.{length}
use Rattle.pg_process.proofs.Feeding.{HasFed}
use Rattle.pg_process.proofs.process.Process.feed.Given as goal

abbrev pub invariant-loop-portion : goal.invariant-loop-portion
invariant-loop-portion l = HasFed l.peer l.bytes l.portion.rest.now l.initial.self l.self

abbrev pub decreases-loop-portion : goal.decreases-loop-portion
decreases-loop-portion l = length l.portion.rest.now
