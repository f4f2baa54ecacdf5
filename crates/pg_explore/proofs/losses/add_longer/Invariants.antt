use Rattle.pg_explore.proofs.Lengthening.{AddsBelow}
use Rattle.pg_explore.proofs.losses.add_longer.Given as goal

abbrev pub invariant-loop-count : goal.invariant-loop-count
invariant-loop-count l = AddsBelow l.count l.keep l.initial.all.items l.all.items
