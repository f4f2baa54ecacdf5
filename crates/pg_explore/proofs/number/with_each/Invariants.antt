use Rattle.std.proofs.Common.{◌≡◌, drop}
use Rattle.std.specs.Prelude.{fold}
use Rattle.pg_explore.specs.Numbers.{mixed}
use Rattle.pg_explore.proofs.number.with_each.Given as goal

-- the rest leads to the whole
abbrev pub invariant-loop-mark : goal.invariant-loop-mark
invariant-loop-mark l = fold mixed l.mixed (drop l.mark-index l.marks) ≡ fold mixed l.number l.marks
