use Rattle.std.proofs.Common.{take}
use Rattle.pg_explore.specs.Keeping.{AreLonger}
use Rattle.pg_explore.proofs.losses.longer.Given as goal

abbrev pub invariant-loop-keep : goal.invariant-loop-keep
invariant-loop-keep l = AreLonger l.most (take l.keep-index l.keeps) l.all.items
