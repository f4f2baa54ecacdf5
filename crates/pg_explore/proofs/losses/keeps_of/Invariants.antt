use Rattle.std.proofs.Common.{take}
use Rattle.pg_explore.specs.Keeping.{AreUpTo}
use Rattle.pg_explore.proofs.losses.keeps_of.Given as goal

abbrev pub invariant-loop-most : goal.invariant-loop-most
invariant-loop-most l = AreUpTo (take l.most-index l.lens) l.keeps.items
