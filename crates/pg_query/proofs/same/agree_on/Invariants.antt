use Rattle.std.proofs.Common.{take}
use Rattle.pg_query.specs.SameGroups.{AgreeOn}
use Rattle.pg_query.proofs.same.agree_on.Given as goal

-- of the names so far
abbrev pub invariant-loop-name : goal.invariant-loop-name
invariant-loop-name g l = AgreeOn (g.T.GroupTable.contents l.one) (g.U.GroupTable.contents l.other) (take l.name-index l.names)
