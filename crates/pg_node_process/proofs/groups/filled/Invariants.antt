use Rattle.std.proofs.Common.{◌≡◌, false, take}
use Rattle.pg_step.specs.PgGroup.Table.{all_merged}
use Rattle.pg_node_process.proofs.groups.filled.Given as goal

-- the groups so far
abbrev pub invariant-loop-name : goal.invariant-loop-name
invariant-loop-name g l = g.T.GroupTable.contents l.full ≡ all_merged (g.T.GroupTable.contents l.fn.table) (take l.name-index l.groups) (λ pid. false)
