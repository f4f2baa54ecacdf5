-- The nodes of a cluster.
use Rattle.pg_world.specs.PgIndex.declared.index_table.IndexTable.{IndexTable}
use Rattle.pg_world.specs.PgIndex.contracts.index_table.IndexTableGroupTable.TheImpl.{ghosts}
use Rattle.pg_world.specs.PgNode.declared.node.Node.{Node}

abbrev pub NodeOf : Type 0
NodeOf = Node IndexTable ghosts
