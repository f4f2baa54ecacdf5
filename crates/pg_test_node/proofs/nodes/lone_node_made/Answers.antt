use Rattle.std.proofs.Common.{[], arith}
use Rattle.pg_test_node.proofs.Started.{alone, few_peers}
use Rattle.pg_test_node.proofs.nodes.lone_node_made.Goals as goal

pub begun-requires-clause-apart : goal.begun-requires-clause-apart
begun-requires-clause-apart c = alone _ _ c.new-peers.ensures.items

pub begun-requires-clause-peers : goal.begun-requires-clause-peers
begun-requires-clause-peers c = few_peers _ [] c.new-peers.ensures.items (omega arith)
