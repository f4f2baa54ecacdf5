use Rattle.std.proofs.Common.{[], ◌∷◌, arith}
use Rattle.pg_test_node.proofs.Started.{three_apart, few_peers}
use Rattle.pg_test_node.proofs.nodes.node_of_three.Goals as goal

pub begun-requires-clause-apart : goal.begun-requires-clause-apart
begun-requires-clause-apart c = three_apart c.args.own c.args.one c.args.two _ c.in_ok-peers.ensures c.requires.first c.requires.second c.requires.third

pub begun-requires-clause-peers : goal.begun-requires-clause-peers
begun-requires-clause-peers c = few_peers _ (c.args.one ∷ c.args.two ∷ []) c.in_ok-peers.ensures (omega arith)
