use Rattle.pg_test_node.proofs.Alone.{alone}
use Rattle.pg_test_node.proofs.begins.fault_of.Goals as goal

pub new-requires-clause-apart : goal.new-requires-clause-apart
new-requires-clause-apart g c = alone c.args.own c.new-peers.result.items c.new-peers.ensures.items
