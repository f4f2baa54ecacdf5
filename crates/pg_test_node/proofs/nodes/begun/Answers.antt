use Rattle.pg_test_node.proofs.Started.{none_few}
use Rattle.pg_test_node.proofs.nodes.begun.Goals as goal

pub new-requires-clause-few : goal.new-requires-clause-few
new-requires-clause-few c = none_few _ c.new-table.ensures
