use Rattle.pg_laws_examples.proofs.Refused.{busy_node_refuses}
use Rattle.pg_laws_examples.proofs.commands.busy_node.Goals as goal

pub returns : goal.returns
returns c = busy_node_refuses
