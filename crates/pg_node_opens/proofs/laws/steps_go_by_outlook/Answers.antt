use Rattle.pg_node_opens.proofs.Going.{goes_by_outlook}
use Rattle.pg_node_opens.proofs.laws.steps_go_by_outlook.Goals as goal

pub returns : goal.returns
returns c = goes_by_outlook
