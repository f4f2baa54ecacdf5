use Rattle.pg_node_process.proofs.Turns.{changes_in_turn}
use Rattle.pg_node_process.proofs.laws.changes_go_in_turn.Goals as goal

pub returns : goal.returns
returns c happenings = changes_in_turn happenings
