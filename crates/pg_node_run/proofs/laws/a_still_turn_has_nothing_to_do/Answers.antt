use Rattle.pg_node_run.proofs.Still.{nothing_to_do}
use Rattle.pg_node_run.proofs.laws.a_still_turn_has_nothing_to_do.Goals as goal

pub returns : goal.returns
returns g c = λ a b peer still counts. nothing_to_do a b still peer counts
