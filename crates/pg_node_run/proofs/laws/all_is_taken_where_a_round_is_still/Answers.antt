use Rattle.pg_node_run.proofs.Still.{all_taken}
use Rattle.pg_node_run.proofs.laws.all_is_taken_where_a_round_is_still.Goals as goal

pub returns : goal.returns
returns g c = λ from from2 to to2 peer other sends takes there here joined. all_taken from from2 to to2 peer other sends takes there here joined
