use Rattle.pg_node_state.proofs.LeftOut.{gave_left}
use Rattle.pg_node_state.proofs.laws.answers_are_given_to_the_rest.Goals as goal

pub returns : goal.returns
returns c = λ own gave before after port count fits h. gave_left before port count fits own gave after h
