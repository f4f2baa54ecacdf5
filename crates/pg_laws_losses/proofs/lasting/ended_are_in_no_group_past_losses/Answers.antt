use Rattle.pg_laws_losses.proofs.Counting.{ended_in_no_group}
use Rattle.pg_laws_losses.proofs.lasting.ended_are_in_no_group_past_losses.Goals as goal

pub returns : goal.returns
returns c = λ config w events i name l. ended_in_no_group config events w i name l
