use Rattle.pg_laws_losses.proofs.Counting.{commands_counted}
use Rattle.pg_laws_losses.proofs.lasting.commands_are_counted_past_losses.Goals as goal

pub returns : goal.returns
returns c = λ config w events i l. commands_counted config events w i l
