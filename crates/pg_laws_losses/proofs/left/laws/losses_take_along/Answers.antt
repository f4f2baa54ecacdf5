use Rattle.pg_laws_losses.proofs.Remains.Along.{taken_along}
use Rattle.pg_laws_losses.proofs.left.laws.losses_take_along.Goals as goal

pub returns : goal.returns
returns c = λ config w events i name apart l here lives. taken_along config apart i here name events w l lives (c.tables_are_made_of_what_was_taken.ensures config w events i apart l here)
