use Rattle.pg_laws_losses.proofs.Remains.Knowing.{made_of}
use Rattle.pg_laws_losses.proofs.left.laws.tables_are_made_of_what_was_taken.Goals as goal

pub returns : goal.returns
returns c = λ config w events i apart l here. made_of c.one_history_past_losses.ensures config apart i here events w l
