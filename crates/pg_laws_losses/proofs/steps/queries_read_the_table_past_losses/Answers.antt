use Rattle.pg_laws_losses.proofs.Onward.{look_answers, reads_table}
use Rattle.pg_laws_losses.proofs.steps.queries_read_the_table_past_losses.Goals as goal

pub returns-clause-reads : goal.returns-clause-reads
returns-clause-reads c = λ config m v i port command happens. reads_table config m v i port command happens

pub returns-clause-looks : goal.returns-clause-looks
returns-clause-looks c = λ config m v i port command happens. look_answers config m v i port command happens
