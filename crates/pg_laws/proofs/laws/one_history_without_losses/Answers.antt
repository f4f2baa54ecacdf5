use Rattle.pg_step.proofs.Unnoticed.{without_losses}
use Rattle.pg_laws.proofs.places.Clauses.{one_history}
use Rattle.pg_laws.proofs.laws.one_history_without_losses.Goals as goal

pub returns : goal.returns
returns c = λ config events v apart l. let run = without_losses config events v l in (run.0, run.2, one_history config apart events run.0 run.1)
