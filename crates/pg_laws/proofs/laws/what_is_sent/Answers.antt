use Rattle.pg_laws.proofs.steps.Made.{sends_no_exchange, sends_own_ends}
use Rattle.pg_laws.proofs.laws.what_is_sent.Goals as goal

pub returns-clause-exchanges : goal.returns-clause-exchanges
returns-clause-exchanges c = λ config i s input t q is. sends_no_exchange config i s input t is q

pub returns-clause-ends : goal.returns-clause-ends
returns-clause-ends c = λ config i s input t q is. sends_own_ends config i s input t is q
