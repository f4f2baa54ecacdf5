use Rattle.pg_group.proofs.Longer.{changed_longer, exchanged_longer}
use Rattle.pg_group.proofs.laws.longer_by_what_came.Goals as goal

pub returns-clause-update : goal.returns-clause-update
returns-clause-update c = changed_longer

pub returns-clause-exchange : goal.returns-clause-exchange
returns-clause-exchange c = exchanged_longer
