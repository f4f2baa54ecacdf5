use Rattle.pg_group.proofs.Growth.{changed_grown}
use Rattle.pg_group.proofs.Longer.{changed_one_more}
use Rattle.pg_group.proofs.laws.one_more_at_most.Goals as goal

pub returns-clause-each : goal.returns-clause-each
returns-clause-each c = changed_one_more

pub returns-clause-all : goal.returns-clause-all
returns-clause-all c = λ n table update ended. changed_grown n table update ended
