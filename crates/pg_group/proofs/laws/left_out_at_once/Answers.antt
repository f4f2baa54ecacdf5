use Rattle.pg_group.proofs.Merges.{less_apply, less_merge}
use Rattle.pg_group.proofs.laws.left_out_at_once.Goals as goal

pub returns-clause-update : goal.returns-clause-update
returns-clause-update c = λ v update ended. less_apply ended v update

pub returns-clause-merge : goal.returns-clause-merge
returns-clause-merge c = λ v w ended. less_merge ended v w
