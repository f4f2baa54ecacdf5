use Rattle.pg_group.proofs.Thinned.{value, kept, kept_exchanged, kept_without, kept_without_node}
use Rattle.pg_group.proofs.laws.ended_stay_out.Goals as goal

pub returns-clause-value : goal.returns-clause-value
returns-clause-value c = λ v update ended. value ended v update

pub returns-clause-kept : goal.returns-clause-kept
returns-clause-kept c = λ v update ended. kept ended v update

pub returns-clause-exchange : goal.returns-clause-exchange
returns-clause-exchange c = λ v pids ended. kept_exchanged ended v pids

pub returns-clause-end : goal.returns-clause-end
returns-clause-end c = λ v pid ended. kept_without ended v pid

pub returns-clause-loss : goal.returns-clause-loss
returns-clause-loss c = λ v node ended. kept_without_node ended v node
