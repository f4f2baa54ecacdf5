use Rattle.pg_laws_losses.proofs.Bridges.{bridged}
use Rattle.pg_laws_losses.proofs.Unanswered.{holds_all, is_last}
use Rattle.pg_laws_losses.proofs.survival.unanswered_changes_are_last.Goals as goal

pub returns-clause-last : goal.returns-clause-last
returns-clause-last c = λ config w events name before after e apart l is none lives. is_last config apart w (bridged config apart events w l) name before after e is none lives

pub returns-clause-granted : goal.returns-clause-granted
returns-clause-granted c = λ config w events name before after e apart l is none lives. holds_all config apart w (bridged config apart events w l) name before after e is none lives
