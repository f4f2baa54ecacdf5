use Rattle.std.proofs.Common.{◌∙◌, sym}
use Rattle.pg_node_opens.proofs.Named.{clash}
use Rattle.pg_world_account.proofs.histories.Histories.agree_on.Goals as goal

pub returns-then-same_history : goal.returns-then-same_history
returns-then-same_history c = (
  λ e. record { history = c.same_history.ensures.0 c.if-same_history.true; applied = c.same_counts.ensures.0 e },
  λ h. c.same_counts.ensures.1 h.applied,
)

pub returns-else-same_history : goal.returns-else-same_history
returns-else-same_history c = (λ e. absurd (clash (sym e ∙ c.if-same_history.false)), λ h. c.same_history.ensures.1 h.history)
