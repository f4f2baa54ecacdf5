use Rattle.std.proofs.Common.{◌∙◌, sym}
use Rattle.pg_node_opens.proofs.Named.{clash}
use Rattle.pg_world_account.proofs.histories.Histories.agree_on_own.Goals as goal

pub returns-then-agree_on_last : goal.returns-then-agree_on_last
returns-then-agree_on_last c = (
  λ e. record { last = c.agree_on_last.ensures.0 c.if-agree_on_last.true; rows = c.agree_on_rows.ensures.0 e },
  λ h. c.agree_on_rows.ensures.1 h.rows,
)

pub returns-else-agree_on_last : goal.returns-else-agree_on_last
returns-else-agree_on_last c = (λ e. absurd (clash (sym e ∙ c.if-agree_on_last.false)), λ h. c.agree_on_last.ensures.1 h.last)
