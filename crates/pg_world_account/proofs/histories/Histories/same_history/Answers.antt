use Rattle.std.proofs.Common.{◌∙◌, sym}
use Rattle.pg_world_account.proofs.histories.Histories.same_history.Goals as goal

pub returns : goal.returns
returns c = (
  λ e. sym c.history.ensures ∙ (c.same_with_last.ensures.0 e ∙ c.history-2.ensures),
  λ h. c.same_with_last.ensures.1 (c.history.ensures ∙ (h ∙ sym c.history-2.ensures)),
)
