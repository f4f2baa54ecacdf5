use Rattle.std.proofs.Common.{◌∙◌, sym}
use Rattle.std.proofs.lemmas.Result.{IfOk-weaker}
use Rattle.pg_node_ports.proofs.PgNodeOpens.Named.{clash}
use Rattle.pg_node_state.proofs.state.NodeState.same.Goals as goal

pub returns-then-not-same_forgotten : goal.returns-then-not-same_forgotten
returns-then-not-same_forgotten g c = (
  λ e. absurd (clash (sym e)),
  λ h. sym c.if-not-same_forgotten.true ∙ c.same_forgotten.ensures.1 (h.0.ports, h.1),
)

pub returns : goal.returns
returns g c = IfOk-weaker c.looks_same.result _ _ (λ same h. (λ t. (h.0 t, (c.same_forgotten.ensures.0 c.if-not-same_forgotten.false).1), λ s. h.1 s.0)) c.looks_same.ensures
