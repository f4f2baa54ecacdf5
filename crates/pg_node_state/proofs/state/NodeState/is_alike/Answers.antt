use Rattle.std.proofs.Common.{◌∙◌, sym}
use Rattle.std.proofs.lemmas.Result.{IfOk-weaker}
use Rattle.pg_node_ports.proofs.PgNodeOpens.Named.{clash}
use Rattle.pg_node_state.proofs.SameNodes.{alike_forth, alike_back, same_table}
use Rattle.pg_node_state.proofs.state.NodeState.is_alike.Goals as goal

pub returns-then-same_beside : goal.returns-then-same_beside
returns-then-same_beside g c =
    let one = c.args.self.now in
    let other = c.args.other.now in
    IfOk-weaker c.same_groups.result _ _
    (λ same h. (λ t. alike_forth one other (c.same_beside.ensures.0 c.if-same_beside.true) (h.0 t), λ s. h.1 (same_table one other s)))
    c.same_groups.ensures

pub returns-else-same_beside : goal.returns-else-same_beside
returns-else-same_beside g c = (
  λ e. absurd (clash (sym e)),
  λ s. sym c.if-same_beside.false ∙ c.same_beside.ensures.1 (alike_back c.args.self.now c.args.other.now s),
)
