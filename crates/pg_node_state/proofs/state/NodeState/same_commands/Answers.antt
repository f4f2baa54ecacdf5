use Rattle.std.proofs.Common.{◌∙◌, sym}
use Rattle.pg_node_ports.proofs.PgNodeOpens.Named.{clash}
use Rattle.pg_node_ports.proofs.SamePorts.{ports_along}
use Rattle.pg_node_state.proofs.state.NodeState.same_commands.Goals as goal

pub returns-then-same : goal.returns-then-same
returns-then-same g c =
    let mine = c.deref.ensures.value in
    let theirs = c.deref-then-same.ensures.value in (
      λ t. (c.same.ensures.0 c.if-same.true, ports_along _ _ _ _ mine theirs (c.same_ports.ensures.0 t)),
      λ h. c.same_ports.ensures.1 (ports_along _ _ _ _ (sym mine) (sym theirs) h.1),
    )

pub returns-else-same : goal.returns-else-same
returns-else-same g c = (λ e. absurd (clash (sym e ∙ c.if-same.false)), λ h. c.same.ensures.1 h.0)
