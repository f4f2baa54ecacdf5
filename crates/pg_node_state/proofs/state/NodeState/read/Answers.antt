use Rattle.std.proofs.Common.{subst}
use Rattle.pg_node_ports.specs.PgStep.Nodes.{Node}
use Rattle.pg_node_ports.specs.PgStep.State.Response.{Read}
use Rattle.pg_node_ports.specs.PgStep.Commands.{Reads}
use Rattle.pg_node_state.specs.States.{kept_by}
use Rattle.pg_node_state.proofs.state.NodeState.read.Goals as goal

pub returns-clause-happens : goal.returns-clause-happens
returns-clause-happens g c =
    let old = c.args.self.now in
    c.answer.ensures.happens (Read c.args.query.now (kept_by old).table)
    (subst (λ (own : Node). Reads own c.args.query.now (kept_by old).table c.in_ok-reply.reply) c.name.ensures c.in_ok-reply.ensures)
