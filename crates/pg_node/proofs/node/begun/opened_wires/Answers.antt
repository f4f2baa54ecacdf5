use Rattle.std.proofs.Common.{sym, ◌∙◌}
use Rattle.pg_node.proofs.Begun.{has_body, if_some_any}
use Rattle.pg_node.proofs.node.begun.opened_wires.Goals as goal

pub returns-in-Ok-clause-body : goal.returns-in-Ok-clause-body
returns-in-Ok-clause-body c = if_some_any c.wires_with.result (has_body c.args.packet.now c.in-Ok.field-0 (sym c.in-Ok.is ∙ c.packet_len.ensures.exact))
