use Rattle.std.proofs.Common.{sym, ◌∙◌}
use Rattle.pg_node_opens.proofs.Named.{clash}
use Rattle.pg_node_opens.proofs.Sameness.{same_flags, same_forth, same_back}
use Rattle.pg_node_opens.proofs.opens.Opens.same.Goals as goal

pub returns-then-same_nodes : goal.returns-then-same_nodes
returns-then-same_nodes c = let nodes = c.same_nodes.ensures.0 c.if-same_nodes.true in (
  same_forth c.args.self.now c.args.other.now c.same_commands.result nodes.0 nodes.1 c.same_commands.ensures,
  same_back c.args.self.now c.args.other.now c.same_commands.result nodes.0 nodes.1 c.same_commands.ensures,
)

pub returns-else-same_nodes : goal.returns-else-same_nodes
returns-else-same_nodes c = (
  λ e. absurd (clash (sym e ∙ c.if-same_nodes.false)),
  λ h. c.same_nodes.ensures.1 (h.names, same_flags c.args.self.now c.args.other.now h.names h.lost_peers),
)
