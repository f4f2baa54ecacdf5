use Rattle.std.proofs.Common.{ap, ◌∙◌}
use Rattle.std.specs.BTreeSet.{insert_key}
use Rattle.pg_term.specs.Same.{atom_cmp}
use Rattle.pg_group.proofs.EndedSets.{copied_node}
use Rattle.pg_group.proofs.ended.copy_nodes.Goals as goal

pub loop-node-preserved : goal.loop-node-preserved
loop-node-preserved c =
    copied_node c.args.nodes.now.keys c.loop-node.node-iterator c.loop-node.copy.keys c.next.new.self c.insert.new.self.keys c.in-Some.node.now c.len-nodes.ensures.ordered c.loop-node.invariant c.in-Some.ensures.steps
    (c.in_ok-insert.ensures.keys ∙ ap (insert_key atom_cmp c.loop-node.copy.keys) c.in_ok-copy.ensures)
