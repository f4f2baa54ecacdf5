use Rattle.std.proofs.Common.{◌∙◌}
use Rattle.std.specs.BTreeMap.{insert_entry}
use Rattle.pg_term.specs.Same.{atom_cmp}
use Rattle.pg_group.proofs.EndedNumbers.{copied_entry}
use Rattle.pg_group.proofs.ended.copy_numbers.Goals as goal

pub loop-node-preserved : goal.loop-node-preserved
loop-node-preserved c =
    copied_entry c.args.numbers.now.entries c.loop-node.node-iterator c.loop-node.copy.entries c.next.new.self c.insert.new.self.entries c.in-Some.node.now c.in-Some.some.now c.len-nodes.ensures.ordered c.loop-node.invariant c.in-Some.ensures.steps
    (c.in_ok-insert.ensures.entries ∙ (λ i. insert_entry atom_cmp c.loop-node.copy.entries (c.in_ok-copy.ensures i) (c.in_ok-copy-2.ensures i)))

pub loop-node-preserved-in_ok-insert : goal.loop-node-preserved-in_ok-insert
loop-node-preserved-in_ok-insert c =
    copied_entry c.args.numbers.now.entries c.loop-node.node-iterator c.loop-node.copy.entries c.next.new.self c.insert.new.self.entries c.in-Some.node.now c.in-Some.some.now c.len-nodes.ensures.ordered c.loop-node.invariant c.in-Some.ensures.steps
    (c.in_ok-insert.ensures.entries ∙ (λ i. insert_entry atom_cmp c.loop-node.copy.entries (c.in_ok-copy.ensures i) (c.in_ok-copy-2.ensures i)))
