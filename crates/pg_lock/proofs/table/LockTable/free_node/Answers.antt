use Rattle.std.proofs.Common.{rules}
use Rattle.std.proofs.lemmas.Fn.{filter_same}
use Rattle.std.proofs.lemmas.Map.Made.{filter_same_pairs}
use Rattle.pg_lock.proofs.Held.{is_left, kept_without, kept_apart, kept_sorted}
use Rattle.pg_lock.proofs.table.LockTable.free_node.Goals as goal

pub invariant_of-self : goal.invariant_of-self
invariant_of-self c =
    let near = filter_same _ (is_left c.args.node.now) _ (λ x b f' t. search rules) c.args.self.now.sorted.items c.retain.new.self.items c.retain.ensures.filtered in
    let far = filter_same_pairs _ (is_left c.args.node.now) _ (λ k v b w f' t. search rules) c.args.self.now.beyond.entries c.retain-2.new.self.entries c.retain-2.ensures.filtered in
    record {
      ordered = kept_sorted c.args.node.now c.args.self.now.sorted.items c.retain.new.self.items c.args.self.now.beyond c.retain-2.new.self c.args.self.now.ordered c.retain-2.ensures.was_ordered near far;
      apart = kept_apart c.args.node.now c.args.self.now.sorted.items c.retain.new.self.items c.args.self.now.beyond c.retain-2.new.self c.args.self.now.ordered c.retain-2.ensures.was_ordered near far c.args.self.now.apart;
    }

pub returns : goal.returns
returns c =
    kept_without c.args.node.now c.args.self.now.sorted.items c.retain.new.self.items c.args.self.now.beyond c.retain-2.new.self c.args.self.now.ordered c.retain-2.ensures.was_ordered
    (filter_same _ (is_left c.args.node.now) _ (λ x b f' t. search rules) c.args.self.now.sorted.items c.retain.new.self.items c.retain.ensures.filtered)
    (filter_same_pairs _ (is_left c.args.node.now) _ (λ k v b w f' t. search rules) c.args.self.now.beyond.entries c.retain-2.new.self.entries c.retain-2.ensures.filtered)
    c.args.self.now.apart
