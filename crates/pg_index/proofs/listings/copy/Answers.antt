use Rattle.std.proofs.Common.{◌≡◌, refl, ap}
use Rattle.std.specs.BTreeMap.{get}
use Rattle.std.specs.Map.{lookup}
use Rattle.pg_term.specs.Same.{atom_cmp}
use Rattle.pg_index.proofs.Listed.{same_node}
use Rattle.pg_index.proofs.Copies.{node_at, nodes_flip, entries_begun, entries_more}
use Rattle.pg_index.proofs.Copies.{entries_all, keys_alike, put_alike, listed_alike}
use Rattle.pg_index.proofs.listings.copy.Goals as goal

pub loop-node-init : goal.loop-node-init
loop-node-init c =
    let gives = c.into_iter-node-iterator.ensures.into_iter_gives in
    entries_begun node_at (get atom_cmp c.args.listings.now) (get atom_cmp c.new-copy.result) c.into_iter-node-iterator.result c.args.listings.now.entries
    gives.0 (λ q. refl) gives.6 (λ q. ap (lookup (node_at q)) c.new-copy.ensures.empty)

pub loop-node-preserved : goal.loop-node-preserved
loop-node-preserved c =
    entries_more node_at (get atom_cmp c.args.listings.now) same_node nodes_flip (get atom_cmp c.loop-node.copy) (get atom_cmp c.insert.new.self) c.in-Some.node.now c.in-Some.set.now c.loop-node.node-iterator c.next.new.self
    c.in-Some.ensures.steps c.loop-node.invariant
    (put_alike c.loop-node.copy c.insert.new.self c.in_ok-copy.field-0 c.in-Some.node.now c.in-Some.set.now c.in_ok-clone.field-0 c.in_ok-copy.ensures
    (keys_alike (λ x y. y ≡ x) (λ x y e. e) c.in-Some.set.now.keys c.in_ok-clone.field-0.keys c.in_ok-clone.ensures.cases) c.in_ok-insert.ensures.updates.0)

pub loop-node-preserved-in_ok-insert : goal.loop-node-preserved-in_ok-insert
loop-node-preserved-in_ok-insert c =
    entries_more node_at (get atom_cmp c.args.listings.now) same_node nodes_flip (get atom_cmp c.loop-node.copy) (get atom_cmp c.insert.new.self) c.in-Some.node.now c.in-Some.set.now c.loop-node.node-iterator c.next.new.self
    c.in-Some.ensures.steps c.loop-node.invariant
    (put_alike c.loop-node.copy c.insert.new.self c.in_ok-copy.field-0 c.in-Some.node.now c.in-Some.set.now c.in_ok-clone.field-0 c.in_ok-copy.ensures
    (keys_alike (λ x y. y ≡ x) (λ x y e. e) c.in-Some.set.now.keys c.in_ok-clone.field-0.keys c.in_ok-clone.ensures.cases) c.in_ok-insert.ensures.updates.0)

pub returns : goal.returns
returns c =
    listed_alike c.loop-node.copy c.args.listings.now
    (entries_all node_at (get atom_cmp c.args.listings.now) (get atom_cmp c.loop-node.copy) c.loop-node.node-iterator c.in-None.ensures.steps.0 c.loop-node.invariant)
