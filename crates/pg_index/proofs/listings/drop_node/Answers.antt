use Rattle.std.proofs.Common.{◌≡◌, List, ℕ, sym, ap, ◌∙◌}
use Rattle.std.specs.Ordering.{is_eq}
use Rattle.pg_group.specs.Scope.{at_node}
use Rattle.pg_index.specs.Groups.{counts_by_number, without_nodes}
use Rattle.pg_index.proofs.Dropped.{set_of_node, listed_without_node}
use Rattle.pg_index.proofs.Listed.{same_node}
use Rattle.pg_index.proofs.listings.drop_node.Goals as goal

pub drop_each-requires : goal.drop_each-requires
drop_each-requires c pid at =
    let node : c.args.node.now ≡ c.in-Some.owner = same_node c.args.node.now c.in-Some.owner (ap is_eq c.in-Some.ensures.same_key) in
    set_of_node c.args.listings.now c.args.node.now c.in-Some.set (counts_by_number c.args.groups.now) c.requires (sym c.in-Some.ensures.value) pid
    (ap (λ (owner : List ℕ). at_node owner pid) node ∙ at)

pub returns-in-Some-clause-counts : goal.returns-in-Some-clause-counts
returns-in-Some-clause-counts c =
    let node : c.args.node.now ≡ c.in-Some.owner = same_node c.args.node.now c.in-Some.owner (ap is_eq c.in-Some.ensures.same_key) in
    c.drop_each.ensures.counts ∙ ap (without_nodes (counts_by_number c.args.groups.now)) (sym node)

pub returns-in-Some-clause-listed : goal.returns-in-Some-clause-listed
returns-in-Some-clause-listed c =
    let node : c.args.node.now ≡ c.in-Some.owner = same_node c.args.node.now c.in-Some.owner (ap is_eq c.in-Some.ensures.same_key) in
    listed_without_node c.args.listings.now c.remove_entry.new.self c.args.node.now (counts_by_number c.args.groups.now) (counts_by_number c.drop_each.new.groups)
    c.requires c.in-Some.ensures.updates.0 (c.drop_each.ensures.counts ∙ ap (without_nodes (counts_by_number c.args.groups.now)) (sym node))
