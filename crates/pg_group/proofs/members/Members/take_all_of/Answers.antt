use Rattle.std.proofs.Common.{not, rules}
use Rattle.std.proofs.lemmas.Map.Made.{filter_same_pairs}
use Rattle.pg_group.specs.Scope.{at_node}
use Rattle.pg_group.proofs.Maps.{filtered_out, filtered_living}
use Rattle.pg_group.proofs.members.Members.take_all_of.Goals as goal

pub invariant_of-self : goal.invariant_of-self
invariant_of-self c =
    let kept = filter_same_pairs _ (λ e. not (at_node c.args.node.now e.0)) _ (λ k v b w f' t. search rules) c.args.self.now.counts.entries c.retain.new.self.entries c.retain.ensures.filtered in
    record { living = filtered_living c.args.self.now.counts c.retain.new.self (at_node c.args.node.now) kept c.args.self.now.living }

pub returns : goal.returns
returns c =
    filtered_out c.args.self.now.counts c.retain.new.self (at_node c.args.node.now)
    (filter_same_pairs _ (λ e. not (at_node c.args.node.now e.0)) _ (λ k v b w f' t. search rules) c.args.self.now.counts.entries c.retain.new.self.entries c.retain.ensures.filtered)
