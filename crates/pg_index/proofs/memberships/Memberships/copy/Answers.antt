use Rattle.std.proofs.Common.{nat_lt, sym, ap, ◌∙◌}
use Rattle.pg_index.specs.Groups.{Numbered}
use Rattle.pg_index.proofs.Copies.{groups_alike}
use Rattle.pg_index.proofs.memberships.Memberships.copy.Goals as goal

pub invariant_of-result : goal.invariant_of-result
invariant_of-result c =
    let alike = groups_alike c.args.self.now.groups c.in_ok-groups.groups c.in_ok-groups.ensures.cases in
    record {
      each = λ pid group. ap (λ l. l pid group) c.in_ok-listings.ensures ∙ c.args.self.now.each pid group ∙ ap (λ (f : Numbered). nat_lt 0 (f group pid)) (sym alike.0);
    }

pub returns-clause-counts : goal.returns-clause-counts
returns-clause-counts c = (groups_alike c.args.self.now.groups c.in_ok-groups.groups c.in_ok-groups.ensures.cases).0

pub returns-clause-used : goal.returns-clause-used
returns-clause-used c = (groups_alike c.args.self.now.groups c.in_ok-groups.groups c.in_ok-groups.ensures.cases).1
