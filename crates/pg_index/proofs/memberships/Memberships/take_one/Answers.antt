use Rattle.std.proofs.Common.{◌≡◌, false, ◌-◌, nat_lt, sym, ap, ◌∙◌}
use Rattle.pg_index.specs.Groups.{Numbered, counts_by_number}
use Rattle.pg_index.specs.Listings.{listed_in}
use Rattle.pg_index.proofs.Dropped.{changed_here}
use Rattle.pg_index.proofs.Changed.{listed_after, listed_kept, some_left}
use Rattle.pg_index.proofs.memberships.Memberships.take_one.Goals as goal

pub invariant_of-self : goal.invariant_of-self
invariant_of-self c =
    let counts = counts_by_number c.args.self.now.groups in
    let pid = c.args.pid.now in
    let n = counts c.args.group pid in
    let one : n ≡ 1 = sym c.take_one-count.ensures.count ∙ c.if-count-eq1.true in
    let here : counts_by_number c.take_one-count.new.groups c.args.group pid ≡ 0 = ap (λ (f : Numbered). f c.args.group pid) c.take_one-count.ensures.counts ∙ changed_here counts c.args.group pid (n - 1) ∙ ap (λ m. m - 1) one in
    record {
      each = listed_after (listed_in c.args.self.now.listings) (listed_in c.remove.new.listings) counts (counts_by_number c.take_one-count.new.groups) pid c.args.group false (counts c.args.group pid - 1)
          c.args.self.now.each c.remove.ensures c.take_one-count.ensures.counts (ap (nat_lt 0) (sym here));
    }

pub invariant_of-self-else-count-eq1 : goal.invariant_of-self-else-count-eq1
invariant_of-self-else-count-eq1 c =
    let counts = counts_by_number c.args.self.now.groups in
    let pid = c.args.pid.now in
    let n = counts c.args.group pid in
    let here : counts_by_number c.take_one-count.new.groups c.args.group pid ≡ n - 1 = ap (λ (f : Numbered). f c.args.group pid) c.take_one-count.ensures.counts ∙ changed_here counts c.args.group pid (n - 1) in
    record {
      each = listed_kept (listed_in c.args.self.now.listings) counts (counts_by_number c.take_one-count.new.groups) pid c.args.group (n - 1)
          c.args.self.now.each c.take_one-count.ensures.counts (some_left n (counts_by_number c.take_one-count.new.groups c.args.group pid) here (λ e. c.if-count-eq1.false (c.take_one-count.ensures.count ∙ e)));
    }
