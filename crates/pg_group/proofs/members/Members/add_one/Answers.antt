use Rattle.std.proofs.Common.{◌≡◌, ◌+◌, sym, ◌∙◌, rules}
use Rattle.std.specs.BTreeMap.{get}
use Rattle.pg_term.specs.Same.{pid_cmp}
use Rattle.pg_group.specs.Counted.{counts_in}
use Rattle.pg_group.specs.Value.{with_one_more}
use Rattle.pg_group.proofs.Maps.{counted_more, counted_first}
use Rattle.pg_group.proofs.members.Members.add_one.Goals as goal

pub returns-in-Some-clause-ok : goal.returns-in-Some-clause-ok
returns-in-Some-clause-ok c =
    counted_more c.args.self.now.counts (c.get_mut.follows.lender (c.in-Some.count.now + 1)) c.args.pid.now c.in-Some.count.now (sym c.in-Some.ensures.value) ((c.get_mut.follows.holds (c.in-Some.count.now + 1)).3 (search rules))

pub returns-in_ok-insert-in-None-clause-ok : goal.returns-in_ok-insert-in-None-clause-ok
returns-in_ok-insert-in-None-clause-ok c =
    let same : c.in_ok-copy-in-None.field-0 ≡ c.args.pid.now = c.in_ok-copy-in-None.ensures in
    let absent = (λ i. get pid_cmp (c.get_mut.follows.holds-at-none i) (same i)) ∙ sym c.in-None.ensures.value in
    counted_first c.get_mut.follows.lender-at-none c.insert.new.self c.in_ok-copy-in-None.field-0 absent c.in_ok-insert-in-None.ensures.updates
    ∙ (λ i. with_one_more (counts_in (c.get_mut.follows.holds-at-none i)) (same i))
