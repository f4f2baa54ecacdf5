use Rattle.std.proofs.Common.{◌≡◌, max, sym, ◌∙◌, rules}
use Rattle.std.specs.BTreeMap.{get}
use Rattle.pg_term.specs.Same.{pid_cmp, same_pid}
use Rattle.pg_group.specs.Counted.{counts_in}
use Rattle.pg_group.specs.Functions.{upd}
use Rattle.pg_group.proofs.Maps.{counted_at_least, counted_least}
use Rattle.pg_group.proofs.members.Members.raise.Goals as goal

pub returns-in-Some-clause-ok : goal.returns-in-Some-clause-ok
returns-in-Some-clause-ok c =
    let k = c.max.result in
    counted_at_least c.args.self.now.counts (c.get_mut.follows.lender k) c.args.pid.now c.in-Some.count.now c.args.least k (sym c.in-Some.ensures.value) c.max.ensures ((c.get_mut.follows.holds k).3 (search rules))

pub returns-in_ok-insert-in-None-clause-ok : goal.returns-in_ok-insert-in-None-clause-ok
returns-in_ok-insert-in-None-clause-ok c =
    let same : c.in_ok-copy-in-None.field-0 ≡ c.args.pid.now = c.in_ok-copy-in-None.ensures in
    let absent = (λ i. get pid_cmp (c.get_mut.follows.holds-at-none i) (same i)) ∙ sym c.in-None.ensures.value in
    counted_least c.get_mut.follows.lender-at-none c.insert.new.self c.in_ok-copy-in-None.field-0 c.args.least absent c.in_ok-insert-in-None.ensures.updates
    ∙ (λ i. upd same_pid (counts_in (c.get_mut.follows.holds-at-none i)) (same i) (max (counts_in (c.get_mut.follows.holds-at-none i) (same i)) c.args.least))
