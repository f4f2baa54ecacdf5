use Rattle.std.proofs.Common.{◌≡◌, true, ◌+◌, nat_lt, sym, ap, ◌∙◌, arith}
use Rattle.pg_index.specs.Groups.{Numbered, counts_by_number}
use Rattle.pg_index.specs.Listings.{listed_in}
use Rattle.pg_index.proofs.Dropped.{changed_here}
use Rattle.pg_index.proofs.Changed.{listed_after, listed_kept, changed_back, more_is_some, was_some}
use Rattle.pg_index.proofs.memberships.Memberships.add.Goals as goal

pub invariant_of-self : goal.invariant_of-self
invariant_of-self c = record { each = λ pid group. c.args.self.now.each pid group ∙ ap (λ (f : Numbered). nat_lt 0 (f group pid)) (sym c.in_err-count.ensures.err) }

pub invariant_of-self-then-count-more : goal.invariant_of-self-then-count-more
invariant_of-self-then-count-more c =
    let counts = counts_by_number c.args.self.now.groups in
    let pid = c.args.pid.now in
    let n = counts c.args.group pid in
    let here : counts_by_number c.add.new.groups c.args.group pid ≡ n + c.args.more = ap (λ (f : Numbered). f c.args.group pid) c.in_ok-count.ensures.ok ∙ changed_here counts c.args.group pid (n + c.args.more) in
    let differs = c.if-count-more.true in
    let count = c.in_ok-count.ensures.count in
    record {
      each = listed_kept (listed_in c.args.self.now.listings) counts (counts_by_number c.add.new.groups) pid c.args.group (n + c.args.more)
          c.args.self.now.each c.in_ok-count.ensures.ok (was_some n c.args.more c.in_ok-count.count count differs ∙ ap (nat_lt 0) (sym here));
    }

pub invariant_of-self-in-Ok : goal.invariant_of-self-in-Ok
invariant_of-self-in-Ok c =
    let counts = counts_by_number c.args.self.now.groups in
    let pid = c.args.pid.now in
    let n = counts c.args.group pid in
    let here : counts_by_number c.add.new.groups c.args.group pid ≡ n + c.args.more = ap (λ (f : Numbered). f c.args.group pid) c.in_ok-count.ensures.ok ∙ changed_here counts c.args.group pid (n + c.args.more) in
    record {
      each = listed_after (listed_in c.args.self.now.listings) (listed_in c.add-2.new.listings) counts (counts_by_number c.add.new.groups) pid c.args.group true (n + c.args.more)
          c.args.self.now.each c.in-Ok.ensures.ok c.in_ok-count.ensures.ok (more_is_some n c.args.more c.requires.some ∙ ap (nat_lt 0) (sym here));
    }

pub invariant_of-self-in-Err : goal.invariant_of-self-in-Err
invariant_of-self-in-Err c =
    let counts = counts_by_number c.args.self.now.groups in
    let is = c.if-count-more.false in
    let count = c.in_ok-count.ensures.count in
    let none : counts c.args.group c.args.pid.now ≡ 0 = omega arith in
    let back = changed_back counts (counts_by_number c.add.new.groups) (counts_by_number c.remove.new.groups) c.args.pid.now c.args.group (counts c.args.group c.args.pid.now + c.args.more) none c.in_ok-count.ensures.ok c.remove.ensures.counts in
    record {
      each = λ pid group. ap (λ l. l pid group) c.in-Err.ensures.err ∙ c.args.self.now.each pid group ∙ ap (λ (f : Numbered). nat_lt 0 (f group pid)) (sym back);
    }

pub returns-in-Err-clause-err : goal.returns-in-Err-clause-err
returns-in-Err-clause-err c =
    let counts = counts_by_number c.args.self.now.groups in
    let is = c.if-count-more.false in
    let count = c.in_ok-count.ensures.count in
    let none : counts c.args.group c.args.pid.now ≡ 0 = omega arith in
    changed_back counts (counts_by_number c.add.new.groups) (counts_by_number c.remove.new.groups) c.args.pid.now c.args.group (counts c.args.group c.args.pid.now + c.args.more) none c.in_ok-count.ensures.ok c.remove.ensures.counts
