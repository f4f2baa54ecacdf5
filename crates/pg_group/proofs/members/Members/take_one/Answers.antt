use Rattle.std.proofs.Common.{◌-◌, Some, sym, ap, ◌∙◌, rules, arith}
use Rattle.pg_group.specs.Counted.{counts_in}
use Rattle.pg_group.proofs.Maps.{counted_less, counted_last, not_counted}
use Rattle.pg_group.proofs.members.Members.take_one.Goals as goal

pub returns-in-None : goal.returns-in-None
returns-in-None c = ap counts_in c.get_mut.follows.holds-at-none ∙ not_counted c.args.self.now.counts c.args.pid.now (sym c.in-None.ensures.value)

pub returns-in-Some : goal.returns-in-Some
returns-in-Some c =
    counted_less c.args.self.now.counts (c.get_mut.follows.lender (c.in-Some.count.now - 1)) c.args.pid.now c.in-Some.count.now (sym c.in-Some.ensures.value) ((c.get_mut.follows.holds (c.in-Some.count.now - 1)).3 (search rules))

pub returns-in-Some-2 : goal.returns-in-Some-2
returns-in-Some-2 c =
    let k = c.in-Some.count.now in
    counted_last c.args.self.now.counts (c.get_mut.follows.lender k) c.remove.new.self c.args.pid.now k (Some k) (sym c.in-Some.ensures.value) (omega arith) ((c.get_mut.follows.holds k).3 (search rules)) c.remove.ensures.updates
