use Rattle.std.proofs.Common.{sym, ◌∙◌, arith}
use Rattle.pg_group.specs.Scope.{in_scope}
use Rattle.pg_group.proofs.Spread.{spread, sized_more, sized_none, members-spread}
use Rattle.pg_group.proofs.members.Members.size.Goals as goal

pub loop-pid-preserved-then-has : goal.loop-pid-preserved-then-has
loop-pid-preserved-then-has c =
    let among = in_scope c.args.scope in
    let more = sized_more among c.in-Some.pid.now c.in-Some.count.now c.loop-pid.pid-iterator c.next.new.self c.in-Some.ensures.steps (sym c.has.ensures ∙ c.if-has.true) in
    (omega arith, omega (arith, c.loop-pid.invariant.1))

pub returns : goal.returns
returns c =
    let among = in_scope c.args.scope in
    let entries = c.args.self.now.counts.entries in
    let none = sized_none among c.loop-pid.pid-iterator c.in-None.ensures.steps.0 in
    (spread among entries, (members-spread among c.args.self.now.counts c.into_iter-pid-iterator.ensures.into_iter_gives.5, omega (arith, c.loop-pid.invariant.0, c.loop-pid.invariant.1)))
