use Rattle.std.proofs.Common.{sym, ◌∙◌}
use Rattle.std.specs.Prelude.{slice_get}
use Rattle.pg_group.specs.Scope.{in_scope}
use Rattle.pg_group.proofs.Spread.{spread, place_here, place_later, place_past, members-spread}
use Rattle.pg_group.proofs.members.Members.pid_at.Goals as goal

pub returns-then-left-count : goal.returns-then-left-count
returns-then-left-count c =
    let among = in_scope c.args.scope in
    let all = spread among c.args.self.now.counts.entries in (
      all,
      (
        members-spread among c.args.self.now.counts c.into_iter-pid-iterator.ensures.into_iter_gives.5,
        place_here among c.loop-pid.left (slice_get all c.args.place) c.in-Some.pid.now c.in-Some.count.now c.loop-pid.pid-iterator c.next.new.self c.in-Some.ensures.steps (sym c.has.ensures ∙ c.if-has.true) c.if-left-count.true c.loop-pid.invariant,
      ),
    )

pub loop-pid-preserved-then-has : goal.loop-pid-preserved-then-has
loop-pid-preserved-then-has c =
    let among = in_scope c.args.scope in
    place_later among c.loop-pid.left (slice_get (spread among c.args.self.now.counts.entries) c.args.place) c.in-Some.pid.now c.in-Some.count.now c.loop-pid.pid-iterator c.next.new.self c.in-Some.ensures.steps (sym c.has.ensures ∙ c.if-has.true) c.if-left-count.false c.loop-pid.invariant

pub returns : goal.returns
returns c =
    let among = in_scope c.args.scope in
    let all = spread among c.args.self.now.counts.entries in (
      all,
      (
        members-spread among c.args.self.now.counts c.into_iter-pid-iterator.ensures.into_iter_gives.5,
        place_past among c.loop-pid.left (slice_get all c.args.place) c.loop-pid.pid-iterator c.in-None.ensures.steps.0 c.loop-pid.invariant,
      ),
    )
