use Rattle.std.proofs.Common.{arith, ◌≡◌, ◌∷◌, Some, sym, ◌∙◌, rules}
use Rattle.pg_term.specs.Same.{same_term}
use Rattle.pg_group.specs.Functions.{upd}
use Rattle.pg_exchange.specs.Undone.{put_back}
use Rattle.pg_exchange.proofs.Undone.{kept, all_lowered, next_taken}
use Rattle.pg_exchange.proofs.merging.put_back.Goals as goal

pub loop-pid-preserved-then-count : goal.loop-pid-preserved-then-count
loop-pid-preserved-then-count g c =
    let first : c.loop-pid.pid-iterator.a.rest.now ≡ c.in-Some-2.pid.now ∷ c.next.new.self.a.rest.now = search rules in
    let second : c.loop-pid.pid-iterator.b.rest.now ≡ c.in-Some-2.count.now ∷ c.next.new.self.b.rest.now = search rules in
    let old = g.T.GroupTable.contents c.loop-pid.table in
    let new = g.T.GroupTable.contents c.leave.new.self in
    next_taken old new c.args.name.now c.in-Some-2.pid.now c.next.new.self.a.rest.now c.in-Some-2.count.now c.next.new.self.b.rest.now (omega (arith, c.if-count.true, c.count.ensures)) c.leave.ensures
    ∙ (λ i. upd same_term old c.args.name.now (put_back (old c.args.name.now) (sym first i) (Some (sym second i))))
    ∙ c.loop-pid.invariant

pub returns : goal.returns
returns g c =
    let table = g.T.GroupTable.contents c.loop-pid.table in
    sym (kept table c.args.name.now _ (all_lowered (table c.args.name.now) c.loop-pid.pid-iterator.a.rest.now c.loop-pid.pid-iterator.b.rest.now c.in-None.ensures.steps))
    ∙ c.loop-pid.invariant
