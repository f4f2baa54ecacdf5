use Rattle.std.proofs.Common.{◌∙◌, List, Bool, length, ap, sym, arith}
use Rattle.pg_exchange.proofs.Marks.{one_less}
use Rattle.pg_exchange.proofs.formation.Formation.forget.Goals as goal

pub overflow_sub-self : goal.overflow_sub-self
overflow_sub-self c =
    let less = one_less c.self.inside.marks.items c.args.peer c.index.result.now (omega (arith, c.requires, ap (λ (ms : List Bool). length ms) c.self.view_is)) (sym c.if-not-index.true ∙ c.index.ensures) in
    omega (arith, c.self.invariant)

pub invariant_of-self : goal.invariant_of-self
invariant_of-self c =
    let less = one_less c.self.inside.marks.items c.args.peer c.index.result.now (omega (arith, c.requires, ap (λ (ms : List Bool). length ms) c.self.view_is)) (sym c.if-not-index.true ∙ c.index.ensures) in
    omega (arith, c.self.invariant)
