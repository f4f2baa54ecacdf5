use Rattle.std.proofs.Common.{List, ap, ◌∙◌}
use Rattle.pg_index_members.specs.declared.row.Row.{Row}
use Rattle.pg_index_members.proofs.Places.{found_here, found_later}
use Rattle.pg_index_members.proofs.block.BlockPart.at.Goals as goal

pub returns-then-left-row : goal.returns-then-left-row
returns-then-left-row c =
    let items = ap (λ (l : List Row). l) (c.deref-row-items.ensures.value ∙ c.self.view_is) in
    found_here c.args.self.now c.deref-row-items.result.now items c.loop-row.row-index c.row-item.result c.loop-row.left c.loop-row-test.true c.row-item.is c.if-left-row.true ∙ c.loop-row.invariant

pub loop-row-preserved : goal.loop-row-preserved
loop-row-preserved c =
    let items = ap (λ (l : List Row). l) (c.deref-row-items.ensures.value ∙ c.self.view_is) in
    found_later c.args.self.now c.deref-row-items.result.now items c.loop-row.row-index c.row-item.result c.loop-row.left c.loop-row-test.true c.row-item.is c.if-left-row.false ∙ c.loop-row.invariant
