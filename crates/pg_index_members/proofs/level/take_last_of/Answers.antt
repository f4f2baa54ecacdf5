use Rattle.std.proofs.Common.{◌≡◌, [], sym, ap, subst, ◌∙◌, arith}
use Rattle.std.proofs.Common.{◌-◌, List, ◌∷◌, ◌++◌}
use Rattle.std.specs.Prelude.{IfSome}
use Rattle.std.specs.List.{flat_map}
use Rattle.pg_index_members.proofs.Parts.{written_at}
use Rattle.pg_index_members.proofs.Last.{last_left, last_removed}
use Rattle.pg_index_members.proofs.level.take_last_of.Goals as goal

pub returns-then-is_empty-clause-some : goal.returns-then-is_empty-clause-some
returns-then-is_empty-clause-some g c =
    let rows = g.P.Part.rows in
    let parts = c.args.parts.now.items in
    let at = c.len-len.result - 1 in
    let now : c.index.result.now ≡ c.take_last-row.new.self = written_at rows parts at c.index.result.now c.take_last-row.new.self (omega arith) c.index.ensures in
    let none : rows c.take_last-row.new.self ≡ [] = ap rows (sym now) ∙ c.is_empty.ensures.0 c.if-is_empty.true in
    subst (λ (l : List g.row.P.Denot). IfSome c.take_last-row.result (λ row. flat_map rows parts ≡ flat_map rows l ++ row ∷ [])) (sym c.remove.ensures.items)
    (last_removed rows parts at c.index_mut.result.now c.take_last-row.new.self (omega arith) c.index_mut.ensures.value c.take_last-row.result none c.take_last-row.ensures.some)

pub returns-else-is_empty-clause-some : goal.returns-else-is_empty-clause-some
returns-else-is_empty-clause-some g c =
    let rows = g.P.Part.rows in
    let parts = c.args.parts.now.items in
    let at = c.len-len.result - 1 in
    last_left rows parts at c.index_mut.result.now c.take_last-row.new.self (omega arith) c.index_mut.ensures.value c.take_last-row.result c.take_last-row.ensures.some
