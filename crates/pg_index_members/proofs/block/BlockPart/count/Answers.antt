use Rattle.std.proofs.Common.{◌≡◌, List, drop, true, false, sym, ap, subst, ◌∙◌}
use Rattle.pg_index_members.specs.declared.row.Row.{Row}
use Rattle.pg_index_members.specs.Rows.{IsCut, is_here, counts_of}
use Rattle.pg_index_members.proofs.Flat.{below}
use Rattle.pg_index_members.proofs.Cut.{found_count, missing_count}
use Rattle.pg_index_members.proofs.block.BlockPart.count.Goals as goal

pub returns-then-is_at : goal.returns-then-is_at
returns-then-is_at c =
    let items = c.self.inside.rows.items in
    let at = c.find-at.result in
    let pid = c.args.pid.now in
    let cut : IsCut (below pid) items at = subst (λ (l : List Row). IsCut (below pid) l at) c.deref.ensures.value c.find-at.ensures in
    let here : is_here pid (drop at items) ≡ true = ap (λ l. is_here pid (drop at l)) (sym c.deref-2.ensures.value) ∙ sym c.is_at.ensures.value ∙ c.if-is_at.true in
    sym (found_count pid items at c.self.invariant.1 cut c.index.result.now c.index.ensures here) ∙ ap (λ l. counts_of l pid) c.self.view_is

pub returns-else-is_at : goal.returns-else-is_at
returns-else-is_at c =
    let items = c.self.inside.rows.items in
    let at = c.find-at.result in
    let pid = c.args.pid.now in
    let cut : IsCut (below pid) items at = subst (λ (l : List Row). IsCut (below pid) l at) c.deref.ensures.value c.find-at.ensures in
    let here : is_here pid (drop at items) ≡ false = ap (λ l. is_here pid (drop at l)) (sym c.deref-2.ensures.value) ∙ sym c.is_at.ensures.value ∙ c.if-is_at.false in
    sym (missing_count pid items at c.self.invariant.1 cut here) ∙ ap (λ l. counts_of l pid) c.self.view_is
