use Rattle.std.proofs.Common.{◌≡◌, List, length, take, sym, ap, subst, ◌∙◌, arith}
use Rattle.pg_index_members.specs.declared.row.Row.{Row}
use Rattle.pg_index_members.specs.Edges.{before}
use Rattle.pg_index_members.specs.Rows.{IsCut, spread, total_of}
use Rattle.pg_index_members.proofs.Cut.{total_split}
use Rattle.pg_index_members.proofs.Places.{length-cut}
use Rattle.pg_index_members.proofs.block.BlockPart.rank.Goals as goal

pub sum-requires : goal.sum-requires
sum-requires c =
    let all = total_split c.deref-2.result.now c.find-at.result in
    let is : total_of c.deref-2.result.now ≡ total_of c.self.inside.rows.items = ap total_of c.deref-2.ensures.value in
    omega arith

pub returns : goal.returns
returns c =
    let items = c.self.inside.rows.items in
    let at = c.find-at.result in
    let cut : IsCut (before c.args.edge) items at = subst (λ (l : List Row). IsCut (before c.args.edge) l at) c.deref.ensures.value c.find-at.ensures in
    c.sum.ensures ∙ ap (λ l. total_of (take at l)) c.deref-2.ensures.value ∙ sym (length-cut (before c.args.edge) items at cut) ∙ ap (λ l. length (spread (before c.args.edge) l)) c.self.view_is
