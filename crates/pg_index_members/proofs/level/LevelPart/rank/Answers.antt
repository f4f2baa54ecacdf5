use Rattle.std.proofs.Common.{◌≡◌, ◌+◌, List, length, take, ap, subst, ◌∙◌, arith}
use Rattle.std.specs.List.{flat_map}
use Rattle.pg_index_members.specs.Edges.{before}
use Rattle.pg_index_members.specs.Rows.{total_of, spread}
use Rattle.pg_index_members.specs.Levels.{IsChoice}
use Rattle.pg_index_members.proofs.Order.{downward}
use Rattle.pg_index_members.proofs.Parts.{length-spread_le, total_split, rank_at}
use Rattle.pg_index_members.proofs.level.LevelPart.rank.Goals as goal

pub sum-requires : goal.sum-requires
sum-requires g c =
    let rows = g.P.Part.rows in
    let parts = c.self.inside.parts.items in
    let at = c.choose-at.result in
    let all = total_split rows parts at in
    let is : total_of (flat_map rows (take at c.deref-2.result.now)) ≡ total_of (flat_map rows (take at parts)) = ap (λ l. total_of (flat_map rows (take at l))) c.deref-2.ensures.value in
    let fits = c.self.invariant.fits in
    omega arith

pub overflow_add-result : goal.overflow_add-result
overflow_add-result g c =
    let rows = g.P.Part.rows in
    let parts = c.self.inside.parts.items in
    let at = c.choose-at.result in
    let p = before c.args.edge in
    let choice : IsChoice rows p parts at = subst (λ (l : List g.row.P.Denot). IsChoice rows p l at) c.deref.ensures.value c.choose-at.ensures in
    let whole : c.sum.result ≡ total_of (flat_map rows (take at parts)) = c.sum.ensures ∙ ap (λ l. total_of (flat_map rows (take at l))) c.deref-2.ensures.value in
    let all = rank_at rows p (downward c.args.edge) parts at c.index.result.now c.self.invariant.in_order choice c.index.ensures in
    let few = length-spread_le p (flat_map rows parts) in
    let fits = c.self.invariant.fits in
    omega arith

pub returns : goal.returns
returns g c =
    let rows = g.P.Part.rows in
    let parts = c.self.inside.parts.items in
    let at = c.choose-at.result in
    let p = before c.args.edge in
    let choice : IsChoice rows p parts at = subst (λ (l : List g.row.P.Denot). IsChoice rows p l at) c.deref.ensures.value c.choose-at.ensures in
    let whole : c.sum.result ≡ total_of (flat_map rows (take at parts)) = c.sum.ensures ∙ ap (λ l. total_of (flat_map rows (take at l))) c.deref-2.ensures.value in
    let all = rank_at rows p (downward c.args.edge) parts at c.index.result.now c.self.invariant.in_order choice c.index.ensures in
    (let sum : c.sum.result + c.rank.result ≡ length (spread p (flat_map rows parts)) = omega arith in sum) ∙ ap (λ l. length (spread p l)) c.self.view_is
