use Rattle.std.proofs.Common.{◌≡◌, ◌<◌, ◌≤◌, ◌∷◌, ◌++◌, [], List, Err, length, sym, ap, subst, ◌∙◌}
use Rattle.std.specs.List.{insert, HoldsAt}
use Rattle.std.specs.List.Sorted.{IsBinarySearchResult}
use Rattle.std.specs.declared.cmp.Ordering.TheVariants.{Equal}
use Rattle.pg_group.specs.contracts.number.NumberOrd.TheImpl.Laws as number_laws
use Rattle.pg_group.specs.declared.number.Number.{Number}
use Rattle.pg_group.specs.Numbers.{number_cmp}
use Rattle.pg_group.proofs.Chunks.{put_found, put_last, put_missed}
use Rattle.pg_group.proofs.chunk.Chunk.insert.Goals as goal

pub returns-then-eq-clause-ok : goal.returns-then-eq-clause-ok
returns-then-eq-clause-ok c =
    let last = c.args.self.now.last in
    put_last c.args.self.now.front.items last c.args.number c.requires.sorted (sym (number_laws.matches_eq-law c.args.number last) ∙ sym c.eq.ensures ∙ c.if-eq.true)

pub returns-in_default-clause-ok : goal.returns-in_default-clause-ok
returns-in_default-clause-ok c =
    let at = c.in_default.field-0 in
    put_found c.args.self.now.front.items c.args.self.now.last c.args.number c.requires.sorted at
    (subst (λ (l : List Number). at < length l) c.deref.ensures.value c.in_default.ensures.bound)
    (subst (λ (l : List Number). HoldsAt (λ y. number_cmp y c.args.number ≡ Equal) l at) c.deref.ensures.value c.in_default.ensures.position)

pub returns-clause-ok : goal.returns-clause-ok
returns-clause-ok c =
    let front = c.args.self.now.front.items in
    let last = c.args.self.now.last in
    let k = c.args.number in
    let at = c.in-Err.place in
    (λ i. (c.in_ok-insert.ensures.items ∙ ap (λ l. insert l at k) c.make_room.ensures.front) i ++ c.make_room.ensures.last i ∷ [])
    ∙ put_missed front last k c.requires.sorted at
    (subst (λ (l : List Number). at ≤ length l) c.deref.ensures.value c.in-Err.ensures.bound)
    (subst (λ (l : List Number). IsBinarySearchResult (λ y. number_cmp y k) l (Err at)) c.deref.ensures.value c.in-Err.ensures.position)
    c.requires.within
    (sym (number_laws.matches_eq-law k last) ∙ sym c.eq.ensures ∙ c.if-eq.false)
