use Rattle.std.proofs.Common.{List, length, sym, subst, ◌∙◌}
use Rattle.std.specs.List.Sorted.{IsSearchInRange, IsBinarySearchResult}
use Rattle.pg_group.specs.contracts.number.NumberOrd.TheImpl.Laws as number_laws
use Rattle.pg_group.specs.declared.number.Number.{Number}
use Rattle.pg_group.specs.Numbers.{number_cmp}
use Rattle.pg_group.proofs.Chunks.{searched, not_last}
use Rattle.pg_group.proofs.chunk.Chunk.has.Goals as goal

pub returns-else-eq : goal.returns-else-eq
returns-else-eq c =
    let front = c.args.self.now.front.items in
    let last = c.args.self.now.last in
    let k = c.args.number in
    let is = c.deref.ensures.value in
    c.is_ok.ensures.value
    ∙ searched front last k c.requires c.binary_search.result
    (subst (λ (l : List Number). IsSearchInRange c.binary_search.result (length l)) is c.binary_search.ensures.bound)
    (subst (λ (l : List Number). IsBinarySearchResult (λ y. number_cmp y k) l c.binary_search.result) is c.binary_search.ensures.position)
    ∙ sym (not_last front last k (sym (number_laws.matches_eq-law k last) ∙ sym c.eq.ensures ∙ c.if-eq.false))
