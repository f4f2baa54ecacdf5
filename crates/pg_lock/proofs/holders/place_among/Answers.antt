use Rattle.std.proofs.Common.{rules}
use Rattle.std.proofs.lemmas.Fn.{always_returns_same}
use Rattle.pg_term.specs.Same.{term_cmp}
use Rattle.pg_lock.proofs.Sorted.{place_is, Holder}
use Rattle.pg_lock.proofs.holders.place_among.Goals as goal

pub returns-clause-place : goal.returns-clause-place
returns-clause-place c = place_is c.args.holders.now c.args.name.now c.binary_search_by.result c.requires
    (c.binary_search_by.ensures.position (λ (e : Holder). term_cmp e.0 c.args.name.now) (always_returns_same _ _ _ (λ a r g called. search rules)))
