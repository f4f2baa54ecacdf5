use Rattle.std.specs.List.{list_any}
use Rattle.pg_index.specs.declared.listing.Listing.{Listing}
use Rattle.std.proofs.Common.{List, true, ap, sym, ◌∙◌, rules}
use Rattle.std.specs.BTreeMap.{is_at}
use Rattle.pg_group.proofs.Maps.{on_err}
use Rattle.pg_index.specs.Listings.{listing_cmp}
use Rattle.pg_index.proofs.Listed.{set_marked, set_kept, map_kept, set_put, has}
use Rattle.pg_index.proofs.listings.add.Goals as goal

pub returns-in_err-insert-in-Some-clause-err : goal.returns-in_err-insert-in-Some-clause-err
returns-in_err-insert-in-Some-clause-err c = on_err c.from_residual.result
    (set_kept c.args.listings.now (c.get_mut.follows.lender c.insert.new.self) c.args.pid.now.node c.in-Some.set.now c.insert.new.self (sym c.in-Some.ensures.value)
    c.in_err-insert-in-Some.ensures.err
    ((c.get_mut.follows.holds c.insert.new.self).3 (search rules)).0)

pub returns-in_ok-insert-in-Some-clause-ok : goal.returns-in_ok-insert-in-Some-clause-ok
returns-in_ok-insert-in-Some-clause-ok c =
    set_marked c.args.listings.now (c.get_mut.follows.lender c.insert.new.self) c.args.pid.now c.args.group true c.in-Some.set.now c.insert.new.self c.listing.result c.listing.ensures
    (λ l. ap (λ o. has o l) (sym c.in-Some.ensures.value))
    c.in_ok-insert-in-Some.ensures.updates.0
    ((c.get_mut.follows.holds c.insert.new.self).3 (search rules)).0

pub returns-in_err-insert-in-None-2-clause-err : goal.returns-in_err-insert-in-None-2-clause-err
returns-in_err-insert-in-None-2-clause-err c = on_err c.from_residual-in_err-insert-in-None-2.result
    (map_kept c.args.listings.now c.get_mut.follows.lender-at-none c.insert-in-None-2.new.self c.get_mut.follows.holds-at-none c.in_err-insert-in-None-2.ensures.err)

pub returns-in_ok-insert-in-None-2-clause-ok : goal.returns-in_ok-insert-in-None-2-clause-ok
returns-in_ok-insert-in-None-2-clause-ok c =
    set_marked c.args.listings.now c.insert-in-None-2.new.self c.args.pid.now c.args.group true c.new-set.result c.insert-in-None.new.self c.listing-in-None.result c.listing-in-None.ensures
    (λ l. ap (λ o. has o l) (sym c.in-None.ensures.value) ∙ ap (λ (ks : List Listing). list_any (is_at (listing_cmp l)) ks) (sym c.new-set.ensures.empty))
    c.in_ok-insert-in-None.ensures.updates.0
    (set_put c.args.listings.now c.get_mut.follows.lender-at-none c.insert-in-None-2.new.self c.in_ok-copy-in-None.field-0 c.args.pid.now.node c.insert-in-None.new.self c.get_mut.follows.holds-at-none c.in_ok-copy-in-None.ensures c.in_ok-insert-in-None-2.ensures.updates.0)
