use Rattle.std.proofs.Common.{sym, ap, ◌∙◌, rules}
use Rattle.pg_index.specs.Groups.{counts_by_number}
use Rattle.pg_index.specs.Listings.{listing_of}
use Rattle.pg_index.proofs.Listed.{has}
use Rattle.pg_index.proofs.Dropped.{listed_without, nowhere}
use Rattle.pg_index.proofs.listings.drop_pid.Goals as goal

pub returns-in-Some-clause-listed : goal.returns-in-Some-clause-listed
returns-in-Some-clause-listed c =
    listed_without c.args.listings.now (c.get_mut.follows.lender c.drop_listed.new.set) c.args.pid.now c.in-Some.set.now c.drop_listed.new.set (counts_by_number c.args.groups.now) (counts_by_number c.drop_listed.new.groups)
    c.requires (sym c.in-Some.ensures.value) ((c.get_mut.follows.holds c.drop_listed.new.set).3 (search rules)).0
    c.drop_listed.ensures.counts c.drop_listed.ensures.none c.drop_listed.ensures.others

pub returns-in-None-clause-counts : goal.returns-in-None-clause-counts
returns-in-None-clause-counts c =
    nowhere (counts_by_number c.args.groups.now) c.args.pid.now
    (λ n. sym (c.requires c.args.pid.now n) ∙ ap (λ o. has o (listing_of c.args.pid.now n)) (sym c.in-None.ensures.value))
