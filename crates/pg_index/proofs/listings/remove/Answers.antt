use Rattle.std.proofs.Common.{false, ap, sym, ◌∙◌, rules}
use Rattle.pg_index.specs.Listings.{listed_in, listing_of}
use Rattle.pg_index.proofs.Listed.{set_marked, marked_same, has, Nodes}
use Rattle.pg_index.proofs.listings.remove.Goals as goal

pub returns-in-Some : goal.returns-in-Some
returns-in-Some c =
    set_marked c.args.listings.now (c.get_mut.follows.lender c.remove.new.self) c.args.pid.now c.args.group false c.in-Some.set.now c.remove.new.self c.listing.result c.listing.ensures
    (λ l. ap (λ o. has o l) (sym c.in-Some.ensures.value))
    c.remove.ensures.updates.0
    ((c.get_mut.follows.holds c.remove.new.self).3 (search rules)).0

pub returns-in-None : goal.returns-in-None
returns-in-None c =
    ap (λ (n : Nodes). listed_in n) c.get_mut.follows.holds-at-none
    ∙ marked_same (listed_in c.args.listings.now) c.args.pid.now c.args.group false (ap (λ o. has o (listing_of c.args.pid.now c.args.group)) (sym c.in-None.ensures.value))
