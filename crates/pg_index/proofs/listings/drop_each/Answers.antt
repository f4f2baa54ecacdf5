use Rattle.std.proofs.Common.{refl, ◌∙◌}
use Rattle.pg_term.specs.declared.pid.Pid.{Pid}
use Rattle.pg_index.specs.Groups.{counts_by_number}
use Rattle.pg_index.proofs.Dropped.{node_undropped, listing_dropped, node_dropped}
use Rattle.pg_index.proofs.listings.drop_each.Goals as goal

pub loop-listing-init : goal.loop-listing-init
loop-listing-init c = record {
  home = refl;
  dropped = node_undropped c.args.node c.args.set c.into_iter-listing-iterator.result (counts_by_number c.args.groups.now) c.into_iter-listing-iterator.ensures.into_iter_gives.0 c.requires;
  used = refl;
}

pub loop-listing-preserved : goal.loop-listing-preserved
loop-listing-preserved c =
    let listing = c.in-Some.listing in
    let pid : Pid = record { node = c.loop-listing.pid.node; serial = listing.process.serial; id = listing.process.id; creation = listing.process.creation } in
    record {
      home = c.loop-listing.invariant.home;
      dropped = listing_dropped c.args.node c.loop-listing.listing-iterator c.next.new.self listing pid (counts_by_number c.args.groups.now) (counts_by_number c.loop-listing.groups) (counts_by_number c.remove.new.groups)
          c.loop-listing.invariant.dropped c.in-Some.ensures.steps c.loop-listing.invariant.home refl c.remove.ensures.counts;
      used = c.remove.ensures.used ∙ c.loop-listing.invariant.used;
    }

pub returns-clause-counts : goal.returns-clause-counts
returns-clause-counts c = node_dropped c.args.node c.loop-listing.listing-iterator (counts_by_number c.args.groups.now) (counts_by_number c.loop-listing.groups) c.loop-listing.invariant.dropped c.in-None.ensures.steps.0

pub returns-clause-used : goal.returns-clause-used
returns-clause-used c = c.loop-listing.invariant.used
