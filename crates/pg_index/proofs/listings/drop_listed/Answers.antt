use Rattle.std.proofs.Common.{◌≡◌, false, refl, subst, ◌∙◌}
use Rattle.std.specs.BTreeSet.{contains}
use Rattle.pg_index.specs.declared.listing.Listing.{Listing}
use Rattle.pg_index.specs.declared.listing.Process.{Process}
use Rattle.pg_index.specs.Groups.{counts_by_number}
use Rattle.pg_index.specs.Listings.{listing_cmp}
use Rattle.pg_index.proofs.Dropped.{none_dropped, one_dropped, pid_dropped}
use Rattle.pg_index.proofs.listings.drop_listed.Goals as goal

pub loop-group-init : goal.loop-group-init
loop-group-init c = record {
  dropped = none_dropped c.args.pid.now c.args.set.now (counts_by_number c.args.groups.now) c.requires;
  used = refl;
}

pub loop-group-preserved : goal.loop-group-preserved
loop-group-preserved c =
    let key : Listing = record { process = c.process_in-process.result; group = c.in-Some.group } in
    record {
      dropped = one_dropped c.args.pid.now c.args.set.now c.loop-group.set c.remove-in-Some.new.self (counts_by_number c.args.groups.now) (counts_by_number c.loop-group.groups) (counts_by_number c.remove.new.groups) c.in-Some.group key
          c.loop-group.invariant.dropped (λ i. record { process = c.process_in-process.ensures i; group = c.in-Some.group }) c.remove.ensures.counts c.remove-in-Some.ensures.updates.0;
      used = c.remove.ensures.used ∙ c.loop-group.invariant.used;
    }

pub returns-clause-counts : goal.returns-clause-counts
returns-clause-counts c =
    pid_dropped c.args.pid.now c.args.set.now c.loop-group.set (counts_by_number c.args.groups.now) (counts_by_number c.loop-group.groups) c.loop-group.invariant.dropped
    (λ n. subst (λ (p : Process). contains listing_cmp c.loop-group.set (record { process = p; group = n }) ≡ false) c.process_in-process.ensures (c.in_default.ensures n))
