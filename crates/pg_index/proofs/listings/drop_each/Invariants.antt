use Rattle.std.proofs.Common.{◌≡◌}
use Rattle.pg_index.specs.Groups.{counts_by_number, is_used}
use Rattle.pg_index.proofs.Dropped.{NodePartlyDropped}
use Rattle.pg_index.proofs.listings.drop_each.Given as goal

-- the listings to come
abbrev pub invariant-loop-listing : goal.invariant-loop-listing
invariant-loop-listing l = record {
  home : l.pid.node ≡ l.fn.node;
  dropped : NodePartlyDropped l.fn.node l.listing-iterator (counts_by_number l.initial.groups) (counts_by_number l.groups);
  used : is_used l.groups ≡ is_used l.initial.groups;
}
