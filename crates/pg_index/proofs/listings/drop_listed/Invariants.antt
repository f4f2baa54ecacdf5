use Rattle.std.proofs.Common.{◌≡◌}
use Rattle.std.specs.BTreeSet.{btree_set_len}
use Rattle.pg_index.specs.Groups.{counts_by_number, is_used}
use Rattle.pg_index.proofs.Dropped.{PartlyDropped}
use Rattle.pg_index.proofs.listings.drop_listed.Given as goal

abbrev pub invariant-loop-group : goal.invariant-loop-group
invariant-loop-group l = record {
  dropped : PartlyDropped l.pid l.initial.set l.set (counts_by_number l.initial.groups) (counts_by_number l.groups);
  used : is_used l.groups ≡ is_used l.initial.groups;
}

abbrev pub decreases-loop-group : goal.decreases-loop-group
decreases-loop-group l = btree_set_len l.set
