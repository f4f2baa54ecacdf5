use Rattle.std.proofs.Common.{◌≡◌, ℕ, false, length, nat_eq, nat_lt}
use Rattle.pg_term.specs.declared.pid.Pid.{Pid}
use Rattle.pg_index_members.specs.Rows.{counts_of}
use Rattle.pg_index.specs.Listings.{listed_in}
use Rattle.pg_index.proofs.listings.remove_all.Given as goal

abbrev pub invariant-loop-row : goal.invariant-loop-row
invariant-loop-row l = record {
  mine : (pid : Pid) → listed_in l.listings pid l.group ≡ nat_lt 0 (counts_of l.members pid);
  others : (pid : Pid) (other : ℕ) → nat_eq l.group other ≡ false → listed_in l.listings pid other ≡ listed_in l.initial.listings pid other;
}

abbrev pub decreases-loop-row : goal.decreases-loop-row
decreases-loop-row l = length l.members
