-- Which pids are listed in which groups.
use Rattle.std.specs.Prelude.{◌≡◌, ℕ, Bool, true, false, Option, None, Some, nat_eq, nat_lt, List}
use Rattle.std.specs.Option.{option_map_or}
use Rattle.std.specs.BTreeMap.{BTreeMap, get}
use Rattle.std.specs.BTreeSet.{BTreeSet, contains}
use Rattle.std.specs.declared.cmp.Ordering.{Ordering}
use Rattle.pg_term.specs.declared.pid.Pid.{Pid}
use Rattle.pg_term.specs.Same.{same_pid, atom_cmp}
use Rattle.pg_group.specs.Functions.{upd}
use Rattle.pg_index.specs.Groups.{Numbered}
use Rattle.pg_index.specs.declared.listing.Process.{Process}
use Rattle.pg_index.specs.declared.listing.Listing.{Listing}
use Rattle.pg_index.specs.contracts.listing.ListingOrd.TheImpl.{ghosts as ordered_listings}

-- which of two listings comes first, as `cmp` tells
abbrev pub listing_cmp : Listing → Listing → Ordering
listing_cmp = ordered_listings.cmp

-- what a pid says beside its node
abbrev pub process_of : Pid → Process
process_of pid = record { serial = pid.serial; id = pid.id; creation = pid.creation }

abbrev pub listing_of : Pid → ℕ → Listing
listing_of pid group = record { process = process_of pid; group = group }

-- whether the pid is listed in the group of this number
abbrev pub listed_in : BTreeMap (List ℕ) (BTreeSet Listing) → Pid → ℕ → Bool
listed_in listings pid group = option_map_or (λ set. contains listing_cmp set (listing_of pid group)) (get atom_cmp listings pid.node) false

-- listed or not at one pid and group, and as before elsewhere
abbrev pub listed_as : (Pid → ℕ → Bool) → Pid → ℕ → Bool → Pid → ℕ → Bool
listed_as listed pid group is = upd same_pid listed pid (upd nat_eq (listed pid) group is)

-- a group that the process is listed in, if there is one
abbrev pub IsFirstListing : BTreeSet Listing → Process → Option ℕ → Type 0
IsFirstListing set process None = (group : ℕ) → contains listing_cmp set (record { process = process; group = group }) ≡ false
IsFirstListing set process (Some group) = contains listing_cmp set (record { process = process; group = group }) ≡ true

-- a pid's listings at its node are of the groups that it is a member of
abbrev pub AreGroupsOf : BTreeSet Listing → Numbered → Pid → Type 0
AreGroupsOf set counts pid = (group : ℕ) → contains listing_cmp set (listing_of pid group) ≡ nat_lt 0 (counts group pid)

-- each pid is listed in the groups that it is a member of, and in no other
abbrev pub ListsByMember : (Pid → ℕ → Bool) → Numbered → Type 0
ListsByMember listed counts = (pid : Pid) (group : ℕ) → listed pid group ≡ nat_lt 0 (counts group pid)
