-- What a process group is, and what an update makes of it (create/1, delete/1, join/2 and leave/2 of the pg2 manual
-- page).
use Rattle.std.specs.Prelude.{◌≡◌, ℕ, ◌+◌, ◌-◌, ◌≤◌, Bool, true, cond, max, List, count_by, Option, Some, None}
use Rattle.pg_term.specs.declared.pid.Pid.{Pid}
use Rattle.pg_term.specs.declared.term.Term.{Term}
use Rattle.pg_term.specs.Same.{same_pid}
use Rattle.pg_group.specs.declared.update.Update.{Update}
use Rattle.pg_group.specs.declared.update.Update.TheVariants.{Create, Delete, Join, Leave}
use Rattle.pg_group.specs.Functions.{upd}

-- how often each pid is a member of a group that is there
abbrev pub Counts : Type 0
Counts = Pid → ℕ

-- a group: absent, or present with its members
abbrev pub Value : Type 0
Value = Option Counts

-- without members
abbrev pub nobody : Counts
nobody pid = 0

-- one more count of a pid
abbrev pub with_one_more : Counts → Pid → Counts
with_one_more counts pid = upd same_pid counts pid (counts pid + 1)

-- one count less of a pid that is a member
abbrev pub with_one_less : Counts → Pid → Counts
with_one_less counts pid = upd same_pid counts pid (counts pid - 1)

-- what an update makes of the group that it names
abbrev pub apply : Value → Update → Value
-- an absent group becomes empty, another stays as it is
apply None (Create name) = Some nobody
apply (Some counts) (Create name) = Some counts
-- the group is gone with all its memberships
apply v (Delete name) = None
-- one more count of the pid, where the group is there
apply None (Join name pid) = None
apply (Some counts) (Join name pid) = Some (with_one_more counts pid)
-- one count less, where the pid is a member
apply None (Leave name pid) = None
apply (Some counts) (Leave name pid) = Some (with_one_less counts pid)

-- the group that an update names
abbrev pub name_of : Update → Term
name_of (Create name) = name
name_of (Delete name) = name
name_of (Join name pid) = name
name_of (Leave name pid) = name

-- how often a pid is a member
abbrev pub count_in : Value → Pid → ℕ
count_in None pid = 0
count_in (Some counts) pid = counts pid

-- no count of the pids of a set
abbrev pub none_of : (Pid → Bool) → Counts → Counts
none_of ended counts pid = cond (ended pid) 0 (counts pid)

-- a group without the pids of a set; a present group stays present
abbrev pub less : Value → (Pid → Bool) → Value
less None ended = None
less (Some counts) ended = Some (none_of ended counts)

-- each count is the greater of the two
abbrev pub greater : Counts → Counts → Counts
greater f g pid = max (f pid) (g pid)

-- present if one of them is; each count is the greater of the two
abbrev pub merge : Value → Value → Value
merge None w = w
merge (Some f) None = Some f
merge (Some f) (Some g) = Some (greater f g)

-- how often each pid stands in a list, less the ended
abbrev pub told : List Pid → (Pid → Bool) → Counts
told pids ended pid = cond (ended pid) 0 (count_by (same_pid pid) pids)

-- the group that a list of its members tells of, each pid as often as it stands there
abbrev pub listed : List Pid → Value
listed pids = Some (λ pid. count_by (same_pid pid) pids)

-- no count is below the first or above the second
abbrev pub IsBetween : Counts → Counts → Counts → Type 0
IsBetween low high counts = (pid : Pid) → (low pid ≤ counts pid) × (counts pid ≤ high pid)

-- no member of the group is in the set
abbrev pub NoneEnded : Value → (Pid → Bool) → Type 0
NoneEnded v ended = (pid : Pid) → ended pid ≡ true → count_in v pid ≡ 0
