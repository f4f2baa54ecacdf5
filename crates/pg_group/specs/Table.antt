-- A table of groups, as a function from names to groups.
use Rattle.std.specs.Prelude.{◌≡◌, ℕ, ◌+◌, ◌<◌, ◌≤◌, ◌^◌, length, Bool, true, false, cond, List, [], ◌∷◌, None, is_some, IsSome}
use Rattle.std.specs.List.{AllByRecursion, IsDistinct, list_any}
use Rattle.pg_term.specs.declared.pid.Pid.{Pid}
use Rattle.pg_term.specs.declared.term.Term.{Term}
use Rattle.pg_term.specs.Same.{same_term, same_pid}
use Rattle.pg_group.specs.declared.update.Update.{Update}
use Rattle.pg_group.specs.declared.update.Update.TheVariants.{Create, Delete, Join, Leave}
use Rattle.pg_group.specs.Functions.{upd}
use Rattle.pg_group.specs.Members.{IsMemberList}
use Rattle.pg_group.specs.Scope.{anywhere, at_node}
use Rattle.pg_group.specs.Value.{Value, apply, name_of, count_in, less, merge, listed, IsBetween}

abbrev pub Table : Type 0
Table = Term → Value

-- what an update makes of its group, where the pids of a set have ended: a join of one of them adds nothing
abbrev pub applied : Value → Update → (Pid → Bool) → Value
applied v (Create name) ended = apply v (Create name)
applied v (Delete name) ended = apply v (Delete name)
applied v (Join name pid) ended = cond (ended pid) v (apply v (Join name pid))
applied v (Leave name pid) ended = apply v (Leave name pid)

-- the table after an update: its group changed, and no other
abbrev pub changed : Table → Update → (Pid → Bool) → Table
changed table update ended = upd same_term table (name_of update) (applied (table (name_of update)) update ended)

-- a further count of the pid that joins can be told in 64 bits
abbrev pub HasRoom : Table → Update → Type 0
HasRoom table (Join name pid) = count_in (table name) pid + 1 < 2 ^ 64
HasRoom table update = Unit {0}

-- the pid has not ended and becomes a member of a group that is there
pub record IsNewMember (v : Value) (pid : Pid) (ended : Pid → Bool) : Type 0 where
  pub living : ended pid ≡ false
  pub there : IsSome v
  pub new : count_in v pid ≡ 0

-- the update puts a group or a member into the table that was not there
abbrev pub Adds : Table → Update → (Pid → Bool) → Type 0
Adds table (Create name) ended = table name ≡ None
Adds table (Delete name) ended = ⊥
Adds table (Join name pid) ended = IsNewMember (table name) pid ended
Adds table (Leave name pid) ended = ⊥

-- so many members more of a group could not be told in 64 bits
abbrev pub LacksRoom : Value → ℕ → Type 0
LacksRoom v more = (pids : List Pid) × (IsMemberList v anywhere pids × (2 ^ 64 ≤ length pids + more))

-- the update joins a group whose members, with one more, could not be told in 64 bits
abbrev pub Overfills : Table → Update → Type 0
Overfills table (Join name pid) = LacksRoom (table name) 1
Overfills table update = ⊥

-- these are the names of the groups that are there, each once
pub record AreNames (table : Table) (names : List Term) : Type 0 where
  pub each : (name : Term) → list_any (same_term name) names ≡ is_some (table name)
  pub once : IsDistinct same_term names

-- what an exchange makes of a group: the greater count of each pid of the list that has not ended
abbrev pub exchanged : Value → List Pid → (Pid → Bool) → Value
exchanged v pids ended = merge v (less (listed pids) ended)

-- the table after an exchange of one group: that group changed, and no other
abbrev pub merged : Table → Term → List Pid → (Pid → Bool) → Table
merged table name pids ended = upd same_term table name (exchanged (table name) pids ended)

-- what an exchange that was cut short may leave: the group may have been made and counts been raised, none above what
-- the whole exchange would have made it; no other group changed
pub record PartlyMerged (old new : Table) (name : Term) (pids : List Pid) (ended : Pid → Bool) : Type 0 where
  pub others : (other : Term) → same_term name other ≡ false → new other ≡ old other
  pub stays : is_some (old name) ≡ true → is_some (new name) ≡ true
  pub raised : IsBetween (count_in (old name)) (count_in (exchanged (old name) pids ended)) (count_in (new name))

-- groups with their members, each as often as its count
abbrev pub GroupList : Type 0
GroupList = List (Term × List Pid)

-- the table after exchanges of groups, one after the other
abbrev pub all_merged : Table → GroupList → (Pid → Bool) → Table
all_merged table [] ended = table
all_merged table (group ∷ groups) ended = all_merged (merged table group.0 group.1 ended) groups ended

-- none of the groups is there
abbrev pub AreAbsent : Table → GroupList → Type 0
AreAbsent table groups = AllByRecursion (λ group. table group.0 ≡ None) groups

-- the table without a pid; each group stays
abbrev pub without : Table → Pid → Table
without table pid name = less (table name) (same_pid pid)

-- the table without the pids of a node; each group stays
abbrev pub without_node : Table → List ℕ → Table
without_node table node name = less (table name) (at_node node)
