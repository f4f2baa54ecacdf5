-- What a host is told that mirrors the table of the node, and what it makes of it.
--
-- An assignment is a term. {Name}: the group is gone. {Name, Pids}: it is there, and has these members, each as often as its count. {Name, Pid, Count}: so often does
-- this process count in it. A body tells a list of them, which are made one after another. To make one twice is to make it once.
use Rattle.std.specs.Prelude.{◌≡◌, ◌⊎◌, ℕ, pos, nat_lt, Bool, true, false, cond, List, [], ◌∷◌, ◌++◌, map, Option, Some, None, IsSome, unwrap_or}
use Rattle.std.specs.List.{AllByRecursion, flat_map, list_any}
use Rattle.pg_term.specs.Same.{same_pid, same_term}
use Rattle.pg_term.specs.declared.pid.Pid.{Pid}
use Rattle.pg_term.specs.declared.term.Term.{Term, Tuple, List as Listed}
use Rattle.pg_term.specs.declared.term.Term.TheVariants.{Int, Pid as Process}
use Rattle.pg_step.specs.PgGroup.Functions.{upd}
use Rattle.pg_step.specs.PgGroup.Table.{Table, changed}
use Rattle.pg_step.specs.PgGroup.Value.{Value, count_in, listed}
use Rattle.pg_step.specs.PgGroup.declared.update.Update.{Update}
use Rattle.pg_step.specs.PgGroup.declared.update.Update.TheVariants as updates
use Rattle.pg_step.specs.PgMessageTypes.Parts.{elements_of, items_of, pid_of}
use Rattle.pg_node_requests.specs.Requests.{number_of}
use Rattle.pg_node_process.specs.Outputs.{IsFramed, Mirrored, Output, Says, said as bytes_said}

-- ---- what it makes of it

-- the pid that a term is, before others
abbrev pub before_pids : Option Pid → List Pid → List Pid
before_pids (Some pid) pids = pid ∷ pids
before_pids None pids = pids

-- the pids of a list of terms
abbrev pub pids_in : List Term → List Pid
pids_in [] = []
pids_in (term ∷ terms) = before_pids (pid_of term) (pids_in terms)

-- a process counts so often in a group, where that is there
abbrev pub counted_so : Value → Pid → ℕ → Value
counted_so None pid count = None
counted_so (Some counts) pid count = Some (upd same_pid counts pid count)

-- {Name, Pids}: the group has these members
abbrev pub row_assigned : Term → Option (List Term) → Table → Table
row_assigned name (Some pids) table = upd same_term table name (listed (pids_in pids))
row_assigned name None table = table

-- {Name, Pid, Count}
abbrev pub entry_assigned : Term → Option Pid → Option ℕ → Table → Table
entry_assigned name (Some pid) (Some count) table = upd same_term table name (counted_so (table name) pid count)
entry_assigned name pid count table = table

abbrev pub parts_assigned : Option (List Term) → Table → Table
parts_assigned (Some (name ∷ [])) table = upd same_term table name None
parts_assigned (Some (name ∷ pids ∷ [])) table = row_assigned name (items_of pids) table
parts_assigned (Some (name ∷ pid ∷ count ∷ [])) table = entry_assigned name (pid_of pid) (number_of 63 count) table
parts_assigned parts table = table

-- what an assignment makes of a table
abbrev pub assigned : Term → Table → Table
assigned term table = parts_assigned (elements_of term) table

-- what all of a list do, one after another
abbrev pub all_assigned : List Term → Table → Table
all_assigned [] table = table
all_assigned (term ∷ terms) table = all_assigned terms (assigned term table)

-- the assignments of an output
abbrev pub assignments : Output → List Term
assignments (Mirrored term) = unwrap_or (items_of term) []
assignments output = []

-- the table of a host that has heard these outputs, one after another, where it was this one before
abbrev pub mirror : List Output → Table → Table
mirror outputs table = all_assigned (flat_map assignments outputs) table

-- no group
abbrev pub no_groups : Table
no_groups name = None

-- ---- what it is told

abbrev pub AreAssignments : Output → Type 0
AreAssignments (Mirrored term) = IsSome (items_of term)
AreAssignments output = ⊥

-- A host that mirrors the table is told assignments, which make the one table of the other. Any other is told nothing.
abbrev pub TellsTable : Bool → Table → Table → List Output → Type 0
TellsTable false before after said = said ≡ []
TellsTable true before after said = AllByRecursion AreAssignments said × (mirror said before ≡ after)

-- the group is gone; it is there, with these members; so often does a process count in it
abbrev pub gone : Term → Term
gone name = Tuple (name ∷ [])

abbrev pub row : Term → List Pid → Term
row name pids = Tuple (name ∷ Listed (map Process pids) ∷ [])

abbrev pub entry : Term → Pid → ℕ → Term
entry name pid count = Tuple (name ∷ Process pid ∷ Int (pos count) ∷ [])

-- the assignment that tells of an update, where a process counts so often behind it
abbrev pub told_of : Update → ℕ → Term
told_of (updates.Create name) count = row name []
told_of (updates.Delete name) count = gone name
told_of (updates.Join name pid) count = entry name pid count
told_of (updates.Leave name pid) count = entry name pid count

-- An update is told by one assignment, or by none. Where none was applied nothing is told.
abbrev pub TellsUpdate : Option Update → List Output → Type 0
TellsUpdate None said = said ≡ []
TellsUpdate (Some update) said = (said ≡ []) ⊎ ((count : ℕ) × (said ≡ Mirrored (Listed (told_of update count ∷ [])) ∷ []))

-- the process whose join an update is has ended
abbrev pub has_joined : Update → (Pid → Bool) → Bool
has_joined (updates.Join name pid) ended = ended pid
has_joined update ended = false

-- ---- how it is gathered

-- Outputs of assignments alone are said behind what was said. These, and what still waits to be said, are what waited, and these terms behind it.
pub record Adds (terms : List Term) (before after : List ℕ) (waiting later : List Term) : Type 0 where
  pub outputs : List Output
  pub alone : AllByRecursion AreAssignments outputs
  pub framed : AllByRecursion IsFramed outputs
  pub gathered : after ≡ before ++ flat_map bytes_said outputs
  pub told : flat_map assignments outputs ++ later ≡ waiting ++ terms

-- something was said behind what was said
pub record IsLonger (before after : List ℕ) : Type 0 where
  pub more : List ℕ
  pub longer : after ≡ before ++ more

-- A host that mirrors the table is told how the one comes from the other.
pub record SaysTable (before after : Table) (said0 said1 : List ℕ) (outputs : List Output) : Type 0 where
  pub tells : TellsTable true before after outputs
  pub framed : AllByRecursion IsFramed outputs
  pub gathered : said1 ≡ said0 ++ flat_map bytes_said outputs

-- no group but these is another
abbrev pub OnlyThese : List Term → Table → Table → Type 0
OnlyThese names before after = (name : Term) → list_any (same_term name) names ≡ false → after name ≡ before name

-- the groups in which a process is a member
abbrev pub AreGroupsOf : Table → Pid → List Term → Type 0
AreGroupsOf table pid names = (name : Term) → list_any (same_term name) names ≡ nat_lt 0 (count_in (table name) pid)

-- ---- whole groups

-- of these names what a table has, and of all others what another has
abbrev pub patched : List Term → Table → Table → Table
patched names after before name = cond (list_any (same_term name) names) (after name) (before name)

-- these assignments give the groups of these names what a table has
abbrev pub RowsOf : List Term → Table → List Term → Type 0
RowsOf names after terms = (before : Table) → all_assigned terms before ≡ patched names after before

-- A host is told of whole groups: whatever it had, it has of these names what the table has, and else what it had.
abbrev pub TellsRowsOf : List Term → Table → List Output → Type 0
TellsRowsOf names after said = (before : Table) → mirror said before ≡ patched names after before

-- of whole groups, of some names
abbrev pub TellsRows : Table → List Output → Type 0
TellsRows after said = (names : List Term) × TellsRowsOf names after said

-- a host that mirrors the table is told how the groups of these names are
pub record SaysRows (names : List Term) (after : Table) (said0 said1 : List ℕ) (outputs : List Output) : Type 0 where
  pub alone : AllByRecursion AreAssignments outputs
  pub rows : TellsRowsOf names after outputs
  pub framed : AllByRecursion IsFramed outputs
  pub gathered : said1 ≡ said0 ++ flat_map bytes_said outputs

-- ---- from one table to another

-- the assignment of what a process counts in a group, where that is there
abbrev pub count_told : Value → Term → Pid → Option Term
count_told None name pid = None
count_told (Some counts) name pid = Some (entry name pid (counts pid))

-- what is told of an update makes of the table before it the table after it
abbrev pub TellsOf : Update → (before after : Table) → Option Term → Type 0
TellsOf update before after None = before ≡ after
TellsOf update before after (Some term) = (assigned term before ≡ after) × (count : ℕ) × (term ≡ told_of update count)

-- the assignment that there is is said, alone in a body, or nothing is
abbrev pub SaysOne : Option Term → List ℕ → List ℕ → Type 0
SaysOne None before after = after ≡ before
SaysOne (Some term) before after = Says before after (Mirrored (Listed (term ∷ [])))

-- an update that was applied is told, from whatever table it changed to the one behind it; joined: it is a join, of a process that has ended
abbrev pub SaysUpdate : Update → (joined : Bool) → Table → List ℕ → List ℕ → Type 0
SaysUpdate update joined after said0 said1 =
    (before : Table) (ended : Pid → Bool) → after ≡ changed before update ended → has_joined update ended ≡ joined
    → (outputs : List Output) × SaysTable before after said0 said1 outputs × TellsUpdate (Some update) outputs
