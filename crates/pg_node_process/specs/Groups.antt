-- The groups with which a node begins, as its host brings them.
use Rattle.std.specs.Prelude.{◌≡◌, ℕ, List, Bool, ◌&&◌, cond, Option, Some, None, Result, Ok, Err}
use Rattle.std.specs.List.{list_all}
use Rattle.pg_term.specs.declared.faults.TheConstants.{BAD_CONFIG, FOREIGN_PID, NAME_TOO_LARGE, OUT_OF_MEMORY}
use Rattle.pg_term.specs.declared.fault.TermFault.{TermFault}
use Rattle.pg_term.specs.declared.pid.Pid.{Pid}
use Rattle.pg_term.specs.declared.term.Term.{Term}
use Rattle.pg_term.specs.Same.{same_atom}
use Rattle.pg_step.specs.PgEnds.Numbers.{is_among}
use Rattle.pg_step.specs.PgExchange.GroupList.{GroupList}
use Rattle.pg_step.specs.PgMessageTypes.Name.{is_name}
use Rattle.pg_step.specs.PgMessageTypes.Reading.{is_named_once}
use Rattle.pg_step.specs.PgTermIo.Reading.{term_of}
use Rattle.pg_node_requests.specs.Members.{groups_of}
use Rattle.pg_node_process.specs.declared.groups.GroupsFault.{GroupsFault}
use Rattle.pg_node_process.specs.declared.groups.GroupsFault.TheVariants as faults

-- [{Name, [Pid, ..]}, ..]
abbrev pub groups_told : Result Term TermFault → Option GroupList
groups_told (Ok term) = groups_of term
groups_told (Err fault) = None

-- the groups that bytes list
abbrev pub groups_spelled : List ℕ → Option GroupList
groups_spelled bytes = groups_told (term_of bytes)

-- a process of this node, one of the first so many
abbrev pub is_own : List ℕ → ℕ → Pid → Bool
is_own own made pid = same_atom pid.node own && is_among made pid

abbrev pub are_own : List ℕ → ℕ → GroupList → Bool
are_own own made groups = list_all (λ group. list_all (is_own own made) group.1) groups

-- each name can be sent
abbrev pub are_names : GroupList → Bool
are_names groups = list_all (λ group. is_name group.0) groups

-- A node can begin with groups that are named once each, whose members are its own processes, and whose names can be sent. Else the first that does not hold is told.
abbrev pub checked : List ℕ → ℕ → GroupList → Result (Unit {0}) GroupsFault
checked own made groups =
    cond (is_named_once groups) (cond (are_own own made groups) (cond (are_names groups) (Ok tt) (Err faults.NameTooLarge)) (Err faults.ForeignPid)) (Err faults.BadConfig)

abbrev pub groups_or : GroupList → Result (Unit {0}) GroupsFault → Result GroupList GroupsFault
groups_or groups (Ok done) = Ok groups
groups_or groups (Err fault) = Err fault

abbrev pub brought_by : List ℕ → ℕ → Option GroupList → Result GroupList GroupsFault
brought_by own made (Some groups) = groups_or groups (checked own made groups)
brought_by own made None = Err faults.BadConfig

-- what is brought to the node of this name, which has made so many processes
abbrev pub brought : List ℕ → ℕ → List ℕ → Result GroupList GroupsFault
brought own made bytes = brought_by own made (groups_spelled bytes)

-- the answer is what is brought, or memory ran out
abbrev pub Brings : Result GroupList GroupsFault → Result GroupList GroupsFault → Type 0
Brings told (Ok groups) = told ≡ Ok groups
Brings told (Err faults.OutOfMemory) = Unit {0}
Brings told (Err fault) = told ≡ Err fault

-- the number of a fault
abbrev pub groups_number_of : GroupsFault → ℕ
groups_number_of faults.OutOfMemory = OUT_OF_MEMORY
groups_number_of faults.BadConfig = BAD_CONFIG
groups_number_of faults.ForeignPid = FOREIGN_PID
groups_number_of faults.NameTooLarge = NAME_TOO_LARGE
