-- What is asked of a configuration, as tests, and the fault of one by which no world can begin.
use Rattle.std.specs.Prelude.{ℕ, Bool, true, not, cond, ◌&&◌, nat_le, length}
use Rattle.std.specs.Prelude.{[], ◌∷◌, Option, Some, None, Result, Ok, Err}
use Rattle.std.specs.List.{list_any, list_all}
use Rattle.std.specs.Prelude.{◌≡◌}
use Rattle.pg_term.specs.Same.{same_atom}
use Rattle.pg_step.specs.PgEnds.Limits.{max_processes}
use Rattle.pg_step.specs.PgExchange.GroupList.{GroupList}
use Rattle.pg_step.specs.PgMessageTypes.Name.{is_name}
use Rattle.pg_step.specs.PgMessageTypes.Reading.{is_named_once}
use Rattle.pg_step.specs.declared.start.Start.{Start}
use Rattle.pg_step.specs.Config.{Config, was_made}
use Rattle.pg_world_config.specs.declared.fault.WorldFault.{WorldFault}
use Rattle.pg_world_config.specs.declared.fault.WorldFault.TheVariants.{BadConfig, NameTooLarge, BadCapacity, OutOfMemory}

-- no two nodes have one name
abbrev pub are_apart : Config → Bool
are_apart [] = true
are_apart (start ∷ starts) = not (list_any (λ other. same_atom start.name other.name) starts) && are_apart starts

-- each member is a process that one of the nodes has made
abbrev pub are_made : Config → GroupList → Bool
are_made config groups = list_all (λ group. list_all (was_made config) group.1) groups

-- what is asked of a node as it starts, but for the size of the names of its groups
abbrev pub is_start : Config → Start → Bool
is_start config start = nat_le start.ports 64 && nat_le start.made max_processes && is_named_once start.groups && are_made config start.groups

-- what is asked of a configuration, but for the size of names
abbrev pub is_config : Config → Bool
is_config config = nat_le 1 (length config) && nat_le (length config) 16 && are_apart config && list_all (is_start config) config

-- each name of a group can be sent
abbrev pub are_names : GroupList → Bool
are_names groups = list_all (λ group. is_name group.0) groups

abbrev pub have_names : Config → Bool
have_names config = list_all (λ start. are_names start.groups) config

-- how much room a ring may have, in bytes
abbrev pub is_capacity : ℕ → Bool
is_capacity ring = nat_le 1 ring && nat_le ring 65536

-- the first fault of a configuration whose rings have this capacity
abbrev pub refusal_of : ℕ → Config → Option WorldFault
refusal_of ring config =
    cond (is_config config) (cond (have_names config) (cond (is_capacity ring) None (Some BadCapacity)) (Some NameTooLarge)) (Some BadConfig)

-- an answer is what is told, or memory ran out
abbrev pub IsAsTold : {X : Type 0} → Option WorldFault → Result X WorldFault → Type 0
IsAsTold told (Ok x) = told ≡ None
IsAsTold told (Err OutOfMemory) = Unit {0}
IsAsTold told (Err fault) = told ≡ Some fault
