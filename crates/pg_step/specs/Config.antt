-- A configuration: the nodes of a set as they start.
use Rattle.std.specs.Prelude.{◌≡◌, ℕ, ◌≤◌, Bool, true, false, ◌&&◌, map, length, List, [], None, unwrap_or, slice_get}
use Rattle.std.specs.List.{AllByRecursion, IsDistinct, remove, list_any}
use Rattle.pg_term.specs.declared.pid.Pid.{Pid}
use Rattle.pg_term.specs.Same.{same_atom, same_term}
use Rattle.pg_message_types.specs.PgGroup.Table.{Table}
use Rattle.pg_ends.specs.Numbers.{is_among}
use Rattle.pg_exchange.specs.GroupList.{GroupList, all_merged, announced_names}
use Rattle.pg_message_types.specs.Name.{is_name}
use Rattle.pg_step.specs.declared.start.Start.{Start}
use Rattle.pg_step.specs.Nodes.{Node, Nodes}
use Rattle.pg_ends.specs.Limits.{max_processes}

-- the nodes of a set as they start, by their places
abbrev pub Config : Type 0
Config = List Start

abbrev pub names_of : Config → List Node
names_of config = map (λ start. start.name) config

-- a node at a place out of range has no name, and is never asked for one
abbrev pub name_at : Config → ℕ → Node
name_at config i = unwrap_or (slice_get (names_of config) i) []

-- the nodes as that at place i knows them: its peers are the others, in their order
abbrev pub nodes_at : Config → ℕ → Nodes
nodes_at config i = record { own = name_at config i; peers = remove (names_of config) i }

abbrev pub groups_at : Config → ℕ → GroupList
groups_at config i = unwrap_or (slice_get (map (λ start. start.groups) config) i) []

abbrev pub made_at : Config → ℕ → ℕ
made_at config i = unwrap_or (slice_get (map (λ start. start.made) config) i) 0

abbrev pub ports_at : Config → ℕ → ℕ
ports_at config i = unwrap_or (slice_get (map (λ start. start.ports) config) i) 0

-- the table of a node that starts with these groups
abbrev pub first_table : GroupList → Table
first_table groups = all_merged (λ name. None) groups (λ pid. false)

-- one of these nodes made the process
abbrev pub was_made : Config → Pid → Bool
was_made config pid = list_any (λ start. same_atom pid.node start.name && is_among start.made pid) config

-- what a world asks of a node as it starts
pub record IsStart (config : Config) (start : Start) : Type 0 where
  pub ports : start.ports ≤ 64
  pub made : start.made ≤ max_processes
  -- no group is named twice, and each name can be sent
  pub groups : IsDistinct same_term (announced_names start.groups)
  pub names : AllByRecursion (λ name. is_name name ≡ true) (announced_names start.groups)
  -- each member is a process that one of the nodes has made
  pub members : AllByRecursion (λ group. AllByRecursion (λ pid. was_made config pid ≡ true) group.1) start.groups

-- what a world asks of a configuration
pub record IsConfig (config : Config) : Type 0 where
  -- 1 to 16 nodes, with different names
  pub some : 1 ≤ length config
  pub few : length config ≤ 16
  pub apart : IsDistinct same_atom (names_of config)
  pub starts : AllByRecursion (IsStart config) config

-- ---- the machine
