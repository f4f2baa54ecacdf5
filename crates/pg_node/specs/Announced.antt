-- The groups of a table in any order, and how long their list is.
use Rattle.std.specs.Prelude.{◌≡◌, ℕ, Bool, true, false, Option, None, Some, length, map, min}
use Rattle.std.specs.List.{AllByRecursion, list_all}
use Rattle.pg_term.specs.declared.term.Term.{List as Listed}
use Rattle.pg_node_state.specs.PgTermIo.Writing.{item_bytes}
use Rattle.pg_node_state.specs.PgGroup.Members.{IsMemberList}
use Rattle.pg_node_state.specs.PgGroup.Scope.{anywhere}
use Rattle.pg_node_state.specs.PgGroup.Table.{Table, GroupList, AreNames}
use Rattle.pg_node_state.specs.PgExchange.GroupList.{announced_names}
use Rattle.pg_node_state.specs.PgMessageTypes.Name.{is_name}
use Rattle.pg_node_state.specs.PgMessageTypes.Writing.{group_term}

-- the least length that a body can't have
abbrev pub too_long : ℕ
too_long = 16777217

-- each group has a name that may be sent
abbrev pub are_names : GroupList → Bool
are_names groups = list_all (λ group. is_name group.0) groups

-- all that a table says, its groups in any order
pub record AreGroups (table : Table) (groups : GroupList) : Type 0 where
  pub names : AreNames table (announced_names groups)
  pub members : AllByRecursion (λ group. IsMemberList (table group.0) anywhere group.1) groups

-- how many bytes groups take as a list, counted no further than what is too long; no number where a name is none
abbrev pub Measures : GroupList → Option ℕ → Type 0
Measures groups None = are_names groups ≡ false
Measures groups (Some len) = (are_names groups ≡ true) × (len ≡ min (length (item_bytes (Listed (map group_term groups)))) too_long)
