-- The groups that a peer announces.
pub use Rattle.pg_group.specs.Table.{GroupList, all_merged}
use Rattle.std.specs.Prelude.{cond, List, [], ◌∷◌, map, None}
use Rattle.std.specs.List.{AllByRecursion}
use Rattle.std.specs.List.Sorted.{IsSorted}
use Rattle.pg_term.specs.declared.term.Term.{Term}
use Rattle.pg_term.specs.Same.{same_term, term_cmp}
use Rattle.pg_group.specs.Value.{merge, listed}
use Rattle.pg_group.specs.Scope.{anywhere}
use Rattle.pg_group.specs.Members.{IsMemberList}
use Rattle.pg_group.specs.Table.{Table, AreNames}

-- the table that groups announce: where a name stands more than once, the greatest count of each pid
abbrev pub announced_table : GroupList → Table
announced_table [] name = None
announced_table (group ∷ groups) name = merge (cond (same_term group.0 name) (listed group.1) None) (announced_table groups name)

-- the names of the groups
abbrev pub announced_names : GroupList → List Term
announced_names groups = map (λ group. group.0) groups

-- all that a table says: its groups in the order of terms, each with its members in the order of pids
pub record IsSnapshot (table : Table) (groups : GroupList) : Type 0 where
  pub names : AreNames table (announced_names groups)
  pub ordered : IsSorted term_cmp (announced_names groups)
  pub members : AllByRecursion (λ group. IsMemberList (table group.0) anywhere group.1) groups
