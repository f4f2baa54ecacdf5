-- When two accounts are alike, and what the comparison of entries computes.
use Rattle.std.specs.Prelude.{◌≡◌, ◌<◌, ℕ, List, Option, Some, None, IsSome, Bool, ◌&&◌, nat_eq}
use Rattle.pg_term.specs.declared.term.Term.{Term}
use Rattle.pg_world_account.specs.Losses.{is_lost}
use Rattle.pg_world_account.specs.Histories.{Account}
use Rattle.std.specs.BTreeMap.{get}
use Rattle.pg_term.specs.Same.{term_cmp}
use Rattle.pg_node_opens.specs.PgGroup.Value.{name_of}
use Rattle.pg_world_account.specs.declared.entry.Entry.{Entry}
use Rattle.pg_world_account.specs.declared.histories.Histories.{Histories}
use Rattle.pg_world_account.specs.Histories.{account_of}
use Rattle.pg_node_opens.specs.PgStep.Attempts.{same_op}
use Rattle.pg_node_opens.specs.Twins.{same_update}

-- the same of a group: its history, and how many of its updates each of so many nodes has applied
pub record HaveSameUpdates (count : ℕ) (one other : Account) (name : Term) : Type 0 where
  pub history : one.histories name ≡ other.histories name
  pub applied : (i : ℕ) → i < count → one.applied i name ≡ other.applied i name

-- the same nodes are lost, in whatever order
abbrev pub AreSameLost : List ℕ → List ℕ → Type 0
AreSameLost lost others = (node : ℕ) → is_lost lost node ≡ is_lost others node

-- ---- the groups that are named

-- that of the entry that is not in its row yet
abbrev pub IsNamedLast : Option Entry → Term → Type 0
IsNamedLast None name = ⊥
IsNamedLast (Some entry) name = name_of entry.update ≡ name

-- the same of each group that has an entry or a row in the first
pub record AgreeOnNamed (count : ℕ) (one other : Histories) : Type 0 where
  pub last : (name : Term) → IsNamedLast one.last name → HaveSameUpdates count (account_of one) (account_of other) name
  pub rows : (name : Term) → IsSome (get term_cmp one.rows name) → HaveSameUpdates count (account_of one) (account_of other) name

-- ---- entries

-- whether two entries are one
abbrev pub same_entry : Entry → Entry → Bool
same_entry entry other = nat_eq entry.node other.node && (same_op entry.op other.op && same_update entry.update other.update)
