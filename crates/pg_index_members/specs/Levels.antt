-- Parts in a row, each of some rows.
use Rattle.std.specs.Prelude.{◌≡◌, ℕ, ◌+◌, ◌<◌, ◌^◌, Bool, true, false, List, length, get_or, take, drop}
use Rattle.std.specs.List.{AllByRecursion, flat_map}
use Rattle.std.specs.declared.cmp.Ordering.TheVariants.{Less}
use Rattle.pg_term.specs.declared.pid.Pid.{Pid}
use Rattle.pg_term.specs.Same.{pid_cmp}
use Rattle.pg_index_members.specs.declared.row.Row.{Row}
use Rattle.pg_index_members.specs.Rows.{total_of, AreRows, all_before}

-- no part is empty
abbrev pub NoneEmpty : {P : Type 0} → (P → List Row) → List P → Type 0
NoneEmpty {P} rows parts = AllByRecursion (λ part. 0 < length (rows part)) parts

-- a level knows its total, its rows are in order from part to part, and no part is empty
pub record IsLevel {P : Type 0} (rows : P → List Row) (parts : List P) (total : ℕ) : Type 0 where
  pub sum : total ≡ total_of (flat_map rows parts)
  pub fits : total_of (flat_map rows parts) < 2 ^ 64
  pub in_order : AreRows (flat_map rows parts)
  pub some : NoneEmpty rows parts

-- the parts before this place stand before the edge, and the part at this place does not, unless it is the last
pub record IsChoice {P : Type 0} (rows : P → List Row) (p : Pid → Bool) (parts : List P) (at : ℕ) : Type 0 where
  pub within : at < length parts
  pub front : AllByRecursion (λ row. p row.pid ≡ true) (flat_map rows (take at parts))
  pub next : (d : P) → at + 1 < length parts → all_before p (rows (get_or parts at d)) ≡ false

-- a pid has its row, if any, in the part at this place
pub record IsHome {P : Type 0} (rows : P → List Row) (pid : Pid) (parts : List P) (at : ℕ) : Type 0 where
  pub within : at < length parts
  pub front : AllByRecursion (λ row. pid_cmp row.pid pid ≡ Less) (flat_map rows (take at parts))
  pub later : AllByRecursion (λ row. pid_cmp pid row.pid ≡ Less) (flat_map rows (drop (at + 1) parts))
