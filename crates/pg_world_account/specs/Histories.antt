-- What a world keeps of what began and of what was applied, by group.
use Rattle.std.specs.Prelude.{◌≡◌, ℕ, ◌+◌, ◌<◌, ◌^◌, Bool, true, false, ◌&&◌, ◌||◌, cond, nat_eq, map, length}
use Rattle.std.specs.Prelude.{get_or, List, [], ◌∷◌, ◌++◌, Option, Some, None}
use Rattle.std.specs.Option.{option_map_or}
use Rattle.std.specs.BTreeMap.{BTreeMap, get}
use Rattle.std.specs.Vec.{vec_len, vec_capacity}
use Rattle.pg_term.specs.declared.term.Term.{Term}
use Rattle.pg_term.specs.Same.{term_cmp}
use Rattle.pg_node_opens.specs.PgGroup.declared.update.Update.{Update}
use Rattle.pg_node_opens.specs.PgGroup.Value.{name_of}
use Rattle.pg_node_opens.specs.PgMessageTypes.declared.message.Message.{Message}
use Rattle.pg_node_opens.specs.PgMessageTypes.declared.message.Message.TheVariants.{Call}
use Rattle.pg_node_opens.specs.PgMessageTypes.declared.message.Request.TheVariants.{Change}
use Rattle.pg_node_opens.specs.PgStep.declared.command.OpId.{OpId}
use Rattle.pg_laws_losses.specs.PgLaws.History as history
use Rattle.pg_laws_losses.specs.PgLaws.History.{of_group, is_update_of}
use Rattle.pg_laws_losses.specs.PgLaws.WithLosses.{Marked}
use Rattle.pg_world_account.specs.declared.entry.Entry.{Entry}
use Rattle.pg_world_account.specs.declared.histories.Histories.{Histories}
use Rattle.pg_world_account.specs.declared.row.Row.{Row}
use Rattle.pg_world_account.specs.declared.tally.Tally.{Tally}

-- ---- how many updates each node has applied

-- of one group, by the places of the nodes
abbrev pub count_at : Tally → ℕ → ℕ
count_at tally node = get_or tally.counts.items node 0

-- one more of a node needs no memory
abbrev pub CanCount : Tally → ℕ → Type 0
CanCount tally node = (node < length tally.counts.items) × (count_at tally node + 1 < 2 ^ 64)

-- ---- a group

abbrev pub as_entry : Entry → history.Entry
as_entry entry = record { node = entry.node; op = entry.op; update = entry.update }

-- node i has applied the update: it is its own, or it took it
abbrev pub is_applied_by : Entry → ℕ → Bool
is_applied_by entry i = nat_eq entry.node i || get_or entry.takers i false

-- a place is one of those that are marked
abbrev pub is_among : List Bool → ℕ → Bool
is_among marks place = get_or marks place false

-- an entry, with the mark of node i
abbrev pub as_marked : ℕ → Entry → history.Entry × Bool
as_marked i entry = (as_entry entry, is_applied_by entry i)

abbrev pub entries_of : Row → List history.Entry
entries_of row = map as_entry row.entries.items

-- the entries, each with the mark of a node
abbrev pub marked_entries_of : Row → ℕ → Marked
marked_entries_of row i = map (as_marked i) row.entries.items

-- one more entry of a node needs no memory
abbrev pub HasRowRoom : Row → ℕ → Type 0
HasRowRoom row node = (vec_len row.entries < vec_capacity row.entries) × CanCount row.tally node

-- ---- all groups

abbrev pub entries_in : BTreeMap Term Row → Term → List history.Entry
entries_in rows name = option_map_or entries_of (get term_cmp rows name) []

abbrev pub tallied_in : BTreeMap Term Row → ℕ → Term → ℕ
tallied_in rows node name = option_map_or (λ row. count_at row.tally node) (get term_cmp rows name) 0

abbrev pub marked_entries_in : BTreeMap Term Row → ℕ → Term → Marked
marked_entries_in rows node name = option_map_or (λ row. marked_entries_of row node) (get term_cmp rows name) []

-- one more entry of a group and a node needs no memory
abbrev pub HasRow : BTreeMap Term Row → Term → ℕ → Type 0
HasRow rows name node = (row : Row) × (get term_cmp rows name ≡ Some row) × HasRowRoom row node

-- 1 where it is that node and an update of that group
abbrev pub one_of : ℕ → ℕ → Term → Option Update → ℕ
one_of node i name update = cond (nat_eq node i && is_update_of name update) 1 0

-- the entry that is not in its row yet
abbrev pub last_entries : Option Entry → List history.Entry
last_entries None = []
last_entries (Some entry) = as_entry entry ∷ []

abbrev pub last_count : Option Entry → ℕ → Term → ℕ
last_count None i name = 0
last_count (Some entry) i name = one_of entry.node i name (Some entry.update)

abbrev pub last_marks : Option Entry → ℕ → Term → Marked
last_marks None i name = []
last_marks (Some entry) i name = cond (is_update_of name (Some entry.update)) (as_marked i entry ∷ []) []

-- the history of each group
abbrev pub history_in : Histories → Term → List history.Entry
history_in histories name = entries_in histories.rows name ++ of_group name (last_entries histories.last)

-- how many updates of a group a node has applied
abbrev pub applied_in : Histories → ℕ → Term → ℕ
applied_in histories i name = tallied_in histories.rows i name + last_count histories.last i name

-- the history of each group, each update with a mark that says whether a node has applied it
abbrev pub marked_in : Histories → ℕ → Term → Marked
marked_in histories i name = marked_entries_in histories.rows i name ++ last_marks histories.last i name

-- what a world has kept beside its nodes
pub record Account : Type 0 where
  -- the history of each group, how many of its updates each node has applied, and which
  pub histories : Term → List history.Entry
  pub applied : ℕ → Term → ℕ
  pub marked : ℕ → Term → Marked
  -- every node was formed when the first was lost, or none is lost
  pub formed : Bool

-- nothing has begun, and nobody was lost
abbrev pub no_account : Account
no_account = record { histories = λ name. []; applied = λ i name. 0; marked = λ i name. []; formed = true }

-- what is kept
abbrev pub account_of : Histories → Account
account_of histories = record { histories = history_in histories; applied = applied_in histories; marked = marked_in histories; formed = histories.formed }

-- the same, with whether every node was formed when the first was lost
abbrev pub account_formed : Bool → Account → Account
account_formed formed account = record { histories = account.histories; applied = account.applied; marked = account.marked; formed = formed }

-- each entry is in its row
abbrev pub AreInRows : Histories → Type 0
AreInRows histories = histories.last ≡ None

-- there is room in its row for the entry that is not there yet
abbrev pub LastHasRow : BTreeMap Term Row → Option Entry → Type 0
LastHasRow rows None = Unit {0}
LastHasRow rows (Some entry) = HasRow rows (name_of entry.update) entry.node

-- ---- what an event applies

-- the update that a packet asks for
abbrev pub update_asked_by : Message → Option Update
update_asked_by (Call reference (Change update)) = Some update
update_asked_by message = None

-- the update of what began
abbrev pub begun_by : Option (OpId × Update) → Option Update
begun_by None = None
begun_by (Some began) = Some began.1

-- one more of the update that a packet asks for, if it does, needs no memory
abbrev pub CanServe : BTreeMap Term Row → ℕ → Option Update → Type 0
CanServe rows node None = Unit {0}
CanServe rows node (Some update) = HasRow rows (name_of update) node
