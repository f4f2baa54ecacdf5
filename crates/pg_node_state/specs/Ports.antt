-- What a node keeps of its peers and of its ports, by their places.
use Rattle.std.specs.Prelude.{◌≡◌, ◌<◌, ◌≤◌, ℕ, Bool, true, false, List, Option, Some, None}
use Rattle.pg_node_ports.specs.PgGroup.declared.update.Update.{Update}
use Rattle.pg_node_ports.specs.PgGroup.Value.{name_of}
use Rattle.pg_node_ports.specs.PgMessageTypes.Name.{is_name}
use Rattle.pg_node_ports.specs.PgStep.declared.command.OpId.{OpId}
use Rattle.pg_node_ports.specs.PgStep.Nodes.{Node}
use Rattle.pg_node_ports.specs.PgStep.State.{Use, Stage}
use Rattle.pg_node_ports.specs.PgStep.State.Use.{Locking, Updating}
use Rattle.pg_node_ports.specs.PgNodeOpens.Readings.{stage_seen, is_closed, waiting_of}
use Rattle.pg_node_sends.specs.Marked.{is_marked}

-- the peers whose exchange was taken, by the marks of the peers
abbrev pub merged_in : List Node → List Bool → Node → Bool
merged_in names marks = is_marked names marks

-- where an update is told it has a name
abbrev pub is_named : Option Update → Bool
is_named None = true
is_named (Some update) = is_name (name_of update)

-- the command came in at one of so many ports, and is one of those that were counted there; its update has a name
pub record CameIn (ports : ℕ) (counts : ℕ → ℕ) (op : OpId) (update : Option Update) : Type 0 where
  pub port : op.port < ports
  pub number : op.number ≤ counts op.port
  pub named : is_named update ≡ true

-- the command for which it is gathered under a reference that is used so, and its update
abbrev pub gathers_for : Use → Option (OpId × Update)
gathers_for (Locking op update first st) = Some (op, update)
gathers_for (Updating op update lock replied) = Some (op, update)
gathers_for used = None

-- what is gathered is for a command that came in, with its update
pub record IsOf (came : OpId → Option Update → Type 0) (what : Option (OpId × Update)) : Type 0 where
  pub is : (op : OpId) (update : Update) → what ≡ Some (op, update) → came op (Some update)

-- each open command came in, and so did the update of each that waits
pub record AreGiven (came : OpId → Option Update → Type 0) (uses : ℕ → Use) (stages : OpId → Stage) : Type 0 where
  pub by_use : (c : ℕ) → IsOf came (gathers_for (uses c))
  pub by_stage : (op : OpId) → is_closed (stage_seen (stages op)) ≡ false → came op (waiting_of (stages op))
