-- What a list of open commands says.
use Rattle.std.specs.Prelude.{◌≡◌, ℕ, ◌<◌, Bool, false, ◌&&◌, ◌||◌, cond, nat_eq, nat_lt}
use Rattle.std.specs.Prelude.{nat_le, length, List, Option, Some, None, slice_get, slice_set}
use Rattle.pg_step.specs.PgGroup.declared.update.Update.{Update}
use Rattle.pg_step.specs.PgGroup.Value.{name_of}
use Rattle.pg_step.specs.declared.command.OpId.{OpId}
use Rattle.pg_step.specs.Nodes.{Node}
use Rattle.pg_step.specs.State.{Use, Stage}
use Rattle.pg_step.specs.State.Use.{Fresh, Locking, Owning, Updating, Spent}
use Rattle.pg_step.specs.State.Stage.{Closed, Waiting, Asking, Changing}
use Rattle.pg_step.specs.Attempts.{same_op}
use Rattle.pg_node_opens.specs.declared.mark.Mark.{Mark}
use Rattle.pg_node_opens.specs.declared.mark.Mark.TheVariants as mark
use Rattle.pg_node_opens.specs.declared.command.Phase.{Phase}
use Rattle.pg_node_opens.specs.declared.command.Phase.TheVariants as phase
use Rattle.pg_node_opens.specs.declared.command.OpenCommand.{OpenCommand}
use Rattle.pg_node_opens.specs.Layers.{seek, or_as, answers, AllAlone}
use Rattle.pg_node_opens.specs.Places.{name_at}
use Rattle.pg_node_opens.specs.Named.{statuses, replies}

-- what a command in this phase uses a reference for
abbrev pub use_in : List Node → OpId → Update → Phase → List Mark → ℕ → Option Use
use_in names op update phase.Waiting marks x = None
use_in names op update (phase.Asking lock first) marks x = cond (nat_eq lock x) (Some (Locking op update (name_at names first) (statuses names marks))) None
use_in names op update (phase.Changing lock number) marks x = cond (nat_eq number x) (Some (Updating op update lock (replies names marks)))
    (cond (nat_eq lock x) (Some (Owning (name_of update) number)) None)

abbrev pub use_at : List Node → OpenCommand → ℕ → Option Use
use_at names o x = use_in names o.op o.update o.phase o.marks x

-- whether a command in this phase uses a reference
abbrev pub has_in : Phase → ℕ → Bool
has_in phase.Waiting x = false
has_in (phase.Asking lock first) x = nat_eq lock x
has_in (phase.Changing lock number) x = nat_eq number x || nat_eq lock x

abbrev pub stage_in : Update → Phase → Stage
stage_in update phase.Waiting = Waiting update
stage_in update (phase.Asking lock first) = Asking lock
stage_in update (phase.Changing lock number) = Changing number

abbrev pub stage_at : OpenCommand → OpId → Option Stage
stage_at o x = cond (same_op o.op x) (Some (stage_in o.update o.phase)) None

-- a reference that was made and that no open command uses is spent
abbrev pub is_made : ℕ → ℕ → Bool
is_made made x = nat_lt 0 x && nat_le x made

abbrev pub unused : ℕ → ℕ → Use
unused made x = cond (is_made made x) Spent Fresh

abbrev pub uses_in : List Node → ℕ → List OpenCommand → ℕ → Use
uses_in names made os x = or_as (seek (use_at names) os x) (unused made x)

abbrev pub stages_in : List OpenCommand → OpId → Stage
stages_in os x = or_as (seek stage_at os x) Closed

-- the place of the node that was asked first
abbrev pub first_in : Phase → ℕ
first_in phase.Waiting = 0
first_in (phase.Asking lock first) = first
first_in (phase.Changing lock number) = 0

-- no reference is of two commands and no command is there twice, each reference was made, and each node has a mark
pub record AreKnown (names : List Node) (made : ℕ) (os : List OpenCommand) : Type 0 where
  pub uses_alone : AllAlone (use_at names) os
  pub stages_alone : AllAlone stage_at os
  pub uses_made : (x : ℕ) → is_made made x ≡ false → answers (seek (use_at names) os x) ≡ false
  pub marked : (k : ℕ) (o : OpenCommand) → slice_get os k ≡ Some o → length o.marks ≡ length names
  pub first : (k : ℕ) (o : OpenCommand) → slice_get os k ≡ Some o → first_in o.phase < length names

-- a command got another phase and other marks
pub record Turns (old new : OpenCommand) (ph : Phase) : Type 0 where
  pub op : new.op ≡ old.op
  pub update : new.update ≡ old.update
  pub phase : new.phase ≡ ph
  pub marks : length new.marks ≡ length old.marks

-- a command forgets the node at a place
pub record Forgets (place : ℕ) (old new : OpenCommand) : Type 0 where
  pub turns : Turns old new old.phase
  pub items : new.marks ≡ slice_set old.marks place mark.Unasked
