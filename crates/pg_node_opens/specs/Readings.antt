-- What is read of the open commands.
use Rattle.std.specs.Prelude.{ℕ, Bool, true, false, ◌&&◌, ◌==◌, cond, nat_eq, List, Option, Some, None}
use Rattle.pg_step.specs.PgGroup.declared.update.Update.{Update}
use Rattle.pg_step.specs.PgMulticall.declared.gather.Taken.{Taken}
use Rattle.pg_step.specs.PgMulticall.declared.gather.Taken.TheVariants.{Counted, Stranger, Double}
use Rattle.pg_step.specs.declared.command.OpId.{OpId}
use Rattle.pg_step.specs.State.{Use, Stage}
use Rattle.pg_step.specs.State.Use.{Locking, Updating}
use Rattle.pg_step.specs.State.Stage.{Closed, Waiting, Asking, Changing}
use Rattle.pg_node_opens.specs.declared.mark.Mark.{Mark}
use Rattle.pg_node_opens.specs.declared.mark.Asked.TheVariants.{Nobody}
use Rattle.pg_node_opens.specs.declared.mark.Wanted.TheVariants.{Answered, Granted}
use Rattle.pg_node_opens.specs.Marks.{has_yes, lock_heard, all_marks}
use Rattle.pg_node_opens.specs.declared.command.Phase.{Phase}
use Rattle.pg_node_opens.specs.declared.command.Phase.TheVariants as phase
use Rattle.pg_node_opens.specs.declared.command.Gathering.{Gathering}
use Rattle.pg_node_opens.specs.declared.command.Gathering.TheVariants as gathering
use Rattle.pg_node_opens.specs.declared.command.Stage.{Stage as SeenStage}
use Rattle.pg_node_opens.specs.declared.command.Stage.TheVariants as seen

-- what is gathered under a reference that is used so
abbrev pub gathering_of : Use → Gathering
gathering_of (Locking op update first st) = gathering.Lock op
gathering_of (Updating op update lock replied) = gathering.Update op lock
gathering_of used = gathering.Nothing

-- the update of the command that gathers
abbrev pub update_of : Use → Option Update
update_of (Locking op update first st) = Some update
update_of (Updating op update lock replied) = Some update
update_of used = None

abbrev pub is_locking : Use → Bool
is_locking (Locking op update first st) = true
is_locking used = false

abbrev pub is_updating : Use → Bool
is_updating (Updating op update lock replied) = true
is_updating used = false

-- a stage as a caller sees it, without the update
abbrev pub stage_seen : Stage → SeenStage
stage_seen Closed = seen.Closed
stage_seen (Waiting update) = seen.Waiting
stage_seen (Asking lock) = seen.Asking lock
stage_seen (Changing number) = seen.Changing number

abbrev pub is_closed : SeenStage → Bool
is_closed seen.Closed = true
is_closed seen.Waiting = false
is_closed (seen.Asking lock) = false
is_closed (seen.Changing number) = false

abbrev pub is_lock : Gathering → Bool
is_lock (gathering.Lock op) = true
is_lock (gathering.Update op lock) = false
is_lock gathering.Nothing = false

abbrev pub is_update : Gathering → Bool
is_update (gathering.Lock op) = false
is_update (gathering.Update op lock) = true
is_update gathering.Nothing = false

-- ---- the same of one command

abbrev pub gathering_in : OpId → Phase → ℕ → Gathering
gathering_in op phase.Waiting x = gathering.Nothing
gathering_in op (phase.Asking lock first) x = cond (nat_eq lock x) (gathering.Lock op) gathering.Nothing
gathering_in op (phase.Changing lock number) x = cond (nat_eq number x) (gathering.Update op lock) gathering.Nothing

abbrev pub stage_seen_in : Phase → SeenStage
stage_seen_in phase.Waiting = seen.Waiting
stage_seen_in (phase.Asking lock first) = seen.Asking lock
stage_seen_in (phase.Changing lock number) = seen.Changing number

abbrev pub heard_in : Phase → Mark → (place : ℕ) → ℕ → Taken
heard_in phase.Waiting mark place x = Stranger
heard_in (phase.Asking lock first) mark place x = cond (nat_eq lock x) (lock_heard mark (first == place)) Stranger
heard_in (phase.Changing lock number) mark place x = cond (nat_eq number x) (cond (has_yes mark) Double Counted) Stranger

abbrev pub complete_in : Phase → List Mark → List Bool → ℕ → Bool
complete_in phase.Waiting marks lost x = false
complete_in (phase.Asking lock first) marks lost x = nat_eq lock x && all_marks marks lost Answered Nobody false
complete_in (phase.Changing lock number) marks lost x = nat_eq number x && all_marks marks lost Granted Nobody false

-- whether a command in this phase gathers under a reference
abbrev pub gathers_in : Phase → ℕ → Bool
gathers_in phase.Waiting x = false
gathers_in (phase.Asking lock first) x = nat_eq lock x
gathers_in (phase.Changing lock number) x = nat_eq number x

abbrev pub update_in : Update → Phase → ℕ → Option Update
update_in update ph x = cond (gathers_in ph x) (Some update) None

-- the update of a command that waits for its retry
abbrev pub waiting_of : Stage → Option Update
waiting_of (Waiting update) = Some update
waiting_of stage = None

abbrev pub waiting_in : Update → Phase → Option Update
waiting_in update phase.Waiting = Some update
waiting_in update (phase.Asking lock first) = None
waiting_in update (phase.Changing lock number) = None

-- whether a command that stands so waits for its retry, where all that is gathered under a reference has come
abbrev pub waits_by : SeenStage → (ℕ → Bool) → Bool
waits_by seen.Closed complete = false
waits_by seen.Waiting complete = true
waits_by (seen.Asking lock) complete = complete lock
waits_by (seen.Changing number) complete = complete number
