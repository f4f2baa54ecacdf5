-- What a host that mirrors the table is told of an act.
use Rattle.std.specs.Prelude.{◌≡◌, Bool, cond, List, Option, Some, None, ⊤}
use Rattle.pg_term.specs.declared.pid.Pid.{Pid}
use Rattle.pg_term.specs.declared.term.Term.{Term}
use Rattle.pg_node.specs.PgGroup.Table.{Table}
use Rattle.pg_node.specs.PgGroup.declared.update.Update.{Update}
use Rattle.pg_node.specs.PgMessageTypes.declared.message.Message.{Message}
use Rattle.pg_node.specs.PgMessageTypes.declared.message.Message.TheVariants.{Down, Exchange}
use Rattle.pg_node.specs.PgStep.State.{State}
use Rattle.pg_node.specs.PgStep.declared.command.Command.{Command}
use Rattle.pg_node.specs.PgStep.declared.command.OpId.{OpId}
use Rattle.pg_node.specs.PgStep.Step.{Issue}
use Rattle.pg_node.specs.PgStep.declared.command.Command.TheVariants.{Finish}
use Rattle.pg_node_process.specs.Mirrors.{AreGroupsOf, TellsRows, TellsTable, TellsUpdate}
use Rattle.pg_node_process.specs.Outputs.{Output}
use Rattle.pg_node_run.specs.Acts.{Act, Did, Given, Took}
use Rattle.pg_process.specs.Tables.{applied_taken, table_taken}

-- An exchange and the end of a process are told by whole groups, as the table behind them has them. Any other act is told by one assignment,
-- or by none.
abbrev pub TellsMessage : Message → Option Update → Table → List Output → Type 0
TellsMessage (Exchange node groups) applied after said = TellsRows after said
TellsMessage (Down pid) applied after said = TellsRows after said
TellsMessage message applied after said = TellsUpdate applied said

abbrev pub TellsCommand : Command → Option Update → Table → List Output → Type 0
TellsCommand (Finish pid) applied after said = TellsRows after said
TellsCommand command applied after said = TellsUpdate applied said

abbrev pub TellsInput : Given → Option Update → Table → List Output → Type 0
TellsInput (Took peer x) applied after said = TellsMessage x.packet applied after said
TellsInput (Did (Issue port command)) applied after said = TellsCommand command applied after said
TellsInput given applied after said = TellsUpdate applied said

-- where a message tells of an end, these are the groups of the process
abbrev pub AreLeft : Message → Table → List Term → Type 0
AreLeft (Down pid) table names = AreGroupsOf table pid names
AreLeft message table names = ⊤

-- who has ended is as before, but where a message tells of an end
abbrev pub KeepsEnded : Message → (before after : Pid → Bool) → Type 0
KeepsEnded (Down pid) before after = ⊤
KeepsEnded message before after = after ≡ before

abbrev pub KeepsEndedBy : Command → (before after : Pid → Bool) → Type 0
KeepsEndedBy (Finish pid) before after = ⊤
KeepsEndedBy command before after = after ≡ before

-- What holds where a message led to this state: by the update that it applied, of the groups that it left, if it tells of an end.
abbrev pub IfTaken : Message → Option (OpId × Update) → List Term → State → (State → Option Update → Type 0) → Type 0
IfTaken message began names after Holds =
    (before : State) (applied : Option Update) → applied ≡ applied_taken message began → AreLeft message before.table names → KeepsEnded message before.ended after.ended
    → after.table ≡ table_taken message applied before → Holds before applied

-- the process that a message, and that a command ends
abbrev pub ended_in : Message → Option Pid
ended_in (Down pid) = Some pid
ended_in message = None

abbrev pub finished_in : Command → Option Pid
finished_in (Finish pid) = Some pid
finished_in command = None

-- that one, where it has not ended
abbrev pub living : (Pid → Bool) → Option Pid → Option Pid
living ended None = None
living ended (Some pid) = cond (ended pid) None (Some pid)

-- An act is told to a host that mirrors the table: from the one table to the other.
pub record TellsAct (mirrored : Bool) (act : Act) (before after : Table) (said : List Output) : Type 0 where
  pub table : TellsTable mirrored before after said
  pub form : TellsInput act.input act.turn.reported.applied after said
