-- What an act of a node makes of its table, by what the node was given and the update that it reports.
use Rattle.std.specs.Prelude.{Bool, not, ◌&&◌, cond, Option, Some, None, ⊤}
use Rattle.pg_term.specs.declared.pid.Pid.{Pid}
use Rattle.pg_node.specs.PgGroup.declared.update.Update.{Update}
use Rattle.pg_node.specs.PgGroup.Table.{Table, all_merged, changed, without}
use Rattle.pg_node.specs.PgMessageTypes.declared.message.Message.{Message}
use Rattle.pg_node.specs.PgMessageTypes.declared.message.Message.TheVariants.{Call, Reply, Exchange, Down}
use Rattle.pg_node.specs.PgMessageTypes.declared.message.Request.TheVariants.{Change}
use Rattle.pg_node.specs.PgStep.State.{State}
use Rattle.pg_node.specs.PgStep.Step.{Action, Issue}
use Rattle.pg_node.specs.PgStep.declared.command.Command.{Command}
use Rattle.pg_node.specs.PgStep.declared.command.Command.TheVariants.{Finish}
use Rattle.pg_node.specs.PgStep.declared.command.OpId.{OpId}
use Rattle.pg_node_run.specs.Acts.{Given, Took, Saw, Did}

-- the table after an update, if there is one, where these pids have ended
abbrev pub by_update : Option Update → Table → (Pid → Bool) → Table
by_update None table ended = table
by_update (Some update) table ended = changed table update ended

-- the update of the command that began
abbrev pub began_update : Option (OpId × Update) → Option Update
began_update None = None
began_update (Some began) = Some began.1

-- the update that a packet applies: the one that a peer asks for, or that of the command that began
abbrev pub applied_taken : Message → Option (OpId × Update) → Option Update
applied_taken (Call reference (Change update)) began = Some update
applied_taken (Reply reference said) began = began_update began
applied_taken message began = None

-- the table after a packet: the groups of a peer are merged, a process that ended is taken out, or the update is applied
abbrev pub table_taken : Message → Option Update → State → Table
table_taken (Exchange node groups) applied s = all_merged s.table groups s.ended
table_taken (Down pid) applied s = without s.table pid
table_taken message applied s = by_update applied s.table s.ended

-- the table after a command: a process that ends by it is taken out, else the update is applied
abbrev pub table_issued : Command → Option Update → State → (Pid → Bool) → Table
table_issued (Finish pid) applied s ended = cond (ended pid && not (s.ended pid)) (without s.table pid) s.table
table_issued command applied s ended = by_update applied s.table s.ended

abbrev pub table_acted : Action → Option Update → State → (Pid → Bool) → Table
table_acted (Issue port command) applied s ended = table_issued command applied s ended
table_acted action applied s ended = by_update applied s.table s.ended

-- The table after an act, by what the node was given, the update that it applied, the state before, and who has ended
-- behind it. What the loss of a peer makes of the table is not told here.
abbrev pub table_after : Given → Option Update → State → (Pid → Bool) → Table
table_after (Took p x) applied s ended = table_taken x.packet applied s
table_after (Saw p last) applied s ended = s.table
table_after (Did action) applied s ended = table_acted action applied s ended

-- it is no loss
abbrev pub NotSaw : Given → Type 0
NotSaw (Took p x) = ⊤
NotSaw (Saw p last) = ⊥
NotSaw (Did action) = ⊤
