-- What a step makes of the table, and of the commands that come in.
use Rattle.std.specs.Prelude.{◌≡◌, Bool, true, cond, nat_le, Option, Some, None}
use Rattle.pg_term.specs.declared.pid.Pid.{Pid}
use Rattle.pg_term.specs.Same.{same_pid}
use Rattle.pg_step.specs.PgGroup.declared.update.Update.{Update}
use Rattle.pg_step.specs.PgGroup.Functions.{upd}
use Rattle.pg_step.specs.PgGroup.Table.{Table, changed, without}
use Rattle.pg_step.specs.PgGroup.Value.{name_of}
use Rattle.pg_step.specs.PgExchange.GroupList.{GroupList, all_merged}
use Rattle.pg_step.specs.PgMessageTypes.declared.message.Message.{Message}
use Rattle.pg_step.specs.Machines.Machine.{Turn}
use Rattle.pg_step.specs.declared.answer.Reply.{Reply}
use Rattle.pg_step.specs.declared.answer.Reply.TheVariants as reply
use Rattle.pg_step.specs.declared.command.Command.{Command}
use Rattle.pg_step.specs.declared.command_fault.CommandFault.{CommandFault}
use Rattle.pg_step.specs.declared.command_fault.CommandFault.TheVariants.{Busy}
use Rattle.pg_step.specs.Commands.{OPEN_LIMIT, change_of, fault_of, look}
use Rattle.pg_step.specs.Faults.{command_number_of}
use Rattle.pg_step.specs.Nodes.{Nodes}
use Rattle.pg_step.specs.State.{State}
use Rattle.pg_step.specs.Turns.{Report, first_of}

-- the table after the update that a turn reports, if it reports one
abbrev pub with_applied : Table → Option Update → (Pid → Bool) → Table
with_applied table None ended = table
with_applied table (Some update) ended = changed table update ended

-- What a turn makes of the table and the ends of a node: at most one update is applied, the one that is reported; or one
-- process ends; or the groups of a peer are merged, and no update is applied.
pub data Tabling (s : State) (turn : Turn State Message Report) : Type 0 where
  Applying : turn.state.table ≡ with_applied s.table turn.reported.applied s.ended → turn.state.ended ≡ s.ended → Tabling s turn
  Ending : (pid : Pid) → turn.state.table ≡ without s.table pid → turn.state.ended ≡ upd same_pid s.ended pid true → turn.reported.applied ≡ None → Tabling s turn
  Merging : (groups : GroupList) → turn.state.table ≡ all_merged s.table groups s.ended → turn.state.ended ≡ s.ended → turn.reported.applied ≡ None → Tabling s turn

-- ---- commands that are answered at once

abbrev pub busy_if : Option Reply → Bool → Option CommandFault
busy_if (Some r) full = None
busy_if None full = cond full (Some Busy) None

-- a change of which the look finds nothing is refused where as many commands are open as can be
abbrev pub busy_of : Option Update → State → Option CommandFault
busy_of None s = None
busy_of (Some update) s = busy_if (look (s.table (name_of update)) update) (nat_le OPEN_LIMIT s.opened)

-- Which fault a command is refused by: the first that it has; else, behind the look, Busy.
abbrev pub refused_by : Nodes → State → Command → Option CommandFault
refused_by m s c = first_of (fault_of m s c) (busy_of (change_of c) s)

abbrev pub reply_or_busy : Option Reply → Bool → Option Reply
reply_or_busy (Some r) full = Some r
reply_or_busy None full = cond full (Some (reply.Refused (command_number_of Busy))) None

-- what a change without a fault is answered at once: what the look finds, or that too many are open
abbrev pub at_once : State → Update → Option Reply
at_once s update = reply_or_busy (look (s.table (name_of update)) update) (nat_le OPEN_LIMIT s.opened)
