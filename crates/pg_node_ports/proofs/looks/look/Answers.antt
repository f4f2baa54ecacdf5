use Rattle.std.proofs.Common.{◌≡◌, ◌⊎◌, inl, inr, None, Some, ap}
use Rattle.std.proofs.lemmas.Result.{on_err_weaker}
use Rattle.pg_term.specs.declared.pid.Pid.{Pid}
use Rattle.pg_term.specs.declared.term.Term.{Term}
use Rattle.pg_node_opens.specs.PgGroup.Table.{Table}
use Rattle.pg_node_opens.specs.PgGroup.Value.{Value, name_of}
use Rattle.pg_node_opens.specs.PgGroup.declared.update.Update.{Update}
use Rattle.pg_node_opens.specs.PgGroup.declared.update.Update.TheVariants as updates
use Rattle.pg_node_opens.specs.PgStep.declared.answer.Reply.TheVariants as replies
use Rattle.pg_node_opens.specs.PgStep.declared.command.Command.{Command}
use Rattle.pg_node_opens.specs.PgStep.declared.command.Command.TheVariants as commands
use Rattle.pg_node_opens.specs.PgStep.Commands.{change_of, look}
use Rattle.pg_node_ports.proofs.looks.look.Goals as goal

-- a join or a leave of a group that is not there
no_group : (table : Table) (command : Command) (name : Term) → table name ≡ None
    → ((pid : Pid) × (command ≡ commands.Join name pid)) ⊎ ((pid : Pid) × (command ≡ commands.Leave name pid))
    → (update : Update) × (change_of command ≡ Some update) × (look (table (name_of update)) update ≡ Some (replies.NoSuchGroup (name_of update)))
no_group table command name none (inl (pid, is)) = (updates.Join name pid, ap change_of is, ap (λ (v : Value). look v (updates.Join name pid)) none)
no_group table command name none (inr (pid, is)) = (updates.Leave name pid, ap change_of is, ap (λ (v : Value). look v (updates.Leave name pid)) none)

pub returns-in-Join-clause-memory : goal.returns-in-Join-clause-memory
returns-in-Join-clause-memory g c =
    on_err_weaker c.look_absent.result (λ none. no_group (g.T.GroupTable.contents c.args.table.now) c.args.command.now c.in-Join.name none c.in-Join.is) c.look_absent.ensures.memory
