use Rattle.std.proofs.Common.{◌∙◌, ap}
use Rattle.pg_node.specs.PgIndex.Index.{table_of}
use Rattle.pg_node.specs.PgGroup.Table.{Table}
use Rattle.pg_node.specs.PgNodeState.declared.state.fault.NodeFault.TheVariants.{Message}
use Rattle.pg_node.specs.PgStep.State.{new_state}
use Rattle.pg_process.proofs.Begun.{few_first, filled_is, told_so}
use Rattle.pg_process.proofs.begin.begun_node.Goals as goal

pub new-requires-2-clause-few : goal.new-requires-2-clause-few
new-requires-2-clause-few c = few_first _ c.args.groups.now c.requires.few (filled_is _ _ c.args.groups.now c.in-Ok.ensures.groups c.new.ensures)

pub returns-in-Ok-new-clause-state : goal.returns-in-Ok-new-clause-state
returns-in-Ok-new-clause-state c =
    c.in-Ok-new.ensures.state ∙ ap (λ (t : Table). record { clock = 0; state = new_state t c.args.config.made }) (filled_is _ _ c.args.groups.now c.in-Ok.ensures.groups c.new.ensures)

pub returns-in-Err-Message-clause-fault : goal.returns-in-Err-Message-clause-fault
returns-in-Err-Message-clause-fault c =
    told_so (table_of c.in-Ok.table.numbers c.in-Ok.table.memberships) c.args.groups.now c.args.config.own c.in-Err-Message.field-0 (Message c.in-Err-Message.fault) c.in-Err-Message.ensures.fault
    c.in-Err-Message.field-0-is (filled_is _ _ c.args.groups.now c.in-Ok.ensures.groups c.new.ensures)
