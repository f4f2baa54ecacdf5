use Rattle.std.proofs.Common.{◌∙◌, ap, sym}
use Rattle.pg_node.specs.PgGroup.Table.{GroupList}
use Rattle.pg_node.specs.PgMessageTypes.declared.message.Message.TheVariants.{Exchange}
use Rattle.pg_node.specs.PgNodeState.States.{kept_by}
use Rattle.pg_process.proofs.Mirrored.{down_all, exchange_all}
use Rattle.pg_process.proofs.mirror.tell_packet.Goals as goal

pub returns-in-Exchange-clause-ok : goal.returns-in-Exchange-clause-ok
returns-in-Exchange-clause-ok c =
    exchange_all c.tell_rows.result c.args.packet.now.message c.in-Exchange.field-0 c.as_slice.result.now c.args.done.now.began c.args.names.now (kept_by c.args.state.now) _ c.args.outlet.now.gathered.items
    c.tell_rows.new.outlet.gathered.items c.table.ensures (c.in-Exchange.is ∙ ap (λ (groups : GroupList). Exchange c.in-Exchange.field-0 groups) (sym c.as_slice.ensures)) c.tell_rows.ensures.ok

pub returns-in-Down-clause-ok : goal.returns-in-Down-clause-ok
returns-in-Down-clause-ok c =
    down_all c.tell_end.result c.args.packet.now.message c.in-Down.field-0 c.args.done.now.began c.args.names.now (kept_by c.args.state.now) _ c.args.outlet.now.gathered.items c.tell_end.new.outlet.gathered.items c.table-in-Down.ensures c.in-Down.is c.tell_end.ensures.ok
