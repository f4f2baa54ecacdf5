use Rattle.pg_node.specs.PgNodeState.States.{kept_by}
use Rattle.pg_process.proofs.Mirrored.{applied_all}
use Rattle.pg_process.proofs.mirror.tell_applied.Goals as goal

pub returns-in-Some-clause-ok : goal.returns-in-Some-clause-ok
returns-in-Some-clause-ok c =
    applied_all c.tell_update.result c.args.update c.in-Some.update c.has_joined.result _ (kept_by c.args.state.now).table (kept_by c.args.state.now).ended c.args.outlet.now.gathered.items c.tell_update.new.outlet.gathered.items
    c.table.ensures c.in-Some.is c.has_joined.ensures c.tell_update.ensures.ok
