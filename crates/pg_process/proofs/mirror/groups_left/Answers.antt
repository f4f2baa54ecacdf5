use Rattle.pg_node.specs.PgNodeState.States.{kept_by}
use Rattle.pg_process.proofs.Mirrored.{left_by}
use Rattle.pg_process.proofs.mirror.groups_left.Goals as goal

pub returns-in-Some-clause-some : goal.returns-in-Some-clause-some
returns-in-Some-clause-some c = left_by c.groups_with.result c.args.gone c.in-Some.pid _ (kept_by c.args.state.now).table c.table.ensures c.in-Some.is c.groups_with.ensures
