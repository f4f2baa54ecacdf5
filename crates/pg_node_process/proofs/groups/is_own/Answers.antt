use Rattle.std.proofs.Common.{ap, ◌∙◌, is_ok}
use Rattle.pg_step.specs.PgGroup.Ended.{ended_of}
use Rattle.pg_node_process.proofs.Brought.{is_own_where_none_ended}
use Rattle.pg_node_process.proofs.groups.is_own.Goals as goal

pub returns : goal.returns
returns c = c.is_ok.ensures.value ∙ (ap is_ok c.finish.ensures ∙ is_own_where_none_ended c.args.processes.now c.args.pid.now (ended_of c.args.nobody.now) c.requires)
