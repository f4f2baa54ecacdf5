use Rattle.std.proofs.Common.{List, subst}
use Rattle.pg_node.proofs.Linked.{on_ok}
use Rattle.pg_node.specs.PgNodeState.States.{kept_by, live_of}
use Rattle.pg_node.specs.PgNodeState.Waiting.{AreWaiting}
use Rattle.pg_node.specs.PgStep.declared.command.OpId.{OpId}
use Rattle.pg_process.specs.Turns.{RetriesAll, TriesEach}
use Rattle.pg_process.proofs.process.Process.retry_all.Goals as goal

pub returns-clause-retries : goal.returns-clause-retries
returns-clause-retries c =
    on_ok c.retry_each-tried.result _ (RetriesAll c.args.is_tick c.args.self.now c.retry_each-tried.new.self)
    (λ each. record {
      ops = c.in-Ok.ops.items;
      all = subst (λ st. AreWaiting (live_of st) (kept_by st) c.in-Ok.ops.items) c.state.ensures c.in-Ok.ensures.each;
      each = subst (λ (xs : List OpId). TriesEach xs c.args.is_tick c.args.self.now c.retry_each-tried.new.self) c.as_slice.ensures.value each;
    })
    c.retry_each-tried.ensures.each
