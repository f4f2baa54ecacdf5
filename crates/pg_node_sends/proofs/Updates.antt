-- Two words of one update.
use Rattle.std.proofs.Common.{◌≡◌, ap, Option, Some, None}
use Rattle.pg_node_opens.specs.PgGroup.declared.update.Update.{Update}
use Rattle.pg_node_opens.specs.PgStep.State.{Stage}
use Rattle.pg_node_opens.specs.PgStep.State.Stage.{Closed, Waiting, Asking, Changing}

-- two words of how a command waits
pub same_update : (u v : Update) → Waiting u ≡ Waiting v → u ≡ v
same_update u v e = ap (λ (stage : Stage). update_in stage) e
  where
    update_in : Stage → Update
    update_in Closed = u
    update_in (Waiting update) = update
    update_in (Asking lock) = u
    update_in (Changing update) = u

pub update_is : (found update : Update) → Some found ≡ Some update → found ≡ update
update_is found update e = ap (λ (o : Option Update). go o) e
  where
    go : Option Update → Update
    go (Some u) = u
    go None = found
