use Rattle.pg_laws_losses.proofs.Retrying.Reaching.{locks_free, none_on_quiet, retry_answered}
use Rattle.pg_laws_losses.proofs.retried.laws.retries_are_answered_where_none_is_ready.Goals as goal

pub returns-clause-goes : goal.returns-clause-goes
returns-clause-goes c = λ config w v events takes i op apart l quiet none here lives opened room only more.
    retry_answered config apart events w l quiet i here lives op none opened room takes only v more

pub returns-clause-unready : goal.returns-clause-unready
returns-clause-unready c = λ config w v events takes i op apart l quiet none more.
    none_on_quiet config apart events w l quiet none i op takes v more

pub returns-clause-locks : goal.returns-clause-locks
returns-clause-locks c = λ config w v events takes i op apart l quiet none here lives opened room only more all.
    locks_free config apart events w l quiet i here lives op none opened room takes only v more all
