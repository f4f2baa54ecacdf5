use Rattle.pg_laws_losses.proofs.Retrying.Reaching.{retry_goes, retry_happens}
use Rattle.pg_laws_losses.proofs.retried.laws.a_retry_is_answered_past_losses.Goals as goal

pub returns-clause-begins : goal.returns-clause-begins
returns-clause-begins c = λ config w events i op apart l quiet here lives opened room.
    retry_happens config apart events w l quiet i here lives op opened room

pub returns-clause-goes : goal.returns-clause-goes
returns-clause-goes c = λ config w v events takes i op update apart l quiet here lives waiting free room only more.
    retry_goes config apart events w l quiet i here lives op update waiting free takes only v more room
