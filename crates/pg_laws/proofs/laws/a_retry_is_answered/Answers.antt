use Rattle.pg_laws.proofs.quiet.Retry.{retry_goes, retry_happens}
use Rattle.pg_laws.proofs.laws.a_retry_is_answered.Goals as goal

pub returns-clause-begins : goal.returns-clause-begins
returns-clause-begins c = λ config w events i op apart l quiet here opened room. retry_happens config apart i here events w l quiet op opened room

pub returns-clause-goes : goal.returns-clause-goes
returns-clause-goes c = λ config w v events takes i op apart l quiet here opened room only more. retry_goes config apart i here events w l quiet op opened room takes only v more
