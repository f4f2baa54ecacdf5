use Rattle.pg_laws_examples.proofs.Trace.{same_to_itself}
use Rattle.pg_laws_examples.proofs.LockOfTheLost.{outcome}
use Rattle.pg_laws_examples.proofs.losses.lock_of_the_lost.Goals as goal

pub returns : goal.returns
returns c = λ g named. outcome g named (same_to_itself g)
