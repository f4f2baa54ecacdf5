use Rattle.pg_laws_examples.proofs.Trace.{same_to_itself}
use Rattle.pg_laws_examples.proofs.DrainedFirst.{outcome}
use Rattle.pg_laws_examples.proofs.losses.drained.Goals as goal

pub returns : goal.returns
returns c = λ g named. outcome g named (same_to_itself g)
