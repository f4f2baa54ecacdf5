use Rattle.pg_laws_examples.proofs.Trace.{same_to_itself}
use Rattle.pg_laws_examples.proofs.OneAfterAnother.{outcome}
use Rattle.pg_laws_examples.proofs.examples.one_after_another.Goals as goal

pub returns : goal.returns
returns c = λ g named. outcome g named (same_to_itself g)
