use Rattle.pg_laws_examples.proofs.Trace.{same_to_itself}
use Rattle.pg_laws_examples.proofs.ChangeOfThree.{happen, outcome}
use Rattle.pg_laws_examples.proofs.examples.change_of_three.Goals as goal

pub returns-clause-happen : goal.returns-clause-happen
returns-clause-happen c = λ g named. happen g named (same_to_itself g)

pub returns-clause-outcome : goal.returns-clause-outcome
returns-clause-outcome c = λ g named. outcome g named (same_to_itself g)
