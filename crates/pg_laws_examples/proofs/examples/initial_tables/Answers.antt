use Rattle.pg_laws_examples.proofs.Trace.{same_to_itself, apart_too}
use Rattle.pg_laws_examples.proofs.InitialTables.{happen, outcome}
use Rattle.pg_laws_examples.proofs.examples.initial_tables.Goals as goal

pub returns-clause-happen : goal.returns-clause-happen
returns-clause-happen c = λ g h named named_h apart. happen g h named named_h (same_to_itself g) (same_to_itself h) apart (apart_too g h apart)

pub returns-clause-outcome : goal.returns-clause-outcome
returns-clause-outcome c = λ g h named named_h apart. outcome g h named named_h (same_to_itself g) (same_to_itself h) apart (apart_too g h apart)
