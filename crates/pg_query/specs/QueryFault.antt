-- The numbers of the faults of a question.
use Rattle.std.specs.Prelude.{ℕ}
use Rattle.pg_term.specs.declared.faults.TheConstants.{NO_MEMBER, NO_SUCH_GROUP, OUT_OF_MEMORY}
use Rattle.pg_query.specs.declared.fault.QueryFault.{QueryFault}
use Rattle.pg_query.specs.declared.fault.QueryFault.TheVariants.{NoSuchGroup, NoMember, OutOfMemory}

abbrev pub query_number_of : QueryFault → ℕ
query_number_of OutOfMemory = OUT_OF_MEMORY
query_number_of NoSuchGroup = NO_SUCH_GROUP
query_number_of NoMember = NO_MEMBER
