use Rattle.pg_laws_examples.proofs.Accepted.{one_accepted, two_accepted, three_accepted, member_accepted}
use Rattle.pg_laws_examples.proofs.Accepted.{two_tables_accepted, three_tables_accepted}
use Rattle.pg_laws_examples.proofs.examples.configurations_are_accepted.Goals as goal

pub returns-clause-plain : goal.returns-clause-plain
returns-clause-plain c = (one_accepted, two_accepted, three_accepted)

pub returns-clause-member : goal.returns-clause-member
returns-clause-member c = member_accepted

pub returns-clause-two : goal.returns-clause-two
returns-clause-two c = two_tables_accepted

pub returns-clause-three : goal.returns-clause-three
returns-clause-three c = three_tables_accepted
