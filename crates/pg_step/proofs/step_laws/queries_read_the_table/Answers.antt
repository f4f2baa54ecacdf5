use Rattle.pg_step.proofs.Queries.{query_answers, refused_answers, large_refused}
use Rattle.pg_step.proofs.step_laws.queries_read_the_table.Goals as goal

pub returns-clause-query : goal.returns-clause-query
returns-clause-query c = query_answers

pub returns-clause-refused : goal.returns-clause-refused
returns-clause-refused c = refused_answers

pub returns-clause-large : goal.returns-clause-large
returns-clause-large c = large_refused
