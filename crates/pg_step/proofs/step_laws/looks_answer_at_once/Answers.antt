use Rattle.pg_step.proofs.Queries.{created, joined, left}
use Rattle.pg_step.proofs.step_laws.looks_answer_at_once.Goals as goal

pub returns-clause-created : goal.returns-clause-created
returns-clause-created c = created

pub returns-clause-joined : goal.returns-clause-joined
returns-clause-joined c = joined

pub returns-clause-left : goal.returns-clause-left
returns-clause-left c = left
