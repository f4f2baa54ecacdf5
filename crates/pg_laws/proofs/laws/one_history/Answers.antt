use Rattle.pg_laws.proofs.places.Clauses.{one_history, any_events}
use Rattle.pg_laws.proofs.laws.one_history.Goals as goal

pub returns-clause-each_world : goal.returns-clause-each_world
returns-clause-each_world c = λ config w events apart l. one_history config apart events w l

pub returns-clause-any_events : goal.returns-clause-any_events
returns-clause-any_events c = λ config events apart. any_events config events apart
