use Rattle.pg_laws_losses.proofs.Standing.{entries_once, answered_once as once, answered_stand}
use Rattle.pg_laws_losses.proofs.Standing.{looked_do_not, one_answer as single}
use Rattle.pg_laws_losses.proofs.lasting.changes_stand_once_past_losses.Goals as goal

pub returns-clause-at_most_once : goal.returns-clause-at_most_once
returns-clause-at_most_once c = λ config w events i op l. entries_once config events w l i op

pub returns-clause-answered_once : goal.returns-clause-answered_once
returns-clause-answered_once c = λ config w events i op l. once config events w l i op

pub returns-clause-answered : goal.returns-clause-answered
returns-clause-answered c = λ config w events i op l some. answered_stand config events w l i op some

pub returns-clause-not_looked : goal.returns-clause-not_looked
returns-clause-not_looked c = λ config w events i op l has none. looked_do_not config events w l i op has none

pub returns-clause-one_answer : goal.returns-clause-one_answer
returns-clause-one_answer c = λ config w events i op l. single config events w l i op
