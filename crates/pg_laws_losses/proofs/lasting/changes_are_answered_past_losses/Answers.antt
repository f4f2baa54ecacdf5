use Rattle.pg_laws_losses.proofs.Answering.{behind_ok, entries_given, ok_behind}
use Rattle.pg_laws_losses.proofs.lasting.changes_are_answered_past_losses.Goals as goal

pub returns-clause-given : goal.returns-clause-given
returns-clause-given c = λ config w events before after e l is. entries_given config events w l before after e is

pub returns-clause-answered_ok : goal.returns-clause-answered_ok
returns-clause-answered_ok c = λ config w events i op l some. behind_ok config events w l i op some

pub returns-clause-ok_behind_lock : goal.returns-clause-ok_behind_lock
returns-clause-ok_behind_lock c = λ config w events i op command l is needs ok. ok_behind config events w l i op command is needs ok
