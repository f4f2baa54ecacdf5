use Rattle.pg_laws_losses.proofs.Lasts.{history_later}
use Rattle.pg_laws_losses.proofs.RealTime.{grown}
use Rattle.pg_laws_losses.proofs.lasting.histories_grow_past_losses.Goals as goal

pub returns-clause-later : goal.returns-clause-later
returns-clause-later c = λ config w v events name l. history_later config w v events l name

pub returns-clause-from_all : goal.returns-clause-from_all
returns-clause-from_all c = λ config w m events first last name l is reached. grown config w m events first last l is reached name
