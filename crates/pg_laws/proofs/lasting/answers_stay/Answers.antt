use Rattle.pg_laws.proofs.steps.Lasting.{more_answers_later}
use Rattle.pg_laws.proofs.lasting.answers_stay.Goals as goal

pub returns : goal.returns
returns c = more_answers_later
