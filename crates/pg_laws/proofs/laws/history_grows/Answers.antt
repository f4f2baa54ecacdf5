use Rattle.pg_laws.proofs.steps.Grows.{timed_goes_on}
use Rattle.pg_laws.proofs.laws.history_grows.Goals as goal

pub returns : goal.returns
returns c = timed_goes_on
