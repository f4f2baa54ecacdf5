use Rattle.pg_laws.proofs.steps.Lasting.{tabling}
use Rattle.pg_laws.proofs.events.updates_are_applied_once.Goals as goal

pub returns : goal.returns
returns c = tabling
