use Rattle.pg_laws.proofs.commands.AtOnce.{at_once_of}
use Rattle.pg_laws.proofs.events.changes_are_answered_at_once_exactly.Goals as goal

pub returns : goal.returns
returns c = at_once_of
