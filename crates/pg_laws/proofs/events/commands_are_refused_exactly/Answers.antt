use Rattle.pg_laws.proofs.commands.AtOnce.{refused_exactly_of}
use Rattle.pg_laws.proofs.events.commands_are_refused_exactly.Goals as goal

pub returns : goal.returns
returns c = refused_exactly_of
