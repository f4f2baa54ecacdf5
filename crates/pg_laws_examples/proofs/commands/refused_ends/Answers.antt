use Rattle.pg_laws_examples.proofs.Refused.{refused_ends as shown}
use Rattle.pg_laws_examples.proofs.commands.refused_ends.Goals as goal

pub returns : goal.returns
returns c = shown
