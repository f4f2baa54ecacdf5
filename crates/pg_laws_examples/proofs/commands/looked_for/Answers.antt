use Rattle.pg_laws_examples.proofs.Refused.{looked_for}
use Rattle.pg_laws_examples.proofs.commands.looked_for.Goals as goal

pub returns : goal.returns
returns c = looked_for
