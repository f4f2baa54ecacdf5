use Rattle.pg_laws_examples.proofs.Refused.{large_names as shown}
use Rattle.pg_laws_examples.proofs.commands.large_names.Goals as goal

pub returns : goal.returns
returns c = shown
