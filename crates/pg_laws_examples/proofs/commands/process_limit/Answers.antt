use Rattle.pg_laws_examples.proofs.Refused.{process_limit as shown}
use Rattle.pg_laws_examples.proofs.commands.process_limit.Goals as goal

pub returns : goal.returns
returns c = shown
