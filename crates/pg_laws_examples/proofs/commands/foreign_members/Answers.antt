use Rattle.pg_laws_examples.proofs.Refused.{foreign_members as shown}
use Rattle.pg_laws_examples.proofs.commands.foreign_members.Goals as goal

pub returns : goal.returns
returns c = shown
