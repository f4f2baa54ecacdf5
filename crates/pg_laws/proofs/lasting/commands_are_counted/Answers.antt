use Rattle.pg_laws.proofs.commands.CountRuns.{counted}
use Rattle.pg_laws.proofs.lasting.commands_are_counted.Goals as goal

pub returns : goal.returns
returns c = counted
