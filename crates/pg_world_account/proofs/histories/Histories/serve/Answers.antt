use Rattle.std.proofs.Common.{◌++◌}
use Rattle.pg_laws_losses.specs.PgLaws.History.{of_group}
use Rattle.pg_world_account.specs.Histories.{last_entries}
use Rattle.pg_world_account.proofs.histories.Histories.serve.Goals as goal

pub returns-in-Some-clause-history : goal.returns-in-Some-clause-history
returns-in-Some-clause-history c = λ j name. c.serve.ensures.entries j name ++ of_group name (last_entries c.args.self.now.last)
