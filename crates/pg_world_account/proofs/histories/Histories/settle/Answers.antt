use Rattle.std.proofs.Common.{◌∙◌}
use Rattle.pg_world_account.proofs.histories.Histories.settle.Goals as goal

pub returns-clause-account : goal.returns-clause-account
returns-clause-account c = c.put_last.ensures.account ∙ c.make_room_for_last.ensures.account
