use Rattle.std.proofs.Common.{refl}
use Rattle.pg_world_account.proofs.Accounts.{same_account}
use Rattle.pg_world_account.proofs.histories.Histories.copy.Goals as goal

pub returns : goal.returns
returns c = same_account (record { rows = c.in_ok-rows.rows; last = c.in_ok-last.last; formed = c.args.self.now.formed; alloc = c.args.self.now.alloc }) c.args.self.now c.in_ok-rows.ensures.entries c.in_ok-rows.ensures.counts c.in_ok-rows.ensures.marks c.in_ok-last.ensures refl
