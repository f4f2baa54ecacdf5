use Rattle.std.proofs.Common.{◌≡◌, max, arith}
use Rattle.pg_index.specs.Groups.{counts_by_number}
use Rattle.pg_index.proofs.Changed.{counted_same}
use Rattle.pg_index.proofs.memberships.Memberships.raise.Goals as goal

pub returns-else-count-least-clause-ok : goal.returns-else-count-least-clause-ok
returns-else-count-least-clause-ok c =
    let n = counts_by_number c.args.self.now.groups c.args.group c.args.pid.now in
    let is : c.count-count.result ≡ n = c.count-count.ensures in
    counted_same (counts_by_number c.args.self.now.groups) c.args.pid.now c.args.group (max n c.args.least) (omega arith)
