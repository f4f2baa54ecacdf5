use Rattle.std.proofs.Common.{◌≡◌, ◌-◌, ap, ◌∙◌, arith}
use Rattle.pg_term.specs.Same.{same_pid}
use Rattle.pg_group.specs.Functions.{upd}
use Rattle.pg_index_members.specs.Forms.{rows_of}
use Rattle.pg_index_members.specs.Rows.{counts_of}
use Rattle.pg_index_members.proofs.Counts.{counts-taken}
use Rattle.pg_index_members.proofs.Flat.{count_le}
use Rattle.pg_index_members.proofs.members.Members.remove.Goals as goal

pub returns : goal.returns
returns c =
    let few = count_le c.args.pid.now (rows_of c.self.inside.rows) in
    let none : counts_of (rows_of c.self.inside.rows) c.args.pid.now - 18446744073709551615 ≡ 0 = omega arith in
    ap counts_of c.take.ensures.rest
    ∙ counts-taken c.args.pid.now 18446744073709551615 (rows_of c.self.inside.rows) c.total.ensures.in_order
    ∙ ap (upd same_pid (counts_of (rows_of c.self.inside.rows)) c.args.pid.now) none
    ∙ ap (λ l. upd same_pid (counts_of l) c.args.pid.now 0) c.self.view_is
