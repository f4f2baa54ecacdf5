use Rattle.std.proofs.Common.{◌-◌, ap, ◌∙◌}
use Rattle.pg_term.specs.Same.{same_pid}
use Rattle.pg_group.specs.Functions.{upd}
use Rattle.pg_index_members.specs.Forms.{rows_of}
use Rattle.pg_index_members.specs.Rows.{counts_of}
use Rattle.pg_index_members.proofs.Counts.{counts-taken}
use Rattle.pg_index_members.proofs.members.Members.take_one.Goals as goal

pub returns-clause-counts : goal.returns-clause-counts
returns-clause-counts c = ap counts_of c.take.ensures.rest ∙ counts-taken c.args.pid.now 1 (rows_of c.self.inside.rows) c.total.ensures.in_order ∙ ap (λ l. upd same_pid (counts_of l) c.args.pid.now (counts_of l c.args.pid.now - 1)) c.self.view_is

pub returns-clause-count : goal.returns-clause-count
returns-clause-count c = c.take.ensures.count ∙ ap (λ l. counts_of l c.args.pid.now) c.self.view_is
