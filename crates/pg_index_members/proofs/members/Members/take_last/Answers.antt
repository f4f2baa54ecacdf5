use Rattle.std.proofs.Common.{◌≡◌, List, subst}
use Rattle.std.specs.Prelude.{IfSome}
use Rattle.pg_term.specs.Same.{same_pid}
use Rattle.pg_group.specs.Functions.{upd}
use Rattle.pg_index_members.specs.declared.row.Row.{Row}
use Rattle.pg_index_members.specs.Forms.{rows_of}
use Rattle.pg_index_members.specs.Rows.{counts_of}
use Rattle.pg_index_members.proofs.Last.{counts_if}
use Rattle.pg_index_members.proofs.members.Members.take_last.Goals as goal

pub returns-clause-rest : goal.returns-clause-rest
returns-clause-rest c =
    subst (λ (old : List Row). IfSome c.take_last.result (λ row. counts_of (rows_of c.take_last.new.self) ≡ upd same_pid (counts_of old) row.pid 0)) c.self.view_is
    (counts_if (rows_of c.self.inside.rows) (rows_of c.take_last.new.self) c.take_last.result c.take_last.ensures.some c.total.ensures.in_order)
