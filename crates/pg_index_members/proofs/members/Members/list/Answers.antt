use Rattle.std.proofs.Common.{◌≡◌, ◌++◌, Some, sym, ap, subst, ◌∙◌}
use Rattle.pg_group.specs.Scope.{in_scope}
use Rattle.pg_group.specs.Members.{IsMemberList}
use Rattle.pg_index_members.specs.Forms.{rows_of}
use Rattle.pg_index_members.specs.Rows.{counts_of, spread, AreRows}
use Rattle.pg_index_members.proofs.Counts.{members}
use Rattle.pg_index_members.proofs.members.Members.list.Goals as goal

pub returns-clause-list : goal.returns-clause-list
returns-clause-list c =
    let rows = c.args.self.now in
    let among = in_scope c.args.scope in
    let is : c.list.new.pids.items ≡ spread among rows = c.in_ok-list.ensures ∙ ap (λ l. l ++ spread among (rows_of c.self.inside.rows)) c.new-pids.ensures.items ∙ ap (spread among) c.self.view_is in
    subst (IsMemberList (Some (counts_of rows)) among) (sym is) (members among rows (subst AreRows c.self.view_is c.total.ensures.in_order))
