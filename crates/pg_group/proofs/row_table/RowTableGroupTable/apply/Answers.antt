use Rattle.std.proofs.Common.{◌≡◌, sym, subst, ◌∙◌}
use Rattle.pg_group.specs.declared.update.Update.{Update}
use Rattle.pg_group.specs.Rows.{table_of}
use Rattle.pg_group.specs.Ended.{ended_of}
use Rattle.pg_group.specs.Table.{changed}
use Rattle.pg_group.proofs.Maps.{join_refused}
use Rattle.pg_group.proofs.row_table.RowTableGroupTable.apply.Goals as goal

pub returns-in-Join-clause-ok : goal.returns-in-Join-clause-ok
returns-in-Join-clause-ok c =
    let table = table_of c.args.self.now.rows in
    let ended = ended_of c.args.ended.now in
    subst (λ (u : Update). table ≡ changed table u ended) (sym c.in-Join.is) (join_refused table c.in-Join.field-0 c.in-Join.pid ended (sym c.has.ensures ∙ c.if-has.true))
