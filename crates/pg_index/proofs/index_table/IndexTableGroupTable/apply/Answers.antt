use Rattle.std.proofs.Common.{◌≡◌, sym, subst, ◌∙◌}
use Rattle.pg_group.specs.declared.update.Update.{Update}
use Rattle.pg_group.specs.Ended.{ended_of}
use Rattle.pg_group.specs.Table.{changed}
use Rattle.pg_group.proofs.Maps.{join_refused}
use Rattle.pg_index.specs.Groups.{counts_by_number}
use Rattle.pg_index.specs.Index.{number_of, contents_of}
use Rattle.pg_index.proofs.index_table.IndexTableGroupTable.apply.Goals as goal

pub returns-in-Join-clause-ok : goal.returns-in-Join-clause-ok
returns-in-Join-clause-ok c =
    let table = contents_of (number_of c.args.self.now.numbers) (counts_by_number c.args.self.now.memberships.groups) in
    let ended = ended_of c.args.ended.now in
    subst (λ (u : Update). table ≡ changed table u ended) (sym c.in-Join.is) (join_refused table c.in-Join.field-0 c.in-Join.pid ended (sym c.has.ensures ∙ c.if-has.true))
