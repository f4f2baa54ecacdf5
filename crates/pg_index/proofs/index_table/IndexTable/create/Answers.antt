use Rattle.std.proofs.Common.{sym, ◌∙◌}
use Rattle.pg_index.specs.Groups.{counts_by_number}
use Rattle.pg_index.specs.Index.{number_of, contents_of}
use Rattle.pg_index.proofs.Tables.{is_there, made_before}
use Rattle.pg_index.proofs.index_table.IndexTable.create.Goals as goal

pub returns-then-contains_key-clause-ok : goal.returns-then-contains_key-clause-ok
returns-then-contains_key-clause-ok c =
    let numbers = number_of c.args.self.now.numbers in
    let counts = counts_by_number c.args.self.now.memberships.groups in
    made_before (contents_of numbers counts) c.args.name.now (is_there numbers counts c.args.name.now ∙ (sym c.contains_key.ensures ∙ c.if-contains_key.true))
