use Rattle.std.proofs.Common.{sym, ap, ◌∙◌}
use Rattle.std.specs.Option.{option_map}
use Rattle.slab.specs.Slab.{get}
use Rattle.pg_index_members.specs.Rows.{counts_of}
use Rattle.pg_index.specs.Groups.{counts_by_number}
use Rattle.pg_index.proofs.Tables.{members_at}
use Rattle.pg_index.proofs.index_table.IndexTable.members.Goals as goal

pub returns-in-Some : goal.returns-in-Some
returns-in-Some c =
    let has = c.args.self.now.there c.args.name.now c.in-Some.number (sym c.in-Some.ensures) in
    ap (option_map counts_of) c.members.ensures ∙ members_at (get c.args.self.now.memberships.groups c.in-Some.number) has
    ∙ ap (option_map (counts_by_number c.args.self.now.memberships.groups)) c.in-Some.ensures
