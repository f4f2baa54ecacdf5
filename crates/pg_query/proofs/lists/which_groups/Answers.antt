use Rattle.std.proofs.Common.{sym, subst}
use Rattle.pg_group.specs.Table.{AreNames}
use Rattle.pg_query.proofs.Listing.{names_sorted}
use Rattle.pg_query.proofs.lists.which_groups.Goals as goal

pub returns-clause-names : goal.returns-clause-names
returns-clause-names g c =
    subst (λ l. AreNames (g.T.GroupTable.contents c.args.table.now) l) (sym c.from_vec.ensures) (names_sorted (g.T.GroupTable.contents c.args.table.now) c.in_ok-names.names.items c.sort.new.self.items c.in_ok-sort.ensures.permutation c.in_ok-names.ensures)
