use Rattle.std.proofs.Common.{◌≡◌, ◌++◌, List, sym, ap, subst, ◌∙◌, append-nil}
use Rattle.std.specs.Prelude.{is_some}
use Rattle.std.specs.List.{list_any}
use Rattle.std.specs.Ordering.{eq_by_cmp}
use Rattle.std.specs.BTreeMap.{keys, get}
use Rattle.pg_term.specs.declared.term.Term.{Term}
use Rattle.pg_term.specs.Same.{term_cmp}
use Rattle.pg_group.specs.Rows.{table_of}
use Rattle.pg_group.specs.Table.{AreNames}
use Rattle.pg_group.proofs.Maps.{keys_are_names}
use Rattle.pg_group.proofs.row_table.RowTableGroupTable.groups.Goals as goal

pub returns : goal.returns
returns c =
    let rows = c.args.self.now.rows in
    let all : c.loop-name.names.items ≡ keys rows = sym (append-nil c.loop-name.names.items) ∙ ap (λ rest. c.loop-name.names.items ++ rest) (sym c.in-None.ensures.steps.0) ∙ c.loop-name.invariant in
    let has = λ (q : Term). subst (λ (names : List Term). is_some (get term_cmp rows q) ≡ list_any (eq_by_cmp term_cmp q) names) c.keys-name-items.ensures.rest (c.keys-name-items.ensures.has q) in
    subst (AreNames (table_of rows)) (sym all) (keys_are_names rows c.keys-name-items.ensures.ordered has)
