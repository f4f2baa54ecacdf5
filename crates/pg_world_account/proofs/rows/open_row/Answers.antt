use Rattle.std.proofs.Common.{Some, None, [], sym, subst, ◌∙◌}
use Rattle.std.proofs.Math.Path.{fun_ext}
use Rattle.std.specs.BTreeMap.{UpdatesBy}
use Rattle.pg_term.specs.declared.term.Term.{Term}
use Rattle.pg_term.specs.Same.{term_cmp}
use Rattle.pg_world_account.specs.declared.row.Row.{Row}
use Rattle.pg_world_account.specs.Histories.{entries_of, count_at, marked_entries_of}
use Rattle.pg_world_account.proofs.Rowed.{kept, absent}
use Rattle.pg_world_account.proofs.rows.open_row.Goals as goal

pub returns-clause-entries : goal.returns-clause-entries
returns-clause-entries c =
    let updates = subst (λ (key : Term). UpdatesBy term_cmp (term_cmp key) c.args.rows.now c.insert.new.self (Some c.new.result)) c.in_ok-key.ensures c.in_ok-insert.ensures.updates in
    fun_ext (kept c.args.rows.now c.insert.new.self c.args.name.now None c.new.result (absent _ (sym c.contains_key.ensures ∙ c.if-contains_key.false)) updates entries_of [] c.new.ensures.entries)

pub returns-clause-counts : goal.returns-clause-counts
returns-clause-counts c =
    let updates = subst (λ (key : Term). UpdatesBy term_cmp (term_cmp key) c.args.rows.now c.insert.new.self (Some c.new.result)) c.in_ok-key.ensures c.in_ok-insert.ensures.updates in
    fun_ext (λ i. fun_ext (kept c.args.rows.now c.insert.new.self c.args.name.now None c.new.result (absent _ (sym c.contains_key.ensures ∙ c.if-contains_key.false)) updates (λ (row : Row). count_at row.tally i) 0 (λ j. c.new.ensures.counts j i)))

pub returns-clause-marks : goal.returns-clause-marks
returns-clause-marks c =
    let updates = subst (λ (key : Term). UpdatesBy term_cmp (term_cmp key) c.args.rows.now c.insert.new.self (Some c.new.result)) c.in_ok-key.ensures c.in_ok-insert.ensures.updates in
    fun_ext (λ i. fun_ext (kept c.args.rows.now c.insert.new.self c.args.name.now None c.new.result (absent _ (sym c.contains_key.ensures ∙ c.if-contains_key.false)) updates (λ (row : Row). marked_entries_of row i) [] (λ j. c.new.ensures.marks j i)))
