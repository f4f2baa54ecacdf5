use Rattle.std.proofs.Common.{Some, ◌+◌, ◌++◌, ◌∷◌, ◌&&◌, cond, nat_eq, [], refl, sym, ap, ◌∙◌, rules}
use Rattle.pg_term.specs.declared.term.Term.{Term}
use Rattle.pg_term.specs.Same.{same_term}
use Rattle.pg_world_account.specs.declared.row.Row.{Row}
use Rattle.pg_world_account.specs.Histories.{as_entry, as_marked, entries_in, entries_of, tallied_in, marked_entries_in, marked_entries_of}
use Rattle.pg_world_account.proofs.Rowed.{more_listed, more_counts}
use Rattle.pg_world_account.proofs.rows.begin.Goals as goal

pub returns-in-Some-clause-entries : goal.returns-in-Some-clause-entries
returns-in-Some-clause-entries c = λ name.
    more_listed c.args.rows.now (c.get_mut.follows.lender c.begin.new.self) c.name.result.now (Some c.in-Some.row.now) c.begin.new.self (sym c.in-Some.ensures.value)
    ((c.get_mut.follows.holds c.begin.new.self).3 (search rules)) entries_of (as_entry c.args.entry ∷ []) c.begin.ensures.entries name
    ∙ ap (λ (group : Term). entries_in c.args.rows.now name ++ cond (same_term name group) (as_entry c.args.entry ∷ []) []) c.name.ensures

pub returns-in-Some-clause-counts : goal.returns-in-Some-clause-counts
returns-in-Some-clause-counts c = λ i name.
    more_counts c.args.rows.now (c.get_mut.follows.lender c.begin.new.self) c.name.result.now (Some c.in-Some.row.now) c.begin.new.self (sym c.in-Some.ensures.value)
    ((c.get_mut.follows.holds c.begin.new.self).3 (search rules)) c.in-Some.row.now c.args.entry.node refl c.begin.ensures.counts i name
    ∙ ap (λ (group : Term). tallied_in c.args.rows.now i name + cond (nat_eq c.args.entry.node i && same_term name group) 1 0) c.name.ensures

pub returns-in-Some-clause-marks : goal.returns-in-Some-clause-marks
returns-in-Some-clause-marks c = λ i name.
    more_listed c.args.rows.now (c.get_mut.follows.lender c.begin.new.self) c.name.result.now (Some c.in-Some.row.now) c.begin.new.self (sym c.in-Some.ensures.value)
    ((c.get_mut.follows.holds c.begin.new.self).3 (search rules)) (λ (row : Row). marked_entries_of row i) (as_marked i c.args.entry ∷ []) (c.begin.ensures.marks i) name
    ∙ ap (λ (group : Term). marked_entries_in c.args.rows.now i name ++ cond (same_term name group) (as_marked i c.args.entry ∷ []) []) c.name.ensures
