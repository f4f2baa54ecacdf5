use Rattle.std.proofs.Common.{Some, ◌+◌, ◌&&◌, cond, nat_eq, [], refl, sym, ap, ◌∙◌, rules}
use Rattle.std.proofs.Math.Path.{fun_ext}
use Rattle.pg_term.specs.declared.term.Term.{Term}
use Rattle.pg_term.specs.Same.{same_term}
use Rattle.pg_laws_losses.specs.Remains.Missed.{marked_after}
use Rattle.pg_world_account.specs.Histories.{entries_of, tallied_in, marked_entries_in}
use Rattle.pg_world_account.proofs.Rowed.{kept, marks_taken, more_counts}
use Rattle.pg_world_account.proofs.rows.serve.Goals as goal

pub returns-in-Some-clause-entries : goal.returns-in-Some-clause-entries
returns-in-Some-clause-entries c =
    fun_ext (kept c.args.rows.now (c.get_mut.follows.lender c.serve.new.self) c.name.result.now (Some c.in-Some.row.now) c.serve.new.self (sym c.in-Some.ensures.value)
    ((c.get_mut.follows.holds c.serve.new.self).3 (search rules)) entries_of [] c.serve.ensures.entries)

pub returns-in-Some-clause-counts : goal.returns-in-Some-clause-counts
returns-in-Some-clause-counts c = λ i name.
    more_counts c.args.rows.now (c.get_mut.follows.lender c.serve.new.self) c.name.result.now (Some c.in-Some.row.now) c.serve.new.self (sym c.in-Some.ensures.value)
    ((c.get_mut.follows.holds c.serve.new.self).3 (search rules)) c.in-Some.row.now c.args.node refl c.serve.ensures.counts i name
    ∙ ap (λ (group : Term). tallied_in c.args.rows.now i name + cond (nat_eq c.args.node i && same_term name group) 1 0) c.name.ensures

pub returns-in-Some-clause-marks : goal.returns-in-Some-clause-marks
returns-in-Some-clause-marks c = λ i name few.
    marks_taken c.args.rows.now (c.get_mut.follows.lender c.serve.new.self) c.name.result.now (Some c.in-Some.row.now) c.serve.new.self (sym c.in-Some.ensures.value)
    ((c.get_mut.follows.holds c.serve.new.self).3 (search rules)) c.in-Some.row.now c.args.node i refl (c.serve.ensures.marks i few) name
    ∙ ap (λ (group : Term). marked_after [] (nat_eq c.args.node i && same_term name group) (marked_entries_in c.args.rows.now i name)) c.name.ensures
