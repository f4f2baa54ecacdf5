use Rattle.std.proofs.Common.{◌≡◌, ℕ, List, Result, Ok, Err, subst, arith}
use Rattle.std.proofs.lemmas.Result.{err_from_is_err_and}
use Rattle.pg_term.specs.declared.fault.TermFault.{TermFault}
use Rattle.pg_term.specs.declared.term.Term.{Term}
use Rattle.pg_term_io.specs.Reading.{term_of}
use Rattle.pg_term_io.proofs.Items.{Answers, term_right}
use Rattle.pg_term_io.proofs.Scanned.{Judges, term_judged}
use Rattle.pg_term_io.proofs.reading.check_term.Goals as goal

pub returns-in_err-term-clause-exact : goal.returns-in_err-term-clause-exact
returns-in_err-term-clause-exact c =
    let p = err_from_is_err_and c.from_residual.result c.from_residual.ensures.1 in
    let bytes = c.args.bytes.now in
    let P : Result (List ℕ) TermFault → Type 0 = λ v. Judges v (term_of bytes) in
    rw (p.1, p.2) (subst P c.in_err-term.ensures (term_judged bytes))

pub returns-in_err-term-clause-err : goal.returns-in_err-term-clause-err
returns-in_err-term-clause-err c =
    let p = err_from_is_err_and c.from_residual.result c.from_residual.ensures.1 in
    let bytes = c.args.bytes.now in
    let P : Result (List ℕ) TermFault → Type 0 = λ v. Judges v (term_of bytes) in
    let told : term_of bytes ≡ Err c.in_err-term.field-0.0 = subst P c.in_err-term.ensures (term_judged bytes) in
    rw (p.1, p.2) (subst (Answers bytes) told (term_right bytes (λ i. omega (arith, c.type_inv.bytes i))))

pub returns-clause-exact : goal.returns-clause-exact
returns-clause-exact c =
    let bytes = c.args.bytes.now in
    let P : Result (List ℕ) TermFault → Type 0 = λ v. Judges v (term_of bytes) in
    subst P c.in_ok-term.ensures (term_judged bytes)

pub returns-clause-ok : goal.returns-clause-ok
returns-clause-ok c =
    let bytes = c.args.bytes.now in
    let P : Result (List ℕ) TermFault → Type 0 = λ v. Judges v (term_of bytes) in
    let read : (t : Term) × (term_of bytes ≡ Ok t) = subst P c.in_ok-term.ensures (term_judged bytes) in
    (read.0, subst (Answers bytes) read.1 (term_right bytes (λ i. omega (arith, c.type_inv.bytes i))))
