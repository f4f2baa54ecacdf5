use Rattle.std.proofs.Common.{◌≡◌, ◌∙◌, ℕ, List, ◌<◌, ◌≤◌, ◌+◌, ◌*◌, length}
use Rattle.std.proofs.Common.{Result, Ok, Err, Bor, refl, sym, ap, subst, arith}
use Rattle.std.specs.Prelude.{IfOk}
use Rattle.pg_term.specs.declared.fault.TermFault.{TermFault}
use Rattle.pg_term.specs.declared.term.Term.{Term}
use Rattle.pg_term_io.specs.Reading.{Read, item_at}
use Rattle.pg_term_io.specs.Scanning.{past, ScansAs}
use Rattle.pg_term_io.specs.Writing.{item_bytes}
use Rattle.pg_term_io.proofs.Scanned.{item_end}
use Rattle.pg_term_io.proofs.Spread.{wide, shorter}
use Rattle.pg_term_io.proofs.reading.outline.skip_item.Goals as goal

pub returns-clause-exact : goal.returns-clause-exact
returns-clause-exact c = subst (λ (read : Result (List ℕ) TermFault). ScansAs (λ (rest : Bor (List ℕ)). rest.now) c.item.result read) (sym (item_end c.args.levels c.args.bytes.now)) c.item.ensures

pub returns-clause-spread : goal.returns-clause-spread
returns-clause-spread c t le = at c.item.result
  where
    at : (r : Result (Bor (List ℕ)) TermFault) → IfOk r (λ rest. item_at c.args.levels c.args.bytes.now ≡ Ok (t, rest.now) → length c.args.bytes.now ≤ length rest.now + 400 * length (item_bytes t))
    at (Err f) = tt
    at (Ok rest) = λ e. wide c.args.levels c.args.bytes.now t rest.now le (λ i. omega (arith, c.type_inv.bytes i)) e

-- the walk ended where reading ends, so that a term was read
pub returns-clause-shorter : goal.returns-clause-shorter
returns-clause-shorter c = at c.item.result (subst (λ (read : Result (List ℕ) TermFault). ScansAs (λ (rest : Bor (List ℕ)). rest.now) c.item.result read) (sym (item_end c.args.levels c.args.bytes.now)) c.item.ensures)
  where
    read_there : (rest : List ℕ) (r : Read Term) → item_at c.args.levels c.args.bytes.now ≡ r → past r ≡ Ok rest → length rest < length c.args.bytes.now
    read_there rest (Ok x) is e = let same : x.1 ≡ rest = cc in shorter c.args.levels c.args.bytes.now x.0 rest (λ i. omega (arith, c.type_inv.bytes i)) (is ∙ ap (λ (rest : List ℕ). Ok (x.0, rest)) same)
    read_there rest (Err f) is e = absurd cc

    at : (r : Result (Bor (List ℕ)) TermFault) → ScansAs (λ (rest : Bor (List ℕ)). rest.now) r (past (item_at c.args.levels c.args.bytes.now)) → IfOk r (λ rest. length rest.now < length c.args.bytes.now)
    at (Err f) h = tt
    at (Ok rest) h = read_there rest.now (item_at c.args.levels c.args.bytes.now) refl h
