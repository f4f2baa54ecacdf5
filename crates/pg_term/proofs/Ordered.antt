-- How two terms of one kind are compared, and two of different kinds.
use Rattle.std.proofs.Common.{◌≡◌, ℕ, suc, ℤ, ◌<◌, inl, inr, List, [], ◌∷◌, ◌++◌, refl, sym, ap, ◌∙◌, arith}
use Rattle.std.specs.Cmp.{IsTotalOrder, nat_cmp_total}
use Rattle.std.specs.Cmp.Lexicographic.{slice_cmp}
use Rattle.std.specs.Ordering.{int_cmp}
use Rattle.std.specs.declared.cmp.Ordering.{Ordering}
use Rattle.std.specs.declared.cmp.Ordering.TheVariants.{Less, Greater}
use Rattle.std.proofs.lemmas.Cmp.{tied_itself}
use denote.Struct.Field.{Field}
use denote.Enum.Compared.{Each, by}
use denote.Enum.Declared.{Choice}
use Rattle.pg_term.specs.Arity.{arity_cmp}
use Rattle.pg_term.specs.RefParts.{RefParts, ref_cmp}
use Rattle.pg_term.specs.Order.{kind_step, kind_of, numbers_order, references_order}
use Rattle.pg_term.specs.Order.{pids_order, elements_order, tuples_order}
use Rattle.pg_term.specs.Same.{term_cmp, pid_cmp, atom_cmp}
use Rattle.pg_term.specs.declared.pid.Pid.{Pid}
use Rattle.pg_term.specs.declared.term.Term.{Term, Tuple, List as Listed}
use Rattle.pg_term.specs.declared.term.Term.TheVariants.{Int, Atom, Ref, Pid as Process, Binary, outs-Int, outs-Atom}
use Rattle.pg_term.specs.declared.term.Term.TheVariants.{outs-Ref, outs-Pid, outs-Tuple, outs-List, outs-Binary}
use Rattle.pg_term.specs.contracts.term.Term.{the_parts, as_values, the_make, the_eta, the_beta}
use Rattle.pg_term.specs.contracts.term.TermOrd.TheImpl.Laws.{is, total-law}

abbrev each : Each Ordering the_parts
each = (λ a b. int_cmp a.0 b.0, (λ a b. atom_cmp a.0 b.0, (λ a b. ref_cmp a.0 b.0, (λ a b. pid_cmp a.0 b.0, (λ a b. arity_cmp term_cmp a.0 b.0, (λ a b. slice_cmp term_cmp a.0 b.0, (λ a b. numbers_order a.0 b.0, tt)))))))

abbrev at : Choice the_parts → Choice the_parts → Ordering
at = by Less Greater the_parts each

made : (c d : Choice the_parts) → term_cmp (the_make c) (the_make d) ≡ at c d
made c d = is (the_make c) (the_make d) ∙ (λ i. at (the_beta c i) (the_beta d i))

pub integers : (m n : ℤ) → term_cmp (Int m) (Int n) ≡ int_cmp m n
integers m n = made (inl (m, tt)) (inl (n, tt))

pub atoms : (a b : List ℕ) → term_cmp (Atom a) (Atom b) ≡ atom_cmp a b
atoms a b = made (inr (inl (a, tt))) (inr (inl (b, tt)))

pub references : (r s : RefParts) → term_cmp (Ref r) (Ref s) ≡ references_order r s
references r s = made (inr (inr (inl (r, tt)))) (inr (inr (inl (s, tt))))

pub pids : (p q : Pid) → term_cmp (Process p) (Process q) ≡ pids_order p q
pids p q = made (inr (inr (inr (inl (p, tt))))) (inr (inr (inr (inl (q, tt)))))

pub tuples : (xs ys : List Term) → term_cmp (Tuple xs) (Tuple ys) ≡ tuples_order xs ys
tuples xs ys = made (inr (inr (inr (inr (inl (xs, tt)))))) (inr (inr (inr (inr (inl (ys, tt))))))

pub lists : (xs ys : List Term) → term_cmp (Listed xs) (Listed ys) ≡ elements_order xs ys
lists xs ys = made (inr (inr (inr (inr (inr (inl (xs, tt))))))) (inr (inr (inr (inr (inr (inl (ys, tt)))))))

pub binaries : (a b : List ℕ) → term_cmp (Binary a) (Binary b) ≡ numbers_order a b
binaries a b = made (inr (inr (inr (inr (inr (inr (inl (a, tt)))))))) (inr (inr (inr (inr (inr (inr (inl (b, tt))))))))

-- which of the variants it is
abbrev place : (Fss : List (List Field)) → Choice Fss → ℕ
place [] c = absurd c
place (Fs ∷ Fss) (inl x) = 0
place (Fs ∷ Fss) (inr c) = suc (place Fss c)

earlier : (Fss : List (List Field)) (each : Each Ordering Fss) (c d : Choice Fss) → place Fss c < place Fss d → by Less Greater Fss each c d ≡ Less
earlier [] each c d h = absurd c
earlier (Fs ∷ Fss) each (inl x) (inl y) h = absurd (omega arith)
earlier (Fs ∷ Fss) each (inl x) (inr d) h = refl
earlier (Fs ∷ Fss) each (inr c) (inl y) h = absurd (omega arith)
earlier (Fs ∷ Fss) each (inr c) (inr d) h = earlier Fss each.1 c d (omega arith)

kind_made : (c : Choice the_parts) → kind_of (the_make c) ≡ place the_parts c
kind_made (inl a) = ap kind_step (outs-Int a.0)
kind_made (inr (inl a)) = ap kind_step (outs-Atom a.0)
kind_made (inr (inr (inl a))) = ap kind_step (outs-Ref a.0)
kind_made (inr (inr (inr (inl a)))) = ap kind_step (outs-Pid a.0)
kind_made (inr (inr (inr (inr (inl a))))) = ap kind_step (outs-Tuple a.0)
kind_made (inr (inr (inr (inr (inr (inl a)))))) = ap kind_step (outs-List a.0)
kind_made (inr (inr (inr (inr (inr (inr (inl a))))))) = ap kind_step (outs-Binary a.0)
kind_made (inr (inr (inr (inr (inr (inr (inr d))))))) = absurd d

kind_place : (x : Term) → kind_of x ≡ place the_parts (as_values x)
kind_place x = ap kind_of (sym (the_eta x)) ∙ kind_made (as_values x)

pub kinds : (x y : Term) → kind_of x < kind_of y → term_cmp x y ≡ Less
kinds x y h = is x y ∙ earlier the_parts each (as_values x) (as_values y) (omega (arith, kind_place x, kind_place y))

-- what a list begins with is less than the list
front_less : {K : Type 0} {cmp : K → K → Ordering} → IsTotalOrder cmp → (xs : List K) (y : K) (ys : List K) → slice_cmp cmp xs (xs ++ y ∷ ys) ≡ Less
front_less total [] y ys = refl
front_less total (x ∷ xs) y ys = rw (tied_itself total x) (front_less total xs y ys)

pub fronts : (xs : List Term) (y : Term) (ys : List Term) → term_cmp (Listed xs) (Listed (xs ++ y ∷ ys)) ≡ Less
fronts xs y ys = lists xs (xs ++ y ∷ ys) ∙ front_less total-law xs y ys

pub cut : (a : List ℕ) (next : ℕ) (b : List ℕ) → term_cmp (Binary a) (Binary (a ++ next ∷ b)) ≡ Less
cut a next b = binaries a (a ++ next ∷ b) ∙ front_less nat_cmp_total a next b
