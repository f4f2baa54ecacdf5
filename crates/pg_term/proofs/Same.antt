-- Two terms are equal exactly where they are one term.
use Rattle.std.proofs.Common.{◌≡◌, ℕ, ℤ, Bool, true, false, ◌&&◌, inl, inr, List}
use Rattle.std.proofs.Common.{[], ◌∷◌, map, refl, sym, ap, subst, ◌∙◌, nat_eq}
use Rattle.std.specs.Cmp.{first_so, second_so, signed_Decides}
use Rattle.std.specs.Cmp.Lexicographic.{pointwise, bytes_decides}
use Rattle.std.specs.Ordering.{int_eq}
use Rattle.std.proofs.lemmas.Bool.{eqb-true}
use denote.Enum.Compared.{by}
use denote.Enum.Declared.{Choice}
use Rattle.pg_term.specs.Arity.{arity_eq}
use Rattle.pg_term.specs.RefParts.{RefParts, ref_eq}
use Rattle.pg_term.specs.declared.pid.Pid.{Pid}
use Rattle.pg_term.specs.declared.term.Term.{Term, Tuple, List as Listed, ind-Term, map-Term, roll-Term}
use Rattle.pg_term.specs.declared.term.Term.TheOpen.{Term-F}
use Rattle.pg_term.specs.declared.term.Term.TheVariants.{Int, Atom, Ref, Pid as Process, Binary, rolls-Int, rolls-Atom}
use Rattle.pg_term.specs.declared.term.Term.TheVariants.{rolls-Ref, rolls-Pid, rolls-Tuple, rolls-List, rolls-Binary}
use Rattle.pg_term.specs.contracts.term.Term.{the_parts, as_values, the_make, the_eta, the_beta}
use Rattle.pg_term.specs.contracts.term.TermPartialEq.TheImpl.{ghosts}
use Rattle.pg_term.specs.contracts.term.TermPartialEq.TheImpl.Laws.{is}
use Rattle.pg_term.specs.contracts.pid.PidPartialEq.TheImpl.{ghosts as pid_ghosts}

abbrev eq : Term → Term → Bool
eq = ghosts.eq

abbrev at : Choice the_parts → Choice the_parts → Bool
at = by false false the_parts (λ a b. int_eq a.0 b.0, (λ a b. pointwise nat_eq a.0 b.0, (λ a b. ref_eq a.0 b.0, (λ a b. pid_ghosts.eq a.0 b.0, (λ a b. arity_eq eq a.0 b.0, (λ a b. pointwise eq a.0 b.0, (λ a b. pointwise nat_eq a.0 b.0, tt)))))))

abbrev Same : Term → Type 0
Same x = (y : Term) → eq x y ≡ true → x ≡ y

-- (by name, since `cc` reads again, each time, the case analysis to which such an equation computes)
apart : {A : Type 0} → false ≡ true → A
apart e = absurd cc

-- it is enough to look at the variants of the second
by_variants : (c : Choice the_parts) → ((d : Choice the_parts) → at c d ≡ true → the_make c ≡ the_make d) → Same (the_make c)
by_variants c h y e =
    let shown : at c (as_values y) ≡ true = ap (λ (k : Choice the_parts). at k (as_values y)) (sym (the_beta c)) ∙ sym (is (the_make c) y) ∙ e in
    h (as_values y) shown ∙ the_eta y

all_same : (xs : List ((t : Term) × Same t)) (ys : List Term) → pointwise eq (map (λ e. e.0) xs) ys ≡ true → map (λ e. e.0) xs ≡ ys
all_same [] [] e = refl
all_same [] (y ∷ ys) e = apart e
all_same (x ∷ xs) [] e = apart e
all_same (x ∷ xs) (y ∷ ys) e = λ i. x.1 y (first_so (eq x.0 y) (pointwise eq (map (λ e. e.0) xs) ys) e) i ∷ all_same xs ys (second_so (eq x.0 y) (pointwise eq (map (λ e. e.0) xs) ys) e) i

int_same : (n : ℤ) (d : Choice the_parts) → at (inl (n, tt)) d ≡ true → Int n ≡ the_make d
int_same n (inl m) e = ap Int ((signed_Decides n m.0).0 e)
int_same n (inr d) e = apart e

tuple_same : (xs : List ((t : Term) × Same t)) (d : Choice the_parts) → at (inr (inr (inr (inr (inl (map (λ e. e.0) xs, tt)))))) d ≡ true → Tuple (map (λ e. e.0) xs) ≡ the_make d
tuple_same xs (inl a) e = apart e
tuple_same xs (inr (inl a)) e = apart e
tuple_same xs (inr (inr (inl a))) e = apart e
tuple_same xs (inr (inr (inr (inl a)))) e = apart e
tuple_same xs (inr (inr (inr (inr (inl ys))))) e = ap Tuple (all_same xs ys.0 (second_so _ _ e))
tuple_same xs (inr (inr (inr (inr (inr d))))) e = apart e

list_same : (xs : List ((t : Term) × Same t)) (d : Choice the_parts) → at (inr (inr (inr (inr (inr (inl (map (λ e. e.0) xs, tt))))))) d ≡ true → Listed (map (λ e. e.0) xs) ≡ the_make d
list_same xs (inl a) e = apart e
list_same xs (inr (inl a)) e = apart e
list_same xs (inr (inr (inl a))) e = apart e
list_same xs (inr (inr (inr (inl a)))) e = apart e
list_same xs (inr (inr (inr (inr (inl a))))) e = apart e
list_same xs (inr (inr (inr (inr (inr (inl ys)))))) e = ap Listed (all_same xs ys.0 e)
list_same xs (inr (inr (inr (inr (inr (inr d)))))) e = apart e

binary_same : (a : List ℕ) (d : Choice the_parts) → at (inr (inr (inr (inr (inr (inr (inl (a, tt)))))))) d ≡ true → Binary a ≡ the_make d
binary_same a (inl b) e = apart e
binary_same a (inr (inl b)) e = apart e
binary_same a (inr (inr (inl b))) e = apart e
binary_same a (inr (inr (inr (inl b)))) e = apart e
binary_same a (inr (inr (inr (inr (inl b))))) e = apart e
binary_same a (inr (inr (inr (inr (inr (inl b)))))) e = apart e
binary_same a (inr (inr (inr (inr (inr (inr (inl b))))))) e = ap Binary ((bytes_decides a b.0).0 e)
binary_same a (inr (inr (inr (inr (inr (inr (inr d))))))) e = absurd d

atom_same : (a : List ℕ) (d : Choice the_parts) → at (inr (inl (a, tt))) d ≡ true → Atom a ≡ the_make d
atom_same a (inl b) e = apart e
atom_same a (inr (inl b)) e = ap Atom ((bytes_decides a b.0).0 e)
atom_same a (inr (inr d)) e = apart e

pub ref_is : (a b : RefParts) → ref_eq a b ≡ true → a ≡ b
ref_is a b e =
    let node = (bytes_decides a.node b.node).0 (first_so (pointwise nat_eq a.node b.node) _ e) in
    let rest : (nat_eq a.creation b.creation && pointwise nat_eq a.words b.words) ≡ true = second_so (pointwise nat_eq a.node b.node) _ e in
    let creation = eqb-true _ _ (first_so (nat_eq a.creation b.creation) (pointwise nat_eq a.words b.words) rest) in
    let words = (bytes_decides a.words b.words).0 (second_so (nat_eq a.creation b.creation) (pointwise nat_eq a.words b.words) rest) in
    λ i. record { node = node i; creation = creation i; words = words i }

ref_same : (r : RefParts) (d : Choice the_parts) → at (inr (inr (inl (r, tt)))) d ≡ true → Ref r ≡ the_make d
ref_same r (inl b) e = apart e
ref_same r (inr (inl b)) e = apart e
ref_same r (inr (inr (inl b))) e = ap Ref (ref_is r b.0 e)
ref_same r (inr (inr (inr d))) e = apart e

pub pid_is : (a b : Pid) → pid_ghosts.eq a b ≡ true → a ≡ b
pid_is a b e =
    let node = (bytes_decides a.node b.node).0 (first_so (pointwise nat_eq a.node b.node) (nat_eq a.serial b.serial && (nat_eq a.id b.id && nat_eq a.creation b.creation)) e) in
    let rest = second_so (pointwise nat_eq a.node b.node) (nat_eq a.serial b.serial && (nat_eq a.id b.id && nat_eq a.creation b.creation)) e in
    let serial = eqb-true _ _ (first_so (nat_eq a.serial b.serial) (nat_eq a.id b.id && nat_eq a.creation b.creation) rest) in
    let more = second_so (nat_eq a.serial b.serial) (nat_eq a.id b.id && nat_eq a.creation b.creation) rest in
    let id = eqb-true _ _ (first_so (nat_eq a.id b.id) (nat_eq a.creation b.creation) more) in
    let creation = eqb-true _ _ (second_so (nat_eq a.id b.id) (nat_eq a.creation b.creation) more) in
    λ i. record { node = node i; serial = serial i; id = id i; creation = creation i }

pid_same : (p : Pid) (d : Choice the_parts) → at (inr (inr (inr (inl (p, tt))))) d ≡ true → Process p ≡ the_make d
pid_same r (inl b) e = apart e
pid_same r (inr (inl b)) e = apart e
pid_same r (inr (inr (inl b))) e = apart e
pid_same r (inr (inr (inr (inl b)))) e = ap Process (pid_is r b.0 e)
pid_same r (inr (inr (inr (inr d)))) e = apart e

layer_same : (y : Term-F ((t : Term) × Same t)) → Same (roll-Term (map-Term ((t : Term) × Same t) Term (λ e. e.0) y))
layer_same (Term-F.Int n) = subst Same (sym (rolls-Int n)) (by_variants (inl (n, tt)) (int_same n))
layer_same (Term-F.Atom a) = subst Same (sym (rolls-Atom a)) (by_variants (inr (inl (a, tt))) (atom_same a))
layer_same (Term-F.Ref r) = subst Same (sym (rolls-Ref r)) (by_variants (inr (inr (inl (r, tt)))) (ref_same r))
layer_same (Term-F.Pid p) = subst Same (sym (rolls-Pid p)) (by_variants (inr (inr (inr (inl (p, tt))))) (pid_same p))
layer_same (Term-F.Tuple xs) = subst Same (sym (rolls-Tuple (map (λ e. e.0) xs))) (by_variants (inr (inr (inr (inr (inl (map (λ e. e.0) xs, tt)))))) (tuple_same xs))
layer_same (Term-F.List xs) = subst Same (sym (rolls-List (map (λ e. e.0) xs))) (by_variants (inr (inr (inr (inr (inr (inl (map (λ e. e.0) xs, tt))))))) (list_same xs))
layer_same (Term-F.Binary a) = subst Same (sym (rolls-Binary a)) (by_variants (inr (inr (inr (inr (inr (inr (inl (a, tt)))))))) (binary_same a))

pub same_term : (x y : Term) → eq x y ≡ true → x ≡ y
same_term = ind-Term Same (λ x y e. subst (λ (z : Term-F Term). Same (roll-Term z)) e (layer_same y))
