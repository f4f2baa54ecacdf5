-- Lists of groups, as far as they were read.
use Rattle.std.proofs.Common.{◌≡◌, Bool, true, false, ◌||◌, List, []}
use Rattle.std.proofs.Common.{◌∷◌, ◌++◌, sym, ap, refl, ◌∙◌}
use Rattle.std.specs.Prelude.{IsSome}
use Rattle.std.specs.List.{list_any, AllByRecursion}
use Rattle.pg_term.specs.declared.term.Term.{Term}
use Rattle.pg_term.specs.Same.{same_term}
use Rattle.pg_term.specs.contracts.term.TermEq.TheImpl.Laws as term_laws
use Rattle.pg_group.specs.Table.{Table, AreNames}

or_true : (b : Bool) → (b || true) ≡ true
or_true true = refl
or_true false = refl

-- a name of the list
is_in : (front back : List Term) (name : Term) → list_any (same_term name) (front ++ name ∷ back) ≡ true
is_in [] back name = ap (λ b. b || list_any (same_term name) back) (term_laws.laws-law.refl name)
is_in (x ∷ front) back name = ap (λ b. same_term name x || b) (is_in front back name) ∙ or_true (same_term name x)

-- its group is there
pub is_there : (table : Table) (names front back : List Term) (name : Term) → AreNames table names → names ≡ front ++ name ∷ back → IsSome (table name)
is_there table names front back name are e = sym (are.each name) ∙ ap (list_any (same_term name)) e ∙ is_in front back name

-- one more does
pub all_more : {A : Type 0} (P : A → Type 0) (xs : List A) (x : A) → AllByRecursion P xs → P x → AllByRecursion P (xs ++ x ∷ [])
all_more P [] x h k = (k, tt)
all_more P (y ∷ xs) x h k = (h.0, all_more P xs x h.1 k)
