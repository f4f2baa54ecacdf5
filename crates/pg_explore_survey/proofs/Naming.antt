-- Names, one after another.
use Rattle.std.proofs.Common.{◌≡◌, ◌<◌, ℕ, ◌+◌, List, [], ◌∷◌, ◌++◌, length, get_or}
use Rattle.std.proofs.Common.{take, sym, ap, ◌∙◌, subst, arith, ◌⊎◌, inl, inr}
use Rattle.std.specs.List.{Contains, flat_map}
use Rattle.std.proofs.lemmas.List.{append-nil, take_more}
use Rattle.std.proofs.lemmas.Grind.{flat_map-append}
use Rattle.std.proofs.lemmas.List.Elements.{Contains-append_cases, Contains-append_left}
use Rattle.std.proofs.lemmas.List.Elements.{Contains-append_right, Contains-get_or, Contains-push_cases}
use Rattle.pg_term.specs.declared.term.Term.{Term}
use Rattle.pg_explore_survey.specs.Names.{AddsNames}

not_in : (name : Term) → Contains [] name → ⊥
not_in name c = omega (arith, c.1)

pub adds_none : (old : List Term) → AddsNames [] old old
adds_none old name = (λ c. inl c, λ e. elim e as (λ _. Contains old name) [ inl c ↦ c | inr c ↦ absurd (not_in name c) ])

pub adds_then : (a b old mid new : List Term) → AddsNames a old mid → AddsNames b mid new → AddsNames (a ++ b) old new
adds_then a b old mid new h k name = (
  λ c. elim ((k name).0 c) as (λ _. Contains old name ⊎ Contains (a ++ b) name) [
    | inl m ↦ elim ((h name).0 m) as (λ _. Contains old name ⊎ Contains (a ++ b) name) [ inl o ↦ inl o | inr x ↦ inr (Contains-append_left a b name x) ]
    | inr x ↦ inr (Contains-append_right a b name x)
  ],
  λ e. elim e as (λ _. Contains new name) [
    | inl o ↦ (k name).1 (inl ((h name).1 (inl o)))
    | inr x ↦ elim (Contains-append_cases a b name x) as (λ _. Contains new name) [ inl y ↦ (k name).1 (inl ((h name).1 (inr y))) | inr y ↦ (k name).1 (inr y) ]
  ],
)

one_of : {X : Type 0} (f : X → List Term) (x : X) → flat_map f (x ∷ []) ≡ f x
one_of f x = append-nil (f x)

-- one more of a list
pub adds_more : {X : Type 0} (f : X → List Term) (xs : List X) (i : ℕ) (x : X) (old mid new : List Term) → i < length xs → x ≡ get_or xs i x → AddsNames (flat_map f (take i xs)) old mid → AddsNames (f x) mid new
    → AddsNames (flat_map f (take (i + 1) xs)) old new
adds_more f xs i x old mid new l e h k =
    let is = ap (flat_map f) (take_more xs i x l) ∙ flat_map-append f (take i xs) (get_or xs i x ∷ []) ∙ ap (λ (ys : List Term). flat_map f (take i xs) ++ ys) (one_of f (get_or xs i x) ∙ ap f (sym e)) in
    subst (λ (ys : List Term). AddsNames ys old new) (sym is) (adds_then (flat_map f (take i xs)) (f x) old mid new h k)

-- a name that is there
pub adds_there : (old : List Term) (name : Term) → Contains old name → AddsNames (name ∷ []) old old
adds_there old name c other = (λ d. inl d, λ e. elim e as (λ _. Contains old other) [ inl d ↦ d | inr d ↦ subst (λ (n : Term). Contains old n) (only other name d) c ])
  where
    only : (other name : Term) → Contains (name ∷ []) other → name ≡ other
    only other name d = elim (Contains-push_cases [] name other d) as (λ _. name ≡ other) [ inl n ↦ absurd (not_in other n) | inr e ↦ e ]

-- a name that is added
pub adds_one : (old : List Term) (name copy : Term) → copy ≡ name → AddsNames (name ∷ []) old (old ++ copy ∷ [])
adds_one old name copy e = subst (λ (n : Term). AddsNames (name ∷ []) old (old ++ n ∷ [])) (sym e) (λ other. (
  λ d. Contains-append_cases old (name ∷ []) other d,
  λ c. elim c as (λ _. Contains (old ++ name ∷ []) other) [ inl d ↦ Contains-append_left old (name ∷ []) other d | inr d ↦ Contains-append_right old (name ∷ []) other d ],
))

-- a name that is found
pub found_there : (names : List Term) (i : ℕ) (known name : Term) → i < length names → known ≡ get_or names i known → known ≡ name → Contains names name
found_there names i known name l e f = subst (λ (n : Term). Contains names n) (sym e ∙ f) (Contains-get_or names i known l)
