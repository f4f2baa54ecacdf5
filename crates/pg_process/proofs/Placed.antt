-- Things of a list, by their places, where one of them changes.
use Rattle.std.proofs.Common.{◌≡◌, ◌≢◌, ◌<◌, ◌∙◌, ℕ, zero, suc, Bool, true, false, cond, nat_eq, List, [], ◌∷◌, get_or, length, refl, sym, ap, arith}
use Rattle.std.specs.Prelude.{slice_set}
use Rattle.std.proofs.lemmas.Bool.{eq-eqb, ne_eqb}
use Rattle.std.proofs.Math.Dec.{eqb-zero-suc, eqb-suc-zero, eqb-suc-suc}
use Rattle.std.proofs.Math.Path.{fun_ext}
use Rattle.pg_node.specs.PgGroup.Functions.{upd}
use Rattle.pg_process.specs.Situations.{at_place, seen_in}

module _ {A B : Type 0} (see : A → B) (none : B) where
  pub seen_set : (xs : List A) (k : ℕ) (x : A) → k < length xs → (place : ℕ) → seen_in see none (slice_set xs k x) place ≡ cond (nat_eq k place) (see x) (seen_in see none xs place)
  seen_set [] k x within place = absurd (omega arith)
  seen_set (y ∷ xs) zero x within zero = refl
  seen_set (y ∷ xs) zero x within (suc n) = ap (λ b. cond b (see x) (seen_in see none xs n)) (sym (eqb-zero-suc n))
  seen_set (y ∷ xs) (suc k) x within zero = ap (λ b. cond b (see x) (see y)) (sym (eqb-suc-zero k))
  seen_set (y ∷ xs) (suc k) x within (suc n) = seen_set xs k x (omega arith) n ∙ ap (λ b. cond b (see x) (seen_in see none xs n)) (sym (eqb-suc-suc k n))

  pub seen_here : (xs : List A) (k : ℕ) (x : A) → k < length xs → x ≡ get_or xs k x → seen_in see none xs k ≡ see x
  seen_here [] k x within e = absurd (omega arith)
  seen_here (y ∷ xs) zero x within e = ap see (sym e)
  seen_here (y ∷ xs) (suc k) x within e = seen_here xs k x (omega arith) e

  -- one of them changes
  pub one_seen : (xs : List A) (k : ℕ) (old new : A) (change : B → B) → k < length xs → old ≡ get_or xs k old → see new ≡ change (see old)
      → seen_in see none (slice_set xs k new) ≡ at_place k change (seen_in see none xs)
  unfolding upd
  one_seen xs k old new change within here is = fun_ext (λ place. seen_set xs k new within place
      ∙ ap (λ (b : B). cond (nat_eq k place) b (seen_in see none xs place)) (is ∙ ap change (sym (seen_here xs k old within here))))

  -- one of them is another that is seen as the same
  same_at : (xs : List A) (k : ℕ) (old new : A) (place : ℕ) → k < length xs → old ≡ get_or xs k old → see new ≡ see old → seen_in see none (slice_set xs k new) place ≡ seen_in see none xs place
  same_at [] k old new place within here is = absurd (omega arith)
  same_at (y ∷ xs) zero old new zero within here is = is ∙ ap see here
  same_at (y ∷ xs) zero old new (suc n) within here is = refl
  same_at (y ∷ xs) (suc k) old new zero within here is = refl
  same_at (y ∷ xs) (suc k) old new (suc n) within here is = same_at xs k old new n (omega arith) here is

  pub same_seen : (xs : List A) (k : ℕ) (old new : A) → k < length xs → old ≡ get_or xs k old → see new ≡ see old → seen_in see none (slice_set xs k new) ≡ seen_in see none xs
  same_seen xs k old new within here is = fun_ext (λ place. same_at xs k old new place within here is)

-- what stands where one of them was set
pub set_here : {A : Type 0} (xs : List A) (k : ℕ) (x there : A) → k < length xs → there ≡ get_or (slice_set xs k x) k there → there ≡ x
set_here [] k x there within is = absurd (omega arith)
set_here (y ∷ xs) zero x there within is = is
set_here (y ∷ xs) (suc k) x there within is = set_here xs k x there (omega arith) is

module _ {B : Type 0} (things : ℕ → B) (k : ℕ) (change : B → B) where
  -- the changed one
  pub placed_here : at_place k change things k ≡ change (things k)
  unfolding upd
  placed_here = ap (λ b. cond b (change (things k)) (things k)) (eq-eqb k k refl)

  -- any other
  pub placed_else : (other : ℕ) → other ≢ k → at_place k change things other ≡ things other
  unfolding upd
  placed_else other n = ap (λ b. cond b (change (things k)) (things other)) (ne_eqb k other (λ e. n (sym e)))

  -- it changes twice
  pub placed_twice : (again : B → B) → at_place k again (at_place k change things) ≡ at_place k (λ x. again (change x)) things
  unfolding upd
  placed_twice again = fun_ext (λ place. ap (λ (x : B). cond (nat_eq k place) (again x) (cond (nat_eq k place) (change (things k)) (things place))) (ap (λ b. cond b (change (things k)) (things k)) (eq-eqb k k refl))
      ∙ chosen (nat_eq k place) (again (change (things k))) (change (things k)) (things place))
    where
      chosen : (b : Bool) (x y z : B) → cond b x (cond b y z) ≡ cond b x z
      chosen true x y z = refl
      chosen false x y z = refl
