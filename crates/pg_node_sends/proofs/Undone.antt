-- A lock that the own node granted is taken back.
use Rattle.std.proofs.Common.{◌≡◌, ◌↔◌, Bool, true, false, ◌&&◌, cond, Option, Some, None, refl, sym, ap, ◌∙◌}
use Rattle.std.proofs.Math.Path.{fun_ext}
use Rattle.pg_term.specs.declared.term.Term.{Term}
use Rattle.pg_term.specs.RefParts.{RefParts, ref_eq}
use Rattle.pg_term.specs.Same.{same_term}
use Rattle.pg_node_opens.specs.PgLock.Locks.{Locks, held, is_free, is_holder, grants, after_ask, given_up}

free_by : (asks formed free : Bool) → (asks && (formed && free)) ≡ true → (true && free) ≡ true
free_by true true free e = e
free_by true false free e = absurd (cc)
free_by false formed free e = absurd (cc)

-- a lock that the own node grants is free
pub granted_free : (asks formed granted : Bool) (locks : Locks) (name : Term) → granted ≡ grants formed locks name → (asks && granted) ≡ true → grants true locks name ≡ true
granted_free asks formed granted locks name e h = free_by asks formed (is_free (locks name)) (ap (λ b. asks && b) (sym e) ∙ h)

module _ (terms : (x y : Term) → (same_term x y ≡ true) ↔ (x ≡ y)) (references : (x y : RefParts) → (ref_eq x y ≡ true) ↔ (x ≡ y)) (locks : Locks) (name : Term) (reference : RefParts) where
  no_holder : (o : Option RefParts) → is_free o ≡ true → o ≡ None
  no_holder None e = refl
  no_holder (Some r) e = absurd (cc)

  held_here : held locks name (Some reference) name ≡ Some reference
  unfolding held
  held_here = ap (λ b. cond b (Some reference) (locks name)) ((terms name name).1 refl)

  freed : is_free (locks name) ≡ true → held (held locks name (Some reference)) name None ≡ locks
  unfolding held
  freed free = fun_ext (λ other. go other (same_term name other) (λ e. (terms name other).0 e))
    where
      go : (other : Term) (b : Bool) → (b ≡ true → name ≡ other) → cond b None (cond b (Some reference) (locks other)) ≡ locks other
      go other true is = sym (ap locks (sym (is refl)) ∙ no_holder (locks name) free)
      go other false is = refl

  pub given_back : (granted : Bool) → (granted ≡ true → grants true locks name ≡ true)
      → given_up (granted && is_holder (after_ask granted locks name reference name) reference) (after_ask granted locks name reference) name ≡ locks
  given_back true free = ap (λ b. given_up b (held locks name (Some reference)) name) (ap (λ o. is_holder o reference) held_here ∙ (references reference reference).1 refl) ∙ freed (free refl)
  given_back false free = refl

  -- where the command ends at once, the lock is not taken
  pub not_taken : (granted : Bool) → (granted ≡ true → grants true locks name ≡ true)
      → given_up (is_holder (locks name) reference) locks name
      ≡ given_up (is_holder (after_ask granted locks name reference name) reference) (after_ask granted locks name reference) name
  not_taken true free = ap (λ o. given_up (is_holder o reference) locks name) (no_holder (locks name) (free refl)) ∙ sym (given_back true free)
  not_taken false free = refl
