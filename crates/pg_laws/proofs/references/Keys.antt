-- Functions that are changed at one key, where a test decides whether two keys are one.
use Rattle.std.proofs.Common.{◌≡◌, ◌≢◌, Bool, true, false, cond, refl, sym, ap, subst, ◌∙◌, inl, inr, ◌⊎◌, nat_eq}
use Rattle.std.specs.Cmp.Lexicographic.{bytes_decides}
use Rattle.std.proofs.lemmas.Cmp.{nat_list_eq_equiv}
use Rattle.std.proofs.lemmas.Bool.{eqb-true, eq-eqb}
use Rattle.pg_term.specs.Same.{same_atom, same_term}
use Rattle.pg_term.specs.contracts.term.TermEq.TheImpl.Laws as term_laws
use Rattle.pg_term.proofs.Same as decided
use Rattle.pg_step.specs.PgGroup.Functions.{upd}

-- the test says whether two keys are one
pub record Decides {K : Type 0} (same : K → K → Bool) : Type 0 where
  pub refl : (x : K) → same x x ≡ true
  pub is : (x y : K) → same x y ≡ true → x ≡ y

pub atoms : Decides same_atom
atoms = record { refl = nat_list_eq_equiv.refl; is = λ x y e. (bytes_decides x y).0 e }

pub terms : Decides same_term
terms = record { refl = term_laws.laws-law.refl; is = decided.same_term }

pub numbers : Decides nat_eq
numbers = record { refl = λ x. eq-eqb x x refl; is = λ x y e. eqb-true x y e }

module _ {K : Type 0} (same : K → K → Bool) (d : Decides same) where
  -- two keys are one, or not
  pub cases : (x y : K) → (x ≡ y) ⊎ (x ≢ y)
  cases x y = go (same x y) refl
    where
      go : (b : Bool) → same x y ≡ b → (x ≡ y) ⊎ (x ≢ y)
      go true e = inl (d.is x y e)
      go false e = inr (λ q. let t : true ≡ false = sym (d.refl x) ∙ ap (same x) q ∙ e in absurd (cc))

  pub same_is : (x y : K) → x ≡ y → same x y ≡ true
  same_is x y e = ap (same x) (sym e) ∙ d.refl x

  pub differ : (x y : K) → x ≢ y → same x y ≡ false
  differ x y n = go (same x y) refl
    where
      go : (b : Bool) → same x y ≡ b → same x y ≡ false
      go true e = absurd (n (d.is x y e))
      go false e = e

  pub upd_at : {A : Type 0} (f : K → A) (k : K) (v : A) (x : K) → k ≡ x → upd same f k v x ≡ v
  unfolding upd
  upd_at f k v x e = ap (λ b. cond b v (f x)) (same_is k x e)

  pub upd_same : {A : Type 0} (f : K → A) (k : K) (v : A) → upd same f k v k ≡ v
  upd_same f k v = upd_at f k v k refl

  pub upd_other : {A : Type 0} (f : K → A) (k : K) (v : A) (x : K) → k ≢ x → upd same f k v x ≡ f x
  unfolding upd
  upd_other f k v x n = ap (λ b. cond b v (f x)) (differ k x n)

  -- to show and to use what holds of a function that was changed
  pub at_upd : {A : Type 0} (P : A → Type 0) (f : K → A) (k : K) (v : A) (x : K) → (k ≡ x → P v) → (k ≢ x → P (f x)) → P (upd same f k v x)
  at_upd {A} P f k v x here other = go (cases k x)
    where
      go : (k ≡ x) ⊎ (k ≢ x) → P (upd same f k v x)
      go (inl e) = subst P (sym (upd_at f k v x e)) (here e)
      go (inr n) = subst P (sym (upd_other f k v x n)) (other n)

  pub from_upd : {A : Type 0} (P : A → Type 0) (Q : Type 0) (f : K → A) (k : K) (v : A) (x : K) → P (upd same f k v x) → (k ≡ x → P v → Q) → (k ≢ x → P (f x) → Q) → Q
  from_upd {A} P Q f k v x h here other = go (cases k x)
    where
      go : (k ≡ x) ⊎ (k ≢ x) → Q
      go (inl e) = here e (subst P (upd_at f k v x e) h)
      go (inr n) = other n (subst P (upd_other f k v x n) h)

  -- the same, with the key that is read first
  pub split : (x k : K) → (x ≡ k) ⊎ (x ≢ k)
  split x k = go (cases k x)
    where
      go : (k ≡ x) ⊎ (k ≢ x) → (x ≡ k) ⊎ (x ≢ k)
      go (inl e) = inl (sym e)
      go (inr n) = inr (λ e. n (sym e))

  pub read_at : {A : Type 0} (f : K → A) (k : K) (v : A) (x : K) → x ≡ k → upd same f k v x ≡ v
  read_at f k v x e = upd_at f k v x (sym e)

  pub read_other : {A : Type 0} (f : K → A) (k : K) (v : A) (x : K) → x ≢ k → upd same f k v x ≡ f x
  read_other f k v x n = upd_other f k v x (λ e. n (sym e))

  pub at_read : {A : Type 0} (P : A → Type 0) (f : K → A) (k : K) (v : A) (x : K) → (x ≡ k → P v) → (x ≢ k → P (f x)) → P (upd same f k v x)
  at_read P f k v x here other = at_upd P f k v x (λ e. here (sym e)) (λ n. other (λ e. n (sym e)))

  pub from_read : {A : Type 0} (P : A → Type 0) (Q : Type 0) (f : K → A) (k : K) (v : A) (x : K) → P (upd same f k v x) → (x ≡ k → P v → Q) → (x ≢ k → P (f x) → Q) → Q
  from_read P Q f k v x h here other = from_upd P Q f k v x h (λ e. here (sym e)) (λ n. other (λ e. n (sym e)))
