-- Functions that are changed at one key.
use Rattle.std.proofs.Common.{◌≡◌, Bool, true, false, cond, refl, ap, ◌∙◌}
use Rattle.std.proofs.Math.Path.{fun_ext}
use Rattle.pg_group.specs.Functions.{upd}

module _ {K A : Type 0} (same : K → K → Bool) (f : K → A) (k : K) where
  -- a function that is f but for v at k
  pub upd_from : (g : K → A) (v : A) → ((x : K) → g x ≡ cond (same k x) v (f x)) → g ≡ upd same f k v
  unfolding upd
  upd_from g v each = fun_ext each

  cond_same : (b : Bool) (v x : A) → (b ≡ true → v ≡ x) → cond b v x ≡ x
  cond_same true v x e = e refl
  cond_same false v x e = refl

  -- what was there is put there
  pub upd_same : ((x : K) → same k x ≡ true → k ≡ x) → (v : A) → v ≡ f k → upd same f k v ≡ f
  unfolding upd
  upd_same decides v e = fun_ext (λ x. cond_same (same k x) v (f x) (λ t. e ∙ ap f (decides x t)))

  -- at the key itself
  pub upd_at : (v : A) → same k k ≡ true → upd same f k v k ≡ v
  unfolding upd
  upd_at v e = ap (λ b. cond b v (f k)) e

  -- elsewhere
  pub upd_other : (v : A) (x : K) → same k x ≡ false → upd same f k v x ≡ f x
  unfolding upd
  upd_other v x e = ap (λ b. cond b v (f x)) e

  -- by cases on the key
  pub upd_by : (P : A → Type 0) (v : A) (x : K) → (same k x ≡ true → P v) → (same k x ≡ false → P (f x)) → P (upd same f k v x)
  unfolding upd
  upd_by P v x here there = go (same k x) here there
    where
      go : (b : Bool) → (b ≡ true → P v) → (b ≡ false → P (f x)) → P (cond b v (f x))
      go true p q = p refl
      go false p q = q refl

  -- a second change at the key takes the place of the first
  pub upd_twice : (w v : A) → upd same (upd same f k w) k v ≡ upd same f k v
  unfolding upd
  upd_twice w v = fun_ext (λ x. go (same k x) (f x))
    where
      go : (b : Bool) (y : A) → cond b v (cond b w y) ≡ cond b v y
      go true y = refl
      go false y = refl
