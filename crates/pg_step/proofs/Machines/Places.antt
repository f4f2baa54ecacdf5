-- What a function that is changed at a place reads.
use Rattle.std.proofs.Common.{◌≡◌, ℕ, ◌≢◌, Bool, true, false, cond, nat_eq, refl, ap, sym, ◌∙◌, subst, inl, inr, ◌⊎◌}
use Rattle.std.proofs.Math.Path.{fun_ext}
use Rattle.std.proofs.lemmas.Bool.{eq-eqb, ne_eqb, eqb-true, cases_eq}
use Rattle.pg_group.specs.Functions.{upd}
use Rattle.pg_group.proofs.Changes.{upd_same, upd_twice}
use Rattle.pg_step.specs.Machines.Places.{set_at, set_way}

module _ {A : Type 0} (f : ℕ → A) (k : ℕ) (v : A) where
  -- at the place itself
  pub set_at_here : (x : ℕ) → x ≡ k → set_at f k v x ≡ v
  unfolding upd
  set_at_here x e = ap (λ b. cond b v (f x)) (eq-eqb k x (sym e))

  -- elsewhere
  pub set_at_other : (x : ℕ) → x ≢ k → set_at f k v x ≡ f x
  unfolding upd
  set_at_other x ne = ap (λ b. cond b v (f x)) (ne_eqb k x (λ e. ne (sym e)))

  -- by cases on the place
  pub by_place : (Q : A → Type 0) (x : ℕ) → (x ≡ k → Q v) → (x ≢ k → Q (f x)) → Q (set_at f k v x)
  by_place Q x here there = go (cases_eq x k)
    where
      go : (x ≡ k) ⊎ (x ≡ k → ⊥) → Q (set_at f k v x)
      go (inl e) = subst Q (sym (set_at_here x e)) (here e)
      go (inr n) = subst Q (sym (set_at_other x n)) (there n)

  -- what was there is put there
  pub set_at_same : v ≡ f k → set_at f k v ≡ f
  set_at_same e = upd_same _ f k (λ x t. eqb-true k x t) v e

  -- a second change takes the place of the first
  pub set_at_twice : (u : A) → set_at (set_at f k u) k v ≡ set_at f k v
  set_at_twice u = upd_twice _ f k u v

  -- what is read of each
  pub set_at_map : {B : Type 0} (h : A → B) → (λ x. h (set_at f k v x)) ≡ set_at (λ x. h (f x)) k (h v)
  unfolding upd
  set_at_map {B} h = fun_ext (λ x. go (nat_eq k x) (f x))
    where
      go : (b : Bool) (y : A) → h (cond b v y) ≡ cond b (h v) (h y)
      go true y = refl
      go false y = refl

module _ {A : Type 0} (f : ℕ → ℕ → A) (p q : ℕ) (v : A) where
  -- on the way itself
  pub set_way_here : set_way f p q v p q ≡ v
  set_way_here = ap (λ (g : ℕ → A). g q) (set_at_here f p (set_at (f p) q v) p refl) ∙ set_at_here (f p) q v q refl

  -- by cases on the way
  pub by_way : (Q : A → Type 0) (x y : ℕ) → (p ≡ x → q ≡ y → Q v) → (((p ≡ x) × (q ≡ y) → ⊥) → Q (f x y)) → Q (set_way f p q v x y)
  by_way Q x y here there = by_place f p (set_at (f p) q v) (λ (g : ℕ → A). Q (g y)) x
      (λ e. by_place (f p) q v Q y (λ d. here (sym e) (sym d)) (λ n. subst (λ z. Q (f z y)) e (there (λ both. n (sym both.1)))))
      (λ n. there (λ both. n (sym both.0)))

  -- on another way
  pub set_way_other : (x y : ℕ) → ((p ≡ x) × (q ≡ y) → ⊥) → set_way f p q v x y ≡ f x y
  set_way_other x y apart = by_way (λ z. z ≡ f x y) x y (λ e d. absurd (apart (e, d))) (λ _. refl)

  -- what is read of each
  pub set_way_map : {B : Type 0} (h : A → B) → (λ x y. h (set_way f p q v x y)) ≡ set_way (λ x y. h (f x y)) p q (h v)
  set_way_map {B} h =
      let rows : (λ x y. h (set_way f p q v x y)) ≡ set_at {A = ℕ → B} (λ x y. h (f x y)) p (λ y. h (set_at (f p) q v y)) =
      set_at_map {A = ℕ → A} f p (set_at (f p) q v) {B = ℕ → B} (λ row y. h (row y)) in
      rows ∙ ap (λ row. set_at {A = ℕ → B} (λ x y. h (f x y)) p row) (set_at_map (f p) q v h)
