-- Counts by place, where one changes or places are added.
use Rattle.std.proofs.Common.{◌≡◌, ◌≢◌, ℕ, zero, suc, ◌+◌, ◌<◌, ◌≤◌, Bool, true, false, cond, nat_eq, get_or, take}
use Rattle.std.proofs.Common.{replicate, length, List, [], ◌∷◌, ◌++◌, refl, sym, ap, ◌∙◌, inl, inr, ◌⊎◌, arith}
use Rattle.std.specs.Prelude.{slice_set}
use Rattle.std.proofs.Math.Path.{fun_ext}
use Rattle.std.proofs.lemmas.Bool.{cases_eq, eq-eqb, ne_eqb}
use Rattle.std.proofs.lemmas.List.{get_or-set_same, get_or-set_other}
use Rattle.pg_node_opens.specs.PgGroup.Functions.{upd}

-- what is there is read whatever would stand for none
pub read_any : (xs : List ℕ) (k a b : ℕ) → k < length xs → get_or xs k a ≡ get_or xs k b
read_any [] k a b l = absurd (omega (arith, l))
read_any (x ∷ xs) zero a b l = refl
read_any (x ∷ xs) (suc k) a b l = read_any xs k a b (omega (arith, l))

-- one count changes
pub count_set : (xs : List ℕ) (k v : ℕ) → k < length xs → (λ i. get_or (slice_set xs k v) i 0) ≡ upd nat_eq (λ i. get_or xs i 0) k v
unfolding upd
count_set xs k v inside = fun_ext (λ i. go i (cases_eq i k))
  where
    go : (i : ℕ) → (i ≡ k) ⊎ (i ≢ k) → get_or (slice_set xs k v) i 0 ≡ cond (nat_eq k i) v (get_or xs i 0)
    go i (inl e) = ap (get_or (slice_set xs k v) (i)) refl ∙ ((λ j. get_or (slice_set xs k v) (e j) 0) ∙ (get_or-set_same xs k v 0 inside ∙ ap (λ b. cond b v (get_or xs i 0)) (sym (eq-eqb k i (sym e)))))
    go i (inr n) = get_or-set_other xs k i v 0 n ∙ ap (λ b. cond b v (get_or xs i 0)) (sym (ne_eqb k i (λ e. n (sym e))))

-- a count that was read, and is one more
pub count_more : (xs : List ℕ) (k v : ℕ) → k < length xs → v ≡ get_or xs k v → (λ i. get_or (slice_set xs k (v + 1)) i 0) ≡ upd nat_eq (λ i. get_or xs i 0) k (get_or xs k 0 + 1)
count_more xs k v inside here = count_set xs k (v + 1) inside ∙ ap (λ n. upd nat_eq (λ i. get_or xs i 0) k (n + 1)) (here ∙ read_any xs k v 0 inside)

zeros : (m i : ℕ) → ◌≡◌ {A = ℕ} (get_or (replicate m 0) i 0) 0
zeros zero i = refl
zeros (suc m) zero = refl
zeros (suc m) (suc i) = zeros m i

-- places are added
padded : (xs : List ℕ) (n m i : ℕ) → length xs ≤ n → get_or (take n xs ++ replicate m 0) i 0 ≡ get_or xs i 0
padded [] zero m i l = zeros m i
padded [] (suc n) m i l = zeros m i
padded (x ∷ xs) zero m i l = absurd (omega (arith, l))
padded (x ∷ xs) (suc n) m zero l = refl
padded (x ∷ xs) (suc n) m (suc i) l = padded xs n m i (omega (arith, l))

pub counts_padded : (xs ys : List ℕ) (ok : Bool) (n m : ℕ) → length xs ≤ n → ys ≡ cond ok (take n xs ++ replicate m 0) xs → ◌≡◌ {A = ℕ → ℕ} (λ i. get_or ys i 0) (λ i. get_or xs i 0)
counts_padded xs ys true n m l is = fun_ext (λ i. ap (λ zs. get_or zs i 0) is ∙ padded xs n m i l)
counts_padded xs ys false n m l is = fun_ext (λ i. ap (λ zs. get_or zs i 0) is)
