-- Sums over places.
use Rattle.std.proofs.Common.{◌≡◌, ◌≢◌, ◌⊎◌, inl, inr, ℕ, ◌+◌, ◌*◌, ◌<◌, ◌≤◌, zero, suc}
use Rattle.std.proofs.Common.{nat_eq, cond, refl, ap, sym, ◌∙◌, subst, add-one, arith}
use Rattle.std.proofs.Math.Nat.{mul-add, mul-suc, mul-zero}
use Rattle.std.proofs.lemmas.Bool.{cases_eq, eq-eqb, ne_eqb}
unfoldable pub use Rattle.pg_laws.specs.Quiet.{total}

pub total_same : (n : ℕ) (f g : ℕ → ℕ) → ((k : ℕ) → k < n → f k ≡ g k) → total n f ≡ total n g
unfolding total
total_same zero f g same = refl
total_same (suc n) f g same = λ i. same n (omega arith) i + total_same n f g (λ k below. same k (omega arith)) i

-- one less at one place
pub total_less : (n p : ℕ) (f g : ℕ → ℕ) → p < n → f p ≡ suc (g p) → ((k : ℕ) → k < n → k ≢ p → f k ≡ g k) → total n f ≡ suc (total n g)
unfolding total
total_less zero p f g below less same = absurd (omega arith)
total_less (suc n) p f g below less same = go (cases_eq n p) (λ under. total_less n p f g under less (λ k low. same k (omega arith)))
  where
    go : (n ≡ p) ⊎ (n ≡ p → ⊥) → (p < n → total n f ≡ suc (total n g)) → f n + total n f ≡ suc (g n + total n g)
    go (inl e) again =
        let here : f n ≡ suc (g n) = subst (λ k. f k ≡ suc (g k)) (sym e) less in
        let rest : total n f ≡ total n g = total_same n f g (λ k under. same k (omega arith) (λ is. absurd (omega (arith, e, is, under)))) in
        omega (arith, here, rest)
    go (inr apart) again =
        let here : f n ≡ g n = same n (omega arith) apart in
        let rest : total n f ≡ suc (total n g) = again (omega (arith, below, apart)) in
        omega (arith, here, rest)

-- all the same
pub total_all : (n k : ℕ) (f : ℕ → ℕ) → ((p : ℕ) → p < n → f p ≡ k) → total n f ≡ k * n
unfolding total
total_all zero k f each = omega arith
total_all (suc n) k f each =
    let here : f n ≡ k = each n (omega arith) in
    let rest : total n f ≡ k * n = total_all n k f (λ p below. each p (omega arith)) in
    let more : k * suc n ≡ k * n + k = mul-suc k n in
    omega (arith, here, rest, more)

-- all but one the same, which is none
abbrev pub but : ℕ → (ℕ → ℕ) → ℕ → ℕ
but h f p = cond (nat_eq h p) 0 (f p)

pub but_here : (h : ℕ) (f : ℕ → ℕ) → but h f h ≡ 0
but_here h f = ap (λ b. cond b 0 (f h)) (eq-eqb h h refl)

pub but_other : (h : ℕ) (f : ℕ → ℕ) (p : ℕ) → h ≢ p → but h f p ≡ f p
but_other h f p apart = ap (λ b. cond b 0 (f p)) (ne_eqb h p apart)

pub total_but : (n h k : ℕ) → h < n → total n (but h (λ p. k)) + k ≡ k * n
unfolding total
total_but zero h k below = absurd (omega arith)
total_but (suc n) h k below = go (cases_eq h n) (total_but n h k)
  where
    more : k * suc n ≡ k * n + k
    more = mul-suc k n

    go : (h ≡ n) ⊎ (h ≡ n → ⊥) → (h < n → total n (but h (λ p. k)) + k ≡ k * n) → but h (λ p. k) n + total n (but h (λ p. k)) + k ≡ k * suc n
    go (inl e) again =
        let here : but h (λ p. k) n ≡ 0 = subst (λ z. but h (λ p. k) z ≡ 0) e (but_here h (λ p. k)) in
        let rest : total n (but h (λ p. k)) ≡ k * n = total_all n k (but h (λ p. k)) (λ p under. but_other h (λ q. k) p (λ is. absurd (omega (arith, e, is, under)))) in
        omega (arith, here, rest, more)
    go (inr apart) again =
        let here : but h (λ p. k) n ≡ k = but_other h (λ p. k) n apart in
        let rest : total n (but h (λ p. k)) + k ≡ k * n = again (omega (arith, below, apart)) in
        omega (arith, here, rest, more)

-- sums of greater numbers are greater, and where they are not the numbers are the same
pub total_le : (n : ℕ) (f g : ℕ → ℕ) → ((k : ℕ) → k < n → f k ≤ g k) → total n f ≤ total n g
unfolding total
total_le zero f g le = omega arith
total_le (suc n) f g le =
    let here : f n ≤ g n = le n (omega arith) in
    let rest : total n f ≤ total n g = total_le n f g (λ k below. le k (omega arith)) in
    omega (arith, here, rest)

pub total_tight : (n : ℕ) (f g : ℕ → ℕ) → ((k : ℕ) → k < n → f k ≤ g k) → total n g ≤ total n f → (k : ℕ) → k < n → f k ≡ g k
unfolding total
total_tight zero f g le no_more k below = absurd (omega arith)
total_tight (suc n) f g le no_more k below = go (cases_eq n k) (λ fewer under. total_tight n f g (λ j low. le j (omega arith)) fewer k under)
  where
    here : f n ≤ g n
    here = le n (omega arith)

    rest : total n f ≤ total n g
    rest = total_le n f g (λ j under. le j (omega arith))

    go : (n ≡ k) ⊎ (n ≡ k → ⊥) → (total n g ≤ total n f → k < n → f k ≡ g k) → f k ≡ g k
    go (inl e) again = let same : f n ≡ g n = omega (arith, here, rest, no_more) in subst (λ z. f z ≡ g z) e same
    go (inr apart) again = again (omega (arith, here, rest, no_more)) (omega (arith, below, apart))

-- one number more
pub total_more : (n : ℕ) (f : ℕ → ℕ) → total (n + 1) f ≡ f n + total n f
unfolding total
total_more n f = ap (λ k. total k f) (add-one n)

pub total_add : (n : ℕ) (f g : ℕ → ℕ) → total n (λ k. f k + g k) ≡ total n f + total n g
unfolding total
total_add zero f g = refl
total_add (suc n) f g = let rest : total n (λ k. f k + g k) ≡ total n f + total n g = total_add n f g in omega (arith, rest)

-- a change at one place
pub total_change : (n p : ℕ) (f g : ℕ → ℕ) (a b : ℕ) → p < n → g p + b ≡ f p + a → ((k : ℕ) → k < n → k ≢ p → g k ≡ f k) → total n g + b ≡ total n f + a
unfolding total
total_change zero p f g a b below change same = absurd (omega arith)
total_change (suc n) p f g a b below change same = go (cases_eq n p) (λ under. total_change n p f g a b under change (λ k low. same k (omega arith)))
  where
    go : (n ≡ p) ⊎ (n ≡ p → ⊥) → (p < n → total n g + b ≡ total n f + a) → g n + total n g + b ≡ f n + total n f + a
    go (inl e) again =
        let here : g n + b ≡ f n + a = subst (λ k. g k + b ≡ f k + a) (sym e) change in
        let rest : total n g ≡ total n f = total_same n g f (λ k under. same k (omega arith) (λ is. absurd (omega (arith, e, is, under)))) in
        omega (arith, here, rest)
    go (inr apart) again =
        let here : g n ≡ f n = same n (omega arith) apart in
        let rest : total n g + b ≡ total n f + a = again (omega (arith, below, apart)) in
        omega (arith, here, rest)

-- and one at each of two
pub total_changes : (n p q : ℕ) (f g : ℕ → ℕ) (a b : ℕ) → p ≢ q → p < n → q < n → g p ≡ f p + a → g q + b ≡ f q → ((k : ℕ) → k < n → k ≢ p → k ≢ q → g k ≡ f k) → total n g + b ≡ total n f + a
total_changes n p q f g a b apart below under more less same =
    let first : total n between + 0 ≡ total n f + a = total_change n p f between a 0 below (omega (arith, at_p, more)) (λ k _ other. between_other k (λ e. other (sym e))) in
    let last : total n g + b ≡ total n between + 0 = total_change n q between g 0 b under (omega (arith, at_q, less)) (λ k low other. rest k low other (cases_eq p k)) in
    omega (arith, first, last)
  where
    between : ℕ → ℕ
    between k = cond (nat_eq p k) (g p) (f k)

    at_p : between p ≡ g p
    at_p = ap (λ b. cond b (g p) (f p)) (eq-eqb p p refl)

    between_other : (k : ℕ) → p ≢ k → between k ≡ f k
    between_other k n = ap (λ b. cond b (g p) (f k)) (ne_eqb p k n)

    at_q : between q ≡ f q
    at_q = between_other q apart

    rest : (k : ℕ) → k < n → k ≢ q → (p ≡ k) ⊎ (p ≡ k → ⊥) → g k ≡ between k
    rest k low other (inl e) = subst (λ z. g z ≡ between z) e (sym at_p)
    rest k low other (inr n) = same k low (λ e. n (sym e)) other ∙ sym (between_other k n)

-- each is part of the sum
pub total_term : (n p : ℕ) (f : ℕ → ℕ) → p < n → f p ≤ total n f
unfolding total
total_term zero p f below = absurd (omega arith)
total_term (suc n) p f below = go (cases_eq n p) (λ under. total_term n p f under)
  where
    go : (n ≡ p) ⊎ (n ≡ p → ⊥) → (p < n → f p ≤ total n f) → f p ≤ f n + total n f
    go (inl e) again = let here : f n ≡ f p = ap f e in omega (arith, here)
    go (inr apart) again = let rest : f p ≤ total n f = again (omega (arith, below, apart)) in omega (arith, rest)

pub total_scale : (n k : ℕ) (f : ℕ → ℕ) → total n (λ c. k * f c) ≡ k * total n f
unfolding total
total_scale zero k f = sym (mul-zero k)
total_scale (suc n) k f =
    let rest : total n (λ c. k * f c) ≡ k * total n f = total_scale n k f in
    let both : k * (f n + total n f) ≡ k * f n + k * total n f = mul-add k (f n) (total n f) in
    omega (arith, rest, both)

-- sums of sums, in the other order
pub total_swap : (a b : ℕ) (f : ℕ → ℕ → ℕ) → total a (λ i. total b (λ j. f i j)) ≡ total b (λ j. total a (λ i. f i j))
unfolding total
total_swap zero b f = let none : total b (λ j. 0) ≡ 0 * b = total_all b 0 (λ j. 0) (λ j _. refl) in let zero_is : 0 * b ≡ 0 = omega arith in sym (none ∙ zero_is)
total_swap (suc a) b f = ap (λ k. total b (λ j. f a j) + k) (total_swap a b f) ∙ sym (total_add b (λ j. f a j) (λ j. total a (λ i. f i j)))

-- a number that is lower, and none that is higher
pub total_lower : (n p : ℕ) (f g : ℕ → ℕ) → p < n → f p < g p → ((k : ℕ) → k < n → f k ≤ g k) → total n f < total n g
unfolding total
total_lower zero p f g below less each = absurd (omega arith)
total_lower (suc n) p f g below less each = go (cases_eq n p) (λ under. total_lower n p f g under less (λ k low. each k (omega arith)))
  where
    go : (n ≡ p) ⊎ (n ≡ p → ⊥) → (p < n → total n f < total n g) → f n + total n f < g n + total n g
    go (inl e) again =
        let here : f n < g n = subst (λ k. f k < g k) (sym e) less in
        let rest : total n f ≤ total n g = total_le n f g (λ k under. each k (omega arith)) in
        omega (arith, here, rest)
    go (inr apart) again =
        let here : f n ≤ g n = each n (omega arith) in
        let rest : total n f < total n g = again (omega (arith, below, apart)) in
        omega (arith, here, rest)

-- at one place at most
pub total_one : (n p k : ℕ) → total n (λ y. cond (nat_eq p y) k 0) ≤ k
unfolding total
total_one zero p k = omega arith
total_one (suc n) p k = go (cases_eq p n) (total_one n p k)
  where
    go : (p ≡ n) ⊎ (p ≡ n → ⊥) → total n (λ y. cond (nat_eq p y) k 0) ≤ k → cond (nat_eq p n) k 0 + total n (λ y. cond (nat_eq p y) k 0) ≤ k
    go (inl e) again =
        let here : cond (nat_eq p n) k 0 ≡ k = ap (λ b. cond b k 0) (eq-eqb p n e) in
        let rest : total n (λ y. cond (nat_eq p y) k 0) ≡ 0 * n = total_all n 0 (λ y. cond (nat_eq p y) k 0) (λ y under. ap (λ b. cond b k 0) (ne_eqb p y (λ is. absurd (omega (arith, e, is, under))))) in
        omega (arith, here, rest)
    go (inr apart) again =
        let here : cond (nat_eq p n) k 0 ≡ 0 = ap (λ b. cond b k 0) (ne_eqb p n apart) in
        omega (arith, here, again)

-- ---- what can be found among places

pub find_place : (n : ℕ) (P Q : ℕ → Type 0) → ((k : ℕ) → P k ⊎ Q k) → ((k : ℕ) × P k) ⊎ ((k : ℕ) → k < n → Q k)
find_place zero P Q each = inr (λ k below. absurd (omega arith))
find_place (suc n) P Q each = go (each n) (find_place n P Q each)
  where
    go : P n ⊎ Q n → ((k : ℕ) × P k) ⊎ ((k : ℕ) → k < n → Q k) → ((k : ℕ) × P k) ⊎ ((k : ℕ) → k < suc n → Q k)
    go (inl found) _ = inl (n, found)
    go (inr none) (inl found) = inl found
    go (inr none) (inr all) = inr (λ k below. last k below (cases_eq n k))
      where
        last : (k : ℕ) → k < suc n → (n ≡ k) ⊎ (n ≡ k → ⊥) → Q k
        last k below (inl e) = subst Q e none
        last k below (inr other) = all k (omega (arith, below, other))
