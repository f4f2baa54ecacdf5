-- Listings of the steps that can be made.
use Rattle.std.proofs.Common.{◌≡◌, ◌⊎◌, ◌<◌, ◌≤◌, ℕ, ◌+◌, List, [], ◌∷◌, ◌++◌, length}
use Rattle.std.proofs.Common.{map, refl, sym, ap, ◌∙◌, inl, inr, subst, arith}
use Rattle.std.proofs.lemmas.List.Elements.{Contains-append_left, Contains-push, Contains-push_cases}
use Rattle.std.specs.List.{Contains}
use Rattle.pg_explore.specs.declared.moves.Move.{Move}
use Rattle.pg_explore.specs.declared.moves.Move.TheVariants.{Take, Next, Loss, Retry, SeeLoss}
use Rattle.pg_explore.specs.declared.plan.Plan.{Plan}
use Rattle.pg_explore.specs.Listings.{ListsWanted, AddsOpen, IsAtNode, IsListed, IsMoveOfPeer, IsOfPeers}
use Rattle.pg_explore.specs.Listings.{IsOfPeersBelow, IsOpenMove, IsPlannedOf, IsRetryOf, IsThere, node_of}
use Rattle.pg_explore.specs.Moments.{Sight}

-- ---- lists

pub adds_none : (W : Move → Type 0) (old : List Move) → ((step : Move) → W step → ⊥) → ListsWanted W old old
adds_none W old none = record { kept = λ step h. h; all = λ step w. absurd (none step w); only = λ step h. inl h }

pub adds_one : (W : Move → Type 0) (old : List Move) (x : Move) → W x → ((step : Move) → W step → step ≡ x) → ListsWanted W old (old ++ x ∷ [])
adds_one W old x w same = record {
  kept = λ step h. Contains-append_left old (x ∷ []) step h;
  all = λ step v. subst (λ s. Contains (old ++ x ∷ []) s) (sym (same step v)) (Contains-push old x);
  only = λ step h. go step (Contains-push_cases old x step h);
}
  where
    go : (step : Move) → Contains old step ⊎ (x ≡ step) → Contains old step ⊎ W step
    go step (inl h) = inl h
    go step (inr e) = inr (subst W e w)

pub adds_both : (P Q W : Move → Type 0) (a b c : List Move) → ((step : Move) → W step → P step ⊎ Q step) → ((step : Move) → P step → W step) → ((step : Move) → Q step → W step)
    → ListsWanted P a b → ListsWanted Q b c → ListsWanted W a c
adds_both P Q W a b c cases left right x y = record {
  kept = λ step h. y.kept step (x.kept step h);
  all = λ step w. found step (cases step w);
  only = λ step h. back step (y.only step h);
}
  where
    found : (step : Move) → P step ⊎ Q step → Contains c step
    found step (inl p) = y.kept step (x.all step p)
    found step (inr q) = y.all step q

    first : (step : Move) → Contains a step ⊎ P step → Contains a step ⊎ W step
    first step (inl h) = inl h
    first step (inr p) = inr (left step p)

    back : (step : Move) → Contains b step ⊎ Q step → Contains a step ⊎ W step
    back step (inl h) = first step (x.only step h)
    back step (inr q) = inr (right step q)

pub adds_same : (P W : Move → Type 0) (a b : List Move) → ((step : Move) → W step → P step) → ((step : Move) → P step → W step) → ListsWanted P a b → ListsWanted W a b
adds_same P W a b to from x = record {
  kept = x.kept;
  all = λ step w. x.all step (to step w);
  only = λ step h. go step (x.only step h);
}
  where
    go : (step : Move) → Contains a step ⊎ P step → Contains a step ⊎ W step
    go step (inl h) = inl h
    go step (inr p) = inr (from step p)

none_in : (step : Move) → Contains [] step → ⊥
none_in step h = omega (arith, h.1)

-- ---- kinds of steps

module _ (plans : List Plan) (most : ℕ) (sight : Sight) where
  -- of peers and what is planned, and of commands that are tried again
  pub kinds : (i : ℕ) (old a b c : List Move) → AddsOpen plans most sight (IsOfPeers i) old a → AddsOpen plans most sight (IsPlannedOf i) a b → AddsOpen plans most sight (IsRetryOf i) b c
      → AddsOpen plans most sight (IsAtNode i) old c
  kinds i old a b c x y z = adds_both (λ s. IsOpenMove plans most sight s × (IsOfPeers i s ⊎ IsPlannedOf i s)) _ _ old b c cases left (λ s q. (q.0, retry_at s q.1)) (adds_both _ _ _ old a b both (λ s p. (p.0, inl p.1)) (λ s q. (q.0, inr q.1)) x y) z
    where
      both : (s : Move) → IsOpenMove plans most sight s × (IsOfPeers i s ⊎ IsPlannedOf i s) → (IsOpenMove plans most sight s × IsOfPeers i s) ⊎ (IsOpenMove plans most sight s × IsPlannedOf i s)
      both s (o, inl h) = inl (o, h)
      both s (o, inr h) = inr (o, h)

      cases : (s : Move) → IsOpenMove plans most sight s × IsAtNode i s → (IsOpenMove plans most sight s × (IsOfPeers i s ⊎ IsPlannedOf i s)) ⊎ (IsOpenMove plans most sight s × IsRetryOf i s)
      cases (Take j q) w = inl (w.0, inl w.1)
      cases (Next j) w = inl (w.0, inr w.1)
      cases (Loss j keep) w = inl (w.0, inr w.1)
      cases (Retry j op) w = inr (w.0, w.1)
      cases (SeeLoss j q) w = inl (w.0, inl w.1)

      either_at : (s : Move) → IsOfPeers i s ⊎ IsPlannedOf i s → IsAtNode i s
      either_at (Take j q) (inl h) = h
      either_at (Take j q) (inr h) = absurd h
      either_at (Next j) (inl h) = absurd h
      either_at (Next j) (inr h) = h
      either_at (Loss j keep) (inl h) = absurd h
      either_at (Loss j keep) (inr h) = h
      either_at (Retry j op) (inl h) = absurd h
      either_at (Retry j op) (inr h) = absurd h
      either_at (SeeLoss j q) (inl h) = h
      either_at (SeeLoss j q) (inr h) = absurd h

      left : (s : Move) → IsOpenMove plans most sight s × (IsOfPeers i s ⊎ IsPlannedOf i s) → IsOpenMove plans most sight s × IsAtNode i s
      left s w = (w.0, either_at s w.1)

      retry_at : (s : Move) → IsRetryOf i s → IsAtNode i s
      retry_at (Take j q) h = absurd h
      retry_at (Next j) h = absurd h
      retry_at (Loss j keep) h = absurd h
      retry_at (Retry j op) h = h
      retry_at (SeeLoss j q) h = absurd h

  -- whose step it is that can be made
  pub there : (s : Move) → IsOpenMove plans most sight s → IsThere sight (node_of s)
  there (Take i p) h = h.0
  there (Next i) h = h.0
  there (Loss i keep) h = h.0
  there (Retry i op) h = h.0
  there (SeeLoss i p) h = h.0

  -- those of the nodes below a place
  abbrev pub IsBelow : ℕ → Move → Type 0
  IsBelow count s = IsOpenMove plans most sight s × (node_of s < count)

  low_or_same : (n i : ℕ) → n < i + 1 → (n < i) ⊎ (n ≡ i)
  low_or_same n i l = search arith

  -- a node more
  pub one_more : (i : ℕ) (a b : List Move) → ListsWanted (IsBelow i) [] a → AddsOpen plans most sight (IsAtNode i) a b → ListsWanted (IsBelow (i + 1)) [] b
  one_more i a b x y = adds_both _ _ _ [] a b cases (λ s p. (p.0, omega (arith, p.1))) (λ s q. (q.0, omega (arith, q.1))) x y
    where
      pick : (s : Move) → IsOpenMove plans most sight s → (node_of s < i) ⊎ (node_of s ≡ i) → IsBelow i s ⊎ (IsOpenMove plans most sight s × IsAtNode i s)
      pick s o (inl l) = inl (o, l)
      pick s o (inr e) = inr (o, e)

      cases : (s : Move) → IsBelow (i + 1) s → IsBelow i s ⊎ (IsOpenMove plans most sight s × IsAtNode i s)
      cases s w = pick s w.0 (low_or_same (node_of s) i w.1)

  -- a node more that is lost
  pub lost_more : (i : ℕ) (a : List Move) → (IsThere sight i → ⊥) → ListsWanted (IsBelow i) [] a → ListsWanted (IsBelow (i + 1)) [] a
  lost_more i a lost x = one_more i a a x (adds_none _ a (λ s w. lost (subst (λ n. IsThere sight n) w.1 (there s w.0))))

  -- all nodes
  pub all_listed : (count : ℕ) (moves : List Move) → length sight.progress ≤ count → ListsWanted (IsBelow count) [] moves → IsListed plans most sight moves
  all_listed count moves many x = λ s. (back s, λ o. x.all s (o, omega (arith, many, (there s o).place)))
    where
      pick : (s : Move) → Contains [] s ⊎ IsBelow count s → IsOpenMove plans most sight s
      pick s (inl h) = absurd (none_in s h)
      pick s (inr w) = w.0

      back : (s : Move) → Contains moves s → IsOpenMove plans most sight s
      back s h = pick s (x.only s h)

  -- ---- peers

  abbrev pub IsOfBelow : ℕ → ℕ → Move → Type 0
  IsOfBelow i count s = IsOpenMove plans most sight s × IsOfPeersBelow i count s

  below_cases : (i p : ℕ) (s : Move) → IsOfPeersBelow i (p + 1) s → IsOfPeersBelow i p s ⊎ IsMoveOfPeer i p s
  below_cases i p (Take j q) h = go (low_or_same q p h.1)
    where
      go : (q < p) ⊎ (q ≡ p) → ((j ≡ i) × (q < p)) ⊎ ((j ≡ i) × (q ≡ p))
      go (inl l) = inl (h.0, l)
      go (inr e) = inr (h.0, e)
  below_cases i p (SeeLoss j q) h = go (low_or_same q p h.1)
    where
      go : (q < p) ⊎ (q ≡ p) → ((j ≡ i) × (q < p)) ⊎ ((j ≡ i) × (q ≡ p))
      go (inl l) = inl (h.0, l)
      go (inr e) = inr (h.0, e)
  below_cases i p (Next j) h = absurd h
  below_cases i p (Loss j keep) h = absurd h
  below_cases i p (Retry j op) h = absurd h

  below_on : (i p : ℕ) (s : Move) → IsOfPeersBelow i p s → IsOfPeersBelow i (p + 1) s
  below_on i p (Take j q) h = (h.0, omega (arith, h.1))
  below_on i p (SeeLoss j q) h = (h.0, omega (arith, h.1))
  below_on i p (Next j) h = absurd h
  below_on i p (Loss j keep) h = absurd h
  below_on i p (Retry j op) h = absurd h

  below_at : (i p : ℕ) (s : Move) → IsMoveOfPeer i p s → IsOfPeersBelow i (p + 1) s
  below_at i p (Take j q) h = (h.0, omega (arith, h.1))
  below_at i p (SeeLoss j q) h = (h.0, omega (arith, h.1))
  below_at i p (Next j) h = absurd h
  below_at i p (Loss j keep) h = absurd h
  below_at i p (Retry j op) h = absurd h

  pub no_peer : (i : ℕ) (old : List Move) → ListsWanted (IsOfBelow i 0) old old
  no_peer i old = adds_none _ old (λ s w. none s w.1)
    where
      none : (s : Move) → IsOfPeersBelow i 0 s → ⊥
      none (Take j q) h = omega (arith, h.1)
      none (SeeLoss j q) h = omega (arith, h.1)
      none (Next j) h = h
      none (Loss j keep) h = h
      none (Retry j op) h = h

  pub one_peer : (i p : ℕ) (old a b : List Move) → ListsWanted (IsOfBelow i p) old a → AddsOpen plans most sight (IsMoveOfPeer i p) a b → ListsWanted (IsOfBelow i (p + 1)) old b
  one_peer i p old a b x y = adds_both _ _ _ old a b cases (λ s w. (w.0, below_on i p s w.1)) (λ s w. (w.0, below_at i p s w.1)) x y
    where
      pick : (s : Move) → IsOpenMove plans most sight s → IsOfPeersBelow i p s ⊎ IsMoveOfPeer i p s → IsOfBelow i p s ⊎ (IsOpenMove plans most sight s × IsMoveOfPeer i p s)
      pick s o (inl h) = inl (o, h)
      pick s o (inr h) = inr (o, h)

      cases : (s : Move) → IsOfBelow i (p + 1) s → IsOfBelow i p s ⊎ (IsOpenMove plans most sight s × IsMoveOfPeer i p s)
      cases s w = pick s w.0 (below_cases i p s w.1)
