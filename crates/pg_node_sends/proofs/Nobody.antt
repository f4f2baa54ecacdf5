-- No peer is live.
use Rattle.std.proofs.Common.{◌≡◌, ◌⊎◌, inl, inr, ℕ, suc, ◌+◌, ◌<◌, ◌≤◌, Bool, not, true, false, ◌&&◌}
use Rattle.std.proofs.Common.{◌||◌, List, [], ◌∷◌, refl, ap, sym, ◌∙◌, length, arith}
use Rattle.std.proofs.Math.Nat.{eq-or-lt_of_le}
use Rattle.std.specs.List.{list_any}
use Rattle.pg_term.specs.Same.{same_atom}
use Rattle.pg_node_opens.specs.PgStep.Nodes.{Node, Nodes, is_peer}
use Rattle.pg_node_opens.specs.Places.{name_at, lost_in, live_in}
use Rattle.pg_node_opens.proofs.Named.{place_cases, any_filtered}

-- no peer that counts stands at a place below this one
abbrev pub NobodyBelow : Nodes → List Node → ℕ → Type 0
NobodyBelow m names place = (k : ℕ) → 0 < k → k < place → is_peer m (name_at names k) ≡ false

pub nobody_yet : (m : Nodes) (names : List Node) → NobodyBelow m names 1
nobody_yet m names k above l = absurd (none k above l)
  where
    none : (k : ℕ) → 0 < k → k < 1 → ⊥
    none k above l = omega arith

pub nobody_next : (m : Nodes) (names : List Node) (place : ℕ) → is_peer m (name_at names place) ≡ false → NobodyBelow m names place → NobodyBelow m names (place + 1)
nobody_next m names place here below k above l = go (eq-or-lt_of_le (at_most k place l))
  where
    at_most : (k n : ℕ) → k < n + 1 → k ≤ n
    at_most k n l = omega arith

    go : (k ≡ place) ⊎ (k < place) → is_peer m (name_at names k) ≡ false
    go (inl e) = ap (λ n. is_peer m (name_at names n)) e ∙ here
    go (inr h) = below k above h

none_of : (f : Node → Bool) (q : Node) (ns : List Node) → list_any (same_atom q) ns ≡ false → list_any (λ x. f x && same_atom q x) ns ≡ false
none_of f q [] e = refl
none_of f q (n ∷ ns) e = both (f n) (same_atom q n) (list_any (same_atom q) ns) e (none_of f q ns)
  where
    both : (a b c : Bool) → (b || c) ≡ false → (c ≡ false → list_any (λ x. f x && same_atom q x) ns ≡ false) → ((a && b) || list_any (λ x. f x && same_atom q x) ns) ≡ false
    both a true c e h = absurd (cc)
    both true false c e h = h e
    both false false c e h = h e

pub nobody_counts : (names : List Node) (lost : List Bool) (place : ℕ) → length names ≤ place → NobodyBelow (live_in names lost) names place → (q : Node) → is_peer (live_in names lost) q ≡ false
nobody_counts [] lost place within below q = refl
nobody_counts (own ∷ peers) lost place within below q = go (place_cases peers q)
  where
    next : (k : ℕ) → k + 1 ≡ suc k
    next k = omega arith

    above : (k : ℕ) → 0 < k + 1
    above k = omega arith

    nearer : (k n p : ℕ) → k < n → suc n ≤ p → k + 1 < p
    nearer k n p l h = omega arith

    go : ((k : ℕ) × (k < length peers) × (q ≡ name_at peers k)) ⊎ (list_any (same_atom q) peers ≡ false) → is_peer (live_in (own ∷ peers) lost) q ≡ false
    go (inl r) = ap (is_peer (live_in (own ∷ peers) lost)) (r.2 ∙ sym (ap (name_at (own ∷ peers)) (next r.0))) ∙ below (r.0 + 1) (above r.0) (nearer r.0 (length peers) place r.1 within)
    go (inr e) = any_filtered (λ x. not (lost_in (own ∷ peers) lost x)) (same_atom q) peers ∙ none_of (λ x. not (lost_in (own ∷ peers) lost x)) q peers e
