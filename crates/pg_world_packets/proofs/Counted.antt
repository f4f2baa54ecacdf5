-- How many packets a turn sends to all nodes, where each goes to a peer by its place.
use Rattle.std.proofs.Common.{◌≡◌, ◌≢◌, ℕ, zero, suc, ◌+◌, ◌<◌, ◌≤◌, Bool, true, false, cond, nat_eq}
use Rattle.std.proofs.Common.{length, List, [], ◌∷◌, ◌++◌, refl, sym, ap, ◌∙◌, inl, inr, ◌⊎◌, arith, subst}
use Rattle.std.specs.List.{AllByRecursion}
use Rattle.std.proofs.lemmas.Bool.{cases_eq, eq-eqb, ne_eqb}
use Rattle.pg_node_state.specs.PgMessageTypes.declared.message.Message.{Message}
use Rattle.pg_node_state.specs.PgMessageTypes.declared.packet.Packet.{Packet}
use Rattle.pg_node_state.specs.PgStep.Machines.Clocked.{Stamped}
use Rattle.pg_node_state.specs.PgStep.Nodes.{Node}
use Rattle.pg_node_state.specs.PgNodeSends.Sendable.{IsSendable}
use Rattle.pg_node_state.specs.PgNodeSends.Sent.{stamped_of}
use Rattle.pg_world_packets.specs.Effects.{sum_below}
use Rattle.pg_world_packets.specs.Views.{peer_place, place_of_peer, packets_to}
use Rattle.pg_world_packets.proofs.Peering.{own_place, same_place, peer_low, peer_high, low_or_high}

-- sums of counts that are the same below
pub sum_same : (n : ℕ) (f g : ℕ → ℕ) → ((y : ℕ) → y < n → f y ≡ g y) → sum_below n f ≡ sum_below n g
sum_same zero f g same = refl
sum_same (suc n) f g same =
    let here = same n (omega arith) in
    let rest = sum_same n f g (λ y l. same y (omega (arith, l))) in
    λ j. here j + rest j

-- nothing is counted anywhere
pub sum_none : (n : ℕ) (f : ℕ → ℕ) → ((y : ℕ) → f y ≡ 0) → sum_below n f ≡ 0
sum_none zero f none = refl
sum_none (suc n) f none = let here = none n in let rest = sum_none n f none in λ j. here j + rest j

-- one more is counted at one place
pub sum_more : (n k : ℕ) (f g : ℕ → ℕ) → k < n → f k ≡ g k + 1 → ((y : ℕ) → y ≢ k → f y ≡ g y) → sum_below n f ≡ sum_below n g + 1
sum_more zero k f g l here others = absurd (omega (arith, l))
sum_more (suc n) k f g l here others = go (cases_eq k n) (λ l. sum_more n k f g l here others)
  where
    go : (k ≡ n) ⊎ (k ≢ n) → (k < n → sum_below n f ≡ sum_below n g + 1) → f n + sum_below n f ≡ (g n + sum_below n g) + 1
    go (inl e) more =
        let last : f n ≡ g n + 1 = subst (λ j. f j ≡ g j + 1) e here in
        let rest = sum_same n f g (λ y less. others y (λ d. absurd (omega (arith, less, d, e)))) in
        omega (arith, last, rest)
    go (inr m) more =
        let ne : k ≢ n = m in
        let last : f n ≡ g n = others n (λ d. m (sym d)) in
        let rest = more (omega (arith, l, ne)) in
        omega (arith, last, rest)

-- how many packets go from node i to node y, where none goes to the node itself
abbrev pub count_to : ℕ → List (ℕ × Packet) → ℕ → ℕ
count_to i sends y = cond (nat_eq y i) 0 (length (packets_to sends (peer_place i y)))

-- each goes to one peer
module _ (i n : ℕ) (within : i < n) (names : List Node) (size : length names ≡ n) where
  pub place_there : (k : ℕ) → k + 1 < length names → place_of_peer i k < n
  place_there k l = go (low_or_high k i)
    where
      go : (k < i) ⊎ (i ≤ k) → place_of_peer i k < n
      go (inl a) = subst (λ j. j < n) (sym (peer_low i k a)) (omega (arith, a, within))
      go (inr a) = subst (λ j. j < n) (sym (peer_high i k a)) (omega (arith, l, size))

  module _ (sent : ℕ × Packet) (others : List (ℕ × Packet)) where
    first_or_none : (b : Bool) (xs : List (Stamped Message)) → length (cond b (stamped_of sent.1 ∷ []) [] ++ xs) ≡ length xs + cond b 1 0
    first_or_none true xs = omega arith
    first_or_none false xs = omega arith

    count_at : (y : ℕ) → y ≢ i → (b : Bool) → nat_eq (place_of_peer i sent.0) y ≡ b → count_to i (sent ∷ others) y ≡ count_to i others y + cond b 1 0
    count_at y other b is =
        ap (λ t. cond t 0 (length (packets_to (sent ∷ others) (peer_place i y)))) (ne_eqb y i other)
        ∙ (ap (λ t. length (cond t (stamped_of sent.1 ∷ []) [] ++ packets_to others (peer_place i y))) (sym (same_place i y sent.0 other) ∙ is)
        ∙ (first_or_none b (packets_to others (peer_place i y))
        ∙ ap (λ t. cond t 0 (length (packets_to others (peer_place i y))) + cond b 1 0) (sym (ne_eqb y i other))))

    count_own : count_to i (sent ∷ others) i ≡ count_to i others i
    count_own = ap (λ t. cond t 0 (length (packets_to (sent ∷ others) (peer_place i i)))) (eq-eqb i i refl)
        ∙ sym (ap (λ t. cond t 0 (length (packets_to others (peer_place i i)))) (eq-eqb i i refl))

    count_else : (y : ℕ) → y ≢ place_of_peer i sent.0 → count_to i (sent ∷ others) y ≡ count_to i others y
    count_else y n = go (cases_eq y i)
      where
        go : (y ≡ i) ⊎ (y ≢ i) → count_to i (sent ∷ others) y ≡ count_to i others y
        go (inl d) = subst (λ k. count_to i (sent ∷ others) k ≡ count_to i others k) (sym d) count_own
        go (inr m) = let at = count_at y m false (ne_eqb (place_of_peer i sent.0) y (λ e. n (sym e))) in omega (arith, at)

  pub count_all : (sends : List (ℕ × Packet)) → AllByRecursion (IsSendable names) sends → sum_below n (count_to i sends) ≡ length sends
  count_all [] each = sum_none n (count_to i []) (λ y. none (nat_eq y i))
    where
      none : (b : Bool) → ◌≡◌ {A = ℕ} (cond b 0 0) 0
      none true = refl
      none false = refl
  count_all (sent ∷ others) each =
      let k = place_of_peer i sent.0 in
      let here = count_at sent others k (own_place i sent.0) true (eq-eqb k k refl) in
      let more = sum_more n k (count_to i (sent ∷ others)) (count_to i others) (place_there sent.0 each.0.place) here (count_else sent others) in
      let rest = count_all others each.1 in
      omega (arith, more, rest)
