-- The places of the peers of a node, and the packets that go there.
use Rattle.std.proofs.Common.{◌≡◌, ◌≢◌, ℕ, suc, ◌+◌, ◌-◌, ◌<◌, ◌≤◌, Bool, true, false, cond, nat_eq, nat_lt}
use Rattle.std.proofs.Common.{get_or, length, List, [], ◌∷◌, ◌++◌, refl, sym, ap, ◌∙◌, inl, inr, ◌⊎◌, arith, subst}
use Rattle.std.specs.List.{IsDistinct, AllByRecursion, remove}
use Rattle.std.proofs.lemmas.Bool.{cases_eq, eq-eqb, ne_eqb, eqb-true, lt-ltb, ltb-true}
use Rattle.std.proofs.lemmas.Option.{unwrap_or-slice_get}
use Rattle.std.proofs.lemmas.List.{length-map}
use Rattle.std.proofs.lemmas.List.Edits.{length-remove, get_or-remove_below, get_or-remove_above}
use Rattle.pg_term.specs.Same.{same_atom}
use Rattle.pg_node_state.specs.PgMessageTypes.declared.packet.Packet.{Packet}
use Rattle.pg_node_state.specs.PgStep.Config.{Config, names_of, name_at as config_name, nodes_at}
use Rattle.pg_node_state.specs.PgStep.Nodes.{Node, all_of}
use Rattle.pg_node_state.specs.PgNodeOpens.Places.{name_at}
use Rattle.pg_node_state.proofs.PgNodeOpens.Named.{atom_self, names_differ}
use Rattle.pg_node_state.specs.PgNodeSends.Sent.{stamped_of, sends_in}
use Rattle.pg_node_state.specs.PgNodeSends.Sendable.{IsSendable}
use Rattle.pg_world_packets.specs.Views.{peer_place, place_of_peer, packets_to}

pub lt_false : (a b : ℕ) → b ≤ a → nat_lt a b ≡ false
lt_false a b le = go (nat_lt a b) (ltb-true a b)
  where
    go : (t : Bool) → (t ≡ true → a < b) → t ≡ false
    go true h = let l : a < b = h refl in absurd (omega arith)
    go false h = refl

pub peer_low : (i k : ℕ) → k < i → place_of_peer i k ≡ k
peer_low i k l = ap (λ b. cond b k (k + 1)) (lt-ltb k i l)

pub peer_high : (i k : ℕ) → i ≤ k → place_of_peer i k ≡ k + 1
peer_high i k l = ap (λ b. cond b k (k + 1)) (lt_false k i l)

pub place_low : (i y : ℕ) → y < i → peer_place i y ≡ y
place_low i y l = ap (λ b. cond b y (y - 1)) (lt-ltb y i l)

pub place_high : (i y : ℕ) → i ≤ y → peer_place i y ≡ y - 1
place_high i y l = ap (λ b. cond b y (y - 1)) (lt_false y i l)

pub low_or_high : (a b : ℕ) → (a < b) ⊎ (b ≤ a)
low_or_high a b = go (nat_lt a b) refl
  where
    go : (t : Bool) → nat_lt a b ≡ t → (a < b) ⊎ (b ≤ a)
    go true e = inl (ltb-true a b e)
    go false e = inr (grind (arith, e, lt-ltb a b))

-- a place among the peers is that of the place among all
pub same_place : (i y k : ℕ) → y ≢ i → nat_eq (place_of_peer i k) y ≡ nat_eq k (peer_place i y)
same_place i y k other = go (low_or_high k i) (low_or_high y i)
  where
    both : (a b c d : ℕ) → (a ≡ b → c ≡ d) → (c ≡ d → a ≡ b) → nat_eq a b ≡ nat_eq c d
    both a b c d f g = pick (cases_eq a b)
      where
        pick : (a ≡ b) ⊎ (a ≢ b) → nat_eq a b ≡ nat_eq c d
        pick (inl e) = eq-eqb a b e ∙ sym (eq-eqb c d (f e))
        pick (inr n) = ne_eqb a b n ∙ sym (ne_eqb c d (λ e. n (g e)))

    go : (k < i) ⊎ (i ≤ k) → (y < i) ⊎ (i ≤ y) → nat_eq (place_of_peer i k) y ≡ nat_eq k (peer_place i y)
    go (inl a) (inl b) = (λ j. nat_eq (peer_low i k a j) y) ∙ (λ j. nat_eq k (sym (place_low i y b) j))
    go (inl a) (inr b) = (λ j. nat_eq (peer_low i k a j) y) ∙ (both k y k (y - 1) (λ e. absurd (omega (arith, e, a, b))) (λ e. absurd (other (omega (arith, e, a, b)))) ∙ (λ j. nat_eq k (sym (place_high i y b) j)))
    go (inr a) (inl b) = (λ j. nat_eq (peer_high i k a j) y) ∙ (both (k + 1) y k y (λ e. absurd (omega (arith, e, a, b))) (λ e. absurd (omega (arith, e, a, b))) ∙ (λ j. nat_eq k (sym (place_low i y b) j)))
    go (inr a) (inr b) = (λ j. nat_eq (peer_high i k a j) y) ∙ (both (k + 1) y k (y - 1) (λ e. omega (arith, e)) (λ e. above e) ∙ (λ j. nat_eq k (sym (place_high i y b) j)))
      where
        above : k ≡ y - 1 → k + 1 ≡ y
        above e = let ne : y ≢ i = other in omega (arith, e, a, b, ne)

-- and back
pub there_and_back : (i y : ℕ) → y ≢ i → place_of_peer i (peer_place i y) ≡ y
there_and_back i y other = go (nat_eq (place_of_peer i (peer_place i y)) y) (eqb-true (place_of_peer i (peer_place i y)) y) (same_place i y (peer_place i y) other ∙ eq-eqb (peer_place i y) (peer_place i y) refl)
  where
    go : (b : Bool) → (b ≡ true → place_of_peer i (peer_place i y) ≡ y) → b ≡ true → place_of_peer i (peer_place i y) ≡ y
    go b h e = h e

pub peers_differ : (i x y : ℕ) → x ≢ i → y ≢ i → x ≢ y → peer_place i x ≢ peer_place i y
peers_differ i x y a b n e = n (sym (there_and_back i x a) ∙ (ap (place_of_peer i) e ∙ there_and_back i y b))

-- how many other nodes there are
pub place_within : (i y n : ℕ) → i < n → y < n → y ≢ i → peer_place i y + 1 < n
place_within i y n a b other = go (low_or_high y i)
  where
    go : (y < i) ⊎ (i ≤ y) → peer_place i y + 1 < n
    go (inl l) = subst (λ k. k + 1 < n) (sym (place_low i y l)) (omega (arith, a, l))
    go (inr l) = let ne : y ≢ i = other in subst (λ k. k + 1 < n) (sym (place_high i y l)) (omega (arith, b, l, ne))

-- it is none of the node itself
pub own_place : (i k : ℕ) → place_of_peer i k ≢ i
own_place i k = go (low_or_high k i)
  where
    go : (k < i) ⊎ (i ≤ k) → place_of_peer i k ≢ i
    go (inl a) e = let f : k ≡ i = sym (peer_low i k a) ∙ e in absurd (omega (arith, f, a))
    go (inr a) e = let f : k + 1 ≡ i = sym (peer_high i k a) ∙ e in absurd (omega (arith, f, a))

module _ (config : Config) (i : ℕ) (within : i < length config) where
  names : List Node
  names = names_of config

  count : length (names_of config) ≡ length config
  count = length-map config (λ start. start.name)

  pub named : (j : ℕ) → config_name config j ≡ name_at (names_of config) j
  named j = unwrap_or-slice_get (names_of config) j []

  next : (k : ℕ) → k + 1 ≡ suc k
  next k = omega arith

  -- how many nodes a node knows
  pub known : length (all_of (nodes_at config i)) ≡ length config
  known = let n : i < length (names_of config) = omega (arith, count, within) in omega (arith, length-remove (names_of config) i n, count)

  pub peer_within : (k : ℕ) → k + 1 < length (all_of (nodes_at config i)) → place_of_peer i k < length (names_of config)
  peer_within k l = go (low_or_high k i)
    where
      go : (k < i) ⊎ (i ≤ k) → place_of_peer i k < length (names_of config)
      go (inl a) = subst (λ n. n < length (names_of config)) (sym (peer_low i k a)) (omega (arith, a, within, count))
      go (inr a) = subst (λ n. n < length (names_of config)) (sym (peer_high i k a)) (omega (arith, l, known, count))

  -- the name of a peer
  pub peer_name : (k : ℕ) → name_at (all_of (nodes_at config i)) (k + 1) ≡ name_at (names_of config) (place_of_peer i k)
  peer_name k = ap (name_at (all_of (nodes_at config i))) (next k) ∙ go (low_or_high k i)
    where
      there : i < length (names_of config)
      there = omega (arith, count, within)

      go : (k < i) ⊎ (i ≤ k) → get_or (remove (names_of config) i) k [] ≡ name_at (names_of config) (place_of_peer i k)
      go (inl a) = get_or-remove_below (names_of config) i [] k a there ∙ ap (name_at (names_of config)) (sym (peer_low i k a))
      go (inr a) = get_or-remove_above (names_of config) i [] k a there ∙ ap (name_at (names_of config)) (sym (peer_high i k a))

  module _ (apart : IsDistinct same_atom (names_of config)) where
    same_names : (j y : ℕ) → j < length (names_of config) → y < length (names_of config) → same_atom (name_at (names_of config) j) (name_at (names_of config) y) ≡ nat_eq j y
    same_names j y lj ly = go (cases_eq j y)
      where
        go : (j ≡ y) ⊎ (j ≢ y) → same_atom (name_at (names_of config) j) (name_at (names_of config) y) ≡ nat_eq j y
        go (inl e) = ap (λ z. same_atom (name_at (names_of config) j) (name_at (names_of config) z)) (sym e) ∙ (atom_self (name_at (names_of config) j) ∙ sym (eq-eqb j y e))
        go (inr n) = names_differ (names_of config) j y apart lj ly n ∙ sym (ne_eqb j y n)

    of_place : (k y : ℕ) → k + 1 < length (all_of (nodes_at config i)) → y < length config
        → same_atom (name_at (all_of (nodes_at config i)) (k + 1)) (config_name config y) ≡ nat_eq (place_of_peer i k) y
    of_place k y l ly = (λ j. same_atom (peer_name k j) (named y j)) ∙ same_names (place_of_peer i k) y (peer_within k l) (omega (arith, count, ly))

    -- what is sent to a name goes to its place
    pub sent_to : (sends : List (ℕ × Packet)) (y : ℕ) → AllByRecursion (IsSendable (all_of (nodes_at config i))) sends → y < length config → y ≢ i
        → sends_in (all_of (nodes_at config i)) sends (config_name config y) ≡ packets_to sends (peer_place i y)
    sent_to [] y each ly other = refl
    sent_to (sent ∷ others) y each ly other =
        (λ j. cond ((of_place sent.0 y each.0.place ly ∙ same_place i y sent.0 other) j) (stamped_of sent.1 ∷ []) [] ++ sent_to others y each.1 ly other j)

    -- and nothing goes to the node itself
    pub sent_home : (sends : List (ℕ × Packet)) → AllByRecursion (IsSendable (all_of (nodes_at config i))) sends
        → sends_in (all_of (nodes_at config i)) sends (config_name config i) ≡ []
    sent_home [] each = refl
    sent_home (sent ∷ others) each =
        (λ j. cond ((of_place sent.0 i each.0.place within ∙ ne_eqb (place_of_peer i sent.0) i (own_place i sent.0)) j) (stamped_of sent.1 ∷ []) [] ++ sent_home others each.1 j)
