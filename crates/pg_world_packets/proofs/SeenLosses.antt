-- Which losses a node has seen, node by node.
use Rattle.std.proofs.Common.{◌≡◌, ◌⊎◌, ◌<◌, ◌≤◌, ◌+◌, ℕ, zero, suc, Bool, true, false, ◌&&◌, get_or, length, nat_lt}
use Rattle.std.proofs.Common.{List, [], ◌∷◌, ◌++◌, refl, sym, ap, ◌∙◌, inl, inr, arith, subst, length-append}
use Rattle.std.proofs.Math.Path.{fun_ext}
use Rattle.pg_world_config.specs.Seen.{Seen}
use Rattle.pg_world_account.specs.Histories.{is_among}
use Rattle.pg_world_packets.specs.Losing.{seen_at}
use Rattle.pg_world_packets.specs.Past.{has_seen_in}
use Rattle.pg_world_packets.proofs.Peering.{low_or_high, lt_false}

last_got : (xs : List Bool) (b : Bool) → get_or (xs ++ b ∷ []) (length xs) false ≡ b
last_got [] b = refl
last_got (x ∷ xs) b = last_got xs b

others_got : (xs : List Bool) (b : Bool) (p : ℕ) → p < length xs → get_or (xs ++ b ∷ []) p false ≡ get_or xs p false
others_got [] b p below = absurd (omega (arith, below))
others_got (x ∷ xs) b zero below = refl
others_got (x ∷ xs) b (suc p) below = others_got xs b p (omega (arith, below))

none_got : (xs : List Bool) (p : ℕ) → length xs ≤ p → get_or xs p false ≡ false
none_got [] p beyond = refl
none_got (x ∷ xs) zero beyond = absurd (omega (arith, beyond))
none_got (x ∷ xs) (suc p) beyond = none_got xs p (omega (arith, beyond))

-- those of the nodes so far
pub record SeenSoFar (nodes : List Seen) (node : ℕ) (seen : List Bool) (peer : ℕ) : Type 0 where
  pub len : length seen ≡ peer
  pub each : (p : ℕ) → p < peer → get_or seen p false ≡ has_seen_in nodes node p

module _ (nodes : List Seen) (node : ℕ) where
  pub none_yet : (seen : List Bool) → seen ≡ [] → SeenSoFar nodes node seen 0
  none_yet seen is = record { len = ap length is; each = λ p below. absurd (omega (arith, below)) }

  pub one_more : (seen more : List Bool) (peer next : ℕ) (b : Bool) → more ≡ seen ++ b ∷ [] → next ≡ peer + 1 → b ≡ has_seen_in nodes node peer → SeenSoFar nodes node seen peer → SeenSoFar nodes node more next
  one_more seen more peer next b is after told so = subst (λ (xs : List Bool). SeenSoFar nodes node xs next) (sym is) (record {
    len = let l = length-append seen (b ∷ []) in let len = so.len in omega (arith, l, len, after);
    each = λ p below. go p (low_or_high p peer) (subst (λ n. p < n) after below);
  })
    where
      go : (p : ℕ) → (p < peer) ⊎ (peer ≤ p) → p < peer + 1 → get_or (seen ++ b ∷ []) p false ≡ has_seen_in nodes node p
      go p (inl below) least = others_got seen b p (let len = so.len in omega (arith, below, len)) ∙ so.each p below
      go p (inr beyond) least = let same : p ≡ peer = omega (arith, beyond, least) in ap (λ k. get_or (seen ++ b ∷ []) k false) (same ∙ sym so.len) ∙ (last_got seen b ∙ (told ∙ ap (has_seen_in nodes node) (sym same)))

  pub all_seen : (seen : List Bool) (peer : ℕ) → length nodes ≤ peer → SeenSoFar nodes node seen peer → is_among seen ≡ has_seen_in nodes node
  all_seen seen peer many so = fun_ext (λ p. go p (low_or_high p peer))
    where
      none : (p : ℕ) (b : Bool) → nat_lt p (length nodes) ≡ false → (nat_lt node (length nodes) && (nat_lt p (length nodes) && b)) ≡ false
      none p b e = (λ j. nat_lt node (length nodes) && (e j && b)) ∙ off (nat_lt node (length nodes))
        where
          off : (c : Bool) → (c && false) ≡ false
          off true = refl
          off false = refl

      go : (p : ℕ) → (p < peer) ⊎ (peer ≤ p) → get_or seen p false ≡ has_seen_in nodes node p
      go p (inl below) = so.each p below
      go p (inr beyond) = none_got seen p (let len = so.len in omega (arith, beyond, len))
          ∙ sym (ap (λ c. c && seen_at nodes node p) (none p _ (lt_false p (length nodes) (omega (arith, beyond, many)))))
