-- The greatest of the nodes that count, place by place.
use Rattle.std.proofs.Common.{◌≡◌, ℕ, ◌<◌, ◌≤◌, ◌+◌, Bool, true, false, not, ◌&&◌, cond}
use Rattle.std.proofs.Common.{get_or, drop, length, List, [], ◌∷◌, refl, ap, sym, ◌∙◌, arith}
use Rattle.std.specs.List.{filter}
use Rattle.std.specs.Ordering.{is_gt}
use Rattle.std.proofs.lemmas.List.{drop_more}
use Rattle.std.proofs.Math.ListN.{drop_of_length-le}
use Rattle.pg_term.specs.Same.{atom_cmp}
use Rattle.pg_step.specs.Nodes.{Node, greatest_of}
use Rattle.pg_node_opens.specs.Places.{name_at, lost_in}

module _ (names : List Node) (lost : List Bool) where
  -- the greatest of one node and of those from a place on that count
  abbrev pub greatest_from : Node → ℕ → Node
  greatest_from best place = greatest_of best (filter (λ q. not (lost_in names lost q)) (drop place names))

  one_more : (test : Node → Bool) (best place : ℕ) (lost_here : Bool) (rest : List Node) → test (name_at names place) ≡ not lost_here
      → greatest_of (name_at names (cond (not lost_here && is_gt (atom_cmp (name_at names place) (name_at names best))) place best)) (filter test rest)
      ≡ greatest_of (name_at names best) (filter test (name_at names place ∷ rest))
  one_more test best place true rest e = sym (ap (λ b. greatest_of (name_at names best) (cond b (name_at names place ∷ filter test rest) (filter test rest))) e)
  one_more test best place false rest e = pick (is_gt (atom_cmp (name_at names place) (name_at names best)))
      ∙ sym (ap (λ b. greatest_of (name_at names best) (cond b (name_at names place ∷ filter test rest) (filter test rest))) e)
    where
      pick : (b : Bool) → greatest_of (name_at names (cond b place best)) (filter test rest) ≡ greatest_of (cond b (name_at names place) (name_at names best)) (filter test rest)
      pick true = refl
      pick false = refl

  pub greatest_next : (best place best' : ℕ) → place < length names → lost_in names lost (name_at names place) ≡ get_or lost place false
      → best' ≡ cond (not (get_or lost place false) && is_gt (atom_cmp (name_at names place) (name_at names best))) place best
      → greatest_from (name_at names best') (place + 1) ≡ greatest_from (name_at names best) place
  greatest_next best place best' l here e = ap (λ z. greatest_from (name_at names z) (place + 1)) e
      ∙ (one_more (λ q. not (lost_in names lost q)) best place (get_or lost place false) (drop (place + 1) names) (ap not here)
      ∙ ap (λ z. greatest_of (name_at names best) (filter (λ q. not (lost_in names lost q)) z)) (sym (drop_more names place [] l)))

  -- of none further it is the one at hand
  pub greatest_last : (best : Node) (place : ℕ) → length names ≤ place → greatest_from best place ≡ best
  greatest_last best place l = ap (λ z. greatest_of best (filter (λ q. not (lost_in names lost q)) z)) (drop_of_length-le names l)

  -- the place of the greater one
  pub greater_within : (best place best' : ℕ) (b : Bool) → best < length names → place < length names → best' ≡ cond (not (get_or lost place false) && b) place best → best' < length names
  greater_within best place best' b lb lp e = go (not (get_or lost place false) && b) e
    where
      go : (c : Bool) → best' ≡ cond c place best → best' < length names
      go true e = omega arith
      go false e = omega arith

  pub greater_counts : (best place best' : ℕ) (b : Bool) → get_or lost best false ≡ false → best' ≡ cond (not (get_or lost place false) && b) place best → get_or lost best' false ≡ false
  greater_counts best place best' b h e = ap (λ z. get_or lost z false) e ∙ go (get_or lost place false) b refl
    where
      go : (c d : Bool) → get_or lost place false ≡ c → get_or lost (cond (not c && d) place best) false ≡ false
      go true d f = h
      go false true f = f
      go false false f = h
