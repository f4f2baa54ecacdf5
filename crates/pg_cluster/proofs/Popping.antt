-- Lemmas on the rows of nodes, of which the last is popped again and again.
use Rattle.std.proofs.Common.{◌≡◌, ◌≢◌, ◌<◌, ◌≤◌, ◌+◌, ◌-◌, true, ℕ, List, [], ◌∷◌, ◌++◌}
use Rattle.std.proofs.Common.{length, map, get_or, refl, sym, ◌∙◌, subst, arith, inl, inr, ◌⊎◌}
use Rattle.std.proofs.lemmas.Bool.{cases_eq}
use Rattle.std.proofs.lemmas.Bool.Decides.{leb_tells}
use Rattle.std.proofs.lemmas.List.{get_or-map, get_or_push, get_or_append_left, length_push}
use Rattle.pg_cluster_judges.specs.PgStep.Machines.Places.{is_pair}
use Rattle.pg_cluster_judges.specs.Apart.{End}
use Rattle.pg_cluster_judges.proofs.PgWorldPackets.Peering.{place_low, place_high}
use Rattle.pg_cluster_judges.proofs.PgWorldPackets.Turning.{pair_is, is_pair_so}
use Rattle.pg_cluster.specs.Ended.{AreJoined, Arrived, SameRow, SameRows, AreEndsAt}
use Rattle.pg_cluster.specs.Ended.{AreLast, ArrivedLast, NodeRow, row_at, end_at}
use Rattle.pg_cluster.proofs.Settling.{row_composes, row_rests, ends_later, both_before}

-- what is left of the rows is the first of them, over which nothing went
pub record AreLeft (rows left : List NodeRow) : Type 0 where
  pub len : length left ≤ length rows
  pub each : (x : ℕ) (none : NodeRow) → x < length left → SameRow (get_or rows x none).items (get_or left x none).items

pub all_left : (rows : List NodeRow) → AreLeft rows rows
all_left rows = record { len = omega arith; each = λ x none low. row_rests (get_or rows x none).items }

abbrev pub lists : List NodeRow → List (List End)
lists rows = map (λ v. v.items) rows

-- the rings between nodes of which one is at this place or behind it
abbrev pub ArrivedFrom : List NodeRow → ℕ → Type 0
ArrivedFrom rows k = (x y : ℕ) (none : End) → is_pair (length rows) x y ≡ true → (k ≤ x) ⊎ (k ≤ y) → Arrived (end_at (lists rows) x y none) (end_at (lists rows) y x none)

-- ---- places

below : (x n : ℕ) → (x < n) ⊎ (n ≤ x)
below x n = elim (leb_tells n x) [ inl t ↦ inr t.1 | inr f ↦ inl f.1 ]

-- the row of a node
row_is : (rows : List NodeRow) (x : ℕ) (none : NodeRow) → x < length rows → row_at (lists rows) x ≡ (get_or rows x none).items
row_is rows x none low = get_or-map (λ v. v.items) rows x none [] low

-- ---- one row popped

module _ (rows others : List NodeRow) (row : NodeRow) (joined : AreJoined (length rows) (lists rows)) (left : AreLeft rows (others ++ row ∷ [])) where
  within : length others < length rows
  within = let l = left.len in let p = length_push others row in omega (arith, l, p)

  before : (x : ℕ) (none : NodeRow) → x < length others → SameRow (get_or rows x none).items (get_or others x none).items
  before x none low = subst (λ (v : NodeRow). SameRow (get_or rows x none).items v.items) (get_or_append_left others (row ∷ []) none x low)
      (left.each x none (let p = length_push others row in omega (arith, low, p)))

  last : (none : NodeRow) → SameRow (get_or rows (length others) none).items row.items
  last none = subst (λ (v : NodeRow). SameRow (get_or rows (length others) none).items v.items) (get_or_push others row none (length others) refl)
      (left.each (length others) none (let p = length_push others row in omega (arith, p)))

  count : (x : ℕ) (none : NodeRow) → x < length rows → length (get_or rows x none).items + 1 ≡ length rows
  count x none low = subst (λ (es : List End). length es + 1 ≡ length rows) (row_is rows x none low) (joined.each x low)

  -- the ends of the rings between a node and the last
  ends_here : (x : ℕ) (none : NodeRow) → x < length others → AreEndsAt (get_or rows x none).items (length others - 1) (get_or rows (length others) none).items x
  ends_here x none low end =
      let l : length others < length rows = within in
      let xl : x < length rows = omega (arith, low, l) in
      let high = place_high x (length others) (omega (arith, low)) in
      let there = joined.ends x (length others) end (is_pair_so (length rows) x (length others) xl l (omega (arith, low))) in
      let back = joined.ends (length others) x end (is_pair_so (length rows) (length others) x l xl (omega (arith, low))) in (
        rw (high, place_low (length others) x low, row_is rows x none xl, row_is rows (length others) none l) at there,
        rw (high, place_low (length others) x low, row_is rows x none xl, row_is rows (length others) none l) at back,
      )

  pub are_last : AreLast others row.items
  are_last x none low =
      let l : length others < length rows = within in
      let a = before x none low in
      let b = last none in
      let m = count x none (omega (arith, low, l)) in
      let n = count (length others) none l in
      let al = a.len in
      let bl = b.len in (
        omega arith,
        omega arith,
        ends_later (get_or rows x none).items (get_or others x none).items (get_or rows (length others) none).items row.items (length others - 1) x a b (ends_here x none low),
      )

  pub left_less : (others2 : List NodeRow) → SameRows others others2 → AreLeft rows others2
  left_less others2 same = record {
    len = let l : length others < length rows = within in let e = same.0 in omega arith;
    each = λ x none low.
        let less : x < length others = let e = same.0 in omega arith in
        row_composes (get_or rows x none).items (get_or others x none).items (get_or others2 x none).items (before x none less) (same.1 x none);
  }

  -- of the two rings between a node and the last
  both_here : ArrivedLast others row.items → (x : ℕ) → x < length others → (end : End) →
      Arrived (end_at (lists rows) x (length others) end) (end_at (lists rows) (length others) x end)
      × Arrived (end_at (lists rows) (length others) x end) (end_at (lists rows) x (length others) end)
  both_here arrived x low end =
      let l : length others < length rows = within in
      let xl : x < length rows = omega (arith, low, l) in
      let high = place_high x (length others) (omega (arith, low)) in
      let both = both_before (get_or rows x row).items (get_or others x row).items (get_or rows (length others) row).items row.items (length others - 1) x (before x row low) (last row) (arrived x row low) end in
      rw (high, place_low (length others) x low, row_is rows x row xl, row_is rows (length others) row l) both

  pub arrived_less : ArrivedLast others row.items → ArrivedFrom rows (length others + 1) → ArrivedFrom rows (length others)
  arrived_less arrived later x y none pair from = go (cases_eq x (length others)) (cases_eq y (length others)) (below x (length others)) (below y (length others))
    where
      p : (x < length rows) × (y < length rows) × (y ≢ x)
      p = pair_is (length rows) x y pair

      go : (x ≡ length others) ⊎ (x ≢ length others) → (y ≡ length others) ⊎ (y ≢ length others) → (x < length others) ⊎ (length others ≤ x) → (y < length others) ⊎ (length others ≤ y)
          → Arrived (end_at (lists rows) x y none) (end_at (lists rows) y x none)
      go (inl e) f a (inl low) = subst (λ z. Arrived (end_at (lists rows) z y none) (end_at (lists rows) y z none)) (sym e) (both_here arrived y low none).1
      go (inl e) (inl f) a (inr high) = absurd (p.2 (f ∙ sym e))
      go (inl e) (inr f) a (inr high) = later x y none pair (inr (omega (arith, f, high)))
      go (inr e) (inl f) (inl low) b = subst (λ z. Arrived (end_at (lists rows) x z none) (end_at (lists rows) z x none)) (sym f) (both_here arrived x low none).0
      go (inr e) f (inr high) b = later x y none pair (inl (omega (arith, e, high)))
      go (inr e) (inr f) (inl low) (inr high) = later x y none pair (inr (omega (arith, f, high)))
      go (inr e) (inr f) (inl low) (inl lower) = absurd (none_behind from)
        where
          none_behind : (length others ≤ x) ⊎ (length others ≤ y) → ⊥
          none_behind (inl g) = omega (arith, g, low)
          none_behind (inr g) = omega (arith, g, lower)
