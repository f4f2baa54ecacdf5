-- Lemmas on two lists of which the elements at each place stand to each other.
use Rattle.std.proofs.Common.{◌≡◌, ◌<◌, ◌≤◌, ◌+◌, ◌-◌, ℕ, List, [], ◌∷◌, ◌++◌, length, take, drop}
use Rattle.std.proofs.Common.{get_or, refl, sym, ◌∙◌, ap, subst, arith, inl, inr, length-append}
use Rattle.std.specs.List.{All}
use Rattle.std.proofs.lemmas.Bool.Decides.{eqb_tells, leb_tells}
use Rattle.std.proofs.lemmas.List.{get_or-drop, get_or-take, get_or_push, length_push, length-drop, length-take-le}
use Rattle.std.proofs.Math.ListN.{get_or-append}
use Rattle.std.proofs.Math.Seq.{get_or-append_right, get_or-append_seam}
use Rattle.pg_cluster.specs.Clients.{AllPairs}

module _ {X Y : Type 0} (R : X → Y → Type 0) where
  pub pairs_none : AllPairs R [] []
  pairs_none = record { len = refl; each = λ i x y low. absurd (omega (arith, low)) }

  -- one pair more
  pub pairs_push : (xs : List X) (ys : List Y) (x : X) (y : Y) → AllPairs R xs ys → R x y → AllPairs R (xs ++ x ∷ []) (ys ++ y ∷ [])
  pairs_push xs ys x y all here = record {
    len = length_push xs x ∙ (ap (λ n. n + 1) all.len ∙ sym (length_push ys y));
    each = λ i a b low. elim (eqb_tells i (length ys)) [
      | inl t ↦
          subst (λ z. R z (get_or (ys ++ y ∷ []) i b)) (sym (get_or_push xs x a i (all.len ∙ sym t.1)))
          (subst (λ z. R x z) (sym (get_or_push ys y b i (sym t.1))) here)
      | inr f ↦
          let less : i < length ys = let n = length_push ys y in omega (arith, f.1, n, low) in
          let more : i < length xs = let e = all.len in omega (arith, less, e) in
          subst (λ z. R z (get_or (ys ++ y ∷ []) i b)) (sym (get_or-append xs (x ∷ []) a i more))
          (subst (λ z. R (get_or xs i a) z) (sym (get_or-append ys (y ∷ []) b i less)) (all.each i a b less))
    ];
  }

  -- more pairs
  pub pairs_append : (xs : List X) (ys : List Y) (xs2 : List X) (ys2 : List Y) → AllPairs R xs ys → AllPairs R xs2 ys2 → AllPairs R (xs ++ xs2) (ys ++ ys2)
  pairs_append xs ys xs2 ys2 all all2 = record {
    len = let n = length-append xs xs2 in let m = length-append ys ys2 in let e = all.len in let e2 = all2.len in omega (arith, n, m, e, e2);
    each = λ i a b low. elim (leb_tells (length ys) i) [
      | inl t ↦
          let e = all.len in
          let behind : length xs ≤ i = omega (arith, t.1, e) in
          let place : i - length xs ≡ i - length ys = ap (λ n. i - n) e in
          let less : i - length ys < length ys2 = let m = length-append ys ys2 in omega (arith, low, m, t.1) in
          subst (λ z. R z (get_or (ys ++ ys2) i b)) (sym (get_or-append_right xs xs2 i a behind ∙ ap (λ n. get_or xs2 n a) place))
          (subst (λ z. R (get_or xs2 (i - length ys) a) z) (sym (get_or-append_right ys ys2 i b t.1)) (all2.each (i - length ys) a b less))
      | inr f ↦
          let more : i < length xs = let e = all.len in omega (arith, f.1, e) in
          subst (λ z. R z (get_or (ys ++ ys2) i b)) (sym (get_or-append xs xs2 a i more))
          (subst (λ z. R (get_or xs i a) z) (sym (get_or-append ys ys2 b i f.1)) (all.each i a b f.1))
    ];
  }

  -- of two parts, the first
  pub pairs_first : (xs : List X) (ys zs : List Y) → AllPairs R xs (ys ++ zs) → AllPairs R (take (length ys) xs) ys
  pairs_first xs ys zs all = record {
    len = length-take-le (length ys) xs (let n = length-append ys zs in let e = all.len in omega (arith, n, e));
    each = λ i a b low.
        let less : i < length (ys ++ zs) = let n = length-append ys zs in omega (arith, low, n) in
        subst (λ z. R z (get_or ys i b)) (sym (get_or-take (length ys) xs i a low)) (subst (λ z. R (get_or xs i a) z) (get_or-append ys zs b i low) (all.each i a b less));
  }

  -- and the second
  pub pairs_rest : (xs : List X) (ys zs : List Y) → AllPairs R xs (ys ++ zs) → AllPairs R (drop (length ys) xs) zs
  pairs_rest xs ys zs all = record {
    len = let n = length-append ys zs in let e = all.len in let d = length-drop (length ys) xs in omega (arith, n, e, d);
    each = λ i a b low.
        let less : length ys + i < length (ys ++ zs) = let n = length-append ys zs in omega (arith, low, n) in
        let behind : length ys ≤ length ys + i = omega arith in
        let place : length ys + i - length ys ≡ i = omega arith in
        subst (λ z. R z (get_or zs i b)) (sym (get_or-drop (length ys) xs i a))
        (subst (λ z. R (get_or xs (length ys + i) a) z) (get_or-append_right ys zs (length ys + i) b behind ∙ ap (λ n. get_or zs n b) place) (all.each (length ys + i) a b less));
  }

  -- the second of the pair at a place
  pub pair_at : (xs : List X) (ys : List Y) → AllPairs R xs ys → (i : ℕ) (x : X) → i < length xs → (y : Y) × R (get_or xs i x) (get_or ys i y)
  pair_at xs [] all i x low = absurd (let e = all.len in omega (arith, e, low))
  pair_at xs (y ∷ ys) all i x low = (y, all.each i x y (let e = all.len in omega (arith, e, low)))

  -- what holds of the first of each pair, and of the second
  pub pairs_left : (P : X → Type 0) → ((x : X) (y : Y) → R x y → P x) → (xs : List X) (ys : List Y) → AllPairs R xs ys → All P xs
  pairs_left P so xs ys all = λ i x low. let p = pair_at xs ys all i x low in so (get_or xs i x) (get_or ys i p.0) p.1

  pub pairs_right : (P : Y → Type 0) → ((x : X) (y : Y) → R x y → P y) → (xs : List X) (ys : List Y) → AllPairs R xs ys → All P ys
  pairs_right P so [] ys all = λ i y low. absurd (let e = all.len in omega (arith, e, low))
  pairs_right P so (x ∷ xs) ys all = λ i y low. so (get_or (x ∷ xs) i x) (get_or ys i y) (all.each i x y low)

  pub pairs_so : (S : X → Y → Type 0) → ((x : X) (y : Y) → R x y → S x y) → (xs : List X) (ys : List Y) → AllPairs R xs ys → AllPairs S xs ys
  pairs_so S so xs ys all = record { len = all.len; each = λ i x y low. so (get_or xs i x) (get_or ys i y) (all.each i x y low) }

-- by way of what stands between
pub pairs_by : {X Y Z : Type 0} (R : X → Y → Type 0) (S : Y → Z → Type 0) (T : X → Z → Type 0) → ((x : X) (y : Y) (z : Z) → R x y → S y z → T x z)
    → (xs : List X) (ys : List Y) (zs : List Z) → AllPairs R xs ys → AllPairs S ys zs → AllPairs T xs zs
pairs_by R S T so xs ys zs all all2 = record {
  len = all.len ∙ all2.len;
  each = λ i x z low.
      let p = pair_at R xs ys all i x (let e = all.len in let e2 = all2.len in omega (arith, low, e, e2)) in
      so (get_or xs i x) (get_or ys i p.0) (get_or zs i z) p.1 (all2.each i p.0 z low);
}

-- what holds of two lists, one behind the other, holds of each
pub all_first : {X : Type 0} (P : X → Type 0) (xs ys : List X) → All P (xs ++ ys) → All P xs
all_first P xs ys all = λ i d low.
    let less : i < length (xs ++ ys) = let n = length-append xs ys in omega (arith, low, n) in subst P (get_or-append xs ys d i low) (all i d less)

pub all_rest : {X : Type 0} (P : X → Type 0) (xs ys : List X) → All P (xs ++ ys) → All P ys
all_rest P xs ys all = λ i d low.
    let less : length xs + i < length (xs ++ ys) = let n = length-append xs ys in omega (arith, low, n) in
    let behind : length xs ≤ length xs + i = omega arith in
    let place : length xs + i - length xs ≡ i = omega arith in
    subst P (get_or-append_right xs ys (length xs + i) d behind ∙ ap (λ n. get_or ys n d) place) (all (length xs + i) d less)

-- the elements at one place, where two lists are cut
pub pairs_here : {X Y : Type 0} (R : X → Y → Type 0) (xs before rest : List X) (ys before2 rest2 : List Y) (x : X) (y : Y) → AllPairs R xs ys → before ++ x ∷ rest ≡ xs → before2 ++ y ∷ rest2 ≡ ys
    → length before ≡ length before2 → R x y
pairs_here R xs before rest ys before2 rest2 x y all is is2 same =
    let low : length before2 < length ys = let n = ap length is2 in let m = length-append before2 (y ∷ rest2) in omega (arith, n, m) in
    let there : get_or ys (length before2) y ≡ y = ap (λ w. get_or w (length before2) y) (sym is2) ∙ get_or-append_seam before2 y rest2 y in
    let here : get_or xs (length before2) x ≡ x = ap (λ w. get_or w (length before2) x) (sym is) ∙ (ap (λ k. get_or (before ++ x ∷ rest) k x) (sym same) ∙ get_or-append_seam before x rest x) in
    subst (R x) there (subst (λ z. R z (get_or ys (length before2) y)) here (all.each (length before2) x y low))
