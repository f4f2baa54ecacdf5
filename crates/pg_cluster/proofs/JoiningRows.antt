-- Lemmas on joining the nodes, each two.
use Rattle.std.proofs.Common.{◌≡◌, ◌≢◌, ◌<◌, ◌≤◌, ◌+◌, ◌-◌, ℕ, List, [], ◌∷◌, ◌++◌, length, get_or}
use Rattle.std.proofs.Common.{set, refl, sym, ◌∙◌, ap, subst, arith, inl, inr, length-append}
use Rattle.std.specs.List.{All}
use Rattle.std.proofs.lemmas.Bool.Decides.{eqb_tells, leb_tells}
use Rattle.std.proofs.lemmas.List.{append-nil, get_or-set_same, get_or-set_other, get_or_default}
use Rattle.std.proofs.Math.ListN.{get_or-append, length-set}
use Rattle.std.proofs.Math.Seq.{get_or-append_seam}
use Rattle.pg_ring.specs.Ends.{bytes_room}
use Rattle.pg_cluster_judges.specs.Apart.{End}
use Rattle.pg_cluster.specs.Ended.{NodeRow}
use Rattle.pg_cluster.specs.Rows.{HaveRowRoom, Wired, Joins, AreJoined, PairAt, SoFar}
use Rattle.pg_cluster.proofs.Starts.{all_push}

-- each row is as it was, or one longer
grown : (xs ys : List NodeRow) (i j : ℕ) → AreJoined xs ys i j → (k : ℕ) (d : NodeRow) → (t : List End) × ((get_or ys k d).items ≡ (get_or xs k d).items ++ t)
grown xs ys i j h k d = elim (eqb_tells k i) [
  | inl e ↦ (h.x ∷ [], rw e.1 (h.at_i d))
  | inr f ↦ elim (eqb_tells k j) [
    | inl e ↦ (h.y ∷ [], rw e.1 (h.at_j d))
    | inr g ↦ ([], ap (λ v. v.items) (h.other k d f.1 g.1) ∙ sym (append-nil _))
  ]
]

wired_grown : (xs xs' ys ys' s t : List End) (p q : ℕ) → xs' ≡ xs ++ s → ys' ≡ ys ++ t → p < length xs → q < length ys → Wired xs p ys q → Wired xs' p ys' q
wired_grown xs xs' ys ys' s t p q e f a b w d = rw (e, f, get_or-append xs s d p a, get_or-append ys t d q b) (w d)

pair_grown : (xs ys : List NodeRow) (i j : ℕ) → AreJoined xs ys i j → (a b : ℕ) (d : NodeRow) → b - 1 < length (get_or xs a d).items → a < length (get_or xs b d).items → PairAt xs a b d → PairAt ys a b d
pair_grown xs ys i j h a b d low high w =
    let s = grown xs ys i j h a d in
    let t = grown xs ys i j h b d in record {
      there = wired_grown _ _ _ _ s.0 t.0 (b - 1) a s.1 t.1 low high w.there;
      back = wired_grown _ _ _ _ t.0 s.0 a (b - 1) t.1 s.1 high low w.back;
    }

wired_new : (xs xs' ys ys' : List End) (x y : End) (p q : ℕ) → xs' ≡ xs ++ x ∷ [] → ys' ≡ ys ++ y ∷ [] → p ≡ length xs → q ≡ length ys → Wired (x ∷ []) 0 (y ∷ []) 0 → Wired xs' p ys' q
wired_new xs xs' ys ys' x y p q e f a b w d = rw (e, f, a, b, get_or-append_seam xs x [] d, get_or-append_seam ys y [] d) (w d)

at_least : (n : ℕ) (xs : List NodeRow) (j i r : ℕ) (d : NodeRow) → SoFar n xs j i → r < j → r < n → j ≤ length (get_or xs r d).items + 1
at_least n xs j i r d s low in_n = elim (leb_tells i r) [
  | inl g ↦ let o = s.between r d g.1 low in_n in omega arith
  | inr l ↦ let o = s.before r d l.1 low in_n in omega arith
]

new_pair : (x y : End) → Joins x y → Wired (x ∷ []) 0 (y ∷ []) 0 × Wired (y ∷ []) 0 (x ∷ []) 0
new_pair x y h = (λ d. (h.there, h.sent.0, h.got.1), λ d. (h.back, h.sent.1, h.got.0))

pub joined_more : (n : ℕ) (xs ys : List NodeRow) (j i : ℕ) → i < j → j < n → length ys ≡ length xs → AreJoined xs ys i j → SoFar n xs j i → SoFar n ys j (i + 1)
joined_more n xs ys j i ij jn len h s = record {
  rows = len ∙ s.rows;
  before = λ r d low less in_n. elim (eqb_tells r i) [
    | inl e ↦ let o = s.between i d (omega arith) ij (omega arith) in let a = ap length (h.at_i d) in let b = length-append (get_or xs i d).items (h.x ∷ []) in rw e.1 (omega arith)
    | inr f ↦ let g : r ≢ j = omega arith in rw (h.other r d f.1 g) (s.before r d (omega (arith, f.1)) less in_n)
  ];
  between = λ r d low less in_n. let f : r ≢ i = omega arith in let g : r ≢ j = omega arith in rw (h.other r d f g) (s.between r d (omega arith) less in_n);
  here = λ r d e in_n. let o = s.here j d refl jn in let a = ap length (h.at_j d) in let b = length-append (get_or xs j d).items (h.y ∷ []) in rw e (omega arith);
  after = λ r d less in_n. let f : r ≢ i = omega arith in let g : r ≢ j = omega arith in rw (h.other r d f g) (s.after r d less in_n);
  earlier = λ a b d ab bj in_n.
      let l = at_least n xs j i a d s (omega arith) (omega arith) in
      let m = at_least n xs j i b d s bj in_n in
      pair_grown xs ys i j h a b d (omega arith) (omega arith) (s.earlier a b d ab bj in_n);
  these = λ a b d low e ab in_n. elim (eqb_tells a i) [
    | inl same ↦
        let o = s.between i d (omega arith) ij (omega arith) in
        let u = s.here j d refl jn in
        let w = new_pair h.x h.y h.joins in
        rw (same.1, e) (record {
          there = wired_new _ _ _ _ h.x h.y (j - 1) i (h.at_i d) (h.at_j d) (omega arith) (omega arith) w.0;
          back = wired_new _ _ _ _ h.y h.x i (j - 1) (h.at_j d) (h.at_i d) (omega arith) (omega arith) w.1;
        })
    | inr f ↦
        let less : a < i = omega (arith, f.1) in
        let o = s.before a d less (omega arith) (omega arith) in
        let u = s.here b d e in_n in
        pair_grown xs ys i j h a b d (omega arith) (omega arith) (s.these a b d less e ab in_n)
  ];
}

pub next_row : (n : ℕ) (xs : List NodeRow) (j : ℕ) → SoFar n xs j j → SoFar n xs (j + 1) 0
next_row n xs j s = record {
  rows = s.rows;
  before = λ r d low less in_n. absurd (omega arith);
  between = λ r d low less in_n. elim (eqb_tells r j) [
    | inl e ↦ let o = s.here r d e.1 in_n in omega arith
    | inr f ↦ let o = s.before r d (omega (arith, f.1)) (omega (arith, f.1)) in_n in omega arith
  ];
  here = λ r d e in_n. s.after r d (omega arith) in_n;
  after = λ r d less in_n. s.after r d (omega arith) in_n;
  earlier = λ a b d ab bj in_n. elim (eqb_tells b j) [
    | inl e ↦ s.these a b d (omega arith) e.1 ab in_n
    | inr f ↦ s.earlier a b d ab (omega (arith, f.1)) in_n
  ];
  these = λ a b d low e ab in_n. absurd (omega arith);
}

pub first_row : (n : ℕ) (xs : List NodeRow) → length xs ≡ n → ((r : ℕ) (d : NodeRow) → r < n → length (get_or xs r d).items ≡ 0) → SoFar n xs 0 0
first_row n xs len none = record {
  rows = len;
  before = λ r d low less in_n. absurd (omega arith);
  between = λ r d low less in_n. absurd (omega arith);
  here = λ r d e in_n. none r d in_n;
  after = λ r d less in_n. none r d in_n;
  earlier = λ a b d ab bj in_n. absurd (omega arith);
  these = λ a b d low e ab in_n. absurd (omega arith);
}

pub joined_here : (xs : List NodeRow) (i j : ℕ) (v v' w w' : NodeRow) (x y : End)
    → i < j → j < length xs
    → v ≡ get_or xs i v → v'.items ≡ v.items ++ x ∷ []
    → w ≡ get_or (set xs i v') j w → w'.items ≡ w.items ++ y ∷ []
    → Joins x y
    → AreJoined xs (set (set xs i v') j w') i j
joined_here xs i j v v' w w' x y ij jn vi vx wi wy js =
    let low : i < length xs = omega arith in
    let low2 : j < length (set xs i v') = let l = length-set xs i v' in omega arith in
    let ne : i ≢ j = omega arith in
    let ne2 : j ≢ i = omega arith in record {
      x = x;
      y = y;
      joins = js;
      at_i = λ d. let e : v ≡ get_or xs i d = vi ∙ get_or_default xs i v d low in rw (get_or-set_other (set xs i v') j i w' d ne, get_or-set_same xs i v' d low, ← e) vx;
      at_j = λ d.
          let e : w ≡ get_or xs j d = wi ∙ get_or_default (set xs i v') j w d low2 ∙ get_or-set_other xs i j v' d ne2 in rw (get_or-set_same (set xs i v') j w' d low2, ← e) wy;
      other = λ k d a b. get_or-set_other (set xs i v') j k w' d b ∙ get_or-set_other xs i k v' d a;
    }

-- ---- room

-- a row that is one link longer keeps the room of its rings
room_pushed : (room : ℕ) (xs : List NodeRow) (i : ℕ) (v w : NodeRow) (x : End) → i < length xs → v ≡ get_or xs i v → w.items ≡ v.items ++ x ∷ [] → bytes_room x.link ≡ room → HaveRowRoom room xs → HaveRowRoom room (set xs i w)
room_pushed room xs i v w x low vi wx new have k d within = elim (eqb_tells k i) [
  | inl t ↦
      let here : get_or (set xs i w) k d ≡ w = ap (λ n. get_or (set xs i w) n d) t.1 ∙ get_or-set_same xs i w d low in
      let before : All (λ (peer : End). bytes_room peer.link ≡ room) v.items = subst (λ (row : NodeRow). All (λ (peer : End). bytes_room peer.link ≡ room) row.items) (sym vi) (have i v low) in
      subst (λ (row : NodeRow). All (λ (peer : End). bytes_room peer.link ≡ room) row.items) (sym here)
      (subst (All (λ (peer : End). bytes_room peer.link ≡ room)) (sym wx) (all_push (λ (peer : End). bytes_room peer.link ≡ room) v.items x before new))
  | inr f ↦
      let less : k < length xs = let n = length-set xs i w in omega (arith, within, n) in
      subst (λ (row : NodeRow). All (λ (peer : End). bytes_room peer.link ≡ room) row.items) (sym (get_or-set_other xs i k w d f.1)) (have k d less)
]

pub room_joined : (room : ℕ) (xs : List NodeRow) (i j : ℕ) (v v' w w' : NodeRow) (x y : End)
    → i < j → j < length xs
    → v ≡ get_or xs i v → v'.items ≡ v.items ++ x ∷ []
    → w ≡ get_or (set xs i v') j w → w'.items ≡ w.items ++ y ∷ []
    → bytes_room x.link ≡ room → bytes_room y.link ≡ room
    → HaveRowRoom room xs → HaveRowRoom room (set (set xs i v') j w')
room_joined room xs i j v v' w w' x y ij jn vi vx wi wy rx ry have =
    let low2 : j < length (set xs i v') = let l = length-set xs i v' in omega (arith, jn, l) in
    room_pushed room (set xs i v') j w w' y low2 wi wy ry (room_pushed room xs i v v' x (omega (arith, ij, jn)) vi vx rx have)

-- rows without links
pub no_room : (room : ℕ) (xs : List NodeRow) → ((r : ℕ) (d : NodeRow) → r < length xs → length (get_or xs r d).items ≡ 0) → HaveRowRoom room xs
no_room room xs none k d low i e within = absurd (let n = none k d low in omega (arith, n, within))
