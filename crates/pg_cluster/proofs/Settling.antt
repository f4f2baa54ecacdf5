-- Lemmas on both ends of rings in one hand.
use Rattle.std.proofs.Common.{◌≡◌, ◌<◌, ◌+◌, ℕ, List, [], ◌++◌, length, get_or}
use Rattle.std.proofs.Common.{set, refl, sym, ◌∙◌, ap, subst, arith, inl, inr}
use Rattle.std.proofs.lemmas.Bool.Decides.{eqb_tells}
use Rattle.std.proofs.lemmas.List.{append-nil, get_or-set_same, get_or-set_other, get_or_default, length-set}
use Rattle.pg_ring.specs.declared.ring_out.RingOut.{RingOut}
use Rattle.pg_ring.specs.declared.ring_in.RingIn.{RingIn}
use Rattle.pg_ring.specs.Ends.{Sends, Receives, bytes_sent, bytes_received}
use Rattle.pg_ring.specs.EndsLaws.{Sends-rests, Sends-composes, Receives-rests, Receives-composes, AreEnds-later}
use Rattle.pg_cluster_judges.specs.Apart.{End}
use Rattle.pg_cluster.specs.Ended.{Arrived, SameEnd, SameRow, SameRows, AreEndsAt, ArrivedAt, NodeRow}

-- ---- one end

pub rests : (a : End) → SameEnd a a
rests a = record { link = Sends-rests a.link; inlet = Receives-rests a.inlet }

pub composes : (a b c : End) → SameEnd a b → SameEnd b c → SameEnd a c
composes a b c p q = record {
  link = Sends-composes a.link b.link c.link [] [] p.link q.link;
  inlet = Receives-composes a.inlet b.inlet c.inlet [] [] p.inlet q.inlet;
}

-- what was found at ends later was so before
pub arrived : (from to : End) (link : RingOut) (inlet : RingIn) (left : List ℕ) → Sends from.link [] link → Receives to.inlet [] inlet
    → bytes_received inlet ++ left ≡ bytes_sent link → Arrived from to
arrived from to link inlet left s r whole = record {
  left = left;
  sent = ap (λ w. w ++ left) (sym (r.grown ∙ append-nil _)) ∙ (whole ∙ (s.grown ∙ append-nil _));
}

pub arrived_before : (from to from2 to2 : End) → SameEnd from from2 → SameEnd to to2 → Arrived from2 to2 → Arrived from to
arrived_before from to from2 to2 p q a = arrived from to from2.link to2.inlet a.left p.link q.inlet a.sent

-- ---- one row

pub row_rests : (row : List End) → SameRow row row
row_rests row = record { len = refl; each = λ place none. rests (get_or row place none) }

pub row_composes : (a b c : List End) → SameRow a b → SameRow b c → SameRow a c
row_composes a b c p q = record {
  len = q.len ∙ p.len;
  each = λ place none. composes (get_or a place none) (get_or b place none) (get_or c place none) (p.each place none) (q.each place none);
}

-- one end is the same end
pub row_changed : (row : List End) (place : ℕ) (e f : End) → place < length row → e ≡ get_or row place e → SameEnd e f → SameRow row (set row place f)
row_changed row place e f low is same = record {
  len = length-set row place f;
  each = λ i none. elim (eqb_tells i place) [
    | inl t ↦ rw (t.1, get_or-set_same row place f none low, sym (is ∙ get_or_default row place e none low)) same
    | inr t ↦ rw (get_or-set_other row place i f none t.1) (rests (get_or row i none))
  ];
}

pub ends_later : (low low2 high high2 : List End) (p q : ℕ) → SameRow low low2 → SameRow high high2 → AreEndsAt low p high q → AreEndsAt low2 p high2 q
ends_later low low2 high high2 p q a b ends none =
    let l = a.each p none in
    let h = b.each q none in
    let e = ends none in (
      AreEnds-later (get_or low p none).link (get_or low2 p none).link (get_or high q none).inlet (get_or high2 q none).inlet e.0 l.link.same h.inlet.same,
      AreEnds-later (get_or high q none).link (get_or high2 q none).link (get_or low p none).inlet (get_or low2 p none).inlet e.1 h.link.same l.inlet.same,
    )

pub both_before : (low low2 high high2 : List End) (p q : ℕ) → SameRow low low2 → SameRow high high2 → ArrivedAt low2 p high2 q → ArrivedAt low p high q
both_before low low2 high high2 p q a b both none = (
  arrived_before (get_or low p none) (get_or high q none) (get_or low2 p none) (get_or high2 q none) (a.each p none) (b.each q none) (both none).0,
  arrived_before (get_or high q none) (get_or low p none) (get_or high2 q none) (get_or low2 p none) (b.each q none) (a.each p none) (both none).1,
)

-- ---- all rows

pub rows_rest : (rows : List NodeRow) → SameRows rows rows
rows_rest rows = (refl, λ x none. row_rests (get_or rows x none).items)

pub rows_compose : (xs ys zs : List NodeRow) → SameRows xs ys → SameRows ys zs → SameRows xs zs
rows_compose xs ys zs p q = (q.0 ∙ p.0, λ x none. row_composes (get_or xs x none).items (get_or ys x none).items (get_or zs x none).items (p.1 x none) (q.1 x none))

-- one row is the same row
pub rows_changed : (rows : List NodeRow) (place : ℕ) (v w : NodeRow) → place < length rows → v ≡ get_or rows place v → SameRow v.items w.items → SameRows rows (set rows place w)
rows_changed rows place v w low is same = (
  length-set rows place w,
  λ i none. elim (eqb_tells i place) [
    | inl t ↦ rw (t.1, get_or-set_same rows place w none low, sym (is ∙ get_or_default rows place v none low)) same
    | inr t ↦ rw (get_or-set_other rows place i w none t.1) (row_rests (get_or rows i none).items)
  ],
)

-- ---- one node after another

-- of the two rings between a last node and one before it, what was found later
arrived_one : (rows rows2 : List NodeRow) (row row2 : List End) (place last last2 : ℕ) (v : NodeRow) → SameRows rows rows2 → SameRow row row2 → place < length rows2 → v ≡ get_or rows2 place v
    → last2 ≡ last → ArrivedAt v.items last2 row2 place → (none : NodeRow) → ArrivedAt (get_or rows place none).items last row place
arrived_one rows rows2 row row2 place last last2 v same is low at e both none =
    both_before (get_or rows place none).items (get_or rows2 place none).items row row2 last place (same.1 place none) is
    (subst (λ (w : NodeRow). ArrivedAt w.items last row2 place) (at ∙ get_or_default rows2 place v none low) (subst (λ k. ArrivedAt v.items k row2 place) e both))

pub arrived_more : (rows rows2 : List NodeRow) (row row2 : List End) (place last last2 : ℕ) (v : NodeRow) → SameRows rows rows2 → SameRow row row2 → place < length rows2 → v ≡ get_or rows2 place v
    → last2 ≡ last → ArrivedAt v.items last2 row2 place
    → ((x : ℕ) (none : NodeRow) → x < place → ArrivedAt (get_or rows x none).items last row x)
    → (x : ℕ) (none : NodeRow) → x < place + 1 → ArrivedAt (get_or rows x none).items last row x
arrived_more rows rows2 row row2 place last last2 v same is low at e both before x none less = elim (eqb_tells x place) [
  | inl t ↦ subst (λ k. ArrivedAt (get_or rows k none).items last row k) (sym t.1) (arrived_one rows rows2 row row2 place last last2 v same is low at e both none)
  | inr f ↦ before x none (omega (arith, f.1, less))
]
