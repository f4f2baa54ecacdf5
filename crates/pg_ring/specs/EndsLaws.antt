-- The two ends of a ring between threads as a link and as an inlet.
use Rattle.std.specs.Prelude.{◌≡◌, ℕ, List, [], ◌++◌, refl}
use Rattle.std.proofs.Common.{sym, append_assoc, ◌∙◌, ap}
use Rattle.std.proofs.lemmas.List.{append-nil, append_cancel_left}
use Rattle.pg_ring.specs.declared.ring_out.RingOut.{RingOut}
use Rattle.pg_ring.specs.declared.ring_in.RingIn.{RingIn}
use Rattle.pg_ring.specs.Ends.{AreEnds, SameRingOut, SameRingIn, Sends, Receives, bytes_sent, bytes_received}

-- nothing was sent
pub Sends-rests : (a : RingOut) → Sends a [] a
Sends-rests a = record { same = ((refl, refl, refl, refl), refl); grown = sym (append-nil _) }

-- one run of bytes was sent, and then another
pub Sends-composes : (a b c : RingOut) (xs ys : List ℕ) → Sends a xs b → Sends b ys c → Sends a (xs ++ ys) c
Sends-composes a b c xs ys p q = record {
  same = (
    (
      q.same.0.0 ∙ p.same.0.0,
      q.same.0.1 ∙ p.same.0.1,
      q.same.0.2 ∙ p.same.0.2,
      q.same.0.3 ∙ p.same.0.3,
    ),
    q.same.1 ∙ p.same.1,
  );
  grown = q.grown ∙ ap (λ w. w ++ ys) p.grown ∙ append_assoc (bytes_sent a) xs ys;
}

-- two runs that lead to the same end are one
pub Sends-agrees : (a b : RingOut) (xs ys : List ℕ) → Sends a xs b → Sends a ys b → xs ≡ ys
Sends-agrees a b xs ys p q = append_cancel_left (bytes_sent a) xs ys (sym p.grown ∙ q.grown)

-- nothing was received
pub Receives-rests : (a : RingIn) → Receives a [] a
Receives-rests a = record { same = ((refl, refl, refl, refl), refl); grown = sym (append-nil _) }

-- one run of bytes was received, and then another
pub Receives-composes : (a b c : RingIn) (xs ys : List ℕ) → Receives a xs b → Receives b ys c → Receives a (xs ++ ys) c
Receives-composes a b c xs ys p q = record {
  same = (
    (
      q.same.0.0 ∙ p.same.0.0,
      q.same.0.1 ∙ p.same.0.1,
      q.same.0.2 ∙ p.same.0.2,
      q.same.0.3 ∙ p.same.0.3,
    ),
    q.same.1 ∙ p.same.1,
  );
  grown = q.grown ∙ ap (λ w. w ++ ys) p.grown ∙ append_assoc (bytes_received a) xs ys;
}

-- two runs that lead to the same end are one
pub Receives-agrees : (a b : RingIn) (xs ys : List ℕ) → Receives a xs b → Receives a ys b → xs ≡ ys
Receives-agrees a b xs ys p q = append_cancel_left (bytes_received a) xs ys (sym p.grown ∙ q.grown)

-- the ends of one ring are the ends of one ring later too
pub AreEnds-later : (out later_out : RingOut) (inlet later_inlet : RingIn) → AreEnds out inlet → SameRingOut out later_out → SameRingIn inlet later_inlet → AreEnds later_out later_inlet
AreEnds-later out later_out inlet later_inlet pair p q = (
  q.0.0 ∙ pair.0 ∙ sym p.0.0,
  q.0.1 ∙ pair.1 ∙ sym p.0.1,
  q.0.2 ∙ pair.2 ∙ sym p.0.2,
  q.0.3 ∙ pair.3 ∙ sym p.0.3,
)
