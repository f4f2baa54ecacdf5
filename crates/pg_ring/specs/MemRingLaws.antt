-- A ring in memory as a link and as an inlet.
use Rattle.std.specs.Prelude.{◌≡◌, ℕ, List, [], ◌++◌, refl}
use Rattle.std.proofs.Common.{sym, append_assoc, ◌∙◌, ap}
use Rattle.std.proofs.lemmas.List.{append-nil, append_cancel_left, append_cancel_right}
use Rattle.std.proofs.Math.Nat.{zero-min}
use Rattle.pg_ring.specs.MemRing.{RingBytes, Grows, Loses, HasRoomFor, free_room}

-- nothing was taken in
pub Grows-rests : (a : RingBytes) → Grows a [] a
Grows-rests a = record { grown = sym (append-nil _); kept = refl }

-- one run of bytes was taken in, and then another
pub Grows-composes : (a b c : RingBytes) (xs ys : List ℕ) → Grows a xs b → Grows b ys c → Grows a (xs ++ ys) c
Grows-composes a b c xs ys p q = record {
  grown = q.grown ∙ ap (λ w. w ++ ys) p.grown ∙ append_assoc a.unread xs ys;
  kept = q.kept ∙ p.kept;
}

-- two runs that lead to the same ring are one
pub Grows-agrees : (a b : RingBytes) (xs ys : List ℕ) → Grows a xs b → Grows a ys b → xs ≡ ys
Grows-agrees a b xs ys p q = append_cancel_left a.unread xs ys (sym p.grown ∙ q.grown)

-- of nothing that is offered nothing is taken in
pub HasRoomFor-idles : (a : RingBytes) → HasRoomFor a 0 0
HasRoomFor-idles a = sym (zero-min (free_room a))

-- nothing was given
pub Loses-rests : (a : RingBytes) → Loses a [] a
Loses-rests a = record { lost = refl; kept = refl }

-- one run of bytes was given, and then another
pub Loses-composes : (a b c : RingBytes) (xs ys : List ℕ) → Loses a xs b → Loses b ys c → Loses a (xs ++ ys) c
Loses-composes a b c xs ys p q = record {
  lost = p.lost ∙ ap (λ w. xs ++ w) q.lost ∙ sym (append_assoc xs ys c.unread);
  kept = q.kept ∙ p.kept;
}

-- two runs that lead to the same ring are one
pub Loses-agrees : (a b : RingBytes) (xs ys : List ℕ) → Loses a xs b → Loses a ys b → xs ≡ ys
Loses-agrees a b xs ys p q = append_cancel_right xs ys b.unread (sym p.lost ∙ q.lost)
