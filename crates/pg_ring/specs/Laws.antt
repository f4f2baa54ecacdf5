-- The laws of rings.
use Rattle.std.specs.Prelude.{◌≡◌, ℕ, List, ◌++◌}
use Rattle.pg_ring.specs.declared.ring_out.RingOut.{RingOut}
use Rattle.pg_ring.specs.declared.ring_in.RingIn.{RingIn}
use Rattle.pg_ring.specs.declared.slot_out.SlotOut.{SlotOut}
use Rattle.pg_ring.specs.declared.slot_in.SlotIn.{SlotIn}
use Rattle.pg_ring.specs.Ends.{AreEnds, SameRingOut, SameRingIn}
use Rattle.pg_ring.specs.Slots.{AreSlots, SameSlotOut, SameSlotIn}
use Rattle.pg_ring.specs.MemRing.{RingBytes, Grows, Loses}

-- the ends of one ring stay so, whatever was sent and received
abbrev pub LaterEndsPair : Type 0
LaterEndsPair =
    (out later_out : RingOut) (inlet later_inlet : RingIn)
    → AreEnds out inlet
    → SameRingOut out later_out
    → SameRingIn inlet later_inlet
    → AreEnds later_out later_inlet

-- the ends of one ring of values stay so, whatever was given and taken
abbrev pub LaterSlotsPair : Type 0 → Type 0
LaterSlotsPair T =
    (out later_out : SlotOut T) (inlet later_inlet : SlotIn T)
    → AreSlots out inlet
    → SameSlotOut out later_out
    → SameSlotIn inlet later_inlet
    → AreSlots later_out later_inlet

-- a ring in memory gives its bytes in the order in which it took them in
abbrev pub RingKeepsOrder : Type 0
RingKeepsOrder =
    (a b c : RingBytes) (xs ys : List ℕ) → Grows a xs b → Loses b ys c → ys ++ c.unread ≡ a.unread ++ xs
