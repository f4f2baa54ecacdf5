-- The two ends of a ring of values.
use Rattle.std.proofs.Common.{sym, ◌∙◌}
use Rattle.pg_ring.specs.declared.slot_out.SlotOut.{SlotOut}
use Rattle.pg_ring.specs.declared.slot_in.SlotIn.{SlotIn}
use Rattle.pg_ring.specs.Slots.{AreSlots, SameSlotOut, SameSlotIn}

-- the ends of one ring of values are the ends of one ring of values later too
pub AreSlots-later : {T : Type 0} (out later_out : SlotOut T) (inlet later_inlet : SlotIn T) → AreSlots out inlet → SameSlotOut out later_out → SameSlotIn inlet later_inlet → AreSlots later_out later_inlet
AreSlots-later out later_out inlet later_inlet pair p q = (
  q.0.0 ∙ pair.0 ∙ sym p.0.0,
  q.0.1 ∙ pair.1 ∙ sym p.0.1,
  q.0.2 ∙ pair.2 ∙ sym p.0.2,
  q.0.3 ∙ pair.3 ∙ sym p.0.3,
)
