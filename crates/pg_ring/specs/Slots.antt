-- What a clause sees of the two ends of a ring of values.
use Rattle.std.specs.Prelude.{ℕ, List}
use Rattle.rtrb.specs.Ring.{sent, known_free, producer_capacity, received}
use Rattle.rtrb.specs.Ring.{known_items, IsPair, SameProducer, SameConsumer}
use Rattle.pg_ring.specs.declared.slot_out.SlotOut.{SlotOut}
use Rattle.pg_ring.specs.declared.slot_in.SlotIn.{SlotIn}

module _ {T : Type 0} where
  -- every value that was ever given
  abbrev pub given : SlotOut T → List T
  given out = sent out.producer

  -- for how many values this end knows room
  abbrev pub slots_free : SlotOut T → ℕ
  slots_free out = known_free out.producer

  -- for how many values the ring has room in all
  abbrev pub slots_room : SlotOut T → ℕ
  slots_room out = producer_capacity out.producer

  -- every value that was ever taken
  abbrev pub taken : SlotIn T → List T
  taken inlet = received inlet.consumer

  -- the values that this end knows to be in the ring
  abbrev pub slots_left : SlotIn T → List T
  slots_left inlet = known_items inlet.consumer

  -- both came from one `slot_pair`
  abbrev pub AreSlots : SlotOut T → SlotIn T → Type 0
  AreSlots out inlet = IsPair out.producer inlet.consumer

  -- the same end of the same ring
  abbrev pub SameSlotOut : SlotOut T → SlotOut T → Type 0
  SameSlotOut a b = SameProducer a.producer b.producer

  -- the same end of the same ring
  abbrev pub SameSlotIn : SlotIn T → SlotIn T → Type 0
  SameSlotIn a b = SameConsumer a.consumer b.consumer
