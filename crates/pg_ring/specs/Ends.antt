-- What a clause sees of the two ends of a ring between threads.
use Rattle.std.specs.Prelude.{◌≡◌, ℕ, List, ◌++◌, IsTrue}
use Rattle.rtrb.specs.Ring.{sent, known_free, producer_capacity, received}
use Rattle.rtrb.specs.Ring.{known_items, IsPair, SameProducer, SameConsumer}
use Rattle.pg_ring.specs.declared.ring_out.RingOut.{RingOut}
use Rattle.pg_ring.specs.declared.ring_in.RingIn.{RingIn}

-- every byte that was ever sent
abbrev pub bytes_sent : RingOut → List ℕ
bytes_sent out = sent out.producer

-- for how many bytes this end knows room
abbrev pub bytes_free : RingOut → ℕ
bytes_free out = known_free out.producer

-- for how many bytes the ring has room in all
abbrev pub bytes_room : RingOut → ℕ
bytes_room out = producer_capacity out.producer

-- every byte that was ever received
abbrev pub bytes_received : RingIn → List ℕ
bytes_received inlet = received inlet.consumer

-- the bytes that this end knows to be in the ring
abbrev pub bytes_left : RingIn → List ℕ
bytes_left inlet = known_items inlet.consumer

-- the bytes that this end knows are all there are, and the next `take` looks no further
abbrev pub IsSettled : RingIn → Type 0
IsSettled inlet = IsTrue inlet.settled

-- both came from one `ring_pair`
abbrev pub AreEnds : RingOut → RingIn → Type 0
AreEnds out inlet = IsPair out.producer inlet.consumer

-- the same end of the same ring
abbrev pub SameRingOut : RingOut → RingOut → Type 0
SameRingOut a b = SameProducer a.producer b.producer

-- the same end of the same ring
abbrev pub SameRingIn : RingIn → RingIn → Type 0
SameRingIn a b = SameConsumer a.consumer b.consumer

-- the same end, which has sent the bytes xs meanwhile
pub record Sends (a : RingOut) (xs : List ℕ) (b : RingOut) : Type 0 where
  pub same : SameRingOut a b
  pub grown : bytes_sent b ≡ bytes_sent a ++ xs

-- the same end, which has received the bytes xs meanwhile
pub record Receives (a : RingIn) (xs : List ℕ) (b : RingIn) : Type 0 where
  pub same : SameRingIn a b
  pub grown : bytes_received b ≡ bytes_received a ++ xs
