-- The links of a node to its peers, by the places of the peers, and the frames that go out there.
use Rattle.std.specs.Prelude.{◌≤◌, ◌+◌, ◌<◌, ℕ, zero, suc, nat_eq}
use Rattle.std.specs.Prelude.{Bool, false, List, [], ◌∷◌, ◌++◌, length, drop}
use Rattle.pg_node_state.specs.PgGroup.Functions.{upd}
use Rattle.pg_node_state.specs.PgMessageWriter.Limits.{max_small_len}
use Rattle.pg_node.specs.declared.node.wire.Wire.{Wire}

-- what stands in the link to a peer: the bytes that came in and were not taken, those that go out and were not put, and
-- whether a fault was told of it
pub record Link : Type 0 where
  pub unread : List ℕ
  pub outbox : List ℕ
  pub damaged : Bool

abbrev pub idle_link : Link
idle_link = record { unread = []; outbox = []; damaged = false }

abbrev pub link_of : Wire → Link
link_of wire = record { unread = wire.deframer.unread; outbox = wire.outbox.items; damaged = wire.damaged }

-- a part of the link at a place
abbrev pub part_in : {A : Type 0} → (Wire → A) → A → List Wire → ℕ → A
part_in part none [] place = none
part_in part none (wire ∷ wires) zero = part wire
part_in part none (wire ∷ wires) (suc n) = part_in part none wires n

-- the links by their places
abbrev pub links_in : List Wire → ℕ → Link
links_in wires = part_in link_of idle_link wires

-- for how many bytes the outbox at each place has room
abbrev pub room_in : List Wire → ℕ → ℕ
room_in wires = part_in (λ wire. wire.outbox.spare) 0 wires

-- a link with more bytes that go out
abbrev pub with_more : Link → List ℕ → Link
with_more link more = record link { outbox = link.outbox ++ more }

-- a link of whose outbox so many bytes were put
abbrev pub without_front : Link → ℕ → Link
without_front link count = record link { outbox = drop count link.outbox }

-- a link where more bytes came in
abbrev pub with_fed : Link → List ℕ → Link
with_fed link piece = record link { unread = link.unread ++ piece }

-- the link at one place is another
abbrev pub at_link : ℕ → (Link → Link) → (ℕ → Link) → ℕ → Link
at_link place change links = upd nat_eq links place (change (links place))

-- a small frame needs no memory
abbrev pub HasFrameRoom : Wire → Type 0
HasFrameRoom wire = 4 + max_small_len ≤ wire.outbox.spare

-- nor does one at any place
abbrev pub HaveFrameRoom : List Wire → Type 0
HaveFrameRoom wires = (place : ℕ) → place < length wires → 4 + max_small_len ≤ room_in wires place
