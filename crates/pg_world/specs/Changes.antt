-- What a step over bytes changes, and how many bytes move.
use Rattle.std.specs.Prelude.{◌≡◌, ◌≢◌, ◌-◌, ◌++◌, ℕ, Bool, true, false, not, List}
use Rattle.std.specs.Prelude.{min, length, get_or, slice_get, Some, None, Result, Ok, Err}
use Rattle.pg_world_packets.specs.PgStep.Machines.Places.{is_pair}
use Rattle.pg_world_packets.specs.PgFrame.Pieces.{Bytes, ring_put, pull}
use Rattle.pg_world_packets.specs.PgMessageTypes.declared.packet.Packet.{Packet}
use Rattle.pg_world_packets.specs.PgNodeState.declared.state.fault.NodeFault.{NodeFault}
use Rattle.pg_world_packets.specs.PgNodeState.declared.state.fault.NodeFault.TheVariants.{Refused}
use Rattle.pg_node.specs.Bytes.{closed, damages, next_packet}
use Rattle.pg_node.specs.Links.{Link, at_link}
use Rattle.pg_world_packets.specs.declared.step.FrameStep.{FrameStep}
use Rattle.pg_world_packets.specs.declared.step.FrameStep.TheVariants as frames
use Rattle.pg_world.specs.declared.step.Step.{Step}
use Rattle.pg_world.specs.declared.step.Step.TheVariants as steps
use Rattle.pg_world_packets.specs.declared.step.Stepped.{Stepped}
use Rattle.pg_world_packets.specs.declared.step.Stepped.TheVariants.{Nothing, Moved}
use Rattle.pg_world_packets.specs.Losing.{is_told_first}
use Rattle.pg_world_packets.specs.Views.{peer_place}
use Rattle.pg_world.specs.Crossings.{Crossing, no_links, link_at, bytes_at}

-- Bytes have moved from one node to another, and all else is as it was.
pub record Moves (old new : Crossing) (x y : ℕ) (change : Bytes → Bytes) : Type 0 where
  pub nodes : new.nodes ≡ old.nodes
  pub here : bytes_at new x y ≡ change (bytes_at old x y)
  pub others : (a b : ℕ) → is_pair (length old.nodes) a b ≡ true → ((a ≡ x) × (b ≡ y) → ⊥) → bytes_at new a b ≡ bytes_at old a b
  pub damaged : (a b : ℕ) → (link_at new a b).damaged ≡ (link_at old a b).damaged

-- as many go on a ring with room for so many as there are, as should, and as find room
abbrev pub put_count : ℕ → ℕ → Bytes → ℕ
put_count capacity max bytes = min (min max (length bytes.outbox)) (capacity - length bytes.ring)

-- as many come off it as there are, and as should, but at most 65,536
abbrev pub pull_count : ℕ → Bytes → ℕ
pull_count max bytes = min (min max 65536) (length bytes.ring)

-- what came of bytes that should move: so many moved, as a change says; or nothing changed
abbrev pub MoveChanges : Crossing → Crossing → ℕ → ℕ → ℕ → (ℕ → Bytes → Bytes) → Result Stepped NodeFault → Type 0
MoveChanges old new x y most change (Ok (Moved count)) = (count ≡ most) × Moves old new x y (change count)
MoveChanges old new x y most change result = new ≡ old

-- the links of a node
abbrev pub links_at : Crossing → ℕ → ℕ → Link
links_at crossing x = get_or crossing.links x no_links

-- One node and its links may have changed, and nothing else.
pub record ChangesAlone (i : ℕ) (old new : Crossing) : Type 0 where
  pub nodes : (x : ℕ) → x ≢ i → slice_get new.nodes x ≡ slice_get old.nodes x
  pub links : (x : ℕ) → x ≢ i → links_at new x ≡ links_at old x
  pub rings : new.rings ≡ old.rings

-- Behind what went out from a node more may go out.
pub record SendsOn (i : ℕ) (old new : Crossing) : Type 0 where
  pub alone : ChangesAlone i old new
  pub more : ℕ → List ℕ
  pub behind : (k : ℕ) → (links_at new i k).outbox ≡ (links_at old i k).outbox ++ more k

-- no whole frame of a peer has come
abbrev pub HasNone : Crossing → ℕ → ℕ → Type 0
HasNone crossing i p = next_packet (link_at crossing i p) ≡ Ok None

-- a whole frame has come, of a packet
abbrev pub HasPacket : Crossing → ℕ → ℕ → Type 0
HasPacket crossing i p = (packet : Packet) × (next_packet (link_at crossing i p) ≡ Ok (Some packet))

-- What a take changes: its node alone, and nothing where no whole frame has come, or where it is refused. A packet is taken, or refused for
-- what it is or for a full clock, only where its whole frame has come.
abbrev pub TakeChanges : Crossing → Crossing → ℕ → ℕ → Result Stepped NodeFault → Type 0
TakeChanges old new i p (Ok Nothing) = HasNone old i p × (new ≡ old)
TakeChanges old new i p (Ok stepped) = HasPacket old i p × SendsOn i old new
TakeChanges old new i p (Err (Refused refusal)) = (is_told_first (Some refusal) ≡ false → HasPacket old i p) × (new ≡ old)
TakeChanges old new i p (Err fault) = new ≡ old

-- what a command or a retry changes: its node alone, and nothing where it is refused
abbrev pub OwnChanges : Crossing → Crossing → ℕ → Result Stepped NodeFault → Type 0
OwnChanges old new i (Ok Nothing) = ⊥
OwnChanges old new i (Ok stepped) = SendsOn i old new
OwnChanges old new i (Err fault) = new ≡ old

-- what seeing a loss changes: nothing goes out to the lost node any more, and nothing changes where it is refused
abbrev pub SightChanges : Crossing → Crossing → ℕ → ℕ → Result Stepped NodeFault → Type 0
SightChanges old new i p (Ok stepped) = ChangesAlone i old new × (links_at new i ≡ at_link (peer_place i p) closed (links_at old i))
SightChanges old new i p (Err fault) = new ≡ old

-- what an event changes
abbrev pub FrameChanges : Crossing → Crossing → FrameStep → Result Stepped NodeFault → Type 0
FrameChanges old new (frames.Take i p) result = TakeChanges old new i p result
FrameChanges old new (frames.Command i port command) result = OwnChanges old new i result
FrameChanges old new (frames.Retry i op) result = OwnChanges old new i result
FrameChanges old new (frames.SeeLoss i p) result = SightChanges old new i p result
FrameChanges old new (frames.Lose i keep) result = new ≡ old

-- what a step changes, where each ring has room for so many bytes; a loss leaves all bytes where they are
abbrev pub StepChanges : ℕ → Crossing → Crossing → Step → Result Stepped NodeFault → Type 0
StepChanges capacity old new (steps.Put x y max) result = MoveChanges old new x y (put_count capacity max (bytes_at old x y)) ring_put result
StepChanges capacity old new (steps.Pull y x max) result = MoveChanges old new x y (pull_count max (bytes_at old x y)) pull result
StepChanges capacity old new (steps.Event step) result = FrameChanges old new step result
StepChanges capacity old new (steps.Lose node) result = new ≡ old

-- ---- damage

-- no fault of what came in damages a link; none does in a world to which events lead from the start
abbrev pub is_harmless : Result Stepped NodeFault → Bool
is_harmless (Ok stepped) = true
is_harmless (Err fault) = not (damages fault)

-- the same of an event: a take alone reads what came in
abbrev pub spares : FrameStep → Result Stepped NodeFault → Bool
spares (frames.Take i p) result = is_harmless result
spares step result = true

abbrev pub spares_links : Step → Result Stepped NodeFault → Bool
spares_links (steps.Event step) result = spares step result
spares_links step result = true
