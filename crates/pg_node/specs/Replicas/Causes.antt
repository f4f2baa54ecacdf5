-- Why a server stops before the end of its input, and what was flushed by then.
use Rattle.std.specs.Prelude.{◌≡◌, ◌<◌, ◌^◌, ◌⊎◌, ⊤, ℕ, List, [], ◌∷◌, ◌++◌, length, Option, None, Result, Ok, Err}
use Rattle.std.specs.Io.KnownBytes.{Appends}
use Rattle.pg_node_state.specs.PgFrame.Frames.{bodies_of}
use Rattle.pg_node.specs.declared.replica.fault.ServeFault.{ServeFault}
use Rattle.pg_node.specs.declared.replica.fault.ServeFault.TheVariants.{ReadFault, WriteFault}
use Rattle.pg_node.specs.Replicas.Replica.{Pair, start, replica_run, frames_of}

-- what a fault of reading and one of writing come from; the other faults are none of reading or writing
abbrev pub Cause : Type 0 → Type 0 → ServeFault → Type 0
Cause unread unwritten ReadFault = unread
Cause unread unwritten WriteFault = unwritten
Cause unread unwritten fault = ⊤

-- it is as a failure left it
abbrev pub FailedAt : {A : Type 0} → (A → A → Type 0) → A → Type 0
FailedAt {A} fails now = (before : A) × fails before now

-- reads one after another gave these pieces, each of some bytes; the last of them stands first
abbrev pub GaveChunks : {R : Type 0} → (R → List ℕ → R → Type 0) → R → List (List ℕ) → R → Type 0
GaveChunks gives old [] new = new ≡ old
GaveChunks {R} gives old (piece ∷ earlier) new = (before : R) × GaveChunks gives old earlier before × gives before piece new × (0 < length piece)

-- each read so far gave some bytes: none failed, and none was at the end of the input
abbrev pub EachGave : {R : Type 0} → (R → List ℕ → R → Type 0) → R → R → Type 0
EachGave gives old new = (pieces : List (List ℕ)) × GaveChunks gives old pieces new

-- a read gave some bytes
abbrev pub Gave : {R : Type 0} → (R → List ℕ → R → Type 0) → R → R → Type 0
Gave gives old new = (piece : List ℕ) × gives old piece new × (0 < length piece)

-- pieces, the last of them first, as one list of bytes
abbrev pub joined : List (List ℕ) → List ℕ
joined [] = []
joined (piece ∷ earlier) = joined earlier ++ piece

-- each packet that is whole in this input was answered, and the replies were written
pub record AllAnswered (pair : Pair) (before after : Option (List ℕ)) (input : List ℕ) : Type 0 where
  pub taken : (replica_run pair start (bodies_of input)).fault ≡ None
  pub wrote : Appends before after (frames_of (replica_run pair start (bodies_of input)).replies)

-- after reads that gave pieces with the fact P a read failed, or 2^40 reads were made
pub record Unread {R : Type 0} (gives : R → List ℕ → R → Type 0) (fails : R → R → Type 0) (old new : R) (P : List ℕ → Type 0) : Type 0 where
  pub pieces : List (List ℕ)
  pub fact : P (joined pieces)
  pub last : ((before : R) × GaveChunks gives old pieces before × fails before new) ⊎ (GaveChunks gives old pieces new × (length pieces ≡ 2 ^ 40))

-- nothing was written, or all that was written was flushed
abbrev pub IsFlushed : {W : Type 0} → (W → Type 0) → W → W → Type 0
IsFlushed flushed old new = (new ≡ old) ⊎ flushed new

-- Reads gave pieces, each of some bytes. When the last of them was read, all that was written by then was flushed, and P holds of the
-- sink and of the pieces before it. A part was written since.
pub record InTurn {R W : Type 0} (gives : R → List ℕ → R → Type 0) (flushed : W → Type 0) (contents : W → Option (List ℕ)) (old new : R) (first last : W)
    (P : W → List ℕ → Type 0) : Type 0 where
  pub piece : List ℕ
  pub earlier : List (List ℕ)
  pub gave : GaveChunks gives old (piece ∷ earlier) new
  pub between : W
  pub out : IsFlushed flushed first between
  pub fact : P between (joined earlier)
  pub part : List ℕ
  pub since : Appends (contents between) (contents last) part

-- at the end of the input, and where it can't be read, all that was written was flushed
abbrev pub LeavesFlushed : {W : Type 0} → (W → Type 0) → W → W → Result (Unit {0}) ServeFault → Type 0
LeavesFlushed flushed old new (Ok done) = IsFlushed flushed old new
LeavesFlushed flushed old new (Err ReadFault) = IsFlushed flushed old new
LeavesFlushed flushed old new (Err fault) = ⊤
