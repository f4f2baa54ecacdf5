-- What a server does with the frames that came in.
use Rattle.std.specs.Prelude.{◌≡◌, ◌<◌, ℕ, Bool, true, false, List, [], ◌++◌, length, Option, Some, None, Ok, Err, ◌⊎◌}
use Rattle.std.specs.Io.KnownBytes.{Appends, Keeps, Consumes, IsAtEnd}
use Rattle.pg_term.specs.declared.fault.TermFault.TheVariants.{OutOfMemory}
use Rattle.pg_node_state.specs.PgMessageTypes.declared.fault.MessageFault.TheVariants.{Term}
use Rattle.pg_node_state.specs.PgFrame.Frames.{front_of, too_long, Leaves}
use Rattle.pg_node.specs.declared.replica.fault.ServeFault.{ServeFault}
use Rattle.pg_node.specs.declared.replica.fault.ServeFault.TheVariants.{Message, FrameTooLong, ReadFault, WriteFault}
use Rattle.pg_node.specs.Replicas.Causes.{joined}
use Rattle.pg_node.specs.Replicas.Replica.{Pair, State, Answer, answered, replica_run, start, frames_of}

-- some bodies were taken and answered, and their replies written
pub record HasServed (pair : Pair) (unread0 unread1 : List ℕ) (s0 s1 : State) (out0 out1 : Option (List ℕ)) : Type 0 where
  pub bodies : List (List ℕ)
  pub replies : List (List ℕ)
  pub leaves : Leaves unread0 bodies unread1
  pub ran : replica_run pair s0 bodies ≡ record { replies = replies; state = s1; fault = None }
  pub wrote : Appends out0 out1 (frames_of replies)

-- the next body is refused
pub record Refused (pair : Pair) (fault : ServeFault) (unread : List ℕ) (s : State) : Type 0 where
  pub body : List ℕ
  pub front : front_of unread ≡ Ok (Some body)
  pub is : answered pair s body ≡ Err fault

-- the next body is answered, and a prefix of its replies is written
pub record CutShort (pair : Pair) (unread : List ℕ) (s : State) (out0 out1 : Option (List ℕ)) : Type 0 where
  pub body : List ℕ
  pub front : front_of unread ≡ Ok (Some body)
  pub answer : Answer
  pub is : answered pair s body ≡ Ok answer
  pub part : List ℕ
  pub missing : List ℕ
  pub cut : part ++ missing ≡ frames_of answer.sent
  pub wrote : Appends out0 out1 part

-- a fault comes next
abbrev pub StopsAt : Pair → ServeFault → List ℕ → State → Option (List ℕ) → Option (List ℕ) → Type 0
StopsAt pair FrameTooLong unread s w out1 = ((front_of unread ≡ Err too_long) ⊎ Refused pair FrameTooLong unread s) × Keeps w out1
StopsAt pair (Message (Term OutOfMemory)) unread s w out1 = Keeps w out1
StopsAt pair ReadFault unread s w out1 = Keeps w out1
-- a reply was cut short, or a flush failed
StopsAt pair WriteFault unread s w out1 = CutShort pair unread s w out1 ⊎ Keeps w out1
StopsAt pair fault unread s w out1 = Refused pair fault unread s × Keeps w out1

-- after some progress
pub record Stops (pair : Pair) (fault : ServeFault) (unread0 : List ℕ) (s0 : State) (out0 out1 : Option (List ℕ)) : Type 0 where
  pub unread : List ℕ
  pub state : State
  pub written : Option (List ℕ)
  pub progress : HasServed pair unread0 unread s0 state out0 written
  pub stops : StopsAt pair fault unread state written out1

-- the next piece, of which P says how it was read, came in, or the input was over
pub record ReadsSome (P : List ℕ → Type 0) (r0 r1 : Option (List ℕ)) (unread0 unread1 : List ℕ) (more : Bool) : Type 0 where
  pub piece : List ℕ
  pub gave : P piece
  pub consumed : Consumes r0 r1 piece
  pub fed : unread1 ≡ unread0 ++ piece
  pub over : more ≡ false → IsAtEnd r1 × (piece ≡ [])
  pub some : more ≡ true → 0 < length piece

-- the pieces that came in since the start, the last of them first, and of which P says how they were read, were answered as
-- far as packets are whole
pub record Serving (pair : Pair) (P : List (List ℕ) → Type 0) (r0 r1 : Option (List ℕ)) (unread : List ℕ) (s : State) (out0 out1 : Option (List ℕ)) : Type 0 where
  pub pieces : List (List ℕ)
  pub gave : P pieces
  pub consumed : Consumes r0 r1 (joined pieces)
  pub progress : HasServed pair (joined pieces) unread start s out0 out1
  pub front : front_of unread ≡ Ok None
