-- What a process says to its host: the bodies of its output.
use Rattle.std.specs.Prelude.{◌≡◌, ◌⊎◌, ◌<◌, ◌≤◌, ◌^◌, ℕ, nat_lt, List, [], ◌∷◌, ◌++◌, ⊤, Option, Some, None, Result, Ok, Err, if◌then◌else◌, ◌==◌, length, map}
use Rattle.std.specs.List.{AllByRecursion, flat_map}
use Rattle.std.specs.Int.{w32, to_be_bytes, from_be_bytes}
use Rattle.pg_frame.specs.Frames.{frame, bodies_of}
use Rattle.pg_frame.specs.Limits.{max_body}
use Rattle.pg_term.specs.Depth.{depth}
use Rattle.pg_term.specs.declared.fault.TermFault.{TermFault}
use Rattle.pg_term.specs.declared.term.Term.{Term}
use Rattle.pg_step.specs.PgTermIo.Limits.{max_depth}
use Rattle.pg_step.specs.PgTermIo.Reading.{term_of}
use Rattle.pg_step.specs.PgTermIo.Writing.{written, IsWritable}
use Rattle.pg_node_requests.specs.Replies.{numbered_term, refused_term}

-- the number of the format and the version; bytes for the peer at a place; a term, as a reply or a notice; the clock; that the node is formed; that a change was denied
-- its lock, by the number of its port from 1; what the table has become
pub data Output : Type 0 where
  Version : (format : ℕ) → (text : List ℕ) → Output
  Bytes : (peer : ℕ) → List ℕ → Output
  Said : Term → Output
  Clock : ℕ → Output
  Formed : Output
  Denied : (port : ℕ) → Output
  Mirrored : Term → Output

-- the body of each
abbrev pub body_said : Output → List ℕ
body_said (Version format text) = 21 ∷ format ∷ text
body_said (Bytes peer bytes) = peer ∷ bytes
body_said (Said term) = written term
body_said (Clock clock) = 17 ∷ to_be_bytes w32 clock
body_said Formed = 22 ∷ []
body_said (Denied port) = 19 ∷ port ∷ []
body_said (Mirrored term) = 23 ∷ written term

-- and its frame
abbrev pub said : Output → List ℕ
said output = frame (body_said output)

-- ---- how a host reads it

abbrev pub term_heard : Result Term TermFault → Option Output
term_heard (Ok term) = Some (Said term)
term_heard (Err fault) = None

abbrev pub version_heard : List ℕ → Option Output
version_heard [] = None
version_heard (format ∷ text) = Some (Version format text)

abbrev pub port_heard : List ℕ → Option Output
port_heard (port ∷ []) = Some (Denied port)
port_heard bytes = None

abbrev pub clock_heard : List ℕ → Option Output
clock_heard bytes = if length bytes == 4 then Some (Clock (from_be_bytes w32 bytes)) else None

abbrev pub mirrored_heard : Result Term TermFault → Option Output
mirrored_heard (Ok term) = Some (Mirrored term)
mirrored_heard (Err fault) = None

abbrev pub formed_heard : List ℕ → Option Output
formed_heard [] = Some Formed
formed_heard (byte ∷ bytes) = None

abbrev pub heard_by : ℕ → List ℕ → Option Output
heard_by first rest =
    if nat_lt first 16 then Some (Bytes first rest)
    else if first == 131 then term_heard (term_of (first ∷ rest))
    else if first == 17 then clock_heard rest
    else if first == 19 then port_heard rest
    else if first == 21 then version_heard rest
    else if first == 22 then formed_heard rest
    else if first == 23 then mirrored_heard (term_of rest)
    else None

-- the output that a body is
abbrev pub heard : List ℕ → Option Output
heard [] = None
heard (first ∷ rest) = heard_by first rest

-- it can be said: there are at most 16 peers, a clock has 32 bits, and a term is read back as what it is
abbrev pub IsSayable : Output → Type 0
IsSayable (Version format text) = ⊤
IsSayable (Bytes peer bytes) = peer < 16
IsSayable (Said term) = term_of (written term) ≡ Ok term
IsSayable (Clock clock) = clock < 2 ^ 32
IsSayable Formed = ⊤
IsSayable (Denied port) = ⊤
IsSayable (Mirrored term) = term_of (written term) ≡ Ok term

-- and a frame holds it
pub record IsFramed (output : Output) : Type 0 where
  pub sayable : IsSayable output
  pub fits : length (body_said output) ≤ max_body

-- what is said is heard: each output of its body; and all of them, one after another, behind each other in their frames
pub record OutputsAreHeard : Type 0 where
  pub one : (output : Output) → IsSayable output → heard (body_said output) ≡ Some output
  pub all : (outputs : List Output) → AllByRecursion IsFramed outputs → map heard (bodies_of (flat_map said outputs)) ≡ map Some outputs

-- ---- replies

-- no frame holds the term
abbrev pub IsUntellable : Term → Type 0
IsUntellable term = IsWritable term → max_body < length (written term)

-- the number of the fault by which none does: it nests too deep, or else it is too long
abbrev pub untellable_number : Term → ℕ
untellable_number term = if nat_lt max_depth (depth term) then 4 else 11

-- what a reply is where no frame holds it
abbrev pub untold : List ℕ → ℕ → ℕ → Term → Output
untold node port number reply = Said (numbered_term node port number (refused_term (untellable_number (numbered_term node port number reply))))

-- an output is said behind what was said, and is heard as what it is
pub record Says (before after : List ℕ) (output : Output) : Type 0 where
  pub framed : IsFramed output
  pub wrote : after ≡ before ++ said output

-- the reply to the request of a number at a port is said; or, where no frame holds it, that it is refused by the number of that fault
abbrev pub SaysReply : List ℕ → List ℕ → List ℕ → ℕ → ℕ → Term → Type 0
SaysReply before after node port number reply =
    Says before after (Said (numbered_term node port number reply))
    ⊎ (IsUntellable (numbered_term node port number reply) × Says before after (untold node port number reply))
