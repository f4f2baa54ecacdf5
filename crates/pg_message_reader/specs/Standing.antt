-- What stands at the front of bytes.
use Rattle.std.specs.Prelude.{◌≡◌, ℕ, suc, List, [], ◌∷◌, ◌++◌, codes, length, take, Ok}
use Rattle.std.specs.Int.{w32, from_be_bytes}
use Rattle.pg_message_types.specs.declared.message.Said.{Said}
use Rattle.pg_message_types.specs.declared.message.Said.TheVariants.{Granted, Denied, Applied}
use Rattle.pg_term.specs.declared.pid.Pid.{Pid}
use Rattle.pg_term.specs.declared.term.Term.{Term}
use Rattle.pg_term.specs.declared.term.Term.TheVariants.{Atom, Pid as Process}
use Rattle.pg_term_io.specs.Reading.{item_at, number_at}

-- one item that is this term, with room for so many levels below it, and then the rest
abbrev pub Stands : ℕ → Term → List ℕ → List ℕ → Type 0
Stands room t bytes rest = item_at (suc room) bytes ≡ Ok (t, rest)

-- the head of a tuple of so many elements, less than 256, this word, and then the rest
pub record IsTupleHead (arity : ℕ) (word bytes rest : List ℕ) : Type 0 where
  pub behind : List ℕ
  pub head : bytes ≡ 104 ∷ arity ∷ behind
  pub word_first : (room : ℕ) → Stands room (Atom word) behind rest

-- the head of a list of so many elements, and then the rest
pub record IsListHead (count : ℕ) (bytes rest : List ℕ) : Type 0 where
  pub behind : List ℕ
  pub head : bytes ≡ 108 ∷ behind
  pub count_first : number_at w32 behind ≡ Ok (count, rest)

-- the last of some pids stands at the front of the bytes
pub record EndsWith (pids : List Pid) (bytes : List ℕ) : Type 0 where
  pub front : List Pid
  pub pid : Pid
  pub after : List ℕ
  pub are : pids ≡ front ++ pid ∷ []
  pub here : (room : ℕ) → Stands room (Process pid) bytes after

-- the number in the first four bytes
abbrev pub number_of : List ℕ → ℕ
number_of bytes = from_be_bytes w32 (take 4 bytes)

-- a word as it is written
abbrev pub word_bytes : List ℕ → List ℕ
word_bytes word = 119 ∷ length word ∷ word

-- what a reply says, as it is written
abbrev pub said_bytes : Said → List ℕ
said_bytes Granted = word_bytes (codes "true")
said_bytes Denied = word_bytes (codes "false")
said_bytes Applied = word_bytes (codes "ok")
