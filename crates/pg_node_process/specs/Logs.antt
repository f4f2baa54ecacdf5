-- What is logged: a head, then each body as it was read, and behind it a mark for each act that it does not decide.
use Rattle.std.specs.Prelude.{◌≡◌, ◌≤◌, ◌<◌, ◌^◌, ℕ, zero, suc, pos, List, [], ◌∷◌, ◌++◌, ⊤, Option, Some, None, Result, Ok, Err, if◌then◌else◌, ◌==◌, length, map}
use Rattle.std.specs.List.{AllByRecursion, flat_map}
use Rattle.std.specs.Option.{option_map, option_and_then}
use Rattle.pg_frame.specs.Frames.{behind, frame, front_of}
use Rattle.pg_frame.specs.Limits.{max_body}
use Rattle.pg_frame.specs.declared.fault.TooLong.{TooLong}
use Rattle.pg_term.specs.declared.fault.TermFault.{TermFault}
use Rattle.pg_term.specs.declared.term.Term.{Term, out-Term, Tuple, List as Listed}
use Rattle.pg_term.specs.declared.term.Term.TheOpen.{Term-F}
use Rattle.pg_term.specs.declared.term.Term.TheVariants.{Int, Atom as Word, Binary as Bytes}
use Rattle.pg_step.specs.PgMessageTypes.Parts.{atom_of, elements_of, items_of}
use Rattle.pg_step.specs.PgMessageTypes.Reading.{read_each}
use Rattle.pg_step.specs.PgTermIo.Reading.{term_of}
use Rattle.pg_step.specs.PgTermIo.Writing.{written, IsWritable}
use Rattle.pg_node_requests.specs.Requests.{number_of}
use Rattle.pg_node_process.specs.declared.journal.Head as code
use Rattle.pg_node_process.specs.declared.journal.Mark.{Mark}
use Rattle.pg_node_process.specs.declared.journal.Mark.TheVariants as marks

-- ---- the head

-- the version of the program, the names of the node and of its peers in the order of their places, how many ports it has, how many processes count as made, and what the host calls the run
pub record Head : Type 0 where
  pub version : List ℕ
  pub own : List ℕ
  pub peers : List (List ℕ)
  pub ports : ℕ
  pub made : ℕ
  pub label : List ℕ

-- {1, Version, Own, [Peer, ..], Ports, Made, Label}
abbrev pub head_term : Head → Term
head_term head = Tuple (Int (pos 1) ∷ Bytes head.version ∷ Word head.own ∷ Listed (map Word head.peers) ∷ Int (pos head.ports) ∷ Int (pos head.made) ∷ Bytes head.label ∷ [])

-- in a frame
abbrev pub head_bytes : Head → List ℕ
head_bytes head = frame (written (head_term head))

-- ---- how it is read

abbrev pub binary_in : Term-F Term → Option (List ℕ)
binary_in (Term-F.Binary bytes) = Some bytes
binary_in _ = None

abbrev pub binary_of : Term → Option (List ℕ)
binary_of term = binary_in (out-Term term)

-- the names that a list has
abbrev pub names_of : Term → Option (List (List ℕ))
names_of term = option_and_then (read_each atom_of) (items_of term)

-- the parts behind the format, of which each is what it should be
abbrev pub head_of_parts : Option (List ℕ) → Option (List ℕ) → Option (List (List ℕ)) → Option ℕ → Option ℕ → Option (List ℕ) → Option Head
head_of_parts (Some version) (Some own) (Some peers) (Some ports) (Some made) (Some label) = Some (record { version = version; own = own; peers = peers; ports = ports; made = made; label = label })
head_of_parts version own peers ports made label = None

-- a format of another number is none that is read
abbrev pub in_format : Option ℕ → Option Head → Option Head
in_format (Some number) head = if number == 1 then head else None
in_format None head = None

abbrev pub head_in : List Term → Option Head
head_in (format ∷ version ∷ own ∷ peers ∷ ports ∷ made ∷ label ∷ []) =
    in_format (number_of 16 format) (head_of_parts (binary_of version) (atom_of own) (names_of peers) (number_of 16 ports) (number_of 32 made) (binary_of label))
head_in parts = None

abbrev pub head_spelled : Result Term TermFault → Option Head
head_spelled (Ok term) = option_and_then head_in (elements_of term)
head_spelled (Err fault) = None

abbrev pub head_framed : Result (Option (List ℕ)) TooLong → Option Head
head_framed (Ok (Some body)) = head_spelled (term_of body)
head_framed (Ok None) = None
head_framed (Err fault) = None

-- the head that bytes begin with
abbrev pub head_read : List ℕ → Option Head
head_read bytes = head_framed (front_of bytes)

-- it is read as what it is, whatever is behind it
abbrev pub HeadIsRead : Head → Type 0
HeadIsRead head = (rest : List ℕ) → head_read (head_bytes head ++ rest) ≡ Some head

-- the head of a process that may begin, of a version of at most 255 bytes
pub record IsOfProcess (head : Head) : Type 0 where
  pub version : length head.version ≤ 255
  pub own : length head.own ≤ 255
  pub peers : AllByRecursion (λ name. length name ≤ 255) head.peers
  pub few : length head.peers ≤ 15
  pub ports : head.ports < 2 ^ 16
  pub made : head.made < 2 ^ 32
  pub label : length head.label ≤ 255

-- A frame holds it.
abbrev pub HeadsFit : Type 0
HeadsFit = (head : Head) → IsOfProcess head → IsWritable (head_term head)

-- ---- what is behind it

-- a body that was read; that the change of a port was tried again; that the next change of a port was handed over
pub data Entry : Type 0 where
  Read : List ℕ → Entry
  Tried : (port : ℕ) → Entry
  Handed : (port : ℕ) → Entry

-- A body is in its frame. A mark begins with 255, as no length of a body does.
abbrev pub entry_bytes : Entry → List ℕ
entry_bytes (Read body) = frame body
entry_bytes (Tried port) = 255 ∷ 1 ∷ 0 ∷ port ∷ []
entry_bytes (Handed port) = 255 ∷ 2 ∷ 0 ∷ port ∷ []

abbrev pub entry_of : Mark → Entry
entry_of (marks.Tried port) = Tried port
entry_of (marks.Handed port) = Handed port

-- ---- how that is read

abbrev pub mark_of : ℕ → ℕ → Option Entry
mark_of kind port = if kind == 1 then Some (Tried port) else if kind == 2 then Some (Handed port) else None

-- the first entry, and the bytes behind it
abbrev pub mark_at : List ℕ → Option (Entry × List ℕ)
mark_at (kind ∷ zero ∷ port ∷ bytes) = option_map (λ entry. (entry, bytes)) (mark_of kind port)
mark_at bytes = None

abbrev pub body_at : List ℕ → Result (Option (List ℕ)) TooLong → Option (Entry × List ℕ)
body_at bytes (Ok (Some body)) = Some (Read body, behind body bytes)
body_at bytes (Ok None) = None
body_at bytes (Err fault) = None

abbrev pub entry_at : List ℕ → Option (Entry × List ℕ)
entry_at [] = None
entry_at (first ∷ rest) = if first == 255 then mark_at rest else body_at (first ∷ rest) (front_of (first ∷ rest))

abbrev pub on_entry : Option (Entry × List ℕ) → (Entry → List ℕ → List Entry) → List Entry
on_entry (Some found) next = next found.0 found.1
on_entry None next = []

-- the first so many entries, or as many as there are
abbrev pub entries_in : ℕ → List ℕ → List Entry
entries_in zero bytes = []
entries_in (suc n) bytes = on_entry (entry_at bytes) (λ entry rest. entry ∷ entries_in n rest)

-- all whole entries, of which there are no more than bytes
abbrev pub entries_of : List ℕ → List Entry
entries_of bytes = entries_in (length bytes) bytes

-- a frame holds the body
abbrev pub IsLoggable : Entry → Type 0
IsLoggable (Read body) = length body ≤ max_body
IsLoggable (Tried port) = ⊤
IsLoggable (Handed port) = ⊤

-- What is logged is read: the first entry, whatever is behind it; and all of them, one after another.
pub record LogsAreRead : Type 0 where
  pub one : (entry : Entry) (rest : List ℕ) → IsLoggable entry → entry_at (entry_bytes entry ++ rest) ≡ Some (entry, rest)
  pub all : (entries : List Entry) → AllByRecursion IsLoggable entries → entries_of (flat_map entry_bytes entries) ≡ entries

-- ---- by the code

abbrev pub head_given : code.Head → Head
head_given head = record { version = head.version.now; own = head.own.now; peers = head.peers.now; ports = head.ports; made = head.made; label = head.label.now }
