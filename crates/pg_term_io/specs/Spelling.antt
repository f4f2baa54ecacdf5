-- Which bytes spell a term: the External Term Format chapter of the Erlang documentation, one constructor a form.
-- `room` is how many more levels of terms may nest: an item with room for 0 levels spells nothing.
use Rattle.std.specs.Prelude.{◌≡◌, ℕ, suc, ◌<◌, ◌≤◌, ◌^◌, pos, List, [], ◌∷◌, ◌++◌, length, map, FitsSigned}
use Rattle.std.specs.Int.{Width, byte_len, w8, w16, w32, w64, to_be_bytes, cast_signed}
use Rattle.std.specs.List.{flat_map, AllByRecursion}
use Rattle.std.specs.Str.{chars, IsUtf8}
use Rattle.pg_term.specs.declared.pid.Pid.{Pid}
use Rattle.pg_term.specs.declared.term.Term.{Term, Tuple, List as Listed}
use Rattle.pg_term.specs.declared.term.Term.TheVariants.{Int, Atom as Name, Ref, Pid as Process, Binary}
use Rattle.pg_term.specs.RefParts.{RefParts}
use Rattle.pg_term_io.specs.declared.tag.TheConstants.{ATOM_EXT, ATOM_UTF8_EXT, BINARY_EXT, INTEGER_EXT}
use Rattle.pg_term_io.specs.declared.tag.TheConstants.{LARGE_TUPLE_EXT, LIST_EXT, NEWER_REFERENCE_EXT, NEW_PID_EXT}
use Rattle.pg_term_io.specs.declared.tag.TheConstants.{NEW_REFERENCE_EXT, NIL_EXT, PID_EXT, REFERENCE_EXT}
use Rattle.pg_term_io.specs.declared.tag.TheConstants.{SMALL_ATOM_EXT, SMALL_ATOM_UTF8_EXT, SMALL_BIG_EXT}
use Rattle.pg_term_io.specs.declared.tag.TheConstants.{SMALL_INTEGER_EXT, SMALL_TUPLE_EXT, STRING_EXT}
use Rattle.pg_term_io.specs.Limits.{max_depth}
use Rattle.pg_term_io.specs.Numbers.{int_of, big_value}

-- an atom of at most 255 characters, with its tag
pub data IsAtom : List ℕ → List ℕ → Type 0 where
  -- SMALL_ATOM_UTF8_EXT: the length of the text in one byte, and the text in UTF-8
  small : (text : List ℕ) → length text < 256 → IsUtf8 text → length (chars text) ≤ 255 → IsAtom (chars text) (SMALL_ATOM_UTF8_EXT ∷ length text ∷ text)
  -- ATOM_UTF8_EXT: the length of the text in two bytes, and the text in UTF-8
  large : (text : List ℕ) → length text < 2 ^ 16 → IsUtf8 text → length (chars text) ≤ 255 → IsAtom (chars text) (ATOM_UTF8_EXT ∷ to_be_bytes w16 (length text) ++ text)
  -- SMALL_ATOM_EXT: the length in one byte, and the characters in Latin-1, each of them its own byte
  small_latin : (text : List ℕ) → length text ≤ 255 → AllByRecursion (λ c. c < 256) text → IsAtom text (SMALL_ATOM_EXT ∷ length text ∷ text)
  -- ATOM_EXT: the length in two bytes, and the characters in Latin-1
  latin : (text : List ℕ) → length text ≤ 255 → AllByRecursion (λ c. c < 256) text → IsAtom text (ATOM_EXT ∷ to_be_bytes w16 (length text) ++ text)

-- a pid, behind its tag: the node as an atom, the ID and the Serial in four bytes, and the Creation, in one byte (w8) in
-- PID_EXT and in four (w32) in NEW_PID_EXT
pub data IsPid : Width → Pid → List ℕ → Type 0 where
  parts : (w : Width) (p : Pid) (node : List ℕ) → IsAtom p.node node → p.id < 2 ^ 32 → p.serial < 2 ^ 32 → p.creation < 256 ^ byte_len w
      → IsPid w p (node ++ (to_be_bytes w32 p.id ++ (to_be_bytes w32 p.serial ++ to_be_bytes w p.creation)))

-- REFERENCE_EXT, behind its tag: the node as an atom, the ID in four bytes, which is the one word, and the Creation in one
pub data IsOldRef : RefParts → List ℕ → Type 0 where
  parts : (node text : List ℕ) (word creation : ℕ) → IsAtom node text → word < 2 ^ 32 → creation < 256
      → IsOldRef (record { node = node; creation = creation; words = word ∷ [] }) (text ++ (to_be_bytes w32 word ++ creation ∷ []))

-- a reference of some words, behind its tag: how many words in two bytes, the node as an atom, the Creation, in one byte
-- (w8) in NEW_REFERENCE_EXT and in four (w32) in NEWER_REFERENCE_EXT, and one to three words of four bytes
pub data IsRef : Width → RefParts → List ℕ → Type 0 where
  parts : (w : Width) (r : RefParts) (node : List ℕ) → 0 < length r.words → length r.words < 4 → AllByRecursion (λ word. word < 2 ^ 32) r.words → IsAtom r.node node → r.creation < 256 ^ byte_len w
      → IsRef w r (to_be_bytes w16 (length r.words) ++ (node ++ (to_be_bytes w r.creation ++ flat_map (to_be_bytes w32) r.words)))

mutual
  -- these bytes are one item, which is this term
  pub data Item : ℕ → Term → List ℕ → Type 0 where
    -- SMALL_INTEGER_EXT: an unsigned byte
    small_integer : (room n : ℕ) → n < 256 → Item (suc room) (Int (pos n)) (SMALL_INTEGER_EXT ∷ n ∷ [])
    -- INTEGER_EXT: a signed integer in four bytes, in two's complement
    integer : (room n : ℕ) → n < 2 ^ 32 → Item (suc room) (Int (cast_signed w32 n)) (INTEGER_EXT ∷ to_be_bytes w32 n)
    -- SMALL_BIG_EXT: how many digits, the sign, and the digits in base 256, the least significant first.
    -- The highest digits may be 0. The value has to be a signed integer of 64 bits
    small_big : (room sign : ℕ) (digits : List ℕ) → sign < 256 → length digits < 256 → AllByRecursion (λ d. d < 256) digits → FitsSigned w64 (big_value sign digits)
        → Item (suc room) (Int (big_value sign digits)) (SMALL_BIG_EXT ∷ length digits ∷ sign ∷ digits)
    atom : (room : ℕ) (a b : List ℕ) → IsAtom a b → Item (suc room) (Name a) b
    pid : (room : ℕ) (p : Pid) (b : List ℕ) → IsPid w8 p b → Item (suc room) (Process p) (PID_EXT ∷ b)
    new_pid : (room : ℕ) (p : Pid) (b : List ℕ) → IsPid w32 p b → Item (suc room) (Process p) (NEW_PID_EXT ∷ b)
    old_reference : (room : ℕ) (r : RefParts) (b : List ℕ) → IsOldRef r b → Item (suc room) (Ref r) (REFERENCE_EXT ∷ b)
    reference : (room : ℕ) (r : RefParts) (b : List ℕ) → IsRef w8 r b → Item (suc room) (Ref r) (NEW_REFERENCE_EXT ∷ b)
    newer_reference : (room : ℕ) (r : RefParts) (b : List ℕ) → IsRef w32 r b → Item (suc room) (Ref r) (NEWER_REFERENCE_EXT ∷ b)
    -- BINARY_EXT: how many bytes in four bytes, and the bytes
    binary : (room : ℕ) (bytes : List ℕ) → length bytes < 2 ^ 32 → AllByRecursion (λ b. b < 256) bytes → Item (suc room) (Binary bytes) (BINARY_EXT ∷ to_be_bytes w32 (length bytes) ++ bytes)
    -- SMALL_TUPLE_EXT: the arity in one byte, and the elements, each one level deeper
    small_tuple : (room : ℕ) (ts : List Term) (b : List ℕ) → length ts < 256 → Items room ts b → Item (suc room) (Tuple ts) (SMALL_TUPLE_EXT ∷ length ts ∷ b)
    -- LARGE_TUPLE_EXT: the arity in four bytes, and the elements
    large_tuple : (room : ℕ) (ts : List Term) (b : List ℕ) → length ts < 2 ^ 32 → Items room ts b → Item (suc room) (Tuple ts) (LARGE_TUPLE_EXT ∷ to_be_bytes w32 (length ts) ++ b)
    list : (room : ℕ) (ts : List Term) (b : List ℕ) → Elements room ts b → Item (suc room) (Listed ts) b

  -- items, one after the other
  pub data Items : ℕ → List Term → List ℕ → Type 0 where
    none : (room : ℕ) → Items room [] []
    more : (room : ℕ) (t : Term) (ts : List Term) (a b : List ℕ) → Item room t a → Items room ts b → Items room (t ∷ ts) (a ++ b)

  -- a list with its tag, and room levels for its elements and its tail
  pub data Elements : ℕ → List Term → List ℕ → Type 0 where
    nil : (room : ℕ) → Elements room [] (NIL_EXT ∷ [])
    -- STRING_EXT: the length in two bytes, and bytes, each of them an element that is an integer
    string : (room : ℕ) (text : List ℕ) → AllByRecursion (λ b. b < 256) text → length text < 2 ^ 16 → (room ≡ 0 → text ≡ []) → Elements room (map int_of text) (STRING_EXT ∷ to_be_bytes w16 (length text) ++ text)
    -- LIST_EXT: how many elements in four bytes, the elements, and the tail, whose elements follow these
    cons : (room : ℕ) (ts us : List Term) (b c : List ℕ) → length ts < 2 ^ 32 → Items room ts b → Tail room us c → Elements room (ts ++ us) (LIST_EXT ∷ to_be_bytes w32 (length ts) ++ (b ++ c))

  -- a tail is itself a list, one level deeper than the list that it ends
  pub data Tail : ℕ → List Term → List ℕ → Type 0 where
    tail : (room : ℕ) (ts : List Term) (b : List ℕ) → Elements room ts b → Tail (suc room) ts b

-- the version number 131, and one item of depth 1, which with all that it holds is at most 64 levels deep
pub data Spells : Term → List ℕ → Type 0 where
  version : (t : Term) (b : List ℕ) → Item max_depth t b → Spells t (131 ∷ b)
