-- Reading a term from left to right, with the first fault that is met. A reader answers the value and the bytes after it.
use Rattle.std.specs.Prelude.{ℕ, zero, suc, ◌^◌, ℤ, pos, negsuc, List, [], ◌∷◌, ◌++◌, length, take, drop, map}
use Rattle.std.specs.Prelude.{Bool, ◌||◌, ◌&&◌, Option, Some, None, Result, Ok, Err, nat_lt, ◌==◌, if◌then◌else◌}
use Rattle.std.specs.Int.{Width, w8, w16, w32, byte_len, from_be_bytes, cast_signed}
use Rattle.std.specs.Str.{chars, is_utf8}
use Rattle.pg_term.specs.declared.fault.TermFault.{TermFault}
use Rattle.pg_term.specs.declared.fault.TermFault.TheVariants.{Truncated, BadVersion, UnknownTag}
use Rattle.pg_term.specs.declared.fault.TermFault.TheVariants.{TooDeep, IntegerTooLarge, BadAtom}
use Rattle.pg_term.specs.declared.fault.TermFault.TheVariants.{ImproperList, BadReference, TrailingBytes}
use Rattle.pg_term.specs.declared.pid.Pid.{Pid}
use Rattle.pg_term.specs.declared.term.Term.{Term}
use Rattle.pg_term.specs.declared.term.Term as term
use Rattle.pg_term.specs.RefParts.{RefParts}
use Rattle.pg_term.specs.Fault.{checked_atom}
use Rattle.pg_term_io.specs.Limits.{max_depth}
use Rattle.pg_term_io.specs.Numbers.{int_of, big_value}
use Rattle.pg_term_io.specs.declared.tag.Size.{Size}
use Rattle.pg_term_io.specs.declared.tag.Size.TheVariants.{Small, Large}
use Rattle.pg_term_io.specs.declared.tag.Encoding.{Encoding}
use Rattle.pg_term_io.specs.declared.tag.Encoding.TheVariants.{Utf8, Latin}
use Rattle.pg_term_io.specs.declared.tag.Creation.{Creation}
use Rattle.pg_term_io.specs.declared.tag.Creation.TheVariants.{Byte, Word}
use Rattle.pg_term_io.specs.declared.tag.LeafTag.{LeafTag}
use Rattle.pg_term_io.specs.declared.tag.LeafTag.TheVariants.{SmallInteger, Integer, SmallBig, Atom}
use Rattle.pg_term_io.specs.declared.tag.LeafTag.TheVariants.{Pid as Process, OldReference, Reference, Binary}
use Rattle.pg_term_io.specs.declared.tag.ListTag.{ListTag}
use Rattle.pg_term_io.specs.declared.tag.ListTag.TheVariants.{Nil, String, List as Cons}
use Rattle.pg_term_io.specs.declared.tag.Tag.{Tag}
use Rattle.pg_term_io.specs.declared.tag.Tag.TheVariants.{Tuple, List as Listing, Leaf}
use Rattle.pg_term_io.specs.Tags.{tag_of, list_tag}

-- what is read at the front, and the bytes after it
abbrev pub Read : Type 0 → Type 0
Read A = Result (A × List ℕ) TermFault

infixl 10 ◌>>=◌
abbrev pub ◌>>=◌ : {A B : Type 0} → Result A TermFault → (A → Result B TermFault) → Result B TermFault
(Ok x) >>= f = f x
(Err e) >>= f = Err e

abbrev pub byte_at : List ℕ → Read ℕ
byte_at [] = Err Truncated
byte_at (b ∷ bytes) = Ok (b, bytes)

abbrev pub number_at : Width → List ℕ → Read ℕ
number_at w bytes = if nat_lt (length bytes) (byte_len w) then Err Truncated else Ok (from_be_bytes w (take (byte_len w) bytes), drop (byte_len w) bytes)

abbrev pub bytes_at : ℕ → List ℕ → Read (List ℕ)
bytes_at n bytes = if nat_lt (length bytes) n then Err Truncated else Ok (take n bytes, drop n bytes)

-- n items, one after the other
unfoldable pub items_at : {A : Type 0} → (List ℕ → Read A) → ℕ → List ℕ → Read (List A)
items_at read zero bytes = Ok ([], bytes)
items_at read (suc n) bytes = do
  first ← read bytes
  others ← items_at read n first.1
  Ok (first.0 ∷ others.0, others.1)

-- these items in front of those that are read
abbrev pub with_front : {A : Type 0} → List A → Read (List A) → Read (List A)
with_front front read = read >>= λ x. Ok (front ++ x.0, x.1)

-- ---- integers

abbrev pub is_i64 : ℤ → Bool
is_i64 (pos n) = nat_lt n (2 ^ 63)
is_i64 (negsuc n) = nat_lt n (2 ^ 63)

abbrev pub i64_of : ℤ → Result ℤ TermFault
i64_of z = if is_i64 z then Ok z else Err IntegerTooLarge

-- behind the tag of a big integer
unfoldable pub big_at : List ℕ → Read ℤ
big_at bytes = do
  n ← byte_at bytes
  sign ← byte_at n.1
  digits ← bytes_at n.0 sign.1
  value ← i64_of (big_value sign.0 digits.0)
  Ok (value, digits.1)

-- ---- atoms

abbrev pub utf8_atom : List ℕ → Result (List ℕ) TermFault
utf8_atom bytes = if is_utf8 bytes then checked_atom (chars bytes) else Err BadAtom

-- in Latin-1 each byte is the character of that number
abbrev pub latin_atom : List ℕ → Result (List ℕ) TermFault
latin_atom bytes = checked_atom bytes

unfoldable pub named_at : (List ℕ → Result (List ℕ) TermFault) → ℕ → List ℕ → Read (List ℕ)
named_at name n bytes = do
  text ← bytes_at n bytes
  atom ← name text.0
  Ok (atom, text.1)

abbrev pub atom_in : Encoding → List ℕ → Result (List ℕ) TermFault
atom_in Utf8 = utf8_atom
atom_in Latin = latin_atom

-- how long the text of an atom is
abbrev pub text_length_at : Size → List ℕ → Read ℕ
text_length_at Small bytes = byte_at bytes
text_length_at Large bytes = number_at w16 bytes

-- behind an atom's tag
unfoldable pub atom_behind : Size → Encoding → List ℕ → Read (List ℕ)
atom_behind size encoding bytes = text_length_at size bytes >>= λ n. named_at (atom_in encoding) n.0 n.1

abbrev pub node_behind : Option Tag → List ℕ → Read (List ℕ)
node_behind (Some (Leaf (Atom size encoding))) bytes = atom_behind size encoding bytes
node_behind _ bytes = Err BadAtom

-- an atom as a part of a pid or a reference
unfoldable pub atom_at : List ℕ → Read (List ℕ)
atom_at [] = Err Truncated
atom_at (tag ∷ bytes) = node_behind (tag_of tag) bytes

-- ---- behind the other tags

-- the bits of a creation
abbrev pub creation_width : Creation → Width
creation_width Byte = w8
creation_width Word = w32

-- a pid, with a creation of so many bits
unfoldable pub pid_at : Width → List ℕ → Read Pid
pid_at w bytes = do
  node ← atom_at bytes
  id ← number_at w32 node.1
  serial ← number_at w32 id.1
  creation ← number_at w serial.1
  Ok (record { node = node.0; serial = serial.0; id = id.0; creation = creation.0 }, creation.1)

unfoldable pub old_reference_at : List ℕ → Read RefParts
old_reference_at bytes = do
  node ← atom_at bytes
  word ← number_at w32 node.1
  creation ← byte_at word.1
  Ok (record { node = node.0; creation = creation.0; words = word.0 ∷ [] }, creation.1)

unfoldable pub words_at : List ℕ → ℕ → ℕ → List ℕ → Read RefParts
words_at node creation n bytes = do
  words ← items_at (number_at w32) n bytes
  Ok (record { node = node; creation = creation; words = words.0 }, words.1)

-- a reference that says how many words it has, with a creation of so many bits
unfoldable pub new_reference_at : Width → List ℕ → Read RefParts
new_reference_at w bytes = do
  n ← number_at w16 bytes
  if (n.0 == 0) || nat_lt 3 n.0 then Err BadReference else do
    node ← atom_at n.1
    creation ← number_at w node.1
    words_at node.0 creation.0 n.0 creation.1

unfoldable pub binary_at : List ℕ → Read (List ℕ)
binary_at bytes = do
  n ← number_at w32 bytes
  bytes_at n.0 n.1

-- ---- items

-- the items of one depth, and the lists that stand as a tail there
pub record Readers : Type 0 where
  pub item : List ℕ → Read Term
  pub tail : List ℕ → Read (List Term)

abbrev pub too_deep : {A : Type 0} → List ℕ → Read A
too_deep [] = Err Truncated
too_deep (b ∷ bytes) = Err TooDeep

-- the bytes of a STRING, where room more levels may nest
unfoldable pub string_at : ℕ → List ℕ → Read (List Term)
string_at room bytes = do
  n ← number_at w16 bytes
  text ← bytes_at n.0 n.1
  if (room == 0) && nat_lt 0 n.0 then Err TooDeep else Ok (map int_of text.0, text.1)

unfoldable pub list_at : Readers → List ℕ → Read (List Term)
list_at below bytes = do
  n ← number_at w32 bytes
  items ← items_at below.item n.0 n.1
  tail ← below.tail items.1
  Ok (items.0 ++ tail.0, tail.1)

-- behind the tag of a list
unfoldable pub elements_behind : ℕ → Readers → ListTag → List ℕ → Read (List Term)
elements_behind room below Nil bytes = Ok ([], bytes)
elements_behind room below String bytes = string_at room bytes
elements_behind room below Cons bytes = list_at below bytes

-- behind the tag of a tail
abbrev pub tail_behind : ℕ → Readers → Option ListTag → List ℕ → Read (List Term)
tail_behind room below (Some tag) bytes = elements_behind room below tag bytes
tail_behind room below None bytes = Err ImproperList

-- how many elements a tuple has
abbrev pub arity_at : Size → List ℕ → Read ℕ
arity_at Small bytes = byte_at bytes
arity_at Large bytes = number_at w32 bytes

abbrev pub as_term : {A : Type 0} → (A → Term) → Read A → Read Term
as_term make read = read >>= λ x. Ok (make x.0, x.1)

-- behind the tag of a term that holds no terms
unfoldable pub leaf_behind : LeafTag → List ℕ → Read Term
leaf_behind SmallInteger bytes = as_term int_of (byte_at bytes)
leaf_behind Integer bytes = as_term (λ n. term.TheVariants.Int (cast_signed w32 n)) (number_at w32 bytes)
leaf_behind SmallBig bytes = as_term term.TheVariants.Int (big_at bytes)
leaf_behind (Atom size encoding) bytes = as_term term.TheVariants.Atom (atom_behind size encoding bytes)
leaf_behind (Process creation) bytes = as_term term.TheVariants.Pid (pid_at (creation_width creation) bytes)
leaf_behind OldReference bytes = as_term term.TheVariants.Ref (old_reference_at bytes)
leaf_behind (Reference creation) bytes = as_term term.TheVariants.Ref (new_reference_at (creation_width creation) bytes)
leaf_behind Binary bytes = as_term term.TheVariants.Binary (binary_at bytes)

-- behind any tag
unfoldable pub item_behind : ℕ → Readers → Option Tag → List ℕ → Read Term
item_behind room below (Some (Tuple size)) bytes = as_term term.Tuple (arity_at size bytes >>= λ n. items_at below.item n.0 n.1)
item_behind room below (Some (Listing tag)) bytes = as_term term.List (elements_behind room below tag bytes)
item_behind room below (Some (Leaf tag)) bytes = leaf_behind tag bytes
item_behind room below None bytes = Err UnknownTag

abbrev pub item_by : ℕ → Readers → List ℕ → Read Term
item_by room below [] = Err Truncated
item_by room below (tag ∷ bytes) = item_behind room below (tag_of tag) bytes

abbrev pub tail_by : ℕ → Readers → List ℕ → Read (List Term)
tail_by room below [] = Err Truncated
tail_by room below (tag ∷ bytes) = tail_behind room below (list_tag (tag_of tag)) bytes

-- where room levels may nest
unfoldable pub readers : ℕ → Readers
readers zero = record { item = too_deep; tail = too_deep }
readers (suc room) = record { item = item_by room (readers room); tail = tail_by room (readers room) }

abbrev pub item_at : ℕ → List ℕ → Read Term
item_at room = (readers room).item

abbrev pub tail_at : ℕ → List ℕ → Read (List Term)
tail_at room = (readers room).tail

-- all of the bytes
unfoldable pub term_of : List ℕ → Result Term TermFault
term_of [] = Err Truncated
term_of (version ∷ bytes) =
    if version == 131 then (item_at max_depth bytes >>= λ x. if length x.1 == 0 then Ok x.0 else Err TrailingBytes)
    else Err BadVersion
