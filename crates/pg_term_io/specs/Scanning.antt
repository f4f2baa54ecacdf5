-- Walking over a term without its value: the bytes after what is read, or the first fault.
use Rattle.std.specs.Prelude.{◌≡◌, ℕ, zero, suc, List, [], ◌∷◌, length, ◌||◌, ◌&&◌, Option}
use Rattle.std.specs.Prelude.{Some, None, Result, Ok, Err, nat_lt, ◌==◌, if◌then◌else◌}
use Rattle.std.specs.Int.{w16, w32}
use Rattle.pg_term.specs.declared.fault.TermFault.{TermFault}
use Rattle.pg_term.specs.declared.fault.TermFault.TheVariants.{Truncated, BadVersion, UnknownTag, TooDeep}
use Rattle.pg_term.specs.declared.fault.TermFault.TheVariants.{BadAtom, ImproperList, BadReference, TrailingBytes, OutOfMemory}
use Rattle.pg_term_io.specs.Limits.{max_depth}
use Rattle.pg_term_io.specs.declared.tag.Size.{Size}
use Rattle.pg_term_io.specs.declared.tag.Encoding.{Encoding}
use Rattle.pg_term_io.specs.declared.tag.Creation.{Creation}
use Rattle.pg_term_io.specs.declared.tag.Creation.TheVariants.{Byte, Word}
use Rattle.pg_term_io.specs.declared.tag.LeafTag.{LeafTag}
use Rattle.pg_term_io.specs.declared.tag.LeafTag.TheVariants.{SmallInteger, Integer, SmallBig, Atom}
use Rattle.pg_term_io.specs.declared.tag.LeafTag.TheVariants.{Pid, OldReference, Reference, Binary}
use Rattle.pg_term_io.specs.declared.tag.ListTag.{ListTag}
use Rattle.pg_term_io.specs.declared.tag.ListTag.TheVariants.{Nil, String, List as Cons}
use Rattle.pg_term_io.specs.declared.tag.Tag.{Tag}
use Rattle.pg_term_io.specs.declared.tag.Tag.TheVariants.{Tuple, List as Listing, Leaf}
use Rattle.pg_term_io.specs.Reading.{Read, ◌>>=◌, byte_at, number_at, bytes_at, big_at}
use Rattle.pg_term_io.specs.Reading.{named_at, atom_in, text_length_at, arity_at}
use Rattle.pg_term_io.specs.Tags.{tag_of, list_tag}

-- the bytes after what is read
abbrev pub past : {A : Type 0} → Read A → Result (List ℕ) TermFault
past (Ok x) = Ok x.1
past (Err e) = Err e

abbrev pub Walk : Type 0
Walk = List ℕ → Result (List ℕ) TermFault

-- a call answers just this: it takes no memory
abbrev pub ScansAs : {X Y : Type 0} → (X → Y) → Result X TermFault → Result Y TermFault → Type 0
ScansAs view (Ok x) read = read ≡ Ok (view x)
ScansAs view (Err e) read = read ≡ Err e

-- a call answers whether there is a value, else the fault
abbrev pub Names : {X Y : Type 0} → Result X TermFault → Result Y TermFault → Type 0
Names {X} {Y} (Ok x) read = (y : Y) × (read ≡ Ok y)
Names (Err e) read = read ≡ Err e

-- what is told where memory ran out: the fault, where there is one
abbrev pub fault_or_memory : {A : Type 0} → Result A TermFault → TermFault
fault_or_memory (Ok x) = OutOfMemory
fault_or_memory (Err e) = e

-- behind an atom's tag
unfoldable pub over_atom : Size → Encoding → Walk
over_atom size encoding bytes = text_length_at size bytes >>= λ n. past (named_at (atom_in encoding) n.0 n.1)

abbrev pub over_node_behind : Option Tag → Walk
over_node_behind (Some (Leaf (Atom size encoding))) bytes = over_atom size encoding bytes
over_node_behind _ bytes = Err BadAtom

-- the atom of a pid or a reference
unfoldable pub over_node : Walk
over_node [] = Err Truncated
over_node (tag ∷ bytes) = over_node_behind (tag_of tag) bytes

-- what takes one byte, and four
abbrev pub over_byte : Walk
over_byte bytes = past (byte_at bytes)

abbrev pub over_word : Walk
over_word bytes = past (number_at w32 bytes)

abbrev pub over_creation : Creation → Walk
over_creation Byte = over_byte
over_creation Word = over_word

-- a pid, with its Creation
unfoldable pub over_pid : Walk → Walk
over_pid creation bytes = do
  node ← over_node bytes
  id ← over_word node
  serial ← over_word id
  creation serial

unfoldable pub over_old_reference : Walk
over_old_reference bytes = do
  node ← over_node bytes
  word ← over_word node
  over_byte word

-- one after the other, n times
unfoldable pub over_all : Walk → ℕ → Walk
over_all walk zero bytes = Ok bytes
over_all walk (suc n) bytes = walk bytes >>= over_all walk n

abbrev pub over_words : ℕ → Walk
over_words = over_all over_word

-- a reference that says how many words it has, with its Creation
unfoldable pub over_reference : Walk → Walk
over_reference creation bytes = do
  n ← number_at w16 bytes
  if (n.0 == 0) || nat_lt 3 n.0 then Err BadReference else do
    node ← over_node n.1
    rest ← creation node
    over_words n.0 rest

unfoldable pub over_binary : Walk
over_binary bytes = number_at w32 bytes >>= λ n. past (bytes_at n.0 n.1)

-- behind the tag of a term that holds no terms
unfoldable pub over_leaf : LeafTag → Walk
over_leaf SmallInteger bytes = over_byte bytes
over_leaf Integer bytes = over_word bytes
over_leaf SmallBig bytes = past (big_at bytes)
over_leaf (Atom size encoding) bytes = over_atom size encoding bytes
over_leaf (Pid creation) bytes = over_pid (over_creation creation) bytes
over_leaf OldReference bytes = over_old_reference bytes
over_leaf (Reference creation) bytes = over_reference (over_creation creation) bytes
over_leaf Binary bytes = over_binary bytes

-- the items of one depth, and the lists that stand as a tail there
pub record Walks : Type 0 where
  pub item : Walk
  pub tail : Walk

abbrev pub no_deeper : Walk
no_deeper [] = Err Truncated
no_deeper (b ∷ bytes) = Err TooDeep

unfoldable pub over_string : ℕ → Walk
over_string room bytes = do
  n ← number_at w16 bytes
  text ← bytes_at n.0 n.1
  if (room == 0) && nat_lt 0 n.0 then Err TooDeep else Ok text.1

unfoldable pub over_list : Walks → Walk
over_list below bytes = do
  n ← number_at w32 bytes
  rest ← over_all below.item n.0 n.1
  below.tail rest

-- behind the tag of a list
unfoldable pub over_elements : ℕ → Walks → ListTag → Walk
over_elements room below Nil bytes = Ok bytes
over_elements room below String bytes = over_string room bytes
over_elements room below Cons bytes = over_list below bytes

-- behind the tag of a tail
abbrev pub over_tail_behind : ℕ → Walks → Option ListTag → Walk
over_tail_behind room below (Some tag) bytes = over_elements room below tag bytes
over_tail_behind room below None bytes = Err ImproperList

-- behind any tag
unfoldable pub over_behind : ℕ → Walks → Option Tag → Walk
over_behind room below (Some (Tuple size)) bytes = arity_at size bytes >>= λ n. over_all below.item n.0 n.1
over_behind room below (Some (Listing tag)) bytes = over_elements room below tag bytes
over_behind room below (Some (Leaf tag)) bytes = over_leaf tag bytes
over_behind room below None bytes = Err UnknownTag

abbrev pub walk_item : ℕ → Walks → Walk
walk_item room below [] = Err Truncated
walk_item room below (tag ∷ bytes) = over_behind room below (tag_of tag) bytes

abbrev pub walk_tail : ℕ → Walks → Walk
walk_tail room below [] = Err Truncated
walk_tail room below (tag ∷ bytes) = over_tail_behind room below (list_tag (tag_of tag)) bytes

-- where room levels may nest
unfoldable pub walks : ℕ → Walks
walks zero = record { item = no_deeper; tail = no_deeper }
walks (suc room) = record { item = walk_item room (walks room); tail = walk_tail room (walks room) }

abbrev pub over_item : ℕ → Walk
over_item room = (walks room).item

abbrev pub over_tail : ℕ → Walk
over_tail room = (walks room).tail

-- all of the bytes
unfoldable pub over_term : Walk
over_term [] = Err Truncated
over_term (version ∷ bytes) =
    if version == 131 then (over_item max_depth bytes >>= λ rest. if length rest == 0 then Ok rest else Err TrailingBytes)
    else Err BadVersion
