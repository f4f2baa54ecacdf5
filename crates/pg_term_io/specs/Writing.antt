-- How a term is written: its one spelling, in the words of the External Term Format chapter of the Erlang documentation.
use Rattle.std.specs.Prelude.{ℕ, suc, ℤ, pos, negsuc, ◌≤◌, ◌<◌, List, [], ◌∷◌, ◌++◌}
use Rattle.std.specs.Prelude.{length, map, reverse, nat_lt, ◌==◌, if◌then◌else◌}
use Rattle.std.specs.Int.{w16, w32, to_be_bytes, cast_unsigned}
use Rattle.std.specs.Int.Digits.{digits_of}
use Rattle.std.specs.List.{flat_map}
use Rattle.std.specs.Str.{encode_utf8_all}
use Rattle.pg_term.specs.declared.pid.Pid.{Pid}
use Rattle.pg_term.specs.declared.term.Term.{Term, fold-Term}
use Rattle.pg_term.specs.declared.term.Term.TheOpen.{Term-F}
use Rattle.pg_term.specs.RefParts.{RefParts}
use Rattle.pg_term.specs.Depth.{depth, greatest_depth}
use Rattle.pg_term_io.specs.declared.tag.TheConstants.{ATOM_UTF8_EXT, BINARY_EXT, INTEGER_EXT}
use Rattle.pg_term_io.specs.declared.tag.TheConstants.{LARGE_TUPLE_EXT, LIST_EXT, NEWER_REFERENCE_EXT}
use Rattle.pg_term_io.specs.declared.tag.TheConstants.{NEW_PID_EXT, NIL_EXT, SMALL_ATOM_UTF8_EXT}
use Rattle.pg_term_io.specs.declared.tag.TheConstants.{SMALL_BIG_EXT, SMALL_INTEGER_EXT, SMALL_TUPLE_EXT}
use Rattle.pg_term_io.specs.Limits.{max_depth, max_len}
use Rattle.pg_term_io.specs.Spelling.{Item, Items}

-- a number in base 256, the least significant digit first: the fewest digits that do, and none for 0
unfoldable pub digits : ℕ → List ℕ
digits n = reverse (digits_of 256 n)

-- SMALL_BIG_EXT, how many digits, the sign (0 is plus, 1 is minus), the digits
unfoldable pub big_bytes : ℕ → ℕ → List ℕ
big_bytes sign n = SMALL_BIG_EXT ∷ length (digits n) ∷ sign ∷ digits n

-- SMALL_INTEGER_EXT for 0 to 255, else INTEGER_EXT where 32 bits with a sign hold it, else SMALL_BIG_EXT
abbrev pub int_bytes : ℤ → List ℕ
int_bytes (pos n) = if nat_lt n 256 then SMALL_INTEGER_EXT ∷ n ∷ [] else if nat_lt n 2147483648 then INTEGER_EXT ∷ to_be_bytes w32 n else big_bytes 0 n
int_bytes (negsuc n) = if nat_lt n 2147483648 then INTEGER_EXT ∷ to_be_bytes w32 (cast_unsigned w32 (negsuc n)) else big_bytes 1 (suc n)

-- SMALL_ATOM_UTF8_EXT, the length in one byte, where that holds it, else ATOM_UTF8_EXT, the length in two; then the text
abbrev pub tagged_text : List ℕ → List ℕ
tagged_text text = if nat_lt (length text) 256 then SMALL_ATOM_UTF8_EXT ∷ length text ∷ text else ATOM_UTF8_EXT ∷ to_be_bytes w16 (length text) ++ text

-- the text of an atom is the UTF-8 of its characters
unfoldable pub atom_bytes : List ℕ → List ℕ
atom_bytes characters = tagged_text (encode_utf8_all characters)

-- NEW_PID_EXT, Node as an atom, ID, Serial, Creation
unfoldable pub pid_bytes : Pid → List ℕ
pid_bytes p = NEW_PID_EXT ∷ atom_bytes p.node ++ to_be_bytes w32 p.id ++ to_be_bytes w32 p.serial ++ to_be_bytes w32 p.creation

-- NEWER_REFERENCE_EXT, how many words, Node as an atom, Creation, the words
unfoldable pub reference_bytes : RefParts → List ℕ
reference_bytes r = NEWER_REFERENCE_EXT ∷ to_be_bytes w16 (length r.words) ++ atom_bytes r.node ++ to_be_bytes w32 r.creation ++ flat_map (to_be_bytes w32) r.words

-- BINARY_EXT, how many bytes, the bytes
abbrev pub binary_bytes : List ℕ → List ℕ
binary_bytes bytes = BINARY_EXT ∷ to_be_bytes w32 (length bytes) ++ bytes

-- SMALL_TUPLE_EXT, the arity in one byte, where that holds it, else LARGE_TUPLE_EXT, the arity in four
abbrev pub tuple_head : ℕ → List ℕ
tuple_head arity = if nat_lt arity 256 then SMALL_TUPLE_EXT ∷ arity ∷ [] else LARGE_TUPLE_EXT ∷ to_be_bytes w32 arity

-- what stands before the elements of a list. None for no elements, else LIST_EXT, how many
abbrev pub list_head : ℕ → List ℕ
list_head count = if count == 0 then [] else LIST_EXT ∷ to_be_bytes w32 count

-- one after the other
abbrev pub joined : List (List ℕ) → List ℕ
joined [] = []
joined (part ∷ parts) = part ++ joined parts

-- one level of a term, with the bytes of each element in its place. The tail of a list is NIL_EXT
abbrev pub item_step : Term-F (List ℕ) → List ℕ
item_step (Term-F.Int n) = int_bytes n
item_step (Term-F.Atom a) = atom_bytes a
item_step (Term-F.Ref r) = reference_bytes r
item_step (Term-F.Pid p) = pid_bytes p
item_step (Term-F.Tuple parts) = tuple_head (length parts) ++ joined parts
item_step (Term-F.List parts) = list_head (length parts) ++ joined parts ++ NIL_EXT ∷ []
item_step (Term-F.Binary bytes) = binary_bytes bytes

-- a term as one item
abbrev pub item_bytes : Term → List ℕ
item_bytes = fold-Term (List ℕ) item_step

-- terms as items, one after the other
abbrev pub all_bytes : List Term → List ℕ
all_bytes ts = joined (map item_bytes ts)

-- a tuple of these elements
abbrev pub tuple_bytes : List Term → List ℕ
tuple_bytes ts = tuple_head (length ts) ++ all_bytes ts

-- a list of these elements
abbrev pub list_bytes : List Term → List ℕ
list_bytes ts = list_head (length ts) ++ all_bytes ts ++ NIL_EXT ∷ []

-- an external term: the version, 131, and one item
abbrev pub written : Term → List ℕ
written t = 131 ∷ item_bytes t

-- the term may be written: it nests at most 64 levels deep, and takes at most 16,777,216 bytes
pub record IsWritable (t : Term) : Type 0 where
  pub shallow : depth t ≤ max_depth
  pub short : length (written t) ≤ max_len

-- it takes more bytes, and does not nest deeper
pub record IsTooLong (t : Term) : Type 0 where
  pub shallow : depth t ≤ max_depth
  pub long : max_len < length (written t)

-- what is written for the term spells it, wherever it is not too deep
pub record IsSpelled (t : Term) : Type 0 where
  pub item : (room : ℕ) → depth t ≤ room → Item room t (item_bytes t)

-- and for terms, one after the other
pub record AreSpelled (ts : List Term) : Type 0 where
  pub items : (room : ℕ) → greatest_depth ts ≤ room → Items room ts (all_bytes ts)
