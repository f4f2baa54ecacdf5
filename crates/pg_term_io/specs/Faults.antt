-- Which fault is told of bytes that spell no term. Items are read from left to right, an item before its parts, and the
-- first fault is told: what stands before it is well spelled, whatever follows it. The forms are those of the External
-- Term Format chapter of the Erlang documentation. `room` is how many more levels of terms may nest.
use Rattle.std.specs.Prelude.{◌≡◌, ◌≢◌, ℕ, zero, suc, ◌+◌, ◌*◌, ◌<◌, ◌^◌, false}
use Rattle.std.specs.Prelude.{◌⊎◌, List, [], ◌∷◌, ◌++◌, length, FitsSigned}
use Rattle.std.specs.Int.{Width, byte_len, w8, w16, w32, w64, to_be_bytes}
use Rattle.std.specs.Str.{chars, IsUtf8}
use Rattle.pg_term.specs.declared.fault.TermFault.{TermFault}
use Rattle.pg_term.specs.declared.fault.TermFault.TheVariants.{Truncated, BadVersion, UnknownTag}
use Rattle.pg_term.specs.declared.fault.TermFault.TheVariants.{TooDeep, IntegerTooLarge, BadAtom}
use Rattle.pg_term.specs.declared.fault.TermFault.TheVariants.{ImproperList, BadReference, TrailingBytes}
use Rattle.pg_term.specs.declared.term.Term.{Term}
use Rattle.pg_term_io.specs.declared.tag.TheConstants.{ATOM_EXT, ATOM_UTF8_EXT, BINARY_EXT, INTEGER_EXT}
use Rattle.pg_term_io.specs.declared.tag.TheConstants.{LARGE_TUPLE_EXT, LIST_EXT, NEWER_REFERENCE_EXT}
use Rattle.pg_term_io.specs.declared.tag.TheConstants.{NEW_PID_EXT, NEW_REFERENCE_EXT, PID_EXT, REFERENCE_EXT}
use Rattle.pg_term_io.specs.declared.tag.TheConstants.{SMALL_ATOM_EXT, SMALL_ATOM_UTF8_EXT, SMALL_BIG_EXT}
use Rattle.pg_term_io.specs.declared.tag.TheConstants.{SMALL_INTEGER_EXT, SMALL_TUPLE_EXT, STRING_EXT}
use Rattle.pg_term_io.specs.Limits.{max_depth}
use Rattle.pg_term_io.specs.Numbers.{big_value}
use Rattle.pg_term_io.specs.Tags.{is_atom_tag, is_list_tag, is_tag}
use Rattle.pg_term_io.specs.Spelling.{IsAtom, Item, Items}

-- ---- atoms

-- the tags of atoms whose length takes one byte (SMALL_ATOM_EXT, SMALL_ATOM_UTF8_EXT), and two (ATOM_EXT, ATOM_UTF8_EXT)
abbrev pub IsSmallAtomTag : ℕ → Type 0
IsSmallAtomTag tag = (tag ≡ SMALL_ATOM_EXT) ⊎ (tag ≡ SMALL_ATOM_UTF8_EXT)

abbrev pub IsLargeAtomTag : ℕ → Type 0
IsLargeAtomTag tag = (tag ≡ ATOM_EXT) ⊎ (tag ≡ ATOM_UTF8_EXT)

-- an atom, with its tag
pub data BreaksAtom : TermFault → List ℕ → Type 0 where
  -- its length is cut
  small_length_cut : (tag : ℕ) → IsSmallAtomTag tag → BreaksAtom Truncated (tag ∷ [])
  length_cut : (tag : ℕ) (b : List ℕ) → IsLargeAtomTag tag → length b < 2 → BreaksAtom Truncated (tag ∷ b)
  -- its text is cut
  small_text_cut : (tag n : ℕ) (b : List ℕ) → IsSmallAtomTag tag → length b < n → BreaksAtom Truncated (tag ∷ n ∷ b)
  text_cut : (tag n : ℕ) (b : List ℕ) → IsLargeAtomTag tag → n < 2 ^ 16 → length b < n → BreaksAtom Truncated (tag ∷ to_be_bytes w16 n ++ b)
  -- its text is no UTF-8, or has more than 255 characters
  small_bad : (text rest : List ℕ) → length text < 256 → (IsUtf8 text → 255 < length (chars text)) → BreaksAtom BadAtom (SMALL_ATOM_UTF8_EXT ∷ length text ∷ (text ++ rest))
  bad : (text rest : List ℕ) → length text < 2 ^ 16 → (IsUtf8 text → 255 < length (chars text)) → BreaksAtom BadAtom (ATOM_UTF8_EXT ∷ to_be_bytes w16 (length text) ++ (text ++ rest))
  -- its text in Latin-1 has more than 255 characters
  latin_bad : (text rest : List ℕ) → length text < 2 ^ 16 → 255 < length text → BreaksAtom BadAtom (ATOM_EXT ∷ to_be_bytes w16 (length text) ++ (text ++ rest))

-- the atom of a pid or a reference
pub data BreaksNode : TermFault → List ℕ → Type 0 where
  -- no byte is there
  missing : BreaksNode Truncated []
  -- a tag that no atom has
  no_atom : (tag : ℕ) (b : List ℕ) → is_atom_tag tag ≡ false → BreaksNode BadAtom (tag ∷ b)
  -- the fault of the atom
  atom : (f : TermFault) (b : List ℕ) → BreaksAtom f b → BreaksNode f b

-- ---- pids and references, behind their tags

-- PID_EXT, NEW_PID_EXT: behind the node stand the ID and the Serial, of four bytes, and the Creation, of one (w8) or four
-- (w32)
pub data BreaksPid : Width → TermFault → List ℕ → Type 0 where
  -- the fault of the node, or what stands behind it is cut
  node : (w : Width) (f : TermFault) (b : List ℕ) → BreaksNode f b → BreaksPid w f b
  cut : (w : Width) (a text b : List ℕ) → IsAtom a text → length b < 8 + byte_len w → BreaksPid w Truncated (text ++ b)

-- REFERENCE_EXT: behind the node stand the word, of four bytes, and the Creation, of one
pub data BreaksOldRef : TermFault → List ℕ → Type 0 where
  -- the fault of the node, or what stands behind it is cut
  node : (f : TermFault) (b : List ℕ) → BreaksNode f b → BreaksOldRef f b
  cut : (a text b : List ℕ) → IsAtom a text → length b < 5 → BreaksOldRef Truncated (text ++ b)

-- NEW_REFERENCE_EXT, NEWER_REFERENCE_EXT: the number of words is tested before the node is read; behind the node stand the
-- Creation, of one byte (w8) or four (w32), and the words, of four
pub data BreaksRef : Width → TermFault → List ℕ → Type 0 where
  -- the number of words is cut, or it is none of 1 to 3
  length_cut : (w : Width) (b : List ℕ) → length b < 2 → BreaksRef w Truncated b
  bad_length : (w : Width) (n : ℕ) (b : List ℕ) → n < 2 ^ 16 → (n ≡ 0) ⊎ (3 < n) → BreaksRef w BadReference (to_be_bytes w16 n ++ b)
  -- the fault of the node, or what stands behind it is cut
  node : (w : Width) (n : ℕ) (f : TermFault) (b : List ℕ) → 0 < n → n < 4 → BreaksNode f b → BreaksRef w f (to_be_bytes w16 n ++ b)
  cut : (w : Width) (n : ℕ) (a text b : List ℕ) → 0 < n → n < 4 → IsAtom a text → length b < byte_len w + 4 * n → BreaksRef w Truncated (to_be_bytes w16 n ++ (text ++ b))

-- ---- items

mutual
  -- in the place of an item
  pub data BreaksItem : ℕ → TermFault → List ℕ → Type 0 where
    -- no byte is there
    missing_item : (room : ℕ) → BreaksItem room Truncated []
    -- a byte is there, and no further level may nest
    deep_item : (tag : ℕ) (b : List ℕ) → BreaksItem zero TooDeep (tag ∷ b)
    -- a tag that is none of the table
    unknown_tag : (room tag : ℕ) (b : List ℕ) → is_tag tag ≡ false → BreaksItem (suc room) UnknownTag (tag ∷ b)
    -- SMALL_INTEGER_EXT, INTEGER_EXT: cut
    small_integer_cut : (room : ℕ) → BreaksItem (suc room) Truncated (SMALL_INTEGER_EXT ∷ [])
    integer_cut : (room : ℕ) (b : List ℕ) → length b < 4 → BreaksItem (suc room) Truncated (INTEGER_EXT ∷ b)
    -- SMALL_BIG_EXT: its number of digits is cut, or the sign and the digits are
    big_length_cut : (room : ℕ) → BreaksItem (suc room) Truncated (SMALL_BIG_EXT ∷ [])
    big_cut : (room n : ℕ) (b : List ℕ) → length b < 1 + n → BreaksItem (suc room) Truncated (SMALL_BIG_EXT ∷ n ∷ b)
    -- no signed integer of 64 bits
    too_large : (room sign : ℕ) (digits rest : List ℕ) → (FitsSigned w64 (big_value sign digits) → ⊥) → BreaksItem (suc room) IntegerTooLarge (SMALL_BIG_EXT ∷ length digits ∷ sign ∷ (digits ++ rest))
    -- the fault of an atom
    atom : (room : ℕ) (f : TermFault) (b : List ℕ) → BreaksAtom f b → BreaksItem (suc room) f b
    -- PID_EXT, NEW_PID_EXT, REFERENCE_EXT, NEW_REFERENCE_EXT, NEWER_REFERENCE_EXT: the fault of what stands behind the tag
    pid : (room : ℕ) (f : TermFault) (b : List ℕ) → BreaksPid w8 f b → BreaksItem (suc room) f (PID_EXT ∷ b)
    new_pid : (room : ℕ) (f : TermFault) (b : List ℕ) → BreaksPid w32 f b → BreaksItem (suc room) f (NEW_PID_EXT ∷ b)
    old_reference : (room : ℕ) (f : TermFault) (b : List ℕ) → BreaksOldRef f b → BreaksItem (suc room) f (REFERENCE_EXT ∷ b)
    reference : (room : ℕ) (f : TermFault) (b : List ℕ) → BreaksRef w8 f b → BreaksItem (suc room) f (NEW_REFERENCE_EXT ∷ b)
    newer_reference : (room : ℕ) (f : TermFault) (b : List ℕ) → BreaksRef w32 f b → BreaksItem (suc room) f (NEWER_REFERENCE_EXT ∷ b)
    -- BINARY_EXT: its length is cut, or its bytes are
    binary_length_cut : (room : ℕ) (b : List ℕ) → length b < 4 → BreaksItem (suc room) Truncated (BINARY_EXT ∷ b)
    binary_cut : (room n : ℕ) (b : List ℕ) → n < 2 ^ 32 → length b < n → BreaksItem (suc room) Truncated (BINARY_EXT ∷ to_be_bytes w32 n ++ b)
    -- SMALL_TUPLE_EXT, LARGE_TUPLE_EXT: the arity is cut, or an element has the fault
    small_arity_cut : (room : ℕ) → BreaksItem (suc room) Truncated (SMALL_TUPLE_EXT ∷ [])
    small_tuple : (room n : ℕ) (f : TermFault) (b : List ℕ) → BreaksItems room n f b → BreaksItem (suc room) f (SMALL_TUPLE_EXT ∷ n ∷ b)
    arity_cut : (room : ℕ) (b : List ℕ) → length b < 4 → BreaksItem (suc room) Truncated (LARGE_TUPLE_EXT ∷ b)
    large_tuple : (room n : ℕ) (f : TermFault) (b : List ℕ) → n < 2 ^ 32 → BreaksItems room n f b → BreaksItem (suc room) f (LARGE_TUPLE_EXT ∷ to_be_bytes w32 n ++ b)
    -- the fault of a list
    list : (room : ℕ) (f : TermFault) (b : List ℕ) → BreaksElements room f b → BreaksItem (suc room) f b

  -- one of the next n items
  pub data BreaksItems : ℕ → ℕ → TermFault → List ℕ → Type 0 where
    -- the first of them
    here : (room n : ℕ) (f : TermFault) (b : List ℕ) → BreaksItem room f b → BreaksItems room (suc n) f b
    -- one behind the first, which is well spelled
    later : (room n : ℕ) (f : TermFault) (t : Term) (a b : List ℕ) → Item room t a → BreaksItems room n f b → BreaksItems room (suc n) f (a ++ b)

  -- a list with its tag, and room levels for its elements and its tail
  pub data BreaksElements : ℕ → TermFault → List ℕ → Type 0 where
    -- STRING_EXT: its length is cut, or its bytes are
    string_length_cut : (room : ℕ) (b : List ℕ) → length b < 2 → BreaksElements room Truncated (STRING_EXT ∷ b)
    string_cut : (room n : ℕ) (b : List ℕ) → n < 2 ^ 16 → length b < n → BreaksElements room Truncated (STRING_EXT ∷ to_be_bytes w16 n ++ b)
    -- some bytes where no further level may nest, told once they are there
    string_too_deep : (text rest : List ℕ) → length text < 2 ^ 16 → 0 < length text → BreaksElements zero TooDeep (STRING_EXT ∷ to_be_bytes w16 (length text) ++ (text ++ rest))
    -- LIST_EXT: its length is cut, or an element has the fault, or the tail has it
    length_cut : (room : ℕ) (b : List ℕ) → length b < 4 → BreaksElements room Truncated (LIST_EXT ∷ b)
    element : (room n : ℕ) (f : TermFault) (b : List ℕ) → n < 2 ^ 32 → BreaksItems room n f b → BreaksElements room f (LIST_EXT ∷ to_be_bytes w32 n ++ b)
    tail : (room : ℕ) (f : TermFault) (ts : List Term) (a b : List ℕ) → length ts < 2 ^ 32 → Items room ts a → BreaksTail room f b → BreaksElements room f (LIST_EXT ∷ to_be_bytes w32 (length ts) ++ (a ++ b))

  -- in the place of a tail
  pub data BreaksTail : ℕ → TermFault → List ℕ → Type 0 where
    -- no byte is there
    missing_tail : (room : ℕ) → BreaksTail room Truncated []
    -- a byte is there, and no further level may nest
    deep_tail : (tag : ℕ) (b : List ℕ) → BreaksTail zero TooDeep (tag ∷ b)
    -- a tag that no list has
    improper : (room tag : ℕ) (b : List ℕ) → is_list_tag tag ≡ false → BreaksTail (suc room) ImproperList (tag ∷ b)
    -- the fault of a list that stands there
    list_tail : (room : ℕ) (f : TermFault) (b : List ℕ) → BreaksElements room f b → BreaksTail (suc room) f b

-- the bytes spell no term, and this is their fault
pub data Breaks : TermFault → List ℕ → Type 0 where
  -- no byte is there
  missing : Breaks Truncated []
  -- the version number is not 131
  bad_version : (version : ℕ) (b : List ℕ) → version ≢ 131 → Breaks BadVersion (version ∷ b)
  -- the fault of the item
  item : (f : TermFault) (b : List ℕ) → BreaksItem max_depth f b → Breaks f (131 ∷ b)
  -- a byte stands behind the item
  trailing : (t : Term) (a : List ℕ) (next : ℕ) (b : List ℕ) → Item max_depth t a → Breaks TrailingBytes (131 ∷ (a ++ next ∷ b))
