-- The table of tags: those of the External Term Format that are read, by their names in the Erlang documentation, and what
-- stands behind each of them.
use Rattle.std.specs.Prelude.{ℕ, Bool, true, false, ◌==◌, if◌then◌else◌, List, [], ◌∷◌, Option, Some, None}
use Rattle.pg_term_io.specs.declared.kind.Kind.{Kind}
use Rattle.pg_term_io.specs.declared.kind.Kind.TheVariants as kind
use Rattle.pg_term_io.specs.declared.tag.TheConstants.{NEW_PID_EXT, NEWER_REFERENCE_EXT, SMALL_INTEGER_EXT}
use Rattle.pg_term_io.specs.declared.tag.TheConstants.{INTEGER_EXT, ATOM_EXT, REFERENCE_EXT, PID_EXT}
use Rattle.pg_term_io.specs.declared.tag.TheConstants.{SMALL_TUPLE_EXT, LARGE_TUPLE_EXT, NIL_EXT, STRING_EXT}
use Rattle.pg_term_io.specs.declared.tag.TheConstants.{LIST_EXT, BINARY_EXT, SMALL_BIG_EXT, NEW_REFERENCE_EXT}
use Rattle.pg_term_io.specs.declared.tag.TheConstants.{SMALL_ATOM_EXT, ATOM_UTF8_EXT, SMALL_ATOM_UTF8_EXT}
use Rattle.pg_term_io.specs.declared.tag.Size.{Size}
use Rattle.pg_term_io.specs.declared.tag.Size.TheVariants.{Small, Large}
use Rattle.pg_term_io.specs.declared.tag.Encoding.TheVariants.{Utf8, Latin}
use Rattle.pg_term_io.specs.declared.tag.Creation.TheVariants.{Byte, Word}
use Rattle.pg_term_io.specs.declared.tag.LeafTag.{LeafTag}
use Rattle.pg_term_io.specs.declared.tag.LeafTag.TheVariants.{SmallInteger, Integer, SmallBig, Atom}
use Rattle.pg_term_io.specs.declared.tag.LeafTag.TheVariants.{Pid, OldReference, Reference, Binary}
use Rattle.pg_term_io.specs.declared.tag.ListTag.{ListTag}
use Rattle.pg_term_io.specs.declared.tag.ListTag.TheVariants.{Nil, String, List as Cons}
use Rattle.pg_term_io.specs.declared.tag.Tag.{Tag}
use Rattle.pg_term_io.specs.declared.tag.Tag.TheVariants.{Tuple, List as Listing, Leaf}

abbrev pub table : List (ℕ × Tag)
table =
    (SMALL_INTEGER_EXT, Leaf SmallInteger)
    ∷ (INTEGER_EXT, Leaf Integer)
    ∷ (SMALL_BIG_EXT, Leaf SmallBig)
    ∷ (SMALL_ATOM_UTF8_EXT, Leaf (Atom Small Utf8))
    ∷ (ATOM_UTF8_EXT, Leaf (Atom Large Utf8))
    ∷ (SMALL_ATOM_EXT, Leaf (Atom Small Latin))
    ∷ (ATOM_EXT, Leaf (Atom Large Latin))
    ∷ (PID_EXT, Leaf (Pid Byte))
    ∷ (NEW_PID_EXT, Leaf (Pid Word))
    ∷ (REFERENCE_EXT, Leaf OldReference)
    ∷ (NEW_REFERENCE_EXT, Leaf (Reference Byte))
    ∷ (NEWER_REFERENCE_EXT, Leaf (Reference Word))
    ∷ (BINARY_EXT, Leaf Binary)
    ∷ (SMALL_TUPLE_EXT, Tuple Small)
    ∷ (LARGE_TUPLE_EXT, Tuple Large)
    ∷ (NIL_EXT, Listing Nil)
    ∷ (STRING_EXT, Listing String)
    ∷ (LIST_EXT, Listing Cons)
    ∷ []

abbrev pub found_in : List (ℕ × Tag) → ℕ → Option Tag
found_in [] byte = None
found_in (row ∷ rows) byte = if byte == row.0 then Some row.1 else found_in rows byte

-- what stands behind a byte that is a tag
abbrev pub tag_of : ℕ → Option Tag
tag_of = found_in table

abbrev pub is_some_tag : Option Tag → Bool
is_some_tag (Some tag) = true
is_some_tag None = false

abbrev pub is_tag : ℕ → Bool
is_tag byte = is_some_tag (tag_of byte)

abbrev pub is_atom : Option Tag → Bool
is_atom (Some (Leaf (Atom size encoding))) = true
is_atom _ = false

abbrev pub is_atom_tag : ℕ → Bool
is_atom_tag byte = is_atom (tag_of byte)

-- how long the arity of a tuple is
abbrev pub tuple_size : Option Tag → Option Size
tuple_size (Some (Tuple size)) = Some size
tuple_size _ = None

-- what stands behind the tag of a list
abbrev pub list_tag : Option Tag → Option ListTag
list_tag (Some (Listing tag)) = Some tag
list_tag _ = None

abbrev pub is_list : Option Tag → Bool
is_list (Some (Listing tag)) = true
is_list _ = false

abbrev pub is_list_tag : ℕ → Bool
is_list_tag byte = is_list (tag_of byte)

-- the kind of term behind a tag
abbrev pub kind_of_leaf : LeafTag → Kind
kind_of_leaf SmallInteger = kind.Integer
kind_of_leaf Integer = kind.Integer
kind_of_leaf SmallBig = kind.Integer
kind_of_leaf (Atom size encoding) = kind.Atom
kind_of_leaf (Pid creation) = kind.Pid
kind_of_leaf OldReference = kind.Reference
kind_of_leaf (Reference creation) = kind.Reference
kind_of_leaf Binary = kind.Binary

abbrev pub kind_of_tag : Tag → Kind
kind_of_tag (Tuple size) = kind.Tuple
kind_of_tag (Listing tag) = kind.List
kind_of_tag (Leaf tag) = kind_of_leaf tag
