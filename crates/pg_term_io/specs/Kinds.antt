-- Which kind of term stands at the front of bytes, and how many elements a tuple has, without what they are.
use Rattle.std.specs.Prelude.{ℕ, List, [], ◌∷◌, Option, Some, None, Result, Ok, Err}
use Rattle.std.specs.Option.{option_map}
use Rattle.pg_term_io.specs.declared.kind.Kind.{Kind}
use Rattle.pg_term_io.specs.declared.kind.Kind.TheVariants.{Integer, Atom, Reference, Pid}
use Rattle.pg_term_io.specs.declared.kind.Kind.TheVariants.{Tuple, List as Listed, Binary}
use Rattle.pg_term_io.specs.declared.tag.Size.{Size}
use Rattle.pg_term_io.specs.Reading.{Read, arity_at}
use Rattle.pg_term_io.specs.Tags.{tag_of, tuple_size, kind_of_tag}

-- the place of a kind among the seven, as kind_of of pg_term counts them
abbrev pub place_of : Kind → ℕ
place_of Integer = 0
place_of Atom = 1
place_of Reference = 2
place_of Pid = 3
place_of Tuple = 4
place_of Listed = 5
place_of Binary = 6

-- the kind of the first byte's tag, if it is one
unfoldable pub kind_in : List ℕ → Option Kind
kind_in [] = None
kind_in (byte ∷ bytes) = option_map kind_of_tag (tag_of byte)

-- a number at the front of bytes and the bytes behind it, where it is not cut
abbrev pub count_in : Read ℕ → Option (ℕ × List ℕ)
count_in (Ok x) = Some x
count_in (Err fault) = None

abbrev pub arity_in : Option Size → List ℕ → Option (ℕ × List ℕ)
arity_in (Some size) bytes = count_in (arity_at size bytes)
arity_in None bytes = None

-- how many elements the tuple has whose tag is the first byte, and the bytes behind that number
unfoldable pub tuple_in : List ℕ → Option (ℕ × List ℕ)
tuple_in [] = None
tuple_in (byte ∷ bytes) = arity_in (tuple_size (tag_of byte)) bytes
