-- What a term is: the parts that messages are made of.
use Rattle.std.specs.Prelude.{ℕ, List, Bool, false, nat_eq, Option, Some, None}
use Rattle.std.specs.Cmp.Lexicographic.{pointwise}
use Rattle.std.specs.Str.{encode_utf8_all}
use Rattle.pg_term.specs.declared.pid.Pid.{Pid}
use Rattle.pg_term.specs.declared.term.Term.{Term, out-Term}
use Rattle.pg_term.specs.declared.term.Term.TheOpen.{Term-F}
use Rattle.pg_term.specs.RefParts.{RefParts}

abbrev pub tuple_in : Term-F Term → Option (List Term)
tuple_in (Term-F.Tuple terms) = Some terms
tuple_in _ = None

-- the elements of a tuple
abbrev pub elements_of : Term → Option (List Term)
elements_of t = tuple_in (out-Term t)

abbrev pub list_in : Term-F Term → Option (List Term)
list_in (Term-F.List terms) = Some terms
list_in _ = None

-- the elements of a list
abbrev pub items_of : Term → Option (List Term)
items_of t = list_in (out-Term t)

abbrev pub text_in : Term-F Term → List ℕ → Bool
text_in (Term-F.Atom characters) text = pointwise nat_eq (encode_utf8_all characters) text
text_in _ text = false

-- an atom of this text
abbrev pub is_word : Term → List ℕ → Bool
is_word t text = text_in (out-Term t) text

abbrev pub atom_in : Term-F Term → Option (List ℕ)
atom_in (Term-F.Atom characters) = Some characters
atom_in _ = None

-- the characters of an atom
abbrev pub atom_of : Term → Option (List ℕ)
atom_of t = atom_in (out-Term t)

abbrev pub reference_in : Term-F Term → Option RefParts
reference_in (Term-F.Ref reference) = Some reference
reference_in _ = None

-- a reference
abbrev pub reference_of : Term → Option RefParts
reference_of t = reference_in (out-Term t)

abbrev pub pid_in : Term-F Term → Option Pid
pid_in (Term-F.Pid pid) = Some pid
pid_in _ = None

-- a process identifier
abbrev pub pid_of : Term → Option Pid
pid_of t = pid_in (out-Term t)
