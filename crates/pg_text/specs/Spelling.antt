-- Which texts a term has: the one that is written, and those in which characters within quotes stand as `\x{H}`.
use Rattle.std.specs.Prelude.{◌≡◌, ℕ, true, false, List, [], ◌∷◌, ◌++◌, ℤ}
use Rattle.std.specs.Fmt.{signed_decimal}
use Rattle.std.specs.List.{list_all}
use Rattle.std.specs.Str.Parse.{digits_value}
use lib.Utf8.{scalar}
use Rattle.pg_term.specs.declared.pid.Pid.{Pid}
use Rattle.pg_term.specs.declared.term.Term.{Term, Tuple, List as Listed}
use Rattle.pg_term.specs.declared.term.Term.TheVariants.{Int, Atom as Name, Ref, Pid as Process, Binary}
use Rattle.pg_term.specs.RefParts.{RefParts}
use Rattle.pg_text.specs.Reading.{is_hex, is_plain_number}
use Rattle.pg_text.specs.Writing.{quoted_text, needs_no_quotes, pid_with, reference_with, binary_text, between_text, with_commas}

-- the digits of an escape: hexadecimal, in lower case, with no leading zero
pub record IsHexOf (ds : List ℕ) (c : ℕ) : Type 0 where
  pub digits : list_all is_hex ds ≡ true
  pub plain : is_plain_number ds ≡ true
  pub value : digits_value 16 ds ≡ c
  pub character : scalar c ≡ true

-- characters within quotes
pub data IsQuoted : List ℕ → List ℕ → Type 0 where
  none : IsQuoted [] []
  -- as it is written
  shown : (c : ℕ) (cs text : List ℕ) → IsQuoted cs text → IsQuoted (c ∷ cs) (quoted_text c ++ text)
  -- `\x{H}`
  escaped : (c : ℕ) (ds cs text : List ℕ) → IsHexOf ds c → IsQuoted cs text → IsQuoted (c ∷ cs) (92 ∷ 120 ∷ 123 ∷ (ds ++ 125 ∷ text))

-- an atom: bare where it can stand so, else in quotes
pub data IsAtomText : List ℕ → List ℕ → Type 0 where
  bare : (cs : List ℕ) → needs_no_quotes cs ≡ true → IsAtomText cs cs
  quoted : (cs text : List ℕ) → needs_no_quotes cs ≡ false → IsQuoted cs text → IsAtomText cs (39 ∷ (text ++ 39 ∷ []))

mutual
  pub data IsText : Term → List ℕ → Type 0 where
    int : (n : ℤ) → IsText (Int n) (signed_decimal n)
    atom : (cs text : List ℕ) → IsAtomText cs text → IsText (Name cs) text
    pid : (p : Pid) (node : List ℕ) → IsAtomText p.node node → IsText (Process p) (pid_with node p)
    reference : (r : RefParts) (node : List ℕ) → IsAtomText r.node node → IsText (Ref r) (reference_with node r)
    binary : (bytes : List ℕ) → IsText (Binary bytes) (binary_text bytes)
    tuple : (ts : List Term) (parts : List (List ℕ)) → AreTexts ts parts → IsText (Tuple ts) (between_text 123 (with_commas (λ part. part) parts) 125)
    list : (ts : List Term) (parts : List (List ℕ)) → AreTexts ts parts → IsText (Listed ts) (between_text 91 (with_commas (λ part. part) parts) 93)

  -- a text for each term
  pub data AreTexts : List Term → List (List ℕ) → Type 0 where
    none : AreTexts [] []
    more : (t : Term) (ts : List Term) (part : List ℕ) (parts : List (List ℕ)) → IsText t part → AreTexts ts parts → AreTexts (t ∷ ts) (part ∷ parts)
