-- The table of tags: the byte of each, and what stands behind the others where an atom or a list has to stand.
use Rattle.std.proofs.Common.{◌≡◌, ℕ, Bool, true, false, cond, eqb, ◌⊎◌, inl, inr}
use Rattle.std.proofs.Common.{List, [], ◌∷◌, Option, Some, None, Err, refl, ap, ◌∙◌}
use Rattle.std.proofs.lemmas.Bool.{eqb-true}
use Rattle.pg_term.specs.declared.fault.TermFault.TheVariants.{BadAtom, ImproperList}
use Rattle.pg_term_io.specs.declared.tag.TheConstants.{NEW_PID_EXT, NEWER_REFERENCE_EXT, SMALL_INTEGER_EXT}
use Rattle.pg_term_io.specs.declared.tag.TheConstants.{INTEGER_EXT, ATOM_EXT, REFERENCE_EXT, PID_EXT}
use Rattle.pg_term_io.specs.declared.tag.TheConstants.{SMALL_TUPLE_EXT, LARGE_TUPLE_EXT, NIL_EXT, STRING_EXT}
use Rattle.pg_term_io.specs.declared.tag.TheConstants.{LIST_EXT, BINARY_EXT, SMALL_BIG_EXT, NEW_REFERENCE_EXT}
use Rattle.pg_term_io.specs.declared.tag.TheConstants.{SMALL_ATOM_EXT, ATOM_UTF8_EXT, SMALL_ATOM_UTF8_EXT}
use Rattle.pg_term_io.specs.declared.tag.Size.{Size}
use Rattle.pg_term_io.specs.declared.tag.Size.TheVariants.{Small, Large}
use Rattle.pg_term_io.specs.declared.tag.Encoding.{Encoding}
use Rattle.pg_term_io.specs.declared.tag.Encoding.TheVariants.{Utf8, Latin}
use Rattle.pg_term_io.specs.declared.tag.Creation.TheVariants.{Byte, Word}
use Rattle.pg_term_io.specs.declared.tag.LeafTag.TheVariants as leaf
use Rattle.pg_term_io.specs.declared.tag.ListTag.{ListTag}
use Rattle.pg_term_io.specs.declared.tag.ListTag.TheVariants as listed
use Rattle.pg_term_io.specs.declared.tag.Tag.{Tag}
use Rattle.pg_term_io.specs.declared.tag.Tag.TheVariants as tag
use Rattle.pg_term_io.specs.Tags.{list_tag, table, found_in, tag_of, is_atom, is_list}
use Rattle.pg_term_io.specs.Reading.{Readers, node_behind, tail_behind}
use Rattle.pg_term_io.specs.Scanning.{Walks, over_node_behind, over_tail_behind}

-- ---- the byte of a tag

abbrev pub byte_of : Tag → ℕ
byte_of (tag.Leaf leaf.SmallInteger) = SMALL_INTEGER_EXT
byte_of (tag.Leaf leaf.Integer) = INTEGER_EXT
byte_of (tag.Leaf leaf.SmallBig) = SMALL_BIG_EXT
byte_of (tag.Leaf (leaf.Atom Small Utf8)) = SMALL_ATOM_UTF8_EXT
byte_of (tag.Leaf (leaf.Atom Large Utf8)) = ATOM_UTF8_EXT
byte_of (tag.Leaf (leaf.Atom Small Latin)) = SMALL_ATOM_EXT
byte_of (tag.Leaf (leaf.Atom Large Latin)) = ATOM_EXT
byte_of (tag.Leaf (leaf.Pid Byte)) = PID_EXT
byte_of (tag.Leaf (leaf.Pid Word)) = NEW_PID_EXT
byte_of (tag.Leaf leaf.OldReference) = REFERENCE_EXT
byte_of (tag.Leaf (leaf.Reference Byte)) = NEW_REFERENCE_EXT
byte_of (tag.Leaf (leaf.Reference Word)) = NEWER_REFERENCE_EXT
byte_of (tag.Leaf leaf.Binary) = BINARY_EXT
byte_of (tag.Tuple Small) = SMALL_TUPLE_EXT
byte_of (tag.Tuple Large) = LARGE_TUPLE_EXT
byte_of (tag.List listed.Nil) = NIL_EXT
byte_of (tag.List listed.String) = STRING_EXT
byte_of (tag.List listed.List) = LIST_EXT

abbrev Fit : List (ℕ × Tag) → Type 0
Fit [] = Unit {0}
Fit (row ∷ rows) = (row.0 ≡ byte_of row.1) × Fit rows

in_row : (rows : List (ℕ × Tag)) → Fit rows → (byte : ℕ) (t : Tag) → found_in rows byte ≡ Some t → byte ≡ byte_of t
in_row [] fit byte t e = absurd cc
in_row (row ∷ rows) fit byte t e = at (λ k. in_row rows fit.1 byte t k) (eqb byte row.0) refl e
  where
    at : (found_in rows byte ≡ Some t → byte ≡ byte_of t) → (b : Bool) → eqb byte row.0 ≡ b → cond b (Some row.1) (found_in rows byte) ≡ Some t → byte ≡ byte_of t
    at later true is e = let same : row.1 ≡ t = cc in eqb-true byte row.0 is ∙ fit.0 ∙ ap byte_of same
    at later false is e = later e

pub named : (byte : ℕ) (t : Tag) → tag_of byte ≡ Some t → byte ≡ byte_of t
named = in_row table (refl, (refl, (refl, (refl, (refl, (refl, (refl, (refl, (refl, (refl, (refl, (refl, (refl, (refl, (refl, (refl, (refl, (refl, tt))))))))))))))))))

-- ---- in the place of an atom

pub record IsAtomTag (found : Option Tag) : Type 0 where
  pub size : Size
  pub encoding : Encoding
  pub is : found ≡ Some (tag.Leaf (leaf.Atom size encoding))

pub record NoAtomTag (found : Option Tag) : Type 0 where
  pub is : is_atom found ≡ false
  pub read : (bytes : List ℕ) → node_behind found bytes ≡ Err BadAtom
  pub walk : (bytes : List ℕ) → over_node_behind found bytes ≡ Err BadAtom

pub atom_or_not : (found : Option Tag) → IsAtomTag found ⊎ NoAtomTag found
atom_or_not (Some (tag.Leaf (leaf.Atom size encoding))) = inl (record { size = size; encoding = encoding; is = refl })
atom_or_not (Some (tag.Leaf leaf.SmallInteger)) = inr (record { is = refl; read = λ bytes. refl; walk = λ bytes. refl })
atom_or_not (Some (tag.Leaf leaf.Integer)) = inr (record { is = refl; read = λ bytes. refl; walk = λ bytes. refl })
atom_or_not (Some (tag.Leaf leaf.SmallBig)) = inr (record { is = refl; read = λ bytes. refl; walk = λ bytes. refl })
atom_or_not (Some (tag.Leaf (leaf.Pid creation))) = inr (record { is = refl; read = λ bytes. refl; walk = λ bytes. refl })
atom_or_not (Some (tag.Leaf leaf.OldReference)) = inr (record { is = refl; read = λ bytes. refl; walk = λ bytes. refl })
atom_or_not (Some (tag.Leaf (leaf.Reference creation))) = inr (record { is = refl; read = λ bytes. refl; walk = λ bytes. refl })
atom_or_not (Some (tag.Leaf leaf.Binary)) = inr (record { is = refl; read = λ bytes. refl; walk = λ bytes. refl })
atom_or_not (Some (tag.Tuple size)) = inr (record { is = refl; read = λ bytes. refl; walk = λ bytes. refl })
atom_or_not (Some (tag.List form)) = inr (record { is = refl; read = λ bytes. refl; walk = λ bytes. refl })
atom_or_not None = inr (record { is = refl; read = λ bytes. refl; walk = λ bytes. refl })

pub no_atom : (found : Option Tag) → is_atom found ≡ false → (bytes : List ℕ) → node_behind found bytes ≡ Err BadAtom
no_atom found other bytes = elim (atom_or_not found) [
  | inl a ↦ let yes = ap is_atom a.is in absurd cc
  | inr none ↦ none.read bytes
]

-- ---- in the place of a tail

pub list_named : (byte : ℕ) (form : ListTag) → list_tag (tag_of byte) ≡ Some form → byte ≡ byte_of (tag.List form)
list_named byte form h = at (tag_of byte) refl h
  where
    at : (found : Option Tag) → tag_of byte ≡ found → list_tag found ≡ Some form → byte ≡ byte_of (tag.List form)
    at (Some (tag.List other)) is e = let same : other ≡ form = cc in named byte (tag.List other) is ∙ ap (λ (form : ListTag). byte_of (tag.List form)) same
    at (Some (tag.Tuple size)) is e = absurd cc
    at (Some (tag.Leaf leaf)) is e = absurd cc
    at None is e = absurd cc

pub record IsListTag (found : Option Tag) : Type 0 where
  pub form : ListTag
  pub is : found ≡ Some (tag.List form)

pub record NoListTag (found : Option Tag) : Type 0 where
  pub is : is_list found ≡ false
  pub read : (room : ℕ) (below : Readers) (bytes : List ℕ) → tail_behind room below (list_tag found) bytes ≡ Err ImproperList
  pub walk : (room : ℕ) (below : Walks) (bytes : List ℕ) → over_tail_behind room below (list_tag found) bytes ≡ Err ImproperList

pub list_or_not : (found : Option Tag) → IsListTag found ⊎ NoListTag found
list_or_not (Some (tag.List form)) = inl (record { form = form; is = refl })
list_or_not (Some (tag.Leaf form)) = inr (record { is = refl; read = λ room below bytes. refl; walk = λ room below bytes. refl })
list_or_not (Some (tag.Tuple size)) = inr (record { is = refl; read = λ room below bytes. refl; walk = λ room below bytes. refl })
list_or_not None = inr (record { is = refl; read = λ room below bytes. refl; walk = λ room below bytes. refl })

pub no_list : (found : Option Tag) → is_list found ≡ false → (room : ℕ) (below : Readers) (bytes : List ℕ) → tail_behind room below (list_tag found) bytes ≡ Err ImproperList
no_list found other room below bytes = elim (list_or_not found) [
  | inl l ↦ let yes = ap is_list l.is in absurd cc
  | inr none ↦ none.read room below bytes
]
