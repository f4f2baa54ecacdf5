-- What the reader of an atom answers.
use Rattle.std.proofs.Common.{◌≡◌, ℕ, suc, ◌<◌, ◌≤◌, ◌^◌, Bool, true, false, cond, ltb, ◌⊎◌, inl, inr, List}
use Rattle.std.proofs.Common.{[], ◌∷◌, ◌++◌, length, Option, Result, Ok, Err, refl, sym, ap, subst, ◌∙◌, arith}
use Rattle.std.specs.Int.{w16, to_be_bytes}
use Rattle.std.specs.List.{AllByRecursion}
use Rattle.std.specs.Str.{chars, is_utf8, IsUtf8}
use Rattle.std.proofs.lemmas.Bool.{ltb-false, ltb-true}
use Rattle.std.proofs.lemmas.List.{append-nil}
use Rattle.std.proofs.lemmas.Str.{IsUtf8-from_is_utf8, is_utf8-from_IsUtf8}
use Rattle.pg_term.specs.declared.fault.TermFault.{TermFault}
use Rattle.pg_term.specs.declared.fault.TermFault.TheVariants.{Truncated, BadAtom}
use Rattle.pg_term_io.specs.declared.tag.Size.{Size}
use Rattle.pg_term_io.specs.declared.tag.Size.TheVariants.{Small, Large}
use Rattle.pg_term_io.specs.declared.tag.Encoding.{Encoding}
use Rattle.pg_term_io.specs.declared.tag.Encoding.TheVariants.{Utf8, Latin}
use Rattle.pg_term_io.specs.declared.tag.LeafTag.TheVariants.{Atom}
use Rattle.pg_term_io.specs.declared.tag.Tag.{Tag}
use Rattle.pg_term_io.specs.declared.tag.Tag.TheVariants.{Leaf}
use Rattle.pg_term_io.specs.Tags.{tag_of, is_atom}
use Rattle.pg_term_io.specs.Reading.{Read, ◌>>=◌, byte_at, number_at, bytes_at, named_at}
use Rattle.pg_term_io.specs.Reading.{utf8_atom, latin_atom, atom_behind, node_behind, atom_at}
use Rattle.pg_term_io.specs.Spelling.{IsAtom}
use Rattle.pg_term_io.specs.Spelling as s
use Rattle.pg_term_io.specs.Faults.{BreaksAtom, BreaksNode, IsSmallAtomTag, IsLargeAtomTag}
use Rattle.pg_term_io.specs.Faults as f
use Rattle.pg_term_io.proofs.Outcomes.{EachByte, Right, Cut, IsByte, IsHalf, IsText, right_then}
use Rattle.pg_term_io.proofs.Outcomes.{right_pure, byte_right, half_right, text_right}
use Rattle.pg_term_io.proofs.Tags.{byte_of, named, atom_or_not}

-- the text of an atom, which `name` reads
abbrev IsName : (List ℕ → Result (List ℕ) TermFault) → ℕ → List ℕ → List ℕ → Type 0
IsName name n a b = (length b ≡ n) × (name b ≡ Ok a) × EachByte b

record Refused (name : List ℕ → Result (List ℕ) TermFault) (n : ℕ) (e : TermFault) (b : List ℕ) : Type 0 where
  text : List ℕ
  rest : List ℕ
  whole : b ≡ text ++ rest
  size : length text ≡ n
  is : name text ≡ Err e

abbrev NoName : (List ℕ → Result (List ℕ) TermFault) → ℕ → TermFault → List ℕ → Type 0
NoName name n e b = Cut n e b ⊎ Refused name n e b

named_right : (name : List ℕ → Result (List ℕ) TermFault) (n : ℕ) (bytes : List ℕ) → EachByte bytes → Right (IsName name n) (NoName name n) bytes (named_at name n bytes)
unfolding named_at
named_right name n bytes fits =
    right_then (IsText n) (Cut n) (λ text a y. (y ≡ []) × (name text ≡ Ok a)) (λ text e y. name text ≡ Err e) (IsName name n) (NoName name n)
    bytes (bytes_at n bytes) (λ text. name text.0 >>= λ atom. Ok (atom, text.1))
    (text_right n bytes fits)
    (λ text rest fit. right_pure (name text) rest fit)
    (λ text a x y h k.
    let same : x ++ y ≡ text = ap (λ (t : List ℕ). x ++ t) k.0 ∙ append-nil x ∙ h.1 in
    (ap length same ∙ h.0, ap name same ∙ k.1, subst EachByte (sym same) h.2))
    (λ text e x y h k. inr (record { text = text; rest = y; whole = ap (λ (t : List ℕ). t ++ y) h.1; size = h.0; is = k }))
    (λ e h. inl h)

-- ---- the two encodings

abbrev IsAtomText : List ℕ → List ℕ → Type 0
IsAtomText text a = IsUtf8 text × (length (chars text) ≤ 255) × (chars text ≡ a)

abbrev NoAtomText : TermFault → List ℕ → Type 0
NoAtomText e text = (IsUtf8 text → 255 < length (chars text)) × (e ≡ BadAtom)

-- an answer of a list of characters
abbrev OneOf : (List ℕ → Type 0) → (TermFault → Type 0) → Result (List ℕ) TermFault → Type 0
OneOf P Q (Ok a) = P a
OneOf P Q (Err e) = Q e

told_if : (P : List ℕ → Type 0) (Q : TermFault → Type 0) (b : Bool) (x y : Result (List ℕ) TermFault) → (b ≡ true → OneOf P Q x) → (b ≡ false → OneOf P Q y) → OneOf P Q (cond b x y)
told_if P Q true x y h k = h refl
told_if P Q false x y h k = k refl

told_ok : (P : List ℕ → Type 0) (Q : TermFault → Type 0) (r : Result (List ℕ) TermFault) (a : List ℕ) → OneOf P Q r → r ≡ Ok a → P a
told_ok P Q r a h e = subst (OneOf P Q) e h

told_err : (P : List ℕ → Type 0) (Q : TermFault → Type 0) (r : Result (List ℕ) TermFault) (d : TermFault) → OneOf P Q r → r ≡ Err d → Q d
told_err P Q r d h e = subst (OneOf P Q) e h

utf8_told : (text : List ℕ) → OneOf (IsAtomText text) (λ e. NoAtomText e text) (utf8_atom text)
utf8_told text =
    told_if (IsAtomText text) (λ e. NoAtomText e text) (is_utf8 text) (cond (ltb 255 (length (chars text))) (Err BadAtom) (Ok (chars text))) (Err BadAtom)
    (λ u. told_if (IsAtomText text) (λ e. NoAtomText e text) (ltb 255 (length (chars text))) (Err BadAtom) (Ok (chars text))
    (λ long. ((λ v. ltb-true 255 (length (chars text)) long), refl))
    (λ short. (IsUtf8-from_is_utf8 text u, ltb-false 255 (length (chars text)) short, refl)))
    (λ no. ((λ v. let yes : is_utf8 text ≡ true = is_utf8-from_IsUtf8 text v in absurd cc), refl))

abbrev IsLatinText : List ℕ → List ℕ → Type 0
IsLatinText text a = (length text ≤ 255) × (text ≡ a)

abbrev NoLatinText : TermFault → List ℕ → Type 0
NoLatinText e text = (255 < length text) × (e ≡ BadAtom)

latin_told : (text : List ℕ) → OneOf (IsLatinText text) (λ e. NoLatinText e text) (latin_atom text)
latin_told text = told_if (IsLatinText text) (λ e. NoLatinText e text) (ltb 255 (length text)) (Err BadAtom) (Ok text) (λ long. (ltb-true 255 (length text) long, refl)) (λ short. (ltb-false 255 (length text) short, refl))

pub all_fit : (text : List ℕ) → EachByte text → AllByRecursion (λ b. b < 256) text
all_fit [] h = tt
all_fit (b ∷ text) h = (h 0, all_fit text (λ i. h (suc i)))

-- ---- behind each tag

abbrev pub NoAtom : ℕ → TermFault → List ℕ → Type 0
NoAtom tag e b = BreaksAtom e (tag ∷ b)

abbrev pub AtomBehind : ℕ → List ℕ → List ℕ → Type 0
AtomBehind tag a b = IsAtom a (tag ∷ b)

fault_is : (P : TermFault → Type 0) (e d : TermFault) → e ≡ d → P d → P e
fault_is P e d h k = subst P (sym h) k

-- the length in one byte
small_right : (tag : ℕ) (name : List ℕ → Result (List ℕ) TermFault) → IsSmallAtomTag tag
    → ((a text : List ℕ) → length text < 256 → EachByte text → name text ≡ Ok a → IsAtom a (tag ∷ length text ∷ text))
    → ((e : TermFault) (text rest : List ℕ) → length text < 256 → name text ≡ Err e → BreaksAtom e (tag ∷ length text ∷ (text ++ rest)))
    → (bytes : List ℕ) → EachByte bytes → Right (AtomBehind tag) (NoAtom tag) bytes (byte_at bytes >>= λ n. named_at name n.0 n.1)
small_right tag name is spells refuses bytes fits =
    right_then IsByte (Cut 1) (IsName name) (NoName name) (AtomBehind tag) (NoAtom tag) bytes (byte_at bytes) (λ n. named_at name n.0 n.1)
    (byte_right bytes fits)
    (λ n rest fit. named_right name n rest fit)
    (λ n a x y h k. subst (λ (z : List ℕ). IsAtom a (tag ∷ (z ++ y))) (ap (λ (m : ℕ). m ∷ []) k.0 ∙ sym h.1) (spells a y (omega (arith, h.0, k.0)) k.2 k.1))
    (λ n e x y h k. elim k [
      | inl c ↦ fault_is (λ (d : TermFault). BreaksAtom d (tag ∷ (x ++ y))) e Truncated c.0 (subst (λ (z : List ℕ). BreaksAtom Truncated (tag ∷ (z ++ y))) (sym h.1) (f.BreaksAtom.small_text_cut tag n y is c.1))
      | inr r ↦ subst (λ (z : List ℕ × List ℕ). BreaksAtom e (tag ∷ (z.0 ++ z.1))) (λ i. ((ap (λ (m : ℕ). m ∷ []) r.size ∙ sym h.1) i, sym r.whole i)) (refuses e r.text r.rest (omega (arith, h.0, r.size)) r.is)
    ])
    (λ e h. fault_is (λ (d : TermFault). BreaksAtom d (tag ∷ bytes)) e Truncated h.0 (subst (λ (z : List ℕ). BreaksAtom Truncated (tag ∷ z)) (none bytes h.1) (f.BreaksAtom.small_length_cut tag is)))
  where
    none : (b : List ℕ) → length b < 1 → [] ≡ b
    none [] h = refl
    none (x ∷ b) h = absurd (omega arith)

-- the length in two bytes
large_right : (tag : ℕ) (name : List ℕ → Result (List ℕ) TermFault) → IsLargeAtomTag tag
    → ((a text : List ℕ) → length text < 2 ^ 16 → EachByte text → name text ≡ Ok a → IsAtom a (tag ∷ to_be_bytes w16 (length text) ++ text))
    → ((e : TermFault) (text rest : List ℕ) → length text < 2 ^ 16 → name text ≡ Err e → BreaksAtom e (tag ∷ to_be_bytes w16 (length text) ++ (text ++ rest)))
    → (bytes : List ℕ) → EachByte bytes → Right (AtomBehind tag) (NoAtom tag) bytes (number_at w16 bytes >>= λ n. named_at name n.0 n.1)
large_right tag name is spells refuses bytes fits =
    right_then IsHalf (Cut 2) (IsName name) (NoName name) (AtomBehind tag) (NoAtom tag) bytes (number_at w16 bytes) (λ n. named_at name n.0 n.1)
    (half_right bytes fits)
    (λ n rest fit. named_right name n rest fit)
    (λ n a x y h k. subst (λ (z : List ℕ). IsAtom a (tag ∷ (z ++ y))) (ap (to_be_bytes w16) k.0 ∙ sym h.1) (spells a y (omega (arith, h.0, k.0)) k.2 k.1))
    (λ n e x y h k. elim k [
      | inl c ↦ fault_is (λ (d : TermFault). BreaksAtom d (tag ∷ (x ++ y))) e Truncated c.0 (subst (λ (z : List ℕ). BreaksAtom Truncated (tag ∷ (z ++ y))) (sym h.1) (f.BreaksAtom.text_cut tag n y is h.0 c.1))
      | inr r ↦ subst (λ (z : List ℕ × List ℕ). BreaksAtom e (tag ∷ (z.0 ++ z.1))) (λ i. ((ap (to_be_bytes w16) r.size ∙ sym h.1) i, sym r.whole i)) (refuses e r.text r.rest (omega (arith, h.0, r.size)) r.is)
    ])
    (λ e h. fault_is (λ (d : TermFault). BreaksAtom d (tag ∷ bytes)) e Truncated h.0 (f.BreaksAtom.length_cut tag bytes is h.1))

utf8_small : (bytes : List ℕ) → EachByte bytes → Right (AtomBehind 119) (NoAtom 119) bytes (byte_at bytes >>= λ n. named_at utf8_atom n.0 n.1)
utf8_small = small_right 119 utf8_atom (inr refl)
    (λ a text lt fit e. let k = told_ok (IsAtomText text) (λ d. NoAtomText d text) (utf8_atom text) a (utf8_told text) e in subst (λ (z : List ℕ). IsAtom z (119 ∷ length text ∷ text)) k.2 (s.IsAtom.small text lt k.0 k.1))
    (λ e text rest lt h. let k = told_err (IsAtomText text) (λ d. NoAtomText d text) (utf8_atom text) e (utf8_told text) h in fault_is (λ (d : TermFault). BreaksAtom d (119 ∷ length text ∷ (text ++ rest))) e BadAtom k.1 (f.BreaksAtom.small_bad text rest lt k.0))

utf8_large : (bytes : List ℕ) → EachByte bytes → Right (AtomBehind 118) (NoAtom 118) bytes (number_at w16 bytes >>= λ n. named_at utf8_atom n.0 n.1)
utf8_large = large_right 118 utf8_atom (inr refl)
    (λ a text lt fit e. let k = told_ok (IsAtomText text) (λ d. NoAtomText d text) (utf8_atom text) a (utf8_told text) e in subst (λ (z : List ℕ). IsAtom z (118 ∷ to_be_bytes w16 (length text) ++ text)) k.2 (s.IsAtom.large text lt k.0 k.1))
    (λ e text rest lt h. let k = told_err (IsAtomText text) (λ d. NoAtomText d text) (utf8_atom text) e (utf8_told text) h in fault_is (λ (d : TermFault). BreaksAtom d (118 ∷ to_be_bytes w16 (length text) ++ (text ++ rest))) e BadAtom k.1 (f.BreaksAtom.bad text rest lt k.0))

latin_small : (bytes : List ℕ) → EachByte bytes → Right (AtomBehind 115) (NoAtom 115) bytes (byte_at bytes >>= λ n. named_at latin_atom n.0 n.1)
latin_small = small_right 115 latin_atom (inl refl)
    (λ a text lt fit e. let k = told_ok (IsLatinText text) (λ d. NoLatinText d text) (latin_atom text) a (latin_told text) e in subst (λ (z : List ℕ). IsAtom z (115 ∷ length text ∷ text)) k.1 (s.IsAtom.small_latin text k.0 (all_fit text fit)))
    (λ e text rest lt h. let k = told_err (IsLatinText text) (λ d. NoLatinText d text) (latin_atom text) e (latin_told text) h in absurd (omega (arith, k.0)))

latin_large : (bytes : List ℕ) → EachByte bytes → Right (AtomBehind 100) (NoAtom 100) bytes (number_at w16 bytes >>= λ n. named_at latin_atom n.0 n.1)
latin_large = large_right 100 latin_atom (inl refl)
    (λ a text lt fit e. let k = told_ok (IsLatinText text) (λ d. NoLatinText d text) (latin_atom text) a (latin_told text) e in subst (λ (z : List ℕ). IsAtom z (100 ∷ to_be_bytes w16 (length text) ++ text)) k.1 (s.IsAtom.latin text k.0 (all_fit text fit)))
    (λ e text rest lt h. let k = told_err (IsLatinText text) (λ d. NoLatinText d text) (latin_atom text) e (latin_told text) h in fault_is (λ (d : TermFault). BreaksAtom d (100 ∷ to_be_bytes w16 (length text) ++ (text ++ rest))) e BadAtom k.1 (f.BreaksAtom.latin_bad text rest lt k.0))

pub atom_behind_right : (size : Size) (encoding : Encoding) (bytes : List ℕ) → EachByte bytes → Right (AtomBehind (byte_of (Leaf (Atom size encoding)))) (NoAtom (byte_of (Leaf (Atom size encoding)))) bytes (atom_behind size encoding bytes)
unfolding atom_behind
atom_behind_right Small Utf8 bytes fits = utf8_small bytes fits
atom_behind_right Large Utf8 bytes fits = utf8_large bytes fits
atom_behind_right Small Latin bytes fits = latin_small bytes fits
atom_behind_right Large Latin bytes fits = latin_large bytes fits

-- with the tag in front again
tagged : (tag : ℕ) (bytes : List ℕ) (read : Read (List ℕ)) → Right (AtomBehind tag) (NoAtom tag) bytes read → Right IsAtom BreaksNode (tag ∷ bytes) read
tagged tag bytes (Ok x) t = record { text = tag ∷ t.text; parts = ap (λ (b : List ℕ). tag ∷ b) t.parts; is = t.is; fits = t.fits }
tagged tag bytes (Err e) h = f.BreaksNode.atom e (tag ∷ bytes) h

node_right : (tag : ℕ) (bytes : List ℕ) → EachByte bytes → (found : Option Tag) → tag_of tag ≡ found → Right IsAtom BreaksNode (tag ∷ bytes) (node_behind found bytes)
node_right tag bytes fits found is = elim (atom_or_not found) [
  | inl a ↦
      let form : Tag = Leaf (Atom a.size a.encoding) in
      let read = atom_behind a.size a.encoding bytes in
      let here : tag ≡ byte_of form = named tag form (is ∙ a.is) in
      subst (λ (found : Option Tag). Right IsAtom BreaksNode (tag ∷ bytes) (node_behind found bytes)) (sym a.is)
      (subst (λ (k : ℕ). Right IsAtom BreaksNode (k ∷ bytes) read) (sym here) (tagged (byte_of form) bytes read (atom_behind_right a.size a.encoding bytes fits)))
  | inr none ↦ subst (Right IsAtom BreaksNode (tag ∷ bytes)) (sym (none.read bytes)) (f.BreaksNode.no_atom tag bytes (ap is_atom is ∙ none.is))
]

-- an atom in its place
pub atom_right : (bytes : List ℕ) → EachByte bytes → Right IsAtom BreaksNode bytes (atom_at bytes)
unfolding atom_at
atom_right [] fits = f.BreaksNode.missing
atom_right (tag ∷ bytes) fits = node_right tag bytes (λ i. fits (suc i)) (tag_of tag) refl
