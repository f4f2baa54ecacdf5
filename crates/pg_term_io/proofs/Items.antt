-- What the readers of items, of tails and of all the bytes answer.
use Rattle.std.proofs.Common.{◌≡◌, ℕ, zero, suc, Bool, true, false, cond, eqb, inl, inr, List, [], ◌∷◌, ◌++◌}
use Rattle.std.proofs.Common.{length, Option, Some, None, Result, Ok, Err, refl, sym, ap, subst, ◌∙◌, arith}
use Rattle.std.specs.Int.{w8, w32, to_be_bytes, cast_signed}
use Rattle.std.proofs.lemmas.Bool.{eqb-true, eqb-false, ne_eqb}
use Rattle.std.proofs.lemmas.List.{append-nil}
use Rattle.pg_term.specs.declared.fault.TermFault.{TermFault}
use Rattle.pg_term.specs.declared.fault.TermFault.TheVariants.{BadVersion, TrailingBytes}
use Rattle.pg_term.specs.declared.term.Term.{Term, Tuple, List as Listed}
use Rattle.pg_term.specs.declared.term.Term.TheVariants.{Int, Atom as Name, Ref, Pid as Process, Binary}
use Rattle.pg_term_io.specs.Numbers.{int_of}
use Rattle.pg_term_io.specs.declared.tag.Size.{Size}
use Rattle.pg_term_io.specs.declared.tag.Size.TheVariants.{Small, Large}
use Rattle.pg_term_io.specs.declared.tag.Encoding.{Encoding}
use Rattle.pg_term_io.specs.declared.tag.Creation.TheVariants.{Byte, Word}
use Rattle.pg_term_io.specs.declared.tag.LeafTag.{LeafTag}
use Rattle.pg_term_io.specs.declared.tag.LeafTag.TheVariants as leaf
use Rattle.pg_term_io.specs.declared.tag.ListTag.{ListTag}
use Rattle.pg_term_io.specs.declared.tag.Tag.{Tag}
use Rattle.pg_term_io.specs.declared.tag.Tag.TheVariants as tag
use Rattle.pg_term_io.specs.Tags.{list_tag, tag_of, is_some_tag, is_list}
use Rattle.pg_term_io.specs.Reading.{Read, ◌>>=◌, byte_at, number_at, big_at, atom_behind, items_at, elements_behind}
use Rattle.pg_term_io.specs.Reading.{tail_behind, pid_at, old_reference_at, new_reference_at, bytes_at, binary_at}
use Rattle.pg_term_io.specs.Reading.{as_term, item_behind, leaf_behind, item_at, readers, term_of}
use Rattle.pg_term_io.specs.Spelling.{IsPid, IsOldRef, IsRef, Item, Elements, Tail, Spells}
use Rattle.pg_term_io.specs.Spelling as s
use Rattle.pg_term_io.specs.Faults.{BreaksPid, BreaksOldRef, BreaksRef, BreaksItem, BreaksTail, Breaks}
use Rattle.pg_term_io.specs.Faults as f
use Rattle.pg_term_io.proofs.Outcomes.{EachByte, Right, Cut, IsByte, IsWord, IsText, right_map, right_then}
use Rattle.pg_term_io.proofs.Outcomes.{byte_right, word_right, text_right, small_number_right, number_right}
use Rattle.pg_term_io.proofs.Atoms.{AtomBehind, NoAtom, atom_behind_right, all_fit}
use Rattle.pg_term_io.proofs.Bigs.{BigBehind, NoBigBehind, big_right, no_byte}
use Rattle.pg_term_io.proofs.Identifiers.{pid_right, old_reference_right, new_reference_right}
use Rattle.pg_term_io.proofs.Elements.{ItemRight, TailRight, SmallTuple, NoSmallTuple, small_tuple_right, LargeTuple}
use Rattle.pg_term_io.proofs.Elements.{NoLargeTuple, large_tuple_right, ListBehind, NoListBehind, elements_right}
use Rattle.pg_term_io.proofs.Tags.{byte_of, named, list_or_not}

-- ---- behind a tag

abbrev Behind : ℕ → ℕ → Term → List ℕ → Type 0
Behind room tag t b = Item (suc room) t (tag ∷ b)

abbrev BrokenBehind : ℕ → ℕ → TermFault → List ℕ → Type 0
BrokenBehind room tag e b = BreaksItem (suc room) e (tag ∷ b)

abbrev BehindRight : ℕ → ℕ → List ℕ → Read Term → Type 0
BehindRight room tag bytes read = Right (Behind room tag) (BrokenBehind room tag) bytes read

-- an item of one kind behind its own tag
module _ (room : ℕ) (bytes : List ℕ) (fits : EachByte bytes) where
  byte_item : BehindRight room 97 bytes (as_term int_of (byte_at bytes))
  byte_item =
      right_map IsByte (Cut 1) (Behind room 97) (BrokenBehind room 97) bytes int_of (byte_at bytes) (byte_right bytes fits)
      (λ n x h. subst (λ (z : List ℕ). Item (suc room) (int_of n) (97 ∷ z)) (sym h.1) (s.Item.small_integer room n h.0))
      (λ e h. subst (λ (z : TermFault × List ℕ). BreaksItem (suc room) z.0 (97 ∷ z.1)) (λ i. (sym h.0 i, no_byte bytes h.1 i)) (f.BreaksItem.small_integer_cut room))

  word_item : BehindRight room 98 bytes (as_term (λ n. Int (cast_signed w32 n)) (number_at w32 bytes))
  word_item =
      right_map IsWord (Cut 4) (Behind room 98) (BrokenBehind room 98) bytes (λ (n : ℕ). Int (cast_signed w32 n)) (number_at w32 bytes) (word_right bytes fits)
      (λ n x h. subst (λ (z : List ℕ). Item (suc room) (Int (cast_signed w32 n)) (98 ∷ z)) (sym h.1) (s.Item.integer room n h.0))
      (λ e h. subst (λ (d : TermFault). BreaksItem (suc room) d (98 ∷ bytes)) (sym h.0) (f.BreaksItem.integer_cut room bytes h.1))

  big_item : BehindRight room 110 bytes (as_term Int (big_at bytes))
  big_item = right_map (BigBehind room) (NoBigBehind room) (Behind room 110) (BrokenBehind room 110) bytes Int (big_at bytes) (big_right room bytes fits) (λ z x h. h) (λ e h. h)

  atom_item : (size : Size) (encoding : Encoding) → BehindRight room (byte_of (tag.Leaf (leaf.Atom size encoding))) bytes (as_term Name (atom_behind size encoding bytes))
  atom_item size encoding =
      let k = byte_of (tag.Leaf (leaf.Atom size encoding)) in
      right_map (AtomBehind k) (NoAtom k) (Behind room k) (BrokenBehind room k) bytes Name (atom_behind size encoding bytes) (atom_behind_right size encoding bytes fits)
      (λ a x h. s.Item.atom room a (k ∷ x) h) (λ e h. f.BreaksItem.atom room e (k ∷ bytes) h)

  pid_item : BehindRight room 103 bytes (as_term Process (pid_at w8 bytes))
  pid_item = right_map (IsPid w8) (BreaksPid w8) (Behind room 103) (BrokenBehind room 103) bytes Process (pid_at w8 bytes) (pid_right w8 small_number_right bytes fits) (λ p x h. s.Item.pid room p x h) (λ e h. f.BreaksItem.pid room e bytes h)

  new_pid_item : BehindRight room 88 bytes (as_term Process (pid_at w32 bytes))
  new_pid_item = right_map (IsPid w32) (BreaksPid w32) (Behind room 88) (BrokenBehind room 88) bytes Process (pid_at w32 bytes) (pid_right w32 number_right bytes fits) (λ p x h. s.Item.new_pid room p x h) (λ e h. f.BreaksItem.new_pid room e bytes h)

  old_reference_item : BehindRight room 101 bytes (as_term Ref (old_reference_at bytes))
  old_reference_item =
      right_map IsOldRef BreaksOldRef (Behind room 101) (BrokenBehind room 101) bytes Ref (old_reference_at bytes) (old_reference_right bytes fits) (λ r x h. s.Item.old_reference room r x h) (λ e h. f.BreaksItem.old_reference room e bytes h)

  reference_item : BehindRight room 114 bytes (as_term Ref (new_reference_at w8 bytes))
  reference_item =
      right_map (IsRef w8) (BreaksRef w8) (Behind room 114) (BrokenBehind room 114) bytes Ref (new_reference_at w8 bytes) (new_reference_right w8 small_number_right bytes fits) (λ r x h. s.Item.reference room r x h) (λ e h. f.BreaksItem.reference room e bytes h)

  newer_reference_item : BehindRight room 90 bytes (as_term Ref (new_reference_at w32 bytes))
  newer_reference_item =
      right_map (IsRef w32) (BreaksRef w32) (Behind room 90) (BrokenBehind room 90) bytes Ref (new_reference_at w32 bytes) (new_reference_right w32 number_right bytes fits) (λ r x h. s.Item.newer_reference room r x h) (λ e h. f.BreaksItem.newer_reference room e bytes h)

  IsBinary : List ℕ → List ℕ → Type 0
  IsBinary content b = Item (suc room) (Binary content) (109 ∷ b)

  binary_right : Right IsBinary (BrokenBehind room 109) bytes (binary_at bytes)
  unfolding binary_at IsBinary
  binary_right =
      right_then IsWord (Cut 4) IsText Cut IsBinary (BrokenBehind room 109) bytes (number_at w32 bytes) (λ n. bytes_at n.0 n.1)
      (word_right bytes fits) (λ n rest fit. text_right n rest fit)
      (λ n content x y h k. subst (λ (z : List ℕ). Item (suc room) (Binary content) (109 ∷ z)) (λ i. (ap (to_be_bytes w32) k.0 ∙ sym h.1) i ++ sym k.1 i) (s.Item.binary room content (omega (arith, h.0, k.0)) (all_fit content k.2)))
      (λ n e x y h k. subst (λ (z : TermFault × List ℕ). BreaksItem (suc room) z.0 (109 ∷ (z.1 ++ y))) (λ i. (sym k.0 i, sym h.1 i)) (f.BreaksItem.binary_cut room n y h.0 k.1))
      (λ e h. subst (λ (d : TermFault). BreaksItem (suc room) d (109 ∷ bytes)) (sym h.0) (f.BreaksItem.binary_length_cut room bytes h.1))

  binary_item : BehindRight room 109 bytes (as_term Binary (binary_at bytes))
  unfolding IsBinary
  binary_item = right_map IsBinary (BrokenBehind room 109) (Behind room 109) (BrokenBehind room 109) bytes Binary (binary_at bytes) binary_right (λ content x h. h) (λ e h. h)

  module _ (each : ItemRight room) (ends : TailRight room) where
    small_tuple_item : BehindRight room 104 bytes (as_term Tuple (byte_at bytes >>= λ n. items_at (item_at room) n.0 n.1))
    small_tuple_item = right_map (SmallTuple room) (NoSmallTuple room) (Behind room 104) (BrokenBehind room 104) bytes Tuple (byte_at bytes >>= λ n. items_at (item_at room) n.0 n.1) (small_tuple_right room each bytes fits) (λ ts x h. h) (λ e h. h)

    large_tuple_item : BehindRight room 105 bytes (as_term Tuple (number_at w32 bytes >>= λ n. items_at (item_at room) n.0 n.1))
    large_tuple_item = right_map (LargeTuple room) (NoLargeTuple room) (Behind room 105) (BrokenBehind room 105) bytes Tuple (number_at w32 bytes >>= λ n. items_at (item_at room) n.0 n.1) (large_tuple_right room each bytes fits) (λ ts x h. h) (λ e h. h)

    list_item : (form : ListTag) → BehindRight room (byte_of (tag.List form)) bytes (as_term Listed (elements_behind room (readers room) form bytes))
    list_item form =
        let k = byte_of (tag.List form) in
        right_map (ListBehind room k) (NoListBehind room k) (Behind room k) (BrokenBehind room k) bytes Listed (elements_behind room (readers room) form bytes) (elements_right room each ends form bytes fits)
        (λ ts x h. s.Item.list room ts (k ∷ x) h) (λ e h. f.BreaksItem.list room e (k ∷ bytes) h)

    leaf_item : (form : LeafTag) → BehindRight room (byte_of (tag.Leaf form)) bytes (leaf_behind form bytes)
    unfolding leaf_behind
    leaf_item leaf.SmallInteger = byte_item
    leaf_item leaf.Integer = word_item
    leaf_item leaf.SmallBig = big_item
    leaf_item (leaf.Atom size encoding) = atom_item size encoding
    leaf_item (leaf.Pid Byte) = pid_item
    leaf_item (leaf.Pid Word) = new_pid_item
    leaf_item leaf.OldReference = old_reference_item
    leaf_item (leaf.Reference Byte) = reference_item
    leaf_item (leaf.Reference Word) = newer_reference_item
    leaf_item leaf.Binary = binary_item

    tag_item : (form : Tag) → BehindRight room (byte_of form) bytes (item_behind room (readers room) (Some form) bytes)
    unfolding item_behind
    tag_item (tag.Tuple Small) = small_tuple_item
    tag_item (tag.Tuple Large) = large_tuple_item
    tag_item (tag.List form) = list_item form
    tag_item (tag.Leaf form) = leaf_item form

    behind_right : (byte : ℕ) (found : Option Tag) → tag_of byte ≡ found → BehindRight room byte bytes (item_behind room (readers room) found bytes)
    unfolding item_behind
    behind_right byte None is = f.BreaksItem.unknown_tag room byte bytes (ap is_some_tag is)
    behind_right byte (Some form) is = subst (λ (k : ℕ). BehindRight room k bytes (item_behind room (readers room) (Some form) bytes)) (sym (named byte form is)) (tag_item form)

-- ---- levels

-- with the tag in front again
tagged : (room tag : ℕ) (bytes : List ℕ) (read : Read Term) → BehindRight room tag bytes read → Right (Item (suc room)) (BreaksItem (suc room)) (tag ∷ bytes) read
tagged room tag bytes (Ok x) t = record { text = tag ∷ t.text; parts = ap (λ (b : List ℕ). tag ∷ b) t.parts; is = t.is; fits = t.fits }
tagged room tag bytes (Err e) q = q

tagged_tail : (room tag : ℕ) (bytes : List ℕ) (read : Read (List Term)) → Right (ListBehind room tag) (NoListBehind room tag) bytes read → Right (Tail (suc room)) (BreaksTail (suc room)) (tag ∷ bytes) read
tagged_tail room tag bytes (Ok x) t = record { text = tag ∷ t.text; parts = ap (λ (b : List ℕ). tag ∷ b) t.parts; is = s.Tail.tail room x.0 (tag ∷ t.text) t.is; fits = t.fits }
tagged_tail room tag bytes (Err e) h = f.BreaksTail.list_tail room e (tag ∷ bytes) h

tail_right : (room byte : ℕ) (bytes : List ℕ) → EachByte bytes → ItemRight room → TailRight room → (found : Option Tag) → tag_of byte ≡ found → Right (Tail (suc room)) (BreaksTail (suc room)) (byte ∷ bytes) (tail_behind room (readers room) (list_tag found) bytes)
tail_right room byte bytes fits each ends found is = elim (list_or_not found) [
  | inl l ↦
      let read = elements_behind room (readers room) l.form bytes in
      let here : byte ≡ byte_of (tag.List l.form) = named byte (tag.List l.form) (is ∙ l.is) in
      subst (λ (found : Option Tag). Right (Tail (suc room)) (BreaksTail (suc room)) (byte ∷ bytes) (tail_behind room (readers room) (list_tag found) bytes)) (sym l.is)
      (subst (λ (k : ℕ). Right (Tail (suc room)) (BreaksTail (suc room)) (k ∷ bytes) read) (sym here) (tagged_tail room (byte_of (tag.List l.form)) bytes read (elements_right room each ends l.form bytes fits)))
  | inr none ↦ subst (Right (Tail (suc room)) (BreaksTail (suc room)) (byte ∷ bytes)) (sym (none.read room (readers room) bytes)) (f.BreaksTail.improper room byte bytes (ap is_list is ∙ none.is))
]

deep_item : ItemRight zero
unfolding readers
deep_item [] fits = f.BreaksItem.missing_item zero
deep_item (tag ∷ bytes) fits = f.BreaksItem.deep_item tag bytes

deep_tail : TailRight zero
unfolding readers
deep_tail [] fits = f.BreaksTail.missing_tail zero
deep_tail (tag ∷ bytes) fits = f.BreaksTail.deep_tail tag bytes

next_item : (room : ℕ) → ItemRight room → TailRight room → ItemRight (suc room)
unfolding readers
next_item room each ends [] fits = f.BreaksItem.missing_item (suc room)
next_item room each ends (tag ∷ bytes) fits = tagged room tag bytes (item_behind room (readers room) (tag_of tag) bytes) (behind_right room bytes (λ i. fits (suc i)) each ends tag (tag_of tag) refl)

next_tail : (room : ℕ) → ItemRight room → TailRight room → TailRight (suc room)
unfolding readers
next_tail room each ends [] fits = f.BreaksTail.missing_tail (suc room)
next_tail room each ends (tag ∷ bytes) fits = tail_right room tag bytes (λ i. fits (suc i)) each ends (tag_of tag) refl

pub levels : (room : ℕ) → ItemRight room × TailRight room
levels zero = (deep_item, deep_tail)
levels (suc room) = (next_item room (levels room).0 (levels room).1, next_tail room (levels room).0 (levels room).1)

-- ---- all the bytes

abbrev pub Answers : List ℕ → Result Term TermFault → Type 0
Answers bytes (Ok t) = Spells t bytes
Answers bytes (Err e) = Breaks e bytes

abbrev whole : Term × List ℕ → Result Term TermFault
whole x = cond (eqb (length x.1) 0) (Ok x.0) (Err TrailingBytes)

ends_there : (t : Term) (bytes text rest : List ℕ) → bytes ≡ text ++ rest → Item 64 t text → Answers (131 ∷ bytes) (whole (t, rest))
ends_there t bytes text [] parts is = subst (λ (b : List ℕ). Spells t (131 ∷ b)) (sym (parts ∙ append-nil text)) (s.Spells.version t text is)
ends_there t bytes text (next ∷ rest) parts is =
    let more : eqb (length (next ∷ rest)) 0 ≡ false = ne_eqb (length (next ∷ rest)) 0 (λ h. absurd (omega (arith, h))) in
    rw more (subst (λ (b : List ℕ). Breaks TrailingBytes (131 ∷ b)) (sym parts) (f.Breaks.trailing t text next rest is))

version_right : (bytes : List ℕ) (read : Read Term) → Right (Item 64) (BreaksItem 64) bytes read → Answers (131 ∷ bytes) (read >>= whole)
version_right bytes (Ok x) t = ends_there x.0 bytes t.text x.1 t.parts t.is
version_right bytes (Err e) q = f.Breaks.item e bytes q

answers_if : (bytes : List ℕ) (b : Bool) (x y : Result Term TermFault) → (b ≡ true → Answers bytes x) → (b ≡ false → Answers bytes y) → Answers bytes (cond b x y)
answers_if bytes true x y h k = h refl
answers_if bytes false x y h k = k refl

-- each list of bytes is answered by a term that it spells, or by a fault that it has
pub term_right : (bytes : List ℕ) → EachByte bytes → Answers bytes (term_of bytes)
unfolding term_of
term_right [] fits = f.Breaks.missing
term_right (version ∷ bytes) fits =
    let read = item_at 64 bytes >>= whole in
    answers_if (version ∷ bytes) (eqb version 131) read (Err BadVersion)
    (λ h. subst (λ (v : ℕ). Answers (v ∷ bytes) read) (sym (eqb-true version 131 h)) (version_right bytes (item_at 64 bytes) ((levels 64).0 bytes (λ i. fits (suc i)))))
    (λ h. f.Breaks.bad_version version bytes (eqb-false version 131 h))
