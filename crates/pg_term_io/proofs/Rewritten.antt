-- A term that some bytes spell is spelled by what is written for it, too.
use Rattle.std.proofs.Common.{◌≡◌, ℕ, pos, ◌*◌, ◌<◌, ◌≤◌, ◌^◌, true, List, [], ◌∷◌, ◌++◌, length}
use Rattle.std.proofs.Common.{length-append, map, FitsSigned, Ok, refl, sym, ap, subst, arith}
use Rattle.std.specs.Int.{Width, byte_len, w8, w32, w64, cast_signed}
use Rattle.std.specs.List.{AllByRecursion}
use Rattle.std.specs.Str.{chars, IsUtf8, encode_utf8_all, all_scalars}
use Rattle.std.specs.Char.{encode_utf8}
use Rattle.std.proofs.lemmas.Int.{ints}
use Rattle.std.proofs.lemmas.Str.{chars-encodes, encodes-chars}
use Rattle.std.proofs.Math.Utf8.{low_scalar}
use Rattle.pg_term.specs.declared.term.Term.{Term, Tuple, List as Listed}
use Rattle.pg_term.specs.declared.term.Term.TheVariants.{Ref, Pid as Process, Binary}
use Rattle.pg_term_io.specs.Numbers.{int_of}
use Rattle.pg_term_io.specs.Reading.{term_of}
use Rattle.pg_term_io.specs.Spelling.{IsAtom, IsPid, IsOldRef, IsRef, Item, Items, Elements, Tail, Spells}
use Rattle.pg_term_io.specs.Spelling as s
use Rattle.pg_term_io.specs.Writing.{tagged_text, atom_bytes, tuple_head, list_head, item_bytes, all_bytes}
use Rattle.pg_term_io.specs.Writing.{tuple_bytes, list_bytes, written, IsWritable, IsSpelled, AreSpelled}
use Rattle.pg_term_io.proofs.Again.{term_again}
use Rattle.pg_term_io.proofs.Decoding.{one_term}
use Rattle.pg_term_io.proofs.Latin.{latin_short}
use Rattle.pg_term_io.proofs.Spelled.{text_spelled, number_spelled, name_spelled, pid_spelled, reference_spelled}
use Rattle.pg_term_io.proofs.Spelled.{binary_spelled, tuple_spelled, list_spelled, none_spelled, written_spelled}
use Rattle.pg_term_io.proofs.Written.{tuple_is, list_is, binary_is}

-- ---- atoms

scalars_below : (cs : List ℕ) → AllByRecursion (λ c. c < 256) cs → all_scalars cs ≡ true
scalars_below [] h = refl
scalars_below (c ∷ cs) h = rw (low_scalar c (omega (arith, h.0))) (scalars_below cs h.1)

latin_length : (cs : List ℕ) → AllByRecursion (λ c. c < 256) cs → length (encode_utf8_all cs) ≤ 2 * length cs
latin_length [] h = omega arith
latin_length (c ∷ cs) h = omega (arith, latin_short c h.0, latin_length cs h.1, length-append (encode_utf8 c) (encode_utf8_all cs))

text_again : (text : List ℕ) → IsUtf8 text → length text < 2 ^ 16 → length (chars text) ≤ 255 → IsAtom (chars text) (atom_bytes (chars text))
unfolding atom_bytes
text_again text utf8 few limit = subst (λ (x : List ℕ). IsAtom (chars text) (tagged_text x)) (sym (encodes-chars text utf8)) (text_spelled text utf8 few limit)

latin_again : (text : List ℕ) → length text ≤ 255 → AllByRecursion (λ c. c < 256) text → IsAtom text (atom_bytes text)
unfolding atom_bytes
latin_again text limit fit =
    let scalars = scalars_below text fit in
    let same = chars-encodes text scalars in
    let few : length (encode_utf8_all text) < 2 ^ 16 = omega (arith, latin_length text fit) in
    subst (λ (a : List ℕ). IsAtom a (tagged_text (encode_utf8_all text))) same
    (text_spelled (encode_utf8_all text) (text, (scalars, refl)) few (omega (arith, ap length same)))

atom_again : (a b : List ℕ) → IsAtom a b → IsAtom a (atom_bytes a)
atom_again _ _ (s.IsAtom.small text lt u le) = text_again text u (omega arith) le
atom_again _ _ (s.IsAtom.large text lt u le) = text_again text u lt le
atom_again _ _ (s.IsAtom.small_latin text le fit) = latin_again text le fit
atom_again _ _ (s.IsAtom.latin text le fit) = latin_again text le fit

-- ---- terms

-- what is written for the term spells it, unless it is too long
record IsRight (t : Term) : Type 0 where
  spelled : length (item_bytes t) ≤ 16777216 → IsSpelled t

abbrev AreRight : List Term → Type 0
AreRight ts = AllByRecursion IsRight ts

parts_again : (ts : List Term) → length (all_bytes ts) ≤ 16777216 → AreRight ts → AreSpelled ts
parts_again [] short h = none_spelled
parts_again (t ∷ ts) short h =
    let whole = length-append (item_bytes t) (all_bytes ts) in
    let first = h.0.spelled (omega (arith, whole)) in
    let others = parts_again ts (omega (arith, whole)) h.1 in
    record { items = λ room deep. s.Items.more room t ts (item_bytes t) (all_bytes ts) (first.item room (omega arith)) (others.items room (omega arith)) }

tuple_again : (ts : List Term) → AreRight ts → IsRight (Tuple ts)
tuple_again ts h = record { spelled = at }
  where
    at : length (item_bytes (Tuple ts)) ≤ 16777216 → IsSpelled (Tuple ts)
    at short =
        let few : length (tuple_bytes ts) ≤ 16777216 = omega (arith, ap length (tuple_is ts)) in
        tuple_spelled ts few (parts_again ts (omega (arith, length-append (tuple_head (length ts)) (all_bytes ts))) h)

list_again : (ts : List Term) → AreRight ts → IsRight (Listed ts)
list_again ts h = record { spelled = at }
  where
    at : length (item_bytes (Listed ts)) ≤ 16777216 → IsSpelled (Listed ts)
    at short =
        let few : length (list_bytes ts) ≤ 16777216 = omega (arith, ap length (list_is ts)) in
        list_spelled ts few (parts_again ts (omega (arith, length-append (list_head (length ts) ++ all_bytes ts) (106 ∷ []), length-append (list_head (length ts)) (all_bytes ts))) h)

word_fits : (n : ℕ) → n < 2 ^ 32 → FitsSigned w64 (cast_signed w32 n)
word_fits n h = omega (arith, ints)

byte_fits : (n : ℕ) → n < 256 → FitsSigned w64 (pos n)
byte_fits n h = omega (arith, ints)

bytes_right : (text : List ℕ) → AllByRecursion (λ b. b < 256) text → AreRight (map int_of text)
bytes_right [] h = tt
bytes_right (b ∷ text) h = (record { spelled = λ short. number_spelled (pos b) (byte_fits b h.0) }, bytes_right text h.1)

append_right : (ts us : List Term) → AreRight ts → AreRight us → AreRight (ts ++ us)
append_right [] us h k = k
append_right (t ∷ ts) us h k = (h.0, append_right ts us h.1 k)

pid_right : (w : Width) → 256 ^ byte_len w ≤ 2 ^ 32 → (p : _) (b : List ℕ) → IsPid w p b → IsSpelled (Process p)
pid_right _ narrow _ _ (s.IsPid.parts w p node a i sr cr) = pid_spelled p (atom_again p.node node a) i sr (omega (arith, cr, narrow))

old_reference_right : (r : _) (b : List ℕ) → IsOldRef r b → IsSpelled (Ref r)
old_reference_right _ _ (s.IsOldRef.parts node text word creation a w c) =
    reference_spelled (record { node = node; creation = creation; words = word ∷ [] }) (atom_again node text a) (omega arith) (omega arith) (w, tt) (omega (arith, c))

reference_right : (w : Width) → 256 ^ byte_len w ≤ 2 ^ 32 → (r : _) (b : List ℕ) → IsRef w r b → IsSpelled (Ref r)
reference_right _ narrow _ _ (s.IsRef.parts w r node some few words a c) = reference_spelled r (atom_again r.node node a) (omega (arith, some)) (omega (arith, few)) words (omega (arith, c, narrow))

binary_again : (content : List ℕ) → AllByRecursion (λ b. b < 256) content → IsRight (Binary content)
binary_again content fit = record { spelled = λ short. binary_spelled content (omega (arith, short, ap length (binary_is content))) fit }

mutual
  item_right : (room : ℕ) (t : Term) (b : List ℕ) → Item room t b → IsRight t
  item_right _ _ _ (s.Item.small_integer room n h) = record { spelled = λ _. number_spelled (pos n) (byte_fits n h) }
  item_right _ _ _ (s.Item.integer room n h) = record { spelled = λ _. number_spelled (cast_signed w32 n) (word_fits n h) }
  item_right _ _ _ (s.Item.small_big room sign digits one len fit fits) = record { spelled = λ _. number_spelled _ fits }
  item_right _ _ _ (s.Item.atom room a b h) = record { spelled = λ _. name_spelled a (atom_again a b h) }
  item_right _ _ _ (s.Item.pid room p b h) = record { spelled = λ _. pid_right w8 (omega arith) p b h }
  item_right _ _ _ (s.Item.new_pid room p b h) = record { spelled = λ _. pid_right w32 (omega arith) p b h }
  item_right _ _ _ (s.Item.old_reference room r b h) = record { spelled = λ _. old_reference_right r b h }
  item_right _ _ _ (s.Item.reference room r b h) = record { spelled = λ _. reference_right w8 (omega arith) r b h }
  item_right _ _ _ (s.Item.newer_reference room r b h) = record { spelled = λ _. reference_right w32 (omega arith) r b h }
  item_right _ _ _ (s.Item.binary room content lt fit) = binary_again content fit
  item_right _ _ _ (s.Item.small_tuple room ts b lt h) = tuple_again ts (items_right room ts b h)
  item_right _ _ _ (s.Item.large_tuple room ts b lt h) = tuple_again ts (items_right room ts b h)
  item_right _ _ _ (s.Item.list room ts b h) = list_again ts (elements_right room ts b h)

  items_right : (room : ℕ) (ts : List Term) (b : List ℕ) → Items room ts b → AreRight ts
  items_right _ _ _ (s.Items.none room) = tt
  items_right _ _ _ (s.Items.more room t ts a b h hs) = (item_right room t a h, items_right room ts b hs)

  elements_right : (room : ℕ) (ts : List Term) (b : List ℕ) → Elements room ts b → AreRight ts
  elements_right _ _ _ (s.Elements.nil room) = tt
  elements_right _ _ _ (s.Elements.string room text fit lt deep) = bytes_right text fit
  elements_right _ _ _ (s.Elements.cons room ts us b c lt h k) = append_right ts us (items_right room ts b h) (tail_right room us c k)

  tail_right : (room : ℕ) (ts : List Term) (b : List ℕ) → Tail room ts b → AreRight ts
  tail_right _ _ _ (s.Tail.tail room ts b h) = elements_right room ts b h

-- ---- whole terms

pub spelled_again : (t : Term) (b : List ℕ) → Spells t b → IsWritable t → Spells t (written t)
spelled_again _ _ (s.Spells.version t b h) w = written_spelled t ((item_right 64 t b h).spelled (omega (arith, w.short))) w.shallow

pub read_back : (t : Term) (b : List ℕ) → Spells t b → IsWritable t → term_of (written t) ≡ Ok t
read_back t b h w = term_again t (written t) (spelled_again t b h w)

pub apart : (t u : Term) (a b : List ℕ) → Spells t a → Spells u b → IsWritable t → IsWritable u → written t ≡ written u → t ≡ u
apart t u a b h k w v e = one_term (written u) t u (subst (Spells t) e (spelled_again t a h w)) (spelled_again u b k v)
