-- What writers append, one after the other.
use Rattle.std.proofs.Common.{◌≡◌, ℕ, ℤ, ◌+◌, ◌<◌, ◌≤◌, Bool, true, cond, List, [], ◌∷◌, ◌++◌, length}
use Rattle.std.proofs.Common.{length-append, get_or, map, take, refl, sym, ap, subst, ◌∙◌, append_assoc, arith}
use Rattle.std.specs.Prelude.{pos}
use Rattle.std.specs.Int.{w32, to_be_bytes}
use Rattle.std.specs.Str.{IsUtf8, chars}
use Rattle.std.proofs.lemmas.Bool.{lt-ltb}
use Rattle.std.proofs.Math.ListN.{length-map}
use Rattle.std.proofs.lemmas.List.{append-nil}
use Rattle.bytes.specs.Filled.{Filled}
use Rattle.pg_term.specs.declared.term.Term.{Term, Tuple, List as Listed}
use Rattle.pg_term.specs.declared.term.Term.TheVariants.{Int, Atom}
use Rattle.pg_message_types.specs.PgTermIo.Spelling as s
use Rattle.pg_message_types.specs.PgTermIo.Writing.{int_bytes, tuple_head, list_head, item_bytes, all_bytes, written, IsSpelled}
use Rattle.pg_message_types.proofs.PgTermIo.Spelled.{atom_spelled, name_spelled, tuple_spelled, list_spelled, none_spelled}
use Rattle.pg_message_types.proofs.PgTermIo.Latin.{latin_chars}
use Rattle.pg_message_types.proofs.PgTermIo.Written.{tuple_is, list_is, count_le}
use Rattle.pg_message_types.specs.Writing.{pair, is_plain}
use Rattle.pg_message_types.proofs.Words.{plain_text}
use Rattle.pg_message_writer.specs.Puts.{Puts, PutsAll, PutsOpening}
use Rattle.pg_message_writer.proofs.Listed.{part_bytes, part_len, part_spelled}
use Rattle.pg_message_writer.proofs.Words.{int_is, word_bytes}

-- these bytes, which are those of the term
pub leaf : (old new : Filled) (t : Term) (b : List ℕ) → item_bytes t ≡ b → new.items ≡ old.items ++ b → new.spare + length b ≡ old.spare → IsSpelled t → Puts old new t
leaf old new t b e items spare spelled = record {
  items = items ∙ ap (λ (x : List ℕ). old.items ++ x) (sym e);
  spare = ap (λ (x : List ℕ). new.spare + length x) e ∙ spare;
  spelled = spelled;
}

pub stamp_put : (old new : Filled) (z : ℤ) (n : ℕ) → z ≡ pos n → new.items ≡ old.items ++ int_bytes z → new.spare + length (int_bytes z) ≡ old.spare → IsSpelled (Int z) → Puts old new (Int (pos n))
stamp_put old new z n e items spare spelled = subst (λ (y : ℤ). Puts old new (Int y)) e (leaf old new (Int z) (int_bytes z) (int_is z) items spare spelled)

-- ---- one after the other

pub nothing : (out : Filled) → PutsAll out out []
nothing out = record { items = sym (append-nil out.items); spare = omega arith; spelled = none_spelled }

pub more : {a b c : Filled} {t : Term} {ts : List Term} → Puts a b t → PutsAll b c ts → PutsAll a c (t ∷ ts)
more {a} {b} {c} {t} {ts} one rest = record {
  items = rest.items ∙ ap (λ (x : List ℕ). x ++ all_bytes ts) one.items ∙ append_assoc a.items (item_bytes t) (all_bytes ts);
  spare = omega (arith, one.spare, rest.spare, length-append (item_bytes t) (all_bytes ts));
  spelled = record { items = λ room h. s.Items.more room t ts (item_bytes t) (all_bytes ts) (one.spelled.item room (omega arith)) (rest.spelled.items room (omega arith)) };
}

-- one element more of a list that is made from values
pub one_more : {A : Type 0} (f : A → Term) (xs : List A) (i : ℕ) (x : A) → i < length xs → x ≡ get_or xs i x → {a b c : Filled} → PutsAll a b (take i (map f xs)) → Puts b c (f x) → PutsAll a c (take (i + 1) (map f xs))
one_more f xs i x h is {a} {b} {c} before one =
    let done = all_bytes (take i (map f xs)) in
    let now = part_bytes f xs i x h is in
    record {
      items = one.items ∙ ap (λ (y : List ℕ). y ++ item_bytes (f x)) before.items ∙ append_assoc a.items done (item_bytes (f x)) ∙ ap (λ (y : List ℕ). a.items ++ y) (sym now);
      spare = omega (arith, one.spare, before.spare, part_len f xs i x h is);
      spelled = part_spelled f xs i x h is before.spelled one.spelled;
    }

-- ---- tuples and lists

pub tuple_put : (a b c : Filled) (ts : List Term) → length (item_bytes (Tuple ts)) ≤ 16777216 → b.items ≡ a.items ++ tuple_head (length ts) → b.spare + length (tuple_head (length ts)) ≡ a.spare → PutsAll b c ts → Puts a c (Tuple ts)
tuple_put a b c ts short head room rest =
    let h = tuple_head (length ts) in
    let e = tuple_is ts in
    record {
      items = rest.items ∙ ap (λ (x : List ℕ). x ++ all_bytes ts) head ∙ append_assoc a.items h (all_bytes ts) ∙ ap (λ (x : List ℕ). a.items ++ x) (sym e);
      spare = omega (arith, rest.spare, room, ap length e, length-append h (all_bytes ts));
      spelled = tuple_spelled ts (omega (arith, ap length e, short)) rest.spelled;
    }

pub list_put : (a b c d : Filled) (ts : List Term) → length (item_bytes (Listed ts)) ≤ 16777216 → b.items ≡ a.items ++ list_head (length ts) → b.spare + length (list_head (length ts)) ≡ a.spare → PutsAll b c ts
    → d.items ≡ c.items ++ 106 ∷ [] → d.spare + 1 ≡ c.spare → Puts a d (Listed ts)
list_put a b c d ts short head room rest end last =
    let h = list_head (length ts) in
    let e = list_is ts in
    record {
      items = end ∙ ap (λ (x : List ℕ). x ++ 106 ∷ []) (rest.items ∙ ap (λ (x : List ℕ). x ++ all_bytes ts) head) ∙ regrouped a.items h (all_bytes ts) ∙ ap (λ (x : List ℕ). a.items ++ x) (sym e);
      spare = omega (arith, rest.spare, room, last, ap length e, length-append (h ++ all_bytes ts) (106 ∷ []), length-append h (all_bytes ts));
      spelled = list_spelled ts (omega (arith, ap length e, short)) rest.spelled;
    }
  where
    regrouped : (x y z : List ℕ) → ((x ++ y) ++ z) ++ 106 ∷ [] ≡ x ++ ((y ++ z) ++ 106 ∷ [])
    regrouped x y z = simp append_assoc

-- how many elements there may be
pub count_few : (ts : List Term) → length (item_bytes (Listed ts)) ≤ 16777216 → length ts < 16777216
count_few ts short =
    let h = list_head (length ts) in
    omega (arith, count_le ts, ap length (list_is ts), length-append (h ++ all_bytes ts) (106 ∷ []), length-append h (all_bytes ts))

-- a list that is made from values
pub made_put : {A : Type 0} (f : A → Term) (xs : List A) (a b c d : Filled) → length (item_bytes (Listed (map f xs))) ≤ 16777216 → b.items ≡ a.items ++ list_head (length xs) → b.spare + length (list_head (length xs)) ≡ a.spare → PutsAll b c (map f xs)
    → d.items ≡ c.items ++ 106 ∷ [] → d.spare + 1 ≡ c.spare → Puts a d (Listed (map f xs))
made_put f xs a b c d short head room rest end last =
    let n = sym (length-map xs f) in
    list_put a b c d (map f xs) short (head ∙ ap (λ (m : ℕ). a.items ++ list_head m) n) (ap (λ (m : ℕ). b.spare + length (list_head m)) (sym n) ∙ room) rest end last

-- a word: its length in one byte, and the text
pub word_put : (old mid new : Filled) (w x : List ℕ) → is_plain w ≡ true → length w ≤ 255 → IsUtf8 w → ((i : ℕ) → get_or w i 0 < 256) → x ≡ w
    → mid.items ≡ old.items ++ 119 ∷ length w ∷ [] → mid.spare + 2 ≡ old.spare → new.items ≡ mid.items ++ x → new.spare + length x ≡ mid.spare → Puts old new (Atom w)
word_put old mid new w x plain few utf8 fits same head room text rest =
    let e = plain_text w plain in
    let characters : chars w ≡ w = ap chars (sym e) ∙ latin_chars w fits in
    leaf old new (Atom w) (119 ∷ length w ∷ w) (word_bytes w plain few)
    (text ∙ (λ i. head i ++ same i) ∙ append_assoc old.items (119 ∷ length w ∷ []) w)
    (omega (arith, ap length same))
    (name_spelled w (atom_spelled w w utf8 (omega arith) few characters (sym e)))

-- ---- tuples whose first element is a word

-- the head of a tuple and a word, as four bytes and the text
pub opening_put : (old mid new : Filled) (n : ℕ) (w x : List ℕ) → is_plain w ≡ true → length w ≤ 255 → IsUtf8 w → ((i : ℕ) → get_or w i 0 < 256) → x ≡ w
    → mid.items ≡ old.items ++ 104 ∷ n ∷ 119 ∷ length w ∷ [] → mid.spare + 4 ≡ old.spare → new.items ≡ mid.items ++ x → new.spare + length x ≡ mid.spare → PutsOpening old new n w
opening_put old mid new n w x plain few utf8 fits same head room text rest =
    let headed : Filled = record { items = old.items ++ 104 ∷ n ∷ []; spare = mid.spare + 2 } in
    record {
      mid = headed;
      head = refl;
      head_spare = omega (arith, room);
      word_first = word_put headed mid new w x plain few utf8 fits same (head ∙ sym (append_assoc old.items (104 ∷ n ∷ []) (119 ∷ length w ∷ []))) refl text rest;
    }

pub opened_put : (a b c : Filled) (w : List ℕ) (ts : List Term) → length (item_bytes (Tuple (Atom w ∷ ts))) ≤ 16777216 → length ts < 255 → PutsOpening a b (length (Atom w ∷ ts)) w → PutsAll b c ts → Puts a c (Tuple (Atom w ∷ ts))
opened_put a b c w ts short few o rest =
    let n = length (Atom w ∷ ts) in
    let head : tuple_head n ≡ 104 ∷ n ∷ [] = ap (λ (d : Bool). cond d (104 ∷ n ∷ []) (105 ∷ to_be_bytes w32 n)) (lt-ltb n 256 (omega arith)) in
    tuple_put a o.mid c (Atom w ∷ ts) short (o.head ∙ ap (λ (x : List ℕ). a.items ++ x) (sym head)) (ap (λ (x : List ℕ). o.mid.spare + length x) head ∙ o.head_spare) (more o.word_first rest)

-- ---- bodies

-- the version byte and a pair, whose head is appended with it
pub record PutsBody (old new : Filled) (t : Term) : Type 0 where
  pub items : new.items ≡ old.items ++ written t
  pub spare : new.spare + length (written t) ≡ old.spare
  pub spelled : IsSpelled t

pub body_put : (a b c : Filled) (s t : Term) → length (item_bytes (pair s t)) ≤ 16777216 → b.items ≡ a.items ++ 131 ∷ 104 ∷ 2 ∷ [] → b.spare + 3 ≡ a.spare → PutsAll b c (s ∷ t ∷ []) → PutsBody a c (pair s t)
body_put a b c s t short head room rest =
    let headed : Filled = record { items = a.items ++ 131 ∷ []; spare = b.spare + 2 } in
    let put = tuple_put headed b c (s ∷ t ∷ []) short (head ∙ sym (append_assoc a.items (131 ∷ []) (104 ∷ 2 ∷ []))) refl rest in
    record {
      items = put.items ∙ append_assoc a.items (131 ∷ []) (item_bytes (pair s t));
      spare = omega (arith, put.spare, room);
      spelled = put.spelled;
    }
