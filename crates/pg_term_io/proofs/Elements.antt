-- What the readers of tuples and lists answer, where those of one level below are right.
use Rattle.std.proofs.Common.{◌≡◌, ℕ, zero, suc, ◌<◌, ◌^◌, Bool, true, false, cond, ltb, eqb, ◌&&◌, ◌⊎◌, inl}
use Rattle.std.proofs.Common.{inr, List, [], ◌∷◌, ◌++◌, length, map, Ok, Err, refl, sym, ap, subst, ◌∙◌, arith}
use Rattle.std.specs.Int.{w16, w32, to_be_bytes}
use Rattle.std.proofs.lemmas.Bool.{lt-ltb, eq-eqb, ltb-true, eqb-true}
use Rattle.std.proofs.lemmas.List.{append-nil}
use Rattle.pg_term.specs.declared.fault.TermFault.{TermFault}
use Rattle.pg_term.specs.declared.fault.TermFault.TheVariants.{TooDeep}
use Rattle.pg_term.specs.declared.term.Term.{Term, Tuple}
use Rattle.pg_term_io.specs.Numbers.{int_of}
use Rattle.pg_term_io.specs.declared.tag.ListTag.{ListTag}
use Rattle.pg_term_io.specs.declared.tag.ListTag.TheVariants.{Nil, String, List as Cons}
use Rattle.pg_term_io.specs.declared.tag.Tag.TheVariants.{List as Listing}
use Rattle.pg_term_io.specs.Reading.{Read, ◌>>=◌, byte_at, number_at, bytes_at, items_at, item_at}
use Rattle.pg_term_io.specs.Reading.{tail_at, readers, list_at, string_at, elements_behind}
use Rattle.pg_term_io.specs.Spelling.{Item, Items, Elements, Tail}
use Rattle.pg_term_io.specs.Spelling as s
use Rattle.pg_term_io.specs.Faults.{BreaksItem, BreaksItems, BreaksElements, BreaksTail}
use Rattle.pg_term_io.specs.Faults as f
use Rattle.pg_term_io.proofs.Outcomes.{EachByte, Right, Cut, IsByte, IsHalf, IsWord, IsText, right_if}
use Rattle.pg_term_io.proofs.Outcomes.{right_then, right_map, byte_right, half_right, word_right, text_right}
use Rattle.pg_term_io.proofs.Atoms.{all_fit}
use Rattle.pg_term_io.proofs.Bigs.{no_byte}
use Rattle.pg_term_io.proofs.Tags.{byte_of}

abbrev pub ItemRight : ℕ → Type 0
ItemRight room = (bytes : List ℕ) → EachByte bytes → Right (Item room) (BreaksItem room) bytes (item_at room bytes)

abbrev pub TailRight : ℕ → Type 0
TailRight room = (bytes : List ℕ) → EachByte bytes → Right (Tail room) (BreaksTail room) bytes (tail_at room bytes)

abbrev pub IsRow : ℕ → ℕ → List Term → List ℕ → Type 0
IsRow room n ts b = (length ts ≡ n) × Items room ts b

-- items behind the first
abbrev Others : ℕ → ℕ → Term → List Term → List ℕ → Type 0
Others room n t ts b = (others : List Term) × (ts ≡ t ∷ others) × IsRow room n others b

pub items_right : (room : ℕ) → ItemRight room → (n : ℕ) (bytes : List ℕ) → EachByte bytes → Right (IsRow room n) (BreaksItems room n) bytes (items_at (item_at room) n bytes)
unfolding items_at
items_right room each zero bytes fits = record { text = []; parts = refl; is = (refl, s.Items.none room); fits = fits }
items_right room each (suc n) bytes fits =
    right_then (Item room) (BreaksItem room) (Others room n) (λ t. BreaksItems room n) (IsRow room (suc n)) (BreaksItems room (suc n)) bytes (item_at room bytes)
    (λ first. items_at (item_at room) n first.1 >>= λ others. Ok (first.0 ∷ others.0, others.1))
    (each bytes fits)
    (λ t rest fit. right_map (IsRow room n) (BreaksItems room n) (Others room n t) (BreaksItems room n) rest (λ (ts : List Term). t ∷ ts) (items_at (item_at room) n rest) (items_right room each n rest fit) (λ ts x h. (ts, refl, h)) (λ e h. h))
    (λ t ts x y h k. subst (λ (z : List Term). IsRow room (suc n) z (x ++ y)) (sym k.1) (ap suc k.2.0, s.Items.more room t k.0 x y h k.2.1))
    (λ t e x y h k. f.BreaksItems.later room n e t x y h k)
    (λ e h. f.BreaksItems.here room n e bytes h)

-- ---- tuples

abbrev pub SmallTuple : ℕ → List Term → List ℕ → Type 0
SmallTuple room ts b = Item (suc room) (Tuple ts) (104 ∷ b)

abbrev pub NoSmallTuple : ℕ → TermFault → List ℕ → Type 0
NoSmallTuple room e b = BreaksItem (suc room) e (104 ∷ b)

pub small_tuple_right : (room : ℕ) → ItemRight room → (bytes : List ℕ) → EachByte bytes → Right (SmallTuple room) (NoSmallTuple room) bytes (byte_at bytes >>= λ n. items_at (item_at room) n.0 n.1)
small_tuple_right room each bytes fits =
    right_then IsByte (Cut 1) (IsRow room) (BreaksItems room) (SmallTuple room) (NoSmallTuple room) bytes (byte_at bytes) (λ n. items_at (item_at room) n.0 n.1)
    (byte_right bytes fits) (λ n rest fit. items_right room each n rest fit)
    (λ n ts x y h k. subst (λ (z : List ℕ). SmallTuple room ts (z ++ y)) (ap (λ (m : ℕ). m ∷ []) k.0 ∙ sym h.1) (s.Item.small_tuple room ts y (omega (arith, h.0, k.0)) k.1))
    (λ n e x y h k. subst (λ (z : List ℕ). NoSmallTuple room e (z ++ y)) (sym h.1) (f.BreaksItem.small_tuple room n e y k))
    (λ e h. subst (λ (w : TermFault × List ℕ). NoSmallTuple room w.0 w.1) (λ i. (sym h.0 i, no_byte bytes h.1 i)) (f.BreaksItem.small_arity_cut room))

abbrev pub LargeTuple : ℕ → List Term → List ℕ → Type 0
LargeTuple room ts b = Item (suc room) (Tuple ts) (105 ∷ b)

abbrev pub NoLargeTuple : ℕ → TermFault → List ℕ → Type 0
NoLargeTuple room e b = BreaksItem (suc room) e (105 ∷ b)

pub large_tuple_right : (room : ℕ) → ItemRight room → (bytes : List ℕ) → EachByte bytes → Right (LargeTuple room) (NoLargeTuple room) bytes (number_at w32 bytes >>= λ n. items_at (item_at room) n.0 n.1)
large_tuple_right room each bytes fits =
    right_then IsWord (Cut 4) (IsRow room) (BreaksItems room) (LargeTuple room) (NoLargeTuple room) bytes (number_at w32 bytes) (λ n. items_at (item_at room) n.0 n.1)
    (word_right bytes fits) (λ n rest fit. items_right room each n rest fit)
    (λ n ts x y h k. subst (λ (z : List ℕ). LargeTuple room ts (z ++ y)) (ap (to_be_bytes w32) k.0 ∙ sym h.1) (s.Item.large_tuple room ts y (omega (arith, h.0, k.0)) k.1))
    (λ n e x y h k. subst (λ (z : List ℕ). NoLargeTuple room e (z ++ y)) (sym h.1) (f.BreaksItem.large_tuple room n e y h.0 k))
    (λ e h. subst (λ (d : TermFault). NoLargeTuple room d bytes) (sym h.0) (f.BreaksItem.arity_cut room bytes h.1))

-- ---- strings

abbrev pub ListBehind : ℕ → ℕ → List Term → List ℕ → Type 0
ListBehind room tag ts b = Elements room ts (tag ∷ b)

abbrev pub NoListBehind : ℕ → ℕ → TermFault → List ℕ → Type 0
NoListBehind room tag e b = BreaksElements room e (tag ∷ b)

abbrev is_deep : ℕ → ℕ → Bool
is_deep room n = eqb room 0 && ltb 0 n

shallow : (room n : ℕ) (text : List ℕ) → length text ≡ n → is_deep room n ≡ false → room ≡ 0 → text ≡ []
shallow room n [] len e z = refl
shallow room n (b ∷ text) len e z = let t : is_deep room n ≡ true = rw (eq-eqb room 0 z, lt-ltb 0 n (omega (arith, len))) refl in absurd cc

both_true : (a b : Bool) → (a && b) ≡ true → (a ≡ true) × (b ≡ true)
both_true true b h = (refl, h)
both_true false b h = absurd cc

deep : (room n : ℕ) → is_deep room n ≡ true → (room ≡ 0) × (0 < n)
deep room n h = let k = both_true (eqb room 0) (ltb 0 n) h in (eqb-true room 0 k.0, ltb-true 0 n k.1)

abbrev IsString : ℕ → ℕ → List Term → List ℕ → Type 0
IsString room n ts b = (length b ≡ n) × EachByte b × (ts ≡ map int_of b) × (is_deep room n ≡ false)

record DeepString (room n : ℕ) (e : TermFault) (b : List ℕ) : Type 0 where
  text : List ℕ
  rest : List ℕ
  whole : b ≡ text ++ rest
  size : length text ≡ n
  is : e ≡ TooDeep
  deep : is_deep room n ≡ true

abbrev NoString : ℕ → ℕ → TermFault → List ℕ → Type 0
NoString room n e b = Cut n e b ⊎ DeepString room n e b

abbrev terms_after : ℕ → ℕ → List ℕ × List ℕ → Read (List Term)
terms_after room n text = cond (is_deep room n) (Err TooDeep) (Ok (map int_of text.0, text.1))

text_of_right : (room n : ℕ) (bytes : List ℕ) → EachByte bytes → Right (IsString room n) (NoString room n) bytes (bytes_at n bytes >>= terms_after room n)
text_of_right room n bytes fits =
    let P : List ℕ → List Term → List ℕ → Type 0 = λ text ts y. (y ≡ []) × (ts ≡ map int_of text) × (is_deep room n ≡ false) in
    let Q : List ℕ → TermFault → List ℕ → Type 0 = λ text e y. (e ≡ TooDeep) × (is_deep room n ≡ true) in
    right_then (IsText n) (Cut n) P Q (IsString room n) (NoString room n) bytes (bytes_at n bytes) (terms_after room n)
    (text_right n bytes fits)
    (λ text rest fit. right_if (P text) (Q text) rest (is_deep room n) (Err TooDeep) (Ok (map int_of text, rest)) (λ h. (refl, h)) (λ h. record { text = []; parts = refl; is = (refl, refl, h); fits = fit }))
    (λ text ts x y h k.
    let same : text ≡ x ++ y = sym (ap (λ (t : List ℕ). x ++ t) k.0 ∙ append-nil x ∙ h.1) in
    subst (λ (t : List ℕ). IsString room n ts t) same (h.0, h.2, k.1, k.2))
    (λ text e x y h k. inr (record { text = text; rest = y; whole = ap (λ (t : List ℕ). t ++ y) h.1; size = h.0; is = k.0; deep = k.1 }))
    (λ e h. inl h)

spelled_string : (room n : ℕ) (ts : List Term) (y : List ℕ) → n < 2 ^ 16 → IsString room n ts y → ListBehind room 107 ts (to_be_bytes w16 n ++ y)
spelled_string room n ts y lt k =
    subst (λ (z : ℕ × List Term). ListBehind room 107 z.1 (to_be_bytes w16 z.0 ++ y)) (λ i. (k.0 i, sym k.2 i)) (s.Elements.string room y (all_fit y k.1) (omega (arith, lt, k.0)) (shallow room n y k.0 k.3))

broken_string : (room n : ℕ) (e : TermFault) (y : List ℕ) → n < 2 ^ 16 → NoString room n e y → NoListBehind room 107 e (to_be_bytes w16 n ++ y)
broken_string room n e y lt (inl c) = subst (λ (d : TermFault). NoListBehind room 107 d (to_be_bytes w16 n ++ y)) (sym c.0) (f.BreaksElements.string_cut room n y lt c.1)
broken_string room n e y lt (inr d) =
    let k = deep room n d.deep in
    subst (λ (z : ℕ × TermFault × ℕ × List ℕ). NoListBehind z.0 107 z.1 (to_be_bytes w16 z.2 ++ z.3)) (λ i. (sym k.0 i, sym d.is i, d.size i, sym d.whole i))
    (f.BreaksElements.string_too_deep d.text d.rest (omega (arith, lt, d.size)) (omega (arith, k.1, d.size)))

string_right : (room : ℕ) (bytes : List ℕ) → EachByte bytes → Right (ListBehind room 107) (NoListBehind room 107) bytes (string_at room bytes)
unfolding string_at
string_right room bytes fits =
    right_then IsHalf (Cut 2) (IsString room) (NoString room) (ListBehind room 107) (NoListBehind room 107) bytes (number_at w16 bytes) (λ n. bytes_at n.0 n.1 >>= terms_after room n.0)
    (half_right bytes fits) (λ n rest fit. text_of_right room n rest fit)
    (λ n ts x y h k. subst (λ (z : List ℕ). ListBehind room 107 ts (z ++ y)) (sym h.1) (spelled_string room n ts y h.0 k))
    (λ n e x y h k. subst (λ (z : List ℕ). NoListBehind room 107 e (z ++ y)) (sym h.1) (broken_string room n e y h.0 k))
    (λ e h. subst (λ (d : TermFault). NoListBehind room 107 d bytes) (sym h.0) (f.BreaksElements.string_length_cut room bytes h.1))

-- ---- lists

-- a tail behind these elements
abbrev Tailed : ℕ → List Term → List Term → List ℕ → Type 0
Tailed room ts all b = (us : List Term) × (all ≡ ts ++ us) × Tail room us b

record IsList (room n : ℕ) (all : List Term) (b : List ℕ) : Type 0 where
  ts : List Term
  us : List Term
  text : List ℕ
  rest : List ℕ
  size : length ts ≡ n
  items : Items room ts text
  tail : Tail room us rest
  value : all ≡ ts ++ us
  whole : b ≡ text ++ rest

record NoTail (room n : ℕ) (e : TermFault) (b : List ℕ) : Type 0 where
  ts : List Term
  text : List ℕ
  rest : List ℕ
  size : length ts ≡ n
  items : Items room ts text
  tail : BreaksTail room e rest
  whole : b ≡ text ++ rest

abbrev NoList : ℕ → ℕ → TermFault → List ℕ → Type 0
NoList room n e b = BreaksItems room n e b ⊎ NoTail room n e b

abbrev tail_after : ℕ → List Term × List ℕ → Read (List Term)
tail_after room items = tail_at room items.1 >>= λ tail. Ok (items.0 ++ tail.0, tail.1)

row_and_tail_right : (room : ℕ) → ItemRight room → TailRight room → (n : ℕ) (bytes : List ℕ) → EachByte bytes → Right (IsList room n) (NoList room n) bytes (items_at (item_at room) n bytes >>= tail_after room)
row_and_tail_right room each ends n bytes fits =
    right_then (IsRow room n) (BreaksItems room n) (Tailed room) (λ ts. BreaksTail room) (IsList room n) (NoList room n) bytes (items_at (item_at room) n bytes) (tail_after room)
    (items_right room each n bytes fits)
    (λ ts rest fit. right_map (Tail room) (BreaksTail room) (Tailed room ts) (BreaksTail room) rest (λ (us : List Term). ts ++ us) (tail_at room rest) (ends rest fit) (λ us x h. (us, refl, h)) (λ e h. h))
    (λ ts all x y h k. record { ts = ts; us = k.0; text = x; rest = y; size = h.0; items = h.1; tail = k.2; value = k.1; whole = refl })
    (λ ts e x y h k. inr (record { ts = ts; text = x; rest = y; size = h.0; items = h.1; tail = k; whole = refl }))
    (λ e h. inl h)

spelled_list : (room n : ℕ) (all : List Term) (y : List ℕ) → n < 2 ^ 32 → IsList room n all y → ListBehind room 108 all (to_be_bytes w32 n ++ y)
spelled_list room n all y lt k =
    subst (λ (z : ℕ × List Term × List ℕ). ListBehind room 108 z.1 (to_be_bytes w32 z.0 ++ z.2)) (λ i. (k.size i, sym k.value i, sym k.whole i)) (s.Elements.cons room k.ts k.us k.text k.rest (omega (arith, lt, k.size)) k.items k.tail)

broken_list : (room n : ℕ) (e : TermFault) (y : List ℕ) → n < 2 ^ 32 → NoList room n e y → NoListBehind room 108 e (to_be_bytes w32 n ++ y)
broken_list room n e y lt (inl h) = f.BreaksElements.element room n e y lt h
broken_list room n e y lt (inr k) =
    subst (λ (z : ℕ × List ℕ). NoListBehind room 108 e (to_be_bytes w32 z.0 ++ z.1)) (λ i. (k.size i, sym k.whole i)) (f.BreaksElements.tail room e k.ts k.text k.rest (omega (arith, lt, k.size)) k.items k.tail)

list_right : (room : ℕ) → ItemRight room → TailRight room → (bytes : List ℕ) → EachByte bytes → Right (ListBehind room 108) (NoListBehind room 108) bytes (list_at (readers room) bytes)
unfolding list_at
list_right room each ends bytes fits =
    right_then IsWord (Cut 4) (IsList room) (NoList room) (ListBehind room 108) (NoListBehind room 108) bytes (number_at w32 bytes) (λ n. items_at (item_at room) n.0 n.1 >>= tail_after room)
    (word_right bytes fits) (λ n rest fit. row_and_tail_right room each ends n rest fit)
    (λ n ts x y h k. subst (λ (z : List ℕ). ListBehind room 108 ts (z ++ y)) (sym h.1) (spelled_list room n ts y h.0 k))
    (λ n e x y h k. subst (λ (z : List ℕ). NoListBehind room 108 e (z ++ y)) (sym h.1) (broken_list room n e y h.0 k))
    (λ e h. subst (λ (d : TermFault). NoListBehind room 108 d bytes) (sym h.0) (f.BreaksElements.length_cut room bytes h.1))

pub elements_right : (room : ℕ) → ItemRight room → TailRight room → (form : ListTag) (bytes : List ℕ) → EachByte bytes → Right (ListBehind room (byte_of (Listing form))) (NoListBehind room (byte_of (Listing form))) bytes (elements_behind room (readers room) form bytes)
unfolding elements_behind
elements_right room each ends Nil bytes fits = record { text = []; parts = refl; is = s.Elements.nil room; fits = fits }
elements_right room each ends String bytes fits = string_right room bytes fits
elements_right room each ends Cons bytes fits = list_right room each ends bytes fits
