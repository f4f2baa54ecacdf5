-- The fault that bytes have is the one that reading tells.
use Rattle.std.proofs.Common.{◌≡◌, ℕ, zero, suc, ◌+◌, ◌<◌, ◌^◌, Bool, true, false, cond, ltb}
use Rattle.std.proofs.Common.{eqb, ◌&&◌, ℤ, FitsSigned, List, [], ◌∷◌, ◌++◌, length, map}
use Rattle.std.proofs.Common.{Option, Some, None, Result, Ok, Err, refl, sym, ap, ◌∙◌, arith}
use Rattle.std.specs.Int.{w8, w16, w32, w64, to_be_bytes, cast_signed}
use Rattle.std.proofs.lemmas.Bool.{lt-ltb, ne_eqb}
use Rattle.pg_term.specs.declared.fault.TermFault.{TermFault}
use Rattle.pg_term.specs.declared.fault.TermFault.TheVariants.{Truncated, UnknownTag, TooDeep, IntegerTooLarge}
use Rattle.pg_term.specs.declared.term.Term.{Term, Tuple, List as Listed}
use Rattle.pg_term.specs.declared.term.Term.TheVariants.{Int, Ref, Pid as Process, Binary}
use Rattle.pg_term_io.specs.Numbers.{int_of, big_value}
use Rattle.pg_term_io.specs.declared.tag.Tag.{Tag}
use Rattle.pg_term_io.specs.Tags.{tag_of, is_some_tag}
use Rattle.pg_term_io.specs.Reading.{Read, ◌>>=◌, number_at, bytes_at, is_i64, i64_of, big_at}
use Rattle.pg_term_io.specs.Reading.{binary_at, items_at, as_term, string_at, list_at, elements_behind}
use Rattle.pg_term_io.specs.Reading.{item_behind, leaf_behind, readers, item_at, tail_at, term_of}
use Rattle.pg_term_io.specs.Spelling.{Items}
use Rattle.pg_term_io.specs.Faults.{BreaksItem, BreaksItems, BreaksElements, BreaksTail, Breaks}
use Rattle.pg_term_io.specs.Faults as f
use Rattle.pg_term_io.proofs.Again.{bytes_again, word_again, item_again, items_again}
use Rattle.pg_term_io.proofs.Bigs.{is_i64-fits}
use Rattle.pg_term_io.proofs.Cuts.{number_cut, bytes_cut, behind_half, half_missing}
use Rattle.pg_term_io.proofs.Cuts.{atom_fails, pid_fails, old_ref_fails, ref_fails}
use Rattle.pg_term_io.proofs.Tags.{no_list}

-- ---- integers

big_missing : big_at [] ≡ Err Truncated
unfolding big_at
big_missing = refl

big_cut_fails : (n : ℕ) (b : List ℕ) → length b < 1 + n → big_at (n ∷ b) ≡ Err Truncated
unfolding big_at
big_cut_fails n [] h = refl
big_cut_fails n (sign ∷ b) h = rw (bytes_cut n b (omega (arith, h))) refl

too_large_by : (b : Bool) (z : ℤ) → b ≡ is_i64 z → (FitsSigned w64 z → ⊥) → i64_of z ≡ Err IntegerTooLarge
too_large_by true z is large = absurd (large (is_i64-fits z (sym is)))
too_large_by false z is large = rw (← is) refl

too_large_fails : (sign : ℕ) (digits rest : List ℕ) → (FitsSigned w64 (big_value sign digits) → ⊥) → big_at (length digits ∷ sign ∷ (digits ++ rest)) ≡ Err IntegerTooLarge
unfolding big_at
too_large_fails sign digits rest large =
    rw (bytes_again digits rest) (ap (λ (r : Result ℤ TermFault). r >>= λ value. Ok (value, rest)) (too_large_by (is_i64 (big_value sign digits)) (big_value sign digits) refl large))

-- ---- behind a number

behind_word : {B : Type 0} (n : ℕ) (b : List ℕ) (next : ℕ × List ℕ → Read B) → n < 2 ^ 32 → (number_at w32 (to_be_bytes w32 n ++ b) >>= next) ≡ next (n, b)
behind_word n b next h = ap (λ (r : Read ℕ). r >>= next) (word_again n b h)

word_missing : {B : Type 0} (b : List ℕ) (next : ℕ × List ℕ → Read B) → length b < 4 → (number_at w32 b >>= next) ≡ Err Truncated
word_missing b next h = ap (λ (r : Read ℕ). r >>= next) (number_cut w32 b h)

-- ---- binaries

binary_missing : (b : List ℕ) → length b < 4 → binary_at b ≡ Err Truncated
unfolding binary_at
binary_missing b h = word_missing b (λ n. bytes_at n.0 n.1) h

binary_cut_fails : (n : ℕ) (b : List ℕ) → n < 2 ^ 32 → length b < n → binary_at (to_be_bytes w32 n ++ b) ≡ Err Truncated
unfolding binary_at
binary_cut_fails n b lt short = behind_word n b (λ n. bytes_at n.0 n.1) lt ∙ bytes_cut n b short

-- ---- strings

abbrev string_after : ℕ → ℕ × List ℕ → Read (List Term)
string_after room n = bytes_at n.0 n.1 >>= λ text. cond (eqb room 0 && ltb 0 n.0) (Err TooDeep) (Ok (map int_of text.0, text.1))

string_missing : (room : ℕ) (b : List ℕ) → length b < 2 → string_at room b ≡ Err Truncated
unfolding string_at
string_missing room b h = half_missing b (string_after room) h

string_cut_fails : (room n : ℕ) (b : List ℕ) → n < 2 ^ 16 → length b < n → string_at room (to_be_bytes w16 n ++ b) ≡ Err Truncated
unfolding string_at
string_cut_fails room n b lt short = behind_half n b (string_after room) lt ∙ rw (bytes_cut n b short) refl

deep_string_fails : (text rest : List ℕ) → length text < 2 ^ 16 → 0 < length text → string_at zero (to_be_bytes w16 (length text) ++ (text ++ rest)) ≡ Err TooDeep
unfolding string_at
deep_string_fails text rest lt some = behind_half (length text) (text ++ rest) (string_after zero) lt ∙ rw (bytes_again text rest, lt-ltb 0 (length text) some) refl

-- ---- lists

abbrev tail_after : ℕ → List Term × List ℕ → Read (List Term)
tail_after room items = tail_at room items.1 >>= λ tail. Ok (items.0 ++ tail.0, tail.1)

abbrev list_after : ℕ → ℕ × List ℕ → Read (List Term)
list_after room n = items_at (item_at room) n.0 n.1 >>= tail_after room

list_missing : (room : ℕ) (b : List ℕ) → length b < 4 → list_at (readers room) b ≡ Err Truncated
unfolding list_at
list_missing room b h = word_missing b (list_after room) h

element_fails : (room n : ℕ) (e : TermFault) (b : List ℕ) → n < 2 ^ 32 → items_at (item_at room) n b ≡ Err e → list_at (readers room) (to_be_bytes w32 n ++ b) ≡ Err e
unfolding list_at
element_fails room n e b lt h = behind_word n b (list_after room) lt ∙ ap (λ (r : Read (List Term)). r >>= tail_after room) h

tail_of_list_fails : (room : ℕ) (e : TermFault) (ts : List Term) (a b : List ℕ) → length ts < 2 ^ 32 → Items room ts a → tail_at room b ≡ Err e → list_at (readers room) (to_be_bytes w32 (length ts) ++ (a ++ b)) ≡ Err e
unfolding list_at
tail_of_list_fails room e ts a b lt items h =
    behind_word (length ts) (a ++ b) (list_after room) lt
    ∙ ap (λ (r : Read (List Term)). r >>= tail_after room) (items_again room ts a b items)
    ∙ ap (λ (r : Read (List Term)). r >>= λ tail. Ok (ts ++ tail.0, tail.1)) h

-- a list behind its tag, as a tail and as an item
record ListFails (room : ℕ) (e : TermFault) (b : List ℕ) : Type 0 where
  tail : tail_at (suc room) b ≡ Err e
  item : item_at (suc room) b ≡ Err e

string_fails : (room : ℕ) (e : TermFault) (b : List ℕ) → string_at room b ≡ Err e → ListFails room e (107 ∷ b)
unfolding readers item_behind elements_behind
string_fails room e b h = record { tail = h; item = ap (as_term Listed) h }

list_fails : (room : ℕ) (e : TermFault) (b : List ℕ) → list_at (readers room) b ≡ Err e → ListFails room e (108 ∷ b)
unfolding readers item_behind elements_behind
list_fails room e b h = record { tail = h; item = ap (as_term Listed) h }

-- ---- tags

unknown_fails : (room : ℕ) (found : Option Tag) (b : List ℕ) → is_some_tag found ≡ false → item_behind room (readers room) found b ≡ Err UnknownTag
unfolding item_behind
unknown_fails room None b other = refl
unknown_fails room (Some form) b other = absurd cc

-- ---- items

mutual
  unfolding readers items_at item_behind leaf_behind

  item_fails : (room : ℕ) (e : TermFault) (b : List ℕ) → BreaksItem room e b → item_at room b ≡ Err e
  item_fails _ _ _ (f.BreaksItem.missing_item zero) = refl
  item_fails _ _ _ (f.BreaksItem.missing_item (suc room)) = refl
  item_fails _ _ _ (f.BreaksItem.deep_item tag b) = refl
  item_fails _ _ _ (f.BreaksItem.unknown_tag room tag b other) = unknown_fails room (tag_of tag) b other
  item_fails _ _ _ (f.BreaksItem.small_integer_cut room) = refl
  item_fails _ _ _ (f.BreaksItem.integer_cut room b short) = ap (as_term (λ n. Int (cast_signed w32 n))) (number_cut w32 b short)
  item_fails _ _ _ (f.BreaksItem.big_length_cut room) = ap (as_term Int) big_missing
  item_fails _ _ _ (f.BreaksItem.big_cut room n b short) = ap (as_term Int) (big_cut_fails n b short)
  item_fails _ _ _ (f.BreaksItem.too_large room sign digits rest large) = ap (as_term Int) (too_large_fails sign digits rest large)
  item_fails _ _ _ (f.BreaksItem.atom room e b h) = (atom_fails e b h).item room
  item_fails _ _ _ (f.BreaksItem.pid room e b h) = ap (as_term Process) (pid_fails w8 e b h)
  item_fails _ _ _ (f.BreaksItem.new_pid room e b h) = ap (as_term Process) (pid_fails w32 e b h)
  item_fails _ _ _ (f.BreaksItem.old_reference room e b h) = ap (as_term Ref) (old_ref_fails e b h)
  item_fails _ _ _ (f.BreaksItem.reference room e b h) = ap (as_term Ref) (ref_fails w8 e b h)
  item_fails _ _ _ (f.BreaksItem.newer_reference room e b h) = ap (as_term Ref) (ref_fails w32 e b h)
  item_fails _ _ _ (f.BreaksItem.binary_length_cut room b short) = ap (as_term Binary) (binary_missing b short)
  item_fails _ _ _ (f.BreaksItem.binary_cut room n b lt short) = ap (as_term Binary) (binary_cut_fails n b lt short)
  item_fails _ _ _ (f.BreaksItem.small_arity_cut room) = refl
  item_fails _ _ _ (f.BreaksItem.small_tuple room n e b h) = ap (as_term Tuple) (items_fail room n e b h)
  item_fails _ _ _ (f.BreaksItem.arity_cut room b short) = ap (as_term Tuple) (word_missing b (λ n. items_at (item_at room) n.0 n.1) short)
  item_fails _ _ _ (f.BreaksItem.large_tuple room n e b lt h) = ap (as_term Tuple) (behind_word n b (λ n. items_at (item_at room) n.0 n.1) lt ∙ items_fail room n e b h)
  item_fails _ _ _ (f.BreaksItem.list room e b h) = (elements_fail room e b h).item

  items_fail : (room n : ℕ) (e : TermFault) (b : List ℕ) → BreaksItems room n e b → items_at (item_at room) n b ≡ Err e
  items_fail _ _ _ _ (f.BreaksItems.here room n e b h) = ap (λ (r : Read Term). r >>= λ first. items_at (item_at room) n first.1 >>= λ others. Ok (first.0 ∷ others.0, others.1)) (item_fails room e b h)
  items_fail _ _ _ _ (f.BreaksItems.later room n e t a b h k) =
      ap (λ (r : Read Term). r >>= λ first. items_at (item_at room) n first.1 >>= λ others. Ok (first.0 ∷ others.0, others.1)) (item_again room t a b h)
      ∙ ap (λ (r : Read (List Term)). r >>= λ others. Ok (t ∷ others.0, others.1)) (items_fail room n e b k)

  elements_fail : (room : ℕ) (e : TermFault) (b : List ℕ) → BreaksElements room e b → ListFails room e b
  elements_fail _ _ _ (f.BreaksElements.string_length_cut room b short) = string_fails room Truncated b (string_missing room b short)
  elements_fail _ _ _ (f.BreaksElements.string_cut room n b lt short) = string_fails room Truncated (to_be_bytes w16 n ++ b) (string_cut_fails room n b lt short)
  elements_fail _ _ _ (f.BreaksElements.string_too_deep text rest lt some) = string_fails zero TooDeep (to_be_bytes w16 (length text) ++ (text ++ rest)) (deep_string_fails text rest lt some)
  elements_fail _ _ _ (f.BreaksElements.length_cut room b short) = list_fails room Truncated b (list_missing room b short)
  elements_fail _ _ _ (f.BreaksElements.element room n e b lt h) = list_fails room e (to_be_bytes w32 n ++ b) (element_fails room n e b lt (items_fail room n e b h))
  elements_fail _ _ _ (f.BreaksElements.tail room e ts a b lt items h) = list_fails room e (to_be_bytes w32 (length ts) ++ (a ++ b)) (tail_of_list_fails room e ts a b lt items (tail_fails room e b h))

  tail_fails : (room : ℕ) (e : TermFault) (b : List ℕ) → BreaksTail room e b → tail_at room b ≡ Err e
  tail_fails _ _ _ (f.BreaksTail.missing_tail zero) = refl
  tail_fails _ _ _ (f.BreaksTail.missing_tail (suc room)) = refl
  tail_fails _ _ _ (f.BreaksTail.deep_tail tag b) = refl
  tail_fails _ _ _ (f.BreaksTail.improper room tag b other) = no_list (tag_of tag) other room (readers room) b
  tail_fails _ _ _ (f.BreaksTail.list_tail room e b h) = (elements_fail room e b h).tail

pub term_fails : (e : TermFault) (b : List ℕ) → Breaks e b → term_of b ≡ Err e
unfolding term_of
term_fails _ _ f.Breaks.missing = refl
term_fails _ _ (f.Breaks.bad_version version b other) = rw (ne_eqb version 131 (λ h. absurd (other h))) refl
term_fails _ _ (f.Breaks.item e b h) = rw (item_fails 64 e b h) refl
term_fails _ _ (f.Breaks.trailing t a next b h) =
    let more : eqb (length (next ∷ b)) 0 ≡ false = ne_eqb (length (next ∷ b)) 0 (λ k. absurd (omega (arith, k))) in
    rw (item_again 64 t a (next ∷ b) h, more) refl
