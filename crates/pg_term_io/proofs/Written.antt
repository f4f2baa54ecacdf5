-- The bytes of terms, level by level.
use Rattle.std.proofs.Common.{◌≡◌, ℕ, ℤ, pos, negsuc, zero, suc, ◌+◌, ◌<◌, ◌≤◌, Bool, true, false, cond, List, [], ◌∷◌}
use Rattle.std.proofs.Common.{◌++◌, length, length-append, get_or, take, sym, ap, ◌∙◌, append_assoc, arith, rules}
use Rattle.std.proofs.lemmas.List.{append-nil, take_more}
use Rattle.std.specs.Prelude.{nat_lt}
use Rattle.std.specs.Int.{w16, w32, to_be_bytes, cast_unsigned}
use Rattle.std.specs.Str.{encode_utf8_all}
use Rattle.std.proofs.Math.ListN.{length-map}
use Rattle.pg_term.specs.declared.term.Term.{Term, Tuple, List as Listed, fold-Term}
use Rattle.pg_term.specs.declared.term.Term.{map-Term, out-Term, fold_out-Term, the_lemmas}
use Rattle.pg_term.specs.declared.term.Term.TheOpen.{Term-F}
use Rattle.pg_term.specs.declared.term.Term.TheVariants.{Binary}
use Rattle.pg_term_io.specs.Writing.{big_bytes, int_bytes, atom_bytes, pid_bytes, reference_bytes}
use Rattle.pg_term_io.specs.Writing.{binary_bytes, tagged_text, tuple_head, list_head, tuple_bytes}
use Rattle.pg_term_io.specs.Writing.{list_bytes, joined, item_step, item_bytes, all_bytes}

pub tuple_is : (ts : List Term) → item_bytes (Tuple ts) ≡ tuple_bytes ts
tuple_is ts = let n = length-map ts item_bytes in search (rules, the_lemmas)

pub list_is : (ts : List Term) → item_bytes (Listed ts) ≡ list_bytes ts
list_is ts = let n = length-map ts item_bytes in search (rules, the_lemmas)

pub binary_is : (content : List ℕ) → item_bytes (Binary content) ≡ binary_bytes content
binary_is content = search (rules, the_lemmas)

-- at a term that is a tuple, a list or a binary
pub tuple_at : (t : Term) (fields ts : List Term) → t ≡ Tuple fields → ts ≡ fields → item_bytes t ≡ tuple_bytes ts
tuple_at t fields ts e same = ap item_bytes e ∙ ap (λ (us : List Term). item_bytes (Tuple us)) (sym same) ∙ tuple_is ts

pub list_at : (t : Term) (items ts : List Term) → t ≡ Listed items → ts ≡ items → item_bytes t ≡ list_bytes ts
list_at t items ts e same = ap item_bytes e ∙ ap (λ (us : List Term). item_bytes (Listed us)) (sym same) ∙ list_is ts

pub binary_at : (t : Term) (held content : List ℕ) → t ≡ Binary held → content ≡ held → item_bytes t ≡ binary_bytes content
binary_at t held content e same = ap item_bytes e ∙ ap (λ (bytes : List ℕ). item_bytes (Binary bytes)) (sym same) ∙ binary_is content

some : (b : Bool) (x y : List ℕ) → 1 ≤ length x → 1 ≤ length y → 1 ≤ length (cond b x y)
some true x y p q = p
some false x y p q = q

text_some : (text : List ℕ) → 1 ≤ length (tagged_text text)
text_some text = some (nat_lt (length text) 256) (119 ∷ length text ∷ text) (118 ∷ to_be_bytes w16 (length text) ++ text) (omega arith) (omega arith)

pub head_some : (n : ℕ) → 1 ≤ length (tuple_head n)
head_some n = some (nat_lt n 256) (104 ∷ n ∷ []) (105 ∷ to_be_bytes w32 n) (omega arith) (omega arith)

big_some : (sign n : ℕ) → 1 ≤ length (big_bytes sign n)
unfolding big_bytes
big_some sign n = omega arith

int_some : (z : ℤ) → 1 ≤ length (int_bytes z)
int_some (pos n) = some (nat_lt n 256) (97 ∷ n ∷ []) (cond (nat_lt n 2147483648) (98 ∷ to_be_bytes w32 n) (big_bytes 0 n)) (omega arith) (some (nat_lt n 2147483648) (98 ∷ to_be_bytes w32 n) (big_bytes 0 n) (omega arith) (big_some 0 n))
int_some (negsuc n) = some (nat_lt n 2147483648) (98 ∷ to_be_bytes w32 (cast_unsigned w32 (negsuc n))) (big_bytes 1 (suc n)) (omega arith) (big_some 1 (suc n))

step_some : (l : Term-F (List ℕ)) → 1 ≤ length (item_step l)
unfolding atom_bytes pid_bytes reference_bytes
step_some (Term-F.Int z) = int_some z
step_some (Term-F.Atom a) = text_some (encode_utf8_all a)
step_some (Term-F.Ref r) = omega arith
step_some (Term-F.Pid p) = omega arith
step_some (Term-F.Tuple bs) = omega (arith, length-append (tuple_head (length bs)) (joined bs), head_some (length bs))
step_some (Term-F.Binary content) = omega arith
step_some (Term-F.List bs) = omega (arith, length-append (list_head (length bs) ++ joined bs) (106 ∷ []))

pub item_some : (t : Term) → 1 ≤ length (item_bytes t)
item_some t = rw (fold_out-Term (List ℕ) item_step t) (step_some (map-Term Term (List ℕ) (fold-Term (List ℕ) item_step) (out-Term t)))

pub count_le : (ts : List Term) → length ts ≤ length (all_bytes ts)
count_le [] = omega arith
count_le (t ∷ ts) = omega (arith, count_le ts, item_some t, length-append (item_bytes t) (all_bytes ts))

pub all_push : (ts : List Term) (t : Term) → all_bytes (ts ++ t ∷ []) ≡ all_bytes ts ++ item_bytes t
all_push [] t = append-nil (item_bytes t)
all_push (u ∷ ts) t = ap (λ (b : List ℕ). item_bytes u ++ b) (all_push ts t) ∙ sym (append_assoc (item_bytes u) (all_bytes ts) (item_bytes t))

-- one element more is walked
pub bytes_more : (ts : List Term) (i : ℕ) (t : Term) → i < length ts → t ≡ get_or ts i t → all_bytes (take (i + 1) ts) ≡ all_bytes (take i ts) ++ item_bytes t
bytes_more ts i t h e =
    ap all_bytes (take_more ts i t h ∙ ap (λ (u : Term). take i ts ++ u ∷ []) (sym e)) ∙ all_push (take i ts) t

-- what is walked takes no more than the whole
pub taken_le : (ts : List Term) (i : ℕ) → length (all_bytes (take i ts)) ≤ length (all_bytes ts)
taken_le ts zero = omega arith
taken_le [] (suc i) = omega arith
taken_le (t ∷ ts) (suc i) = omega (arith, taken_le ts i, length-append (item_bytes t) (all_bytes ts), length-append (item_bytes t) (all_bytes (take i ts)))

pub len_more : (ts : List Term) (i : ℕ) (t : Term) → i < length ts → t ≡ get_or ts i t → length (all_bytes (take (i + 1) ts)) ≡ length (all_bytes (take i ts)) + length (item_bytes t)
len_more ts i t h e = ap length (bytes_more ts i t h e) ∙ length-append (all_bytes (take i ts)) (item_bytes t)

-- the next element fits the room that is left
pub part_fits : (ts : List Term) (i : ℕ) (t : Term) → i < length ts → t ≡ get_or ts i t → length (all_bytes (take i ts)) + length (item_bytes t) ≤ length (all_bytes ts)
part_fits ts i t h e = omega (arith, taken_le ts (i + 1), len_more ts i t h e)
