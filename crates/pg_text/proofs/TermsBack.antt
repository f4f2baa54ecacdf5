-- What is written of a term is read as that term: level by level.
use Rattle.std.proofs.Common.{◌≡◌, ℕ, zero, suc, ◌+◌, ◌^◌, ◌<◌, ◌≤◌, true, false, cond, List}
use Rattle.std.proofs.Common.{[], ◌∷◌, ◌++◌, ◌==◌, length, get_or, take, drop, map, refl}
use Rattle.std.proofs.Common.{sym, ap, ◌∙◌, subst, rules, append_assoc, arith, Some, ℤ}
use Rattle.std.specs.Prelude.{decimal, FitsSigned}
use Rattle.std.specs.Fmt.{signed_decimal}
use Rattle.std.specs.Int.{w64}
use Rattle.std.specs.List.{AllByRecursion}
use Rattle.std.proofs.lemmas.Fmt.{decimal_nonempty}
use Rattle.std.proofs.lemmas.List.{take_more}
use Rattle.std.proofs.lemmas.Str.{scalars-chars}
use Rattle.std.specs.Str.{chars, IsUtf8}
use lib.Utf8.{scalars}
use Rattle.pg_term.specs.declared.pid.Pid.{Pid}
use Rattle.pg_term.specs.declared.term.Term.{Term, Tuple, List as Listed, the_lemmas}
use Rattle.pg_term.specs.declared.term.Term.TheVariants.{Int, Atom as Name, Ref, Pid as Process, Binary}
use Rattle.pg_term.specs.RefParts.{RefParts}
use Rattle.pg_term.specs.Depth.{depth, greatest_depth}
use Rattle.pg_text.specs.Again.{NoWord, ReadsAs, ReadsBack, ReadBack}
use Rattle.pg_text.specs.Reading.{as_term, begins, begins_number, integer_at, atom_at, pid_at, reference_at}
use Rattle.pg_text.specs.Reading.{numeral_at, elements_at, ended, then_read, bytes_at, angled_at, leaf_at, term_at}
use Rattle.pg_text.specs.Writing.{term_text, terms_text, atom_text, pid_text, reference_text, part_text}
use Rattle.pg_text.specs.Writing.{creation_text, binary_text, between_text, with_commas, more_text}
use Rattle.pg_text.proofs.AtomsBack.{atom_back, atom_begins, atom_no_number, atom_some}
use Rattle.pg_text.proofs.Fronts.{term_leaf}
use Rattle.pg_text.proofs.NumbersBack.{numeral_back, decimal_begins, integer_back}
use Rattle.pg_text.proofs.NumbersBack.{integer_is_number, integer_begins, integer_some, no_digit}
use Rattle.pg_text.proofs.PartsBack.{regroup, regroup_three, pid_back, reference_back, IsBack, AreBack, elements_back}

-- a term without terms in it
pub leaf_back : (t : Term) (text : List ℕ) → depth t ≡ 1 → ((rest : List ℕ) → begins 123 (text ++ rest) ≡ false) → ((rest : List ℕ) → begins 91 (text ++ rest) ≡ false)
    → ((rest : List ℕ) → NoWord rest → leaf_at (text ++ rest) ≡ Some (t, rest))
    → (room : ℕ) (rest : List ℕ) → depth t ≤ room → NoWord rest → term_at room (text ++ rest) ≡ Some (t, rest)
leaf_back t text deep curly square leaf room rest fits none = sym (term_leaf room (text ++ rest) (λ e. omega arith) (curly rest) (square rest)) ∙ leaf rest none

pub int_is : (n : ℤ) → term_text (Int n) ≡ signed_decimal n
int_is n = search (rules, the_lemmas)

int_deep : (n : ℤ) → depth (Int n) ≡ 1
int_deep n = search (rules, the_lemmas)

pub atom_is : (cs : List ℕ) → term_text (Name cs) ≡ atom_text cs
atom_is cs = search (rules, the_lemmas)

pub atom_deep : (cs : List ℕ) → depth (Name cs) ≡ 1
atom_deep cs = search (rules, the_lemmas)

pub pid_is : (p : Pid) → term_text (Process p) ≡ pid_text p
pid_is p = search (rules, the_lemmas)

pub pid_deep : (p : Pid) → depth (Process p) ≡ 1
pid_deep p = search (rules, the_lemmas)

reference_is : (r : RefParts) → term_text (Ref r) ≡ reference_text r
reference_is r = search (rules, the_lemmas)

pub reference_deep : (r : RefParts) → depth (Ref r) ≡ 1
reference_deep r = search (rules, the_lemmas)

pub binary_is : (bytes : List ℕ) → term_text (Binary bytes) ≡ binary_text bytes
binary_is bytes = search (rules, the_lemmas)

binary_deep : (bytes : List ℕ) → depth (Binary bytes) ≡ 1
binary_deep bytes = search (rules, the_lemmas)

pub tuple_is : (ts : List Term) → term_text (Tuple ts) ≡ between_text 123 (terms_text ts) 125
tuple_is ts = search (rules, the_lemmas)

pub tuple_deep : (ts : List Term) → depth (Tuple ts) ≡ 1 + greatest_depth ts
tuple_deep ts = search (rules, the_lemmas)

list_is : (ts : List Term) → term_text (Listed ts) ≡ between_text 91 (terms_text ts) 93
list_is ts = search (rules, the_lemmas)

pub list_deep : (ts : List Term) → depth (Listed ts) ≡ 1 + greatest_depth ts
list_deep ts = search (rules, the_lemmas)

int_leaf : (n : ℤ) (rest : List ℕ) → FitsSigned w64 n → NoWord rest → leaf_at (signed_decimal n ++ rest) ≡ Some (Int n, rest)
unfolding leaf_at
int_leaf n rest fits none =
    let text : List ℕ = signed_decimal n ++ rest in
    ap (λ b. cond b (as_term Ref (reference_at (drop 1 text))) (cond (begins 60 text) (angled_at text) (cond (begins_number text) (as_term Int (integer_at text)) (as_term Name (atom_at text)))))
    (integer_begins 35 n rest (omega arith) refl fits)
    ∙ ap (λ b. cond b (angled_at text) (cond (begins_number text) (as_term Int (integer_at text)) (as_term Name (atom_at text)))) (integer_begins 60 n rest (omega arith) refl fits)
    ∙ ap (λ b. cond b (as_term Int (integer_at text)) (as_term Name (atom_at text))) (integer_is_number n rest fits)
    ∙ ap (as_term Int) (integer_back n rest fits (no_digit rest none))

pub int_reads_back : (n : ℤ) → FitsSigned w64 n → ReadsBack (Int n)
int_reads_back n fits = subst (ReadsAs (Int n)) (sym (int_is n)) (record {
  back = leaf_back (Int n) (signed_decimal n) (int_deep n) (λ rest. integer_begins 123 n rest (omega arith) refl fits) (λ rest. integer_begins 91 n rest (omega arith) refl fits) (λ rest none. int_leaf n rest fits none);
  square = λ rest. integer_begins 93 n rest (omega arith) refl fits;
  curly = λ rest. integer_begins 125 n rest (omega arith) refl fits;
  some = integer_some n fits;
})

atom_leaf : (cs rest : List ℕ) → length cs ≤ 255 → scalars cs ≡ true → NoWord rest → leaf_at (atom_text cs ++ rest) ≡ Some (Name cs, rest)
unfolding leaf_at
atom_leaf cs rest few s none =
    let text : List ℕ = atom_text cs ++ rest in
    ap (λ b. cond b (as_term Ref (reference_at (drop 1 text))) (cond (begins 60 text) (angled_at text) (cond (begins_number text) (as_term Int (integer_at text)) (as_term Name (atom_at text)))))
    (atom_begins cs rest 35 refl refl)
    ∙ ap (λ b. cond b (angled_at text) (cond (begins_number text) (as_term Int (integer_at text)) (as_term Name (atom_at text)))) (atom_begins cs rest 60 refl refl)
    ∙ ap (λ b. cond b (as_term Int (integer_at text)) (as_term Name (atom_at text))) (atom_no_number cs rest)
    ∙ ap (as_term Name) (atom_back cs rest few s none)

pub atom_reads_back : (cs : List ℕ) → length cs ≤ 255 → scalars cs ≡ true → ReadsBack (Name cs)
atom_reads_back cs few s = subst (ReadsAs (Name cs)) (sym (atom_is cs)) (record {
  back = leaf_back (Name cs) (atom_text cs) (atom_deep cs) (λ rest. atom_begins cs rest 123 refl refl) (λ rest. atom_begins cs rest 91 refl refl) (λ rest none. atom_leaf cs rest few s none);
  square = λ rest. atom_begins cs rest 93 refl refl;
  curly = λ rest. atom_begins cs rest 125 refl refl;
  some = atom_some cs;
})

pid_leaf : (p : Pid) (rest : List ℕ) → length p.node ≤ 255 → scalars p.node ≡ true → p.id < 2 ^ 32 → p.serial < 2 ^ 32 → p.creation < 2 ^ 32 → leaf_at (pid_text p ++ rest) ≡ Some (Process p, rest)
unfolding leaf_at
pid_leaf p rest few s a b c =
    let node : begins 60 (drop 1 (pid_text p ++ rest)) ≡ false =
    ap (begins 60) (regroup (atom_text p.node) (part_text 46 p.id) (part_text 46 p.serial) (creation_text p.creation) (62 ∷ []) rest)
    ∙ atom_begins p.node (part_text 46 p.id ++ (part_text 46 p.serial ++ (creation_text p.creation ++ 62 ∷ rest))) 60 refl refl in
    ap (λ t. cond t (as_term Binary (bytes_at (drop 1 (drop 1 (pid_text p ++ rest))))) (as_term Process (pid_at (pid_text p ++ rest)))) node
    ∙ ap (as_term Process) (pid_back p rest few s a b c)

pub pid_reads_back : (p : Pid) → length p.node ≤ 255 → scalars p.node ≡ true → p.id < 2 ^ 32 → p.serial < 2 ^ 32 → p.creation < 2 ^ 32 → ReadsBack (Process p)
pid_reads_back p few s a b c = subst (ReadsAs (Process p)) (sym (pid_is p)) (record {
  back = leaf_back (Process p) (pid_text p) (pid_deep p) (λ rest. refl) (λ rest. refl) (λ rest none. pid_leaf p rest few s a b c);
  square = λ rest. refl;
  curly = λ rest. refl;
  some = omega arith;
})

reference_leaf : (r : RefParts) (rest : List ℕ) → length r.node ≤ 255 → scalars r.node ≡ true → r.creation < 2 ^ 32 → AllByRecursion (λ w. w < 2 ^ 32) r.words → length r.words ≤ 3 → 1 ≤ length r.words
    → leaf_at (reference_text r ++ rest) ≡ Some (Ref r, rest)
unfolding leaf_at
reference_leaf r rest few s c all most words = ap (as_term Ref) (reference_back r rest few s c all most words)

pub reference_reads_back : (r : RefParts) → length r.node ≤ 255 → scalars r.node ≡ true → r.creation < 2 ^ 32 → AllByRecursion (λ w. w < 2 ^ 32) r.words → length r.words ≤ 3 → 1 ≤ length r.words → ReadsBack (Ref r)
reference_reads_back r few s c all most words = subst (ReadsAs (Ref r)) (sym (reference_is r)) (record {
  back = leaf_back (Ref r) (reference_text r) (reference_deep r) (λ rest. refl) (λ rest. refl) (λ rest none. reference_leaf r rest few s c all most words);
  square = λ rest. refl;
  curly = λ rest. refl;
  some = omega arith;
})

-- ---- binaries

byte_back : (n : ℕ) → n < 256 → IsBack (numeral_at 255) decimal 62 n
byte_back n small = record {
  back = λ rest none. numeral_back 255 n rest (omega arith) (omega arith) (no_digit rest none);
  opens = λ rest. decimal_begins 62 n rest (omega arith) (omega arith);
  some = omega (arith, decimal_nonempty n (omega arith));
}

bytes_are_back : (bytes : List ℕ) → AllByRecursion (λ b. b < 256) bytes → AreBack (numeral_at 255) decimal 62 bytes
bytes_are_back [] all = tt
bytes_are_back (b ∷ bytes) all = (byte_back b all.0, bytes_are_back bytes all.1)

bytes_back : (bytes rest : List ℕ) → AllByRecursion (λ b. b < 256) bytes → bytes_at (with_commas decimal bytes ++ 62 ∷ 62 ∷ rest) ≡ Some (bytes, rest)
unfolding bytes_at
bytes_back bytes rest all =
    ap (λ r. then_read r (λ content more. ended 62 content more)) (elements_back (numeral_at 255) decimal 62 (λ more. refl) refl bytes (62 ∷ rest) (bytes_are_back bytes all))

binary_leaf : (bytes rest : List ℕ) → AllByRecursion (λ b. b < 256) bytes → leaf_at (binary_text bytes ++ rest) ≡ Some (Binary bytes, rest)
unfolding leaf_at
binary_leaf bytes rest all =
    ap (λ t. as_term Binary (bytes_at t)) (regroup_three (with_commas decimal bytes) (62 ∷ []) (62 ∷ []) rest) ∙ ap (as_term Binary) (bytes_back bytes rest all)

pub binary_reads_back : (bytes : List ℕ) → AllByRecursion (λ b. b < 256) bytes → ReadsBack (Binary bytes)
binary_reads_back bytes all = subst (ReadsAs (Binary bytes)) (sym (binary_is bytes)) (record {
  back = leaf_back (Binary bytes) (binary_text bytes) (binary_deep bytes) (λ rest. refl) (λ rest. refl) (λ rest none. binary_leaf bytes rest all);
  square = λ rest. refl;
  curly = λ rest. refl;
  some = omega arith;
})

-- ---- tuples and lists

more_mapped : (ts : List Term) → more_text (λ part. part) (map term_text ts) ≡ more_text term_text ts
more_mapped [] = refl
more_mapped (t ∷ ts) = ap (λ x. 44 ∷ (term_text t ++ x)) (more_mapped ts)

listed_mapped : (ts : List Term) → terms_text ts ≡ with_commas term_text ts
listed_mapped [] = refl
listed_mapped (t ∷ ts) = ap (λ x. term_text t ++ x) (more_mapped ts)

terms_are_back : (room last : ℕ) (ts : List Term) → ((t : Term) → ReadsBack t → (rest : List ℕ) → begins last (term_text t ++ rest) ≡ false) → ReadBack ts → greatest_depth ts ≤ room → AreBack (term_at room) term_text last ts
terms_are_back room last [] opens all deep = tt
terms_are_back room last (t ∷ ts) opens all deep = (
  record { back = λ rest none. all.0.back room rest (omega arith) none; opens = opens t all.0; some = all.0.some },
  terms_are_back room last ts opens all.1 (omega arith),
)

elements_again : (room last : ℕ) (ts : List Term) (rest : List ℕ) → ((t : Term) → ReadsBack t → (more : List ℕ) → begins last (term_text t ++ more) ≡ false) → ((more : List ℕ) → NoWord (last ∷ more)) → (last == 44) ≡ false
    → ReadBack ts → greatest_depth ts ≤ room → elements_at (term_at room) last ((terms_text ts ++ last ∷ []) ++ rest) ≡ Some (ts, rest)
elements_again room last ts rest opens end other all deep =
    ap (elements_at (term_at room) last) (append_assoc (terms_text ts) (last ∷ []) rest ∙ ap (λ x. x ++ last ∷ rest) (listed_mapped ts))
    ∙ elements_back (term_at room) term_text last end other ts rest (terms_are_back room last ts opens all deep)

tuple_at : (room : ℕ) (ts : List Term) (rest : List ℕ) → ReadBack ts → greatest_depth ts ≤ room → term_at (suc room) (between_text 123 (terms_text ts) 125 ++ rest) ≡ Some (Tuple ts, rest)
unfolding term_at
tuple_at room ts rest all deep = ap (as_term Tuple) (elements_again room 125 ts rest (λ t h. h.curly) (λ more. refl) refl all deep)

list_at : (room : ℕ) (ts : List Term) (rest : List ℕ) → ReadBack ts → greatest_depth ts ≤ room → term_at (suc room) (between_text 91 (terms_text ts) 93 ++ rest) ≡ Some (Listed ts, rest)
unfolding term_at
list_at room ts rest all deep = ap (as_term Listed) (elements_again room 93 ts rest (λ t h. h.square) (λ more. refl) refl all deep)

pub tuple_reads_back : (ts : List Term) → ReadBack ts → ReadsBack (Tuple ts)
tuple_reads_back ts all = subst (ReadsAs (Tuple ts)) (sym (tuple_is ts)) (record { back = back; square = λ rest. refl; curly = λ rest. refl; some = omega arith })
  where
    back : (room : ℕ) (rest : List ℕ) → depth (Tuple ts) ≤ room → NoWord rest → term_at room (between_text 123 (terms_text ts) 125 ++ rest) ≡ Some (Tuple ts, rest)
    back zero rest fits none = absurd (omega (arith, tuple_deep ts))
    back (suc room) rest fits none = tuple_at room ts rest all (omega (arith, tuple_deep ts))

pub list_reads_back : (ts : List Term) → ReadBack ts → ReadsBack (Listed ts)
list_reads_back ts all = subst (ReadsAs (Listed ts)) (sym (list_is ts)) (record { back = back; square = λ rest. refl; curly = λ rest. refl; some = omega arith })
  where
    back : (room : ℕ) (rest : List ℕ) → depth (Listed ts) ≤ room → NoWord rest → term_at room (between_text 91 (terms_text ts) 93 ++ rest) ≡ Some (Listed ts, rest)
    back zero rest fits none = absurd (omega (arith, list_deep ts))
    back (suc room) rest fits none = list_at room ts rest all (omega (arith, list_deep ts))

all_push : (ts : List Term) (t : Term) → ReadBack ts → ReadsBack t → ReadBack (ts ++ t ∷ [])
all_push [] t all one = (one, tt)
all_push (u ∷ ts) t all one = (all.0, all_push ts t all.1 one)

-- one term more
pub read_back_more : (ts : List Term) (i : ℕ) (t : Term) → i < length ts → t ≡ get_or ts i t → ReadBack (take i ts) → ReadsBack t → ReadBack (take (i + 1) ts)
read_back_more ts i t lt e all one = subst ReadBack (sym (take_more ts i t lt ∙ ap (λ u. take i ts ++ u ∷ []) (sym e))) (all_push (take i ts) t all one)

-- the characters of a text are characters
pub scalars_same : (text cs : List ℕ) → IsUtf8 text → chars text ≡ cs → scalars cs ≡ true
scalars_same text cs u e = ap scalars (sym e) ∙ scalars-chars text u

-- numbers below a limit at each place
pub all_below : (limit : ℕ) (xs : List ℕ) → ((i : ℕ) → get_or xs i 0 < limit) → AllByRecursion (λ x. x < limit) xs
all_below limit [] below = tt
all_below limit (x ∷ xs) below = (below zero, all_below limit xs (λ i. below (suc i)))
