-- Each text of a value is read as it.
use Rattle.std.proofs.Common.{◌≡◌, ℕ, zero, suc, ◌+◌, ◌*◌, ◌<◌, ◌≤◌, Bool, true, false, not, ◌&&◌, ◌||◌, ◌==◌, cond}
use Rattle.std.proofs.Common.{List, [], ◌∷◌, ◌++◌, length, drop, refl, sym, ap, ◌∙◌, subst, rules, ℤ, append_assoc, length-append, arith, Some, None}
use Rattle.std.proofs.lemmas.Bool.Decides.{nat_tests}
use Rattle.std.specs.Prelude.{nat_le, FitsSigned}
use Rattle.std.specs.Int.{w64}
use Rattle.std.specs.Char.{digit_value, is_ascii_lowercase}
use Rattle.std.specs.List.{flat_map, list_all, AllByRecursion}
use Rattle.std.specs.Str.Parse.{digits_value_after}
use borrow.Author.Tests.{eq-eqb, ne_eqb}
use lib.Utf8.{scalar, scalars}
use Rattle.pg_term.specs.declared.pid.Pid.{Pid}
use Rattle.pg_term.specs.declared.term.Term.{Term, Tuple, List as Listed, out-Term, the_lemmas}
use Rattle.pg_term.specs.declared.term.Term.TheOpen.{Term-F}
use Rattle.pg_term.specs.declared.term.Term.TheVariants.{Int, Atom as Name, Ref, Pid as Process, Binary}
use Rattle.pg_term.specs.RefParts.{RefParts}
use Rattle.pg_term.specs.Depth.{depth, greatest_depth}
use Rattle.pg_text.specs.declared.reading.quoted.Place.TheVariants.{Plain, Digits}
use Rattle.pg_text.specs.declared.reading.quoted.Quoted.TheVariants.{Within, Bad}
use Rattle.pg_text.specs.Again.{NoWord, ReadsAs}
use Rattle.pg_text.specs.Reading.{quoted_at, quoted_next, digit_step, digits_step, escaped_step, is_hex, with_first}
use Rattle.pg_text.specs.Reading.{then_read, with_front, begins, begins_number, short, unless_bare, atom_at, numbers_at, pid_at, part_at}
use Rattle.pg_text.specs.Reading.{words_at, some_words, reference_at, as_term, integer_at, bytes_at, angled_at, leaf_at}
use Rattle.pg_text.specs.Reading.{elements_from, elements_at, term_at}
use Rattle.pg_text.specs.Spelling.{IsHexOf, IsQuoted, IsAtomText, IsText, AreTexts}
use Rattle.pg_text.specs.Spelling as s
use Rattle.pg_text.specs.Values.{IsName, IsPid, IsReference, IsValue, AreValues}
use Rattle.pg_text.specs.Values as v
use Rattle.pg_text.specs.Writing.{quoted_text, needs_no_quotes, atom_text, part_text, creation_text, pid_with, reference_with}
use Rattle.pg_text.specs.Writing.{between_text, more_text, with_commas}
use Rattle.pg_text.proofs.AtomsBack.{both, escape_end, character_read, short_atom, atom_back, atom_begins, atom_no_number, atom_some}
use Rattle.pg_text.proofs.Fronts.{elements_turn, elements_end}
use Rattle.pg_text.proofs.PartsBack.{regroup, regroup_four, numbers_back, part_back, no_digit_words, words_back}
use Rattle.pg_text.proofs.TermsBack.{leaf_back, int_is, binary_is, atom_deep, pid_deep, reference_deep, tuple_deep, list_deep}
use Rattle.pg_text.proofs.TermsBack.{int_reads_back, binary_reads_back}

-- ---- escapes

hex_not_end : (d : ℕ) → is_hex d ≡ true → (d == 125) ≡ false
hex_not_end d e = grind (arith, nat_tests)

hex_some : (d : ℕ) → is_hex d ≡ true → (d == 48) ≡ false → 0 < digit_value d
hex_some d e f = grind (arith, nat_tests)

small_scalar : (c : ℕ) → scalar c ≡ true → c < 1114112
small_scalar c e = grind (arith, nat_tests)

value_grows : (n : ℕ) (ds : List ℕ) → n ≤ digits_value_after 16 n ds
value_grows n [] = omega arith
value_grows n (d ∷ ds) = omega (arith, value_grows (n * 16 + digit_value d) ds)

-- one digit more
one_digit : (n d : ℕ) (begun : Bool) → is_hex d ≡ true → (begun && (n == 0)) ≡ false → n < 1114112
    → digits_step (record { value = n; begun = begun }) d ≡ Within (Digits (record { value = n * 16 + digit_value d; begun = true }))
one_digit n d begun hex lead small =
    let few : nat_le 1114112 n ≡ false = grind (arith, nat_tests) in
    ap (λ b. cond (b && begun) (escaped_step n) (digit_step (record { value = n; begun = begun }) d)) (hex_not_end d hex)
    ∙ ap (λ b. cond ((not b || (begun && (n == 0))) || nat_le 1114112 n) Bad (Within (Digits (record { value = n * 16 + digit_value d; begun = true })))) hex
    ∙ ap (λ b. cond (b || nat_le 1114112 n) Bad (Within (Digits (record { value = n * 16 + digit_value d; begun = true })))) lead
    ∙ ap (λ b. cond b Bad (Within (Digits (record { value = n * 16 + digit_value d; begun = true })))) few

-- the digits behind the first, and the end
more_digits : (ds : List ℕ) (n c : ℕ) (rest : List ℕ) → list_all is_hex ds ≡ true → 0 < n → digits_value_after 16 n ds ≡ c → scalar c ≡ true
    → quoted_at (ds ++ 125 ∷ rest) (Digits (record { value = n; begun = true })) ≡ with_first c (quoted_at rest Plain)
more_digits [] n c rest hex some is good = ap (λ x. quoted_at (125 ∷ rest) (Digits (record { value = x; begun = true }))) is ∙ escape_end c rest good
more_digits (d ∷ ds) n c rest hex some is good =
    let h = both (is_hex d) (list_all is_hex ds) hex in
    let small : n < 1114112 = omega (arith, is, small_scalar c good, value_grows n (d ∷ ds)) in
    ap (λ q. quoted_next q (ds ++ 125 ∷ rest) (λ next. quoted_at (ds ++ 125 ∷ rest) next)) (one_digit n d true h.0 (ne_eqb n 0 (λ z. omega arith)) small)
    ∙ more_digits ds (n * 16 + digit_value d) c rest h.1 (omega arith) is good

not_48 : (d k : ℕ) → (not (d == 48) || (suc k == 0)) ≡ true → (d == 48) ≡ false
not_48 d k e = grind (arith, nat_tests)

hex_text_read : (ds : List ℕ) (c : ℕ) (rest : List ℕ) → IsHexOf ds c → quoted_at (ds ++ 125 ∷ rest) (Digits (record { value = 0; begun = false })) ≡ with_first c (quoted_at rest Plain)
hex_text_read [] c rest h = let e = h.plain in absurd (cc)
hex_text_read (d ∷ []) c rest h =
    let hex = both (is_hex d) true h.digits in
    ap (λ q. quoted_next q (125 ∷ rest) (λ next. quoted_at (125 ∷ rest) next)) (one_digit 0 d false hex.0 refl (omega arith))
    ∙ ap (λ x. quoted_at (125 ∷ rest) (Digits (record { value = x; begun = true }))) h.value ∙ escape_end c rest h.character
hex_text_read (d ∷ f ∷ ds) c rest h =
    let hex = both (is_hex d) (list_all is_hex (f ∷ ds)) h.digits in
    let some = hex_some d hex.0 (not_48 d (length ds) h.plain) in
    ap (λ q. quoted_next q (f ∷ (ds ++ 125 ∷ rest)) (λ next. quoted_at (f ∷ (ds ++ 125 ∷ rest)) next)) (one_digit 0 d false hex.0 refl (omega arith))
    ∙ more_digits (f ∷ ds) (0 * 16 + digit_value d) c rest hex.1 (omega (arith, some)) h.value h.character

-- ---- atoms

quoted_read : (cs inner rest : List ℕ) → IsQuoted cs inner → scalars cs ≡ true → quoted_at (inner ++ 39 ∷ rest) Plain ≡ Some (cs, rest)
quoted_read _ _ rest s.IsQuoted.none good = refl
quoted_read _ _ rest (s.IsQuoted.shown c cs text q) good =
    let h = both (scalar c) (scalars cs) good in
    ap (λ t. quoted_at t Plain) (append_assoc (quoted_text c) text (39 ∷ rest))
    ∙ character_read c (text ++ 39 ∷ rest) h.0
    ∙ ap (with_first c) (quoted_read cs text rest q h.1)
quoted_read _ _ rest (s.IsQuoted.escaped c ds cs text hex q) good =
    let h = both (scalar c) (scalars cs) good in
    ap (λ t. quoted_at t (Digits (record { value = 0; begun = false }))) (append_assoc ds (125 ∷ text) (39 ∷ rest))
    ∙ hex_text_read ds c (text ++ 39 ∷ rest) hex
    ∙ ap (with_first c) (quoted_read cs text rest q h.1)

-- the text of an atom
record AtomReads (cs text : List ℕ) : Type 0 where
  back : (rest : List ℕ) → NoWord rest → atom_at (text ++ rest) ≡ Some (cs, rest)
  opens : (rest : List ℕ) (k : ℕ) → is_ascii_lowercase k ≡ false → (39 == k) ≡ false → begins k (text ++ rest) ≡ false
  letter : (rest : List ℕ) → begins_number (text ++ rest) ≡ false
  some : 1 ≤ length text

bare_is : (cs : List ℕ) → needs_no_quotes cs ≡ true → atom_text cs ≡ cs
unfolding atom_text
bare_is cs e = ap (λ b. cond b cs (39 ∷ flat_map quoted_text cs ++ 39 ∷ [])) e

atom_reads : (cs text : List ℕ) → IsName cs → IsAtomText cs text → AtomReads cs text
unfolding atom_at
atom_reads _ _ name (s.IsAtomText.bare cs e) = subst (AtomReads cs) (bare_is cs e) (record {
  back = λ rest none. atom_back cs rest name.few name.characters none;
  opens = λ rest k other quote. atom_begins cs rest k other quote;
  letter = λ rest. atom_no_number cs rest;
  some = atom_some cs;
})
atom_reads _ _ name (s.IsAtomText.quoted cs text e q) = record {
  back = λ rest none.
      ap (λ t. then_read (quoted_at t Plain) unless_bare) (append_assoc text (39 ∷ []) rest)
      ∙ ap (λ r. then_read r unless_bare) (quoted_read cs text rest q name.characters)
      ∙ ap (λ b. cond b None (short cs rest)) e ∙ short_atom cs rest name.few;
  opens = λ rest k other quote. quote;
  letter = λ rest. refl;
  some = omega arith;
}

-- ---- terms that hold none

atom_leaf : (cs text rest : List ℕ) → AtomReads cs text → NoWord rest → leaf_at (text ++ rest) ≡ Some (Name cs, rest)
unfolding leaf_at
atom_leaf cs front rest h none =
    let text : List ℕ = front ++ rest in
    ap (λ b. cond b (as_term Ref (reference_at (drop 1 text))) (cond (begins 60 text) (angled_at text) (cond (begins_number text) (as_term Int (integer_at text)) (as_term Name (atom_at text)))))
    (h.opens rest 35 refl refl)
    ∙ ap (λ b. cond b (angled_at text) (cond (begins_number text) (as_term Int (integer_at text)) (as_term Name (atom_at text)))) (h.opens rest 60 refl refl)
    ∙ ap (λ b. cond b (as_term Int (integer_at text)) (as_term Name (atom_at text))) (h.letter rest)
    ∙ ap (as_term Name) (h.back rest none)

name_reads : (cs text : List ℕ) → AtomReads cs text → ReadsAs (Name cs) text
name_reads cs text h = record {
  back = leaf_back (Name cs) text (atom_deep cs) (λ rest. h.opens rest 123 refl refl) (λ rest. h.opens rest 91 refl refl) (λ rest none. atom_leaf cs text rest h none);
  square = λ rest. h.opens rest 93 refl refl;
  curly = λ rest. h.opens rest 125 refl refl;
  some = h.some;
}

pid_read : (p : Pid) (node rest : List ℕ) → IsPid p → AtomReads p.node node → pid_at (pid_with node p ++ rest) ≡ Some (p, rest)
unfolding pid_at
pid_read p node rest is h =
    let parts : pid_with node p ++ rest ≡ 60 ∷ (node ++ (part_text 46 p.id ++ (part_text 46 p.serial ++ (creation_text p.creation ++ 62 ∷ rest)))) =
    ap (λ t. 60 ∷ t) (regroup node (part_text 46 p.id) (part_text 46 p.serial) (creation_text p.creation) (62 ∷ []) rest) in
    ap pid_at parts
    ∙ ap (λ r. then_read r (λ node r1. then_read (numbers_at r1) (λ n more. Some (record { node = node; serial = n.1; id = n.0; creation = n.2 }, more))))
    (h.back (part_text 46 p.id ++ (part_text 46 p.serial ++ (creation_text p.creation ++ 62 ∷ rest))) refl)
    ∙ ap (λ r. then_read r (λ n more. Some (record { node = p.node; serial = n.1; id = n.0; creation = n.2 }, more)))
    (numbers_back p.id p.serial p.creation rest is.id is.serial is.creation)

pid_leaf : (p : Pid) (node rest : List ℕ) → IsPid p → AtomReads p.node node → leaf_at (pid_with node p ++ rest) ≡ Some (Process p, rest)
unfolding leaf_at
pid_leaf p node rest is h =
    let other : begins 60 (drop 1 (pid_with node p ++ rest)) ≡ false =
    ap (begins 60) (regroup node (part_text 46 p.id) (part_text 46 p.serial) (creation_text p.creation) (62 ∷ []) rest)
    ∙ h.opens (part_text 46 p.id ++ (part_text 46 p.serial ++ (creation_text p.creation ++ 62 ∷ rest))) 60 refl refl in
    ap (λ t. cond t (as_term Binary (bytes_at (drop 1 (drop 1 (pid_with node p ++ rest))))) (as_term Process (pid_at (pid_with node p ++ rest)))) other
    ∙ ap (as_term Process) (pid_read p node rest is h)

pid_reads : (p : Pid) (node : List ℕ) → IsPid p → AtomReads p.node node → ReadsAs (Process p) (pid_with node p)
pid_reads p node is h = record {
  back = leaf_back (Process p) (pid_with node p) (pid_deep p) (λ rest. refl) (λ rest. refl) (λ rest none. pid_leaf p node rest is h);
  square = λ rest. refl;
  curly = λ rest. refl;
  some = omega arith;
}

reference_read : (r : RefParts) (node rest : List ℕ) → IsReference r → AtomReads r.node node → reference_at (drop 1 (reference_with node r ++ rest)) ≡ Some (r, rest)
unfolding reference_at
reference_read r node rest is h =
    ap (λ t. then_read (atom_at t) (λ node r1. then_read (part_at 47 r1) (λ creation r2. then_read (words_at 3 r2) (λ words more. some_words node creation words more))))
    (regroup_four node (part_text 47 r.creation) (flat_map (part_text 46) r.words) (62 ∷ []) rest)
    ∙ ap (λ x. then_read x (λ node r1. then_read (part_at 47 r1) (λ creation r2. then_read (words_at 3 r2) (λ words more. some_words node creation words more))))
    (h.back (part_text 47 r.creation ++ (flat_map (part_text 46) r.words ++ 62 ∷ rest)) refl)
    ∙ ap (λ x. then_read x (λ creation r2. then_read (words_at 3 r2) (λ words more. some_words r.node creation words more)))
    (part_back 47 r.creation (flat_map (part_text 46) r.words ++ 62 ∷ rest) is.creation (no_digit_words r.words rest))
    ∙ ap (λ x. then_read x (λ words more. some_words r.node r.creation words more)) (words_back r.words rest 3 is.few is.words)
    ∙ ap (λ b. cond b None (Some (record { node = r.node; creation = r.creation; words = r.words }, rest))) (ne_eqb (length r.words) 0 (λ e. omega (arith, is.some)))

reference_leaf : (r : RefParts) (node rest : List ℕ) → IsReference r → AtomReads r.node node → leaf_at (reference_with node r ++ rest) ≡ Some (Ref r, rest)
unfolding leaf_at
reference_leaf r node rest is h = ap (as_term Ref) (reference_read r node rest is h)

reference_reads : (r : RefParts) (node : List ℕ) → IsReference r → AtomReads r.node node → ReadsAs (Ref r) (reference_with node r)
reference_reads r node is h = record {
  back = leaf_back (Ref r) (reference_with node r) (reference_deep r) (λ rest. refl) (λ rest. refl) (λ rest none. reference_leaf r node rest is h);
  square = λ rest. refl;
  curly = λ rest. refl;
  some = omega arith;
}

-- ---- elements

abbrev parts_text : List (List ℕ) → List ℕ
parts_text parts = with_commas (λ part. part) parts

abbrev more_parts : List (List ℕ) → List ℕ
more_parts parts = more_text (λ part. part) parts

-- each part is read as its term
abbrev AllRead : List Term → List (List ℕ) → Type 0
AllRead [] [] = Unit {0}
AllRead (t ∷ ts) (part ∷ parts) = ReadsAs t part × AllRead ts parts
AllRead _ _ = ⊥

module _ (room last : ℕ) (opens : (t : Term) (part : List ℕ) → ReadsAs t part → (more : List ℕ) → begins last (part ++ more) ≡ false) (end : (rest : List ℕ) → NoWord (last ∷ rest)) (other : (last == 44) ≡ false) where
  from_read : (t : Term) (part : List ℕ) (ts : List Term) (parts : List (List ℕ)) (rest : List ℕ) (n : ℕ) → length (t ∷ ts) ≤ n → ReadsAs t part → AllRead ts parts → depth t ≤ room → greatest_depth ts ≤ room
      → elements_from (term_at room) last n (part ++ (more_parts parts ++ last ∷ rest)) ≡ Some (t ∷ ts, rest)
  from_read t part ts parts rest zero fits one all deep deeps = absurd (omega arith)
  from_read t part [] [] rest (suc n) fits one all deep deeps =
      elements_end (term_at room) last n (part ++ last ∷ rest) (last ∷ rest) t (one.back room (last ∷ rest) deep (end rest)) other
      ∙ ap (λ b. cond b (Some (t ∷ [], rest)) None) (eq-eqb last last refl)
  from_read t part [] (p ∷ parts) rest (suc n) fits one all deep deeps = absurd all
  from_read t part (u ∷ ts) [] rest (suc n) fits one all deep deeps = absurd all
  from_read t part (u ∷ ts) (p ∷ parts) rest (suc n) fits one all deep deeps =
      elements_turn (term_at room) last n (part ++ (more_parts (p ∷ parts) ++ last ∷ rest)) (more_parts (p ∷ parts) ++ last ∷ rest) t (one.back room (more_parts (p ∷ parts) ++ last ∷ rest) deep refl) refl
      ∙ ap (λ x. with_front (t ∷ []) (elements_from (term_at room) last n x)) (append_assoc p (more_parts parts) (last ∷ rest))
      ∙ ap (with_front (t ∷ [])) (from_read u p ts parts rest n (omega arith) all.0 all.1 (omega arith) (omega arith))

  many : (ts : List Term) (parts : List (List ℕ)) → AllRead ts parts → length ts ≤ length (more_parts parts)
  many [] parts all = omega arith
  many (t ∷ ts) [] all = absurd all
  many (t ∷ ts) (part ∷ parts) all = omega (arith, length-append part (more_parts parts), many ts parts all.1)

  elements_read : (ts : List Term) (parts : List (List ℕ)) (rest : List ℕ) → AllRead ts parts → greatest_depth ts ≤ room → elements_at (term_at room) last ((parts_text parts ++ last ∷ []) ++ rest) ≡ Some (ts, rest)
  elements_read [] [] rest all deep = ap (λ b. cond b (Some ([], rest)) (elements_from (term_at room) last (length (last ∷ rest)) (last ∷ rest))) (eq-eqb last last refl)
  elements_read [] (part ∷ parts) rest all deep = absurd all
  elements_read (t ∷ ts) [] rest all deep = absurd all
  elements_read (t ∷ ts) (part ∷ parts) rest all deep =
      let more : List ℕ = more_parts parts ++ last ∷ rest in
      let one : ReadsAs t part = all.0 in
      let enough : length (t ∷ ts) ≤ length (part ++ (more_parts parts ++ last ∷ rest)) =
      omega (arith, length-append part (more_parts parts ++ last ∷ rest), length-append (more_parts parts) (last ∷ rest), many ts parts all.1, one.some) in
      ap (elements_at (term_at room) last) (append_assoc (part ++ more_parts parts) (last ∷ []) rest ∙ append_assoc part (more_parts parts) (last ∷ rest))
      ∙ ap (λ b. cond b (Some ([], drop 1 (part ++ more))) (elements_from (term_at room) last (length (part ++ more)) (part ++ more))) (opens t part one more)
      ∙ from_read t part ts parts rest (length (part ++ more)) enough one all.1 (omega arith) (omega arith)

-- ---- tuples and lists

tuple_read : (room : ℕ) (ts : List Term) (parts : List (List ℕ)) (rest : List ℕ) → AllRead ts parts → greatest_depth ts ≤ room → term_at (suc room) (between_text 123 (parts_text parts) 125 ++ rest) ≡ Some (Tuple ts, rest)
unfolding term_at
tuple_read room ts parts rest all deep = ap (as_term Tuple) (elements_read room 125 (λ t part h. h.curly) (λ more. refl) refl ts parts rest all deep)

list_read : (room : ℕ) (ts : List Term) (parts : List (List ℕ)) (rest : List ℕ) → AllRead ts parts → greatest_depth ts ≤ room → term_at (suc room) (between_text 91 (parts_text parts) 93 ++ rest) ≡ Some (Listed ts, rest)
unfolding term_at
list_read room ts parts rest all deep = ap (as_term Listed) (elements_read room 93 (λ t part h. h.square) (λ more. refl) refl ts parts rest all deep)

tuple_reads : (ts : List Term) (parts : List (List ℕ)) → AllRead ts parts → ReadsAs (Tuple ts) (between_text 123 (parts_text parts) 125)
tuple_reads ts parts all = record { back = back; square = λ rest. refl; curly = λ rest. refl; some = omega arith }
  where
    back : (room : ℕ) (rest : List ℕ) → depth (Tuple ts) ≤ room → NoWord rest → term_at room (between_text 123 (parts_text parts) 125 ++ rest) ≡ Some (Tuple ts, rest)
    back zero rest fits none = absurd (omega (arith, tuple_deep ts))
    back (suc room) rest fits none = tuple_read room ts parts rest all (omega (arith, tuple_deep ts))

list_reads : (ts : List Term) (parts : List (List ℕ)) → AllRead ts parts → ReadsAs (Listed ts) (between_text 91 (parts_text parts) 93)
list_reads ts parts all = record { back = back; square = λ rest. refl; curly = λ rest. refl; some = omega arith }
  where
    back : (room : ℕ) (rest : List ℕ) → depth (Listed ts) ≤ room → NoWord rest → term_at room (between_text 91 (parts_text parts) 93 ++ rest) ≡ Some (Listed ts, rest)
    back zero rest fits none = absurd (omega (arith, list_deep ts))
    back (suc room) rest fits none = list_read room ts parts rest all (omega (arith, list_deep ts))

-- ---- each text

-- what is asked of a value, by its form
abbrev IsLevel : Term-F Term → Type 0
IsLevel (Term-F.Int n) = FitsSigned w64 n
IsLevel (Term-F.Atom cs) = IsName cs
IsLevel (Term-F.Ref r) = IsReference r
IsLevel (Term-F.Pid p) = IsPid p
IsLevel (Term-F.Tuple ts) = AreValues ts
IsLevel (Term-F.List ts) = AreValues ts
IsLevel (Term-F.Binary bytes) = AllByRecursion (λ byte. byte < 256) bytes

int_out : (n : ℤ) → out-Term (Int n) ≡ Term-F.Int n
int_out n = search (rules, the_lemmas)

atom_out : (cs : List ℕ) → out-Term (Name cs) ≡ Term-F.Atom cs
atom_out cs = search (rules, the_lemmas)

pid_out : (p : Pid) → out-Term (Process p) ≡ Term-F.Pid p
pid_out p = search (rules, the_lemmas)

reference_out : (r : RefParts) → out-Term (Ref r) ≡ Term-F.Ref r
reference_out r = search (rules, the_lemmas)

binary_out : (bytes : List ℕ) → out-Term (Binary bytes) ≡ Term-F.Binary bytes
binary_out bytes = search (rules, the_lemmas)

tuple_out : (ts : List Term) → out-Term (Tuple ts) ≡ Term-F.Tuple ts
tuple_out ts = search (rules, the_lemmas)

list_out : (ts : List Term) → out-Term (Listed ts) ≡ Term-F.List ts
list_out ts = search (rules, the_lemmas)

level : (t : Term) → IsValue t → IsLevel (out-Term t)
level _ (v.IsValue.int n h) = subst IsLevel (sym (int_out n)) h
level _ (v.IsValue.atom cs h) = subst IsLevel (sym (atom_out cs)) h
level _ (v.IsValue.pid p h) = subst IsLevel (sym (pid_out p)) h
level _ (v.IsValue.reference r h) = subst IsLevel (sym (reference_out r)) h
level _ (v.IsValue.binary bytes h) = subst IsLevel (sym (binary_out bytes)) h
level _ (v.IsValue.tuple ts h) = subst IsLevel (sym (tuple_out ts)) h
level _ (v.IsValue.list ts h) = subst IsLevel (sym (list_out ts)) h

mutual
  pub text_reads : (t : Term) (text : List ℕ) → IsText t text → IsValue t → ReadsAs t text
  text_reads _ _ (s.IsText.int n) h = subst (ReadsAs (Int n)) (int_is n) (int_reads_back n (subst IsLevel (int_out n) (level (Int n) h)))
  text_reads _ _ (s.IsText.atom cs text is) h = name_reads cs text (atom_reads cs text (subst IsLevel (atom_out cs) (level (Name cs) h)) is)
  text_reads _ _ (s.IsText.pid p node is) h = let fits : IsPid p = subst IsLevel (pid_out p) (level (Process p) h) in pid_reads p node fits (atom_reads p.node node fits.node is)
  text_reads _ _ (s.IsText.reference r node is) h = let fits : IsReference r = subst IsLevel (reference_out r) (level (Ref r) h) in reference_reads r node fits (atom_reads r.node node fits.node is)
  text_reads _ _ (s.IsText.binary bytes) h = subst (ReadsAs (Binary bytes)) (binary_is bytes) (binary_reads_back bytes (subst IsLevel (binary_out bytes) (level (Binary bytes) h)))
  text_reads _ _ (s.IsText.tuple ts parts are) h = tuple_reads ts parts (texts_read ts parts are (subst IsLevel (tuple_out ts) (level (Tuple ts) h)))
  text_reads _ _ (s.IsText.list ts parts are) h = list_reads ts parts (texts_read ts parts are (subst IsLevel (list_out ts) (level (Listed ts) h)))

  texts_read : (ts : List Term) (parts : List (List ℕ)) → AreTexts ts parts → AreValues ts → AllRead ts parts
  texts_read _ _ s.AreTexts.none h = tt
  texts_read _ _ (s.AreTexts.more t ts part parts is are) (v.AreValues.more _ _ h k) = (text_reads t part is h, texts_read ts parts are k)
