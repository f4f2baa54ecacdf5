-- What is written of a pid, a reference or elements is read as them.
use Rattle.std.proofs.Common.{◌≡◌, ℕ, zero, suc, ◌^◌, ◌<◌, ◌≤◌, Bool, true, false, ◌==◌, cond, List, [], ◌∷◌}
use Rattle.std.proofs.Common.{◌++◌, length, drop, refl, ap, ◌∙◌, append_assoc, length-append, arith, Some, None}
use Rattle.std.proofs.lemmas.Bool.Decides.{nat_tests}
use Rattle.std.specs.Prelude.{decimal}
use Rattle.std.specs.List.{flat_map, AllByRecursion}
use lib.Utf8.{scalars}
use borrow.Author.Tests.{eq-eqb, ne_eqb}
use Rattle.pg_term.specs.declared.pid.Pid.{Pid}
use Rattle.pg_term.specs.RefParts.{RefParts}
use Rattle.pg_text.proofs.AtomsBack.{atom_back}
use Rattle.pg_text.specs.Again.{NoWord}
use Rattle.pg_text.proofs.Fronts.{elements_turn, elements_end}
use Rattle.pg_text.proofs.NumbersBack.{NoDigit, numeral_back}
use Rattle.pg_text.specs.Reading.{Read, then_read, with_front, begins, ended, number_at, atom_at}
use Rattle.pg_text.specs.Reading.{part_at, creation_at, told_creation, numbers_at, pid_at}
use Rattle.pg_text.specs.Reading.{words_at, some_words, reference_at, elements_from, elements_at}
use Rattle.pg_text.specs.Writing.{atom_text, part_text, creation_text, pid_text, reference_text, more_text, with_commas}

pub part_back : (before n : ℕ) (rest : List ℕ) → n < 2 ^ 32 → NoDigit rest → part_at before (part_text before n ++ rest) ≡ Some (n, rest)
part_back before n rest small none =
    ap (λ b. cond b (number_at (decimal n ++ rest)) None) (eq-eqb before before refl) ∙ numeral_back 4294967295 n rest (omega arith) (omega arith) none

creation_back : (n : ℕ) (rest : List ℕ) → n < 2 ^ 32 → creation_at (creation_text n ++ 62 ∷ rest) ≡ Some (n, 62 ∷ rest)
unfolding creation_at
creation_back n rest small = step (n == 1) refl
  where
    step : (b : Bool) → (n == 1) ≡ b → creation_at (cond b [] (part_text 47 n) ++ 62 ∷ rest) ≡ Some (n, 62 ∷ rest)
    step true e = let one : 1 ≡ n = grind (arith, nat_tests) in ap (λ k. Some (k, 62 ∷ rest)) one
    step false e =
        ap (λ r. then_read r told_creation) (numeral_back 4294967295 n (62 ∷ rest) (omega arith) (omega arith) refl)
        ∙ ap (λ b. cond b None (Some (n, 62 ∷ rest))) e

no_digit_creation : (n : ℕ) (rest : List ℕ) → NoDigit (creation_text n ++ 62 ∷ rest)
no_digit_creation n rest = step (n == 1)
  where
    step : (b : Bool) → NoDigit (cond b [] (part_text 47 n) ++ 62 ∷ rest)
    step true = refl
    step false = refl

pub numbers_back : (id serial creation : ℕ) (rest : List ℕ) → id < 2 ^ 32 → serial < 2 ^ 32 → creation < 2 ^ 32
    → numbers_at (part_text 46 id ++ (part_text 46 serial ++ (creation_text creation ++ 62 ∷ rest))) ≡ Some ((id, serial, creation), rest)
numbers_back id serial creation rest a b c =
    ap (λ r. then_read r (λ i r1. then_read (part_at 46 r1) (λ s r2. then_read (creation_at r2) (λ m r3. ended 62 (i, s, m) r3))))
    (part_back 46 id (part_text 46 serial ++ (creation_text creation ++ 62 ∷ rest)) a refl)
    ∙ ap (λ r. then_read r (λ s r2. then_read (creation_at r2) (λ m r3. ended 62 (id, s, m) r3)))
    (part_back 46 serial (creation_text creation ++ 62 ∷ rest) b (no_digit_creation creation rest))
    ∙ ap (λ r. then_read r (λ m r3. ended 62 (id, serial, m) r3)) (creation_back creation rest c)

pub regroup : (a b c d e f : List ℕ) → ((((a ++ b) ++ c) ++ d) ++ e) ++ f ≡ a ++ (b ++ (c ++ (d ++ (e ++ f))))
regroup a b c d e f = simp append_assoc

pub regroup_three : (a b c d : List ℕ) → ((a ++ b) ++ c) ++ d ≡ a ++ (b ++ (c ++ d))
regroup_three a b c d = simp append_assoc

pub regroup_four : (a b c d e : List ℕ) → (((a ++ b) ++ c) ++ d) ++ e ≡ a ++ (b ++ (c ++ (d ++ e)))
regroup_four a b c d e = simp append_assoc

pub pid_back : (p : Pid) (rest : List ℕ) → length p.node ≤ 255 → scalars p.node ≡ true → p.id < 2 ^ 32 → p.serial < 2 ^ 32 → p.creation < 2 ^ 32 → pid_at (pid_text p ++ rest) ≡ Some (p, rest)
unfolding pid_at
pid_back p rest few s a b c =
    let parts : pid_text p ++ rest ≡ 60 ∷ (atom_text p.node ++ (part_text 46 p.id ++ (part_text 46 p.serial ++ (creation_text p.creation ++ 62 ∷ rest)))) =
    ap (λ t. 60 ∷ t) (regroup (atom_text p.node) (part_text 46 p.id) (part_text 46 p.serial) (creation_text p.creation) (62 ∷ []) rest) in
    ap pid_at parts
    ∙ ap (λ r. then_read r (λ node r1. then_read (numbers_at r1) (λ n more. Some (record { node = node; serial = n.1; id = n.0; creation = n.2 }, more))))
    (atom_back p.node (part_text 46 p.id ++ (part_text 46 p.serial ++ (creation_text p.creation ++ 62 ∷ rest))) few s refl)
    ∙ ap (λ r. then_read r (λ n more. Some (record { node = p.node; serial = n.1; id = n.0; creation = n.2 }, more)))
    (numbers_back p.id p.serial p.creation rest a b c)

-- ---- references

pub no_digit_words : (words rest : List ℕ) → NoDigit (flat_map (part_text 46) words ++ 62 ∷ rest)
no_digit_words [] rest = refl
no_digit_words (w ∷ ws) rest = refl

pub words_back : (words rest : List ℕ) (n : ℕ) → length words ≤ n → AllByRecursion (λ w. w < 2 ^ 32) words → words_at n (flat_map (part_text 46) words ++ 62 ∷ rest) ≡ Some (words, rest)
unfolding words_at
words_back [] rest zero fits all = refl
words_back [] rest (suc n) fits all = refl
words_back (w ∷ ws) rest zero fits all = absurd (omega arith)
words_back (w ∷ ws) rest (suc n) fits all =
    ap (λ t. then_read (number_at t) (λ word more. with_front (word ∷ []) (words_at n more))) (append_assoc (decimal w) (flat_map (part_text 46) ws) (62 ∷ rest))
    ∙ ap (λ r. then_read r (λ word more. with_front (word ∷ []) (words_at n more))) (numeral_back 4294967295 w (flat_map (part_text 46) ws ++ 62 ∷ rest) (omega (arith, all.0)) (omega arith) (no_digit_words ws rest))
    ∙ ap (with_front (w ∷ [])) (words_back ws rest n (omega arith) all.1)

pub reference_back : (r : RefParts) (rest : List ℕ) → length r.node ≤ 255 → scalars r.node ≡ true → r.creation < 2 ^ 32 → AllByRecursion (λ w. w < 2 ^ 32) r.words → length r.words ≤ 3 → 1 ≤ length r.words
    → reference_at (drop 1 (reference_text r ++ rest)) ≡ Some (r, rest)
unfolding reference_at
reference_back r rest few s c all most some =
    ap (λ t. then_read (atom_at t) (λ node r1. then_read (part_at 47 r1) (λ creation r2. then_read (words_at 3 r2) (λ words more. some_words node creation words more))))
    (regroup_four (atom_text r.node) (part_text 47 r.creation) (flat_map (part_text 46) r.words) (62 ∷ []) rest)
    ∙ ap (λ x. then_read x (λ node r1. then_read (part_at 47 r1) (λ creation r2. then_read (words_at 3 r2) (λ words more. some_words node creation words more))))
    (atom_back r.node (part_text 47 r.creation ++ (flat_map (part_text 46) r.words ++ 62 ∷ rest)) few s refl)
    ∙ ap (λ x. then_read x (λ creation r2. then_read (words_at 3 r2) (λ words more. some_words r.node creation words more)))
    (part_back 47 r.creation (flat_map (part_text 46) r.words ++ 62 ∷ rest) c (no_digit_words r.words rest))
    ∙ ap (λ x. then_read x (λ words more. some_words r.node r.creation words more)) (words_back r.words rest 3 most all)
    ∙ ap (λ b. cond b None (Some (record { node = r.node; creation = r.creation; words = r.words }, rest))) (ne_eqb (length r.words) 0 (λ e. omega arith))

-- ---- elements

-- the text of an element is read as it, wherever no character of a word follows, and no closing bracket begins it
pub record IsBack {A : Type 0} (element : List ℕ → Read A) (text : A → List ℕ) (last : ℕ) (x : A) : Type 0 where
  pub back : (rest : List ℕ) → NoWord rest → element (text x ++ rest) ≡ Some (x, rest)
  pub opens : (rest : List ℕ) → begins last (text x ++ rest) ≡ false
  pub some : 1 ≤ length (text x)

abbrev pub AreBack : {A : Type 0} → (List ℕ → Read A) → (A → List ℕ) → ℕ → List A → Type 0
AreBack element text last [] = Unit {0}
AreBack element text last (x ∷ xs) = IsBack element text last x × AreBack element text last xs

module _ {A : Type 0} (element : List ℕ → Read A) (text : A → List ℕ) (last : ℕ) (end : (rest : List ℕ) → NoWord (last ∷ rest)) (other : (last == 44) ≡ false) where
  -- some elements, in so many turns at most
  from_back : (x : A) (xs : List A) (rest : List ℕ) (n : ℕ) → length (x ∷ xs) ≤ n → AreBack element text last (x ∷ xs) → elements_from element last n (text x ++ (more_text text xs ++ last ∷ rest)) ≡ Some (x ∷ xs, rest)
  from_back x xs rest zero fits all = absurd (omega arith)
  from_back x [] rest (suc n) fits all =
      elements_end element last n (text x ++ last ∷ rest) (last ∷ rest) x (all.0.back (last ∷ rest) (end rest)) other
      ∙ ap (λ b. cond b (Some (x ∷ [], rest)) None) (eq-eqb last last refl)
  from_back x (y ∷ ys) rest (suc n) fits all =
      elements_turn element last n (text x ++ (more_text text (y ∷ ys) ++ last ∷ rest)) (more_text text (y ∷ ys) ++ last ∷ rest) x (all.0.back (more_text text (y ∷ ys) ++ last ∷ rest) refl) refl
      ∙ ap (λ t. with_front (x ∷ []) (elements_from element last n t)) (append_assoc (text y) (more_text text ys) (last ∷ rest))
      ∙ ap (with_front (x ∷ [])) (from_back y ys rest n (omega arith) all.1)

  many : (xs : List A) → AreBack element text last xs → length xs ≤ length (more_text text xs)
  many [] all = omega arith
  many (x ∷ xs) all = omega (arith, length-append (text x) (more_text text xs), many xs all.1)

  pub elements_back : (xs : List A) (rest : List ℕ) → AreBack element text last xs → elements_at element last (with_commas text xs ++ last ∷ rest) ≡ Some (xs, rest)
  elements_back [] rest all = ap (λ b. cond b (Some ([], rest)) (elements_from element last (length (last ∷ rest)) (last ∷ rest))) (eq-eqb last last refl)
  elements_back (x ∷ xs) rest all =
      let more : List ℕ = more_text text xs ++ last ∷ rest in
      let enough : length (x ∷ xs) ≤ length (text x ++ (more_text text xs ++ last ∷ rest)) =
      omega (arith, length-append (text x) (more_text text xs ++ last ∷ rest), length-append (more_text text xs) (last ∷ rest), many xs all.1, all.0.some) in
      ap (elements_at element last) (append_assoc (text x) (more_text text xs) (last ∷ rest))
      ∙ ap (λ b. cond b (Some ([], drop 1 (text x ++ more))) (elements_from element last (length (text x ++ more)) (text x ++ more))) (all.0.opens more)
      ∙ from_back x xs rest (length (text x ++ more)) enough all
