-- Words of a line.
use Rattle.std.proofs.Common.{◌≡◌, ℕ, suc, ◌+◌, ◌<◌, ◌≤◌, Bool, true, false, List, [], ◌∷◌, length, take}
use Rattle.std.proofs.Common.{drop, get_or, if◌then◌else◌, arith, rules, refl, ap, sym, subst, add-one, ◌∙◌}
use Rattle.std.proofs.lemmas.Bool.Decides.{nat_tests}
use Rattle.std.specs.Prelude.{slice_range, ◌-◌, Option, Some, None, ◌==◌}
use Rattle.pg_script_lines.specs.declared.words.Stand.{Stand}
use Rattle.pg_script_lines.specs.declared.words.Stand.TheVariants.{Bare, Quoted, Escaped}
use Rattle.pg_script_lines.specs.Words.{stand_after, ends_word, word_len, onto, quoted_words, words_of_rest}

onto_some : (b : ℕ) (words : List (List ℕ)) → onto b words ≡ [] → ⊥
onto_some b [] e = cc
onto_some b (w ∷ ws) e = cc

either_some : (e : Bool) (xs ys : List (List ℕ)) → (xs ≡ [] → ⊥) → (ys ≡ [] → ⊥) → (if e then xs else ys) ≡ [] → ⊥
either_some true xs ys hx hy e = hx e
either_some false xs ys hx hy e = hy e

pub never_none : (s : Stand) (t : List ℕ) → quoted_words s t ≡ [] → ⊥
never_none s [] e = cc
never_none s (b ∷ bs) e = either_some (ends_word s b) ([] ∷ quoted_words Bare bs) (onto b (quoted_words (stand_after s b) bs)) (λ h. cc) (onto_some b (quoted_words (stand_after s b) bs)) e

-- what the walk says of the first word
pub record Walk (s : Stand) (t : List ℕ) (n : ℕ) : Type 0 where
  pub within : n ≤ length t
  pub space : n < length t → get_or t n 0 ≡ 32
  pub all : n ≡ length t → quoted_words s t ≡ t ∷ []
  pub parts : n < length t → quoted_words s t ≡ take n t ∷ quoted_words Bare (drop (suc n) t)

is_space : (s : Stand) (b : ℕ) → ends_word s b ≡ true → b ≡ 32
is_space Bare b e = grind (arith, nat_tests)
is_space Quoted b e = cc
is_space Escaped b e = cc

here : (s : Stand) (b : ℕ) (bs : List ℕ) → ends_word s b ≡ true → Walk s (b ∷ bs) 0
here s b bs e = record {
  within = omega arith;
  space = λ h. is_space s b e;
  all = λ h. absurd (omega arith);
  parts = λ h. rw e refl;
}

there : (s : Stand) (b : ℕ) (bs : List ℕ) (n : ℕ) → ends_word s b ≡ false → Walk (stand_after s b) bs n → Walk s (b ∷ bs) (suc n)
there s b bs n e w = record {
  within = let h : n ≤ length bs = w.within in omega arith;
  space = λ h. let k : n < length bs = omega arith in w.space k;
  all = λ h. let k : n ≡ length bs = omega arith in rw (e, w.all k) refl;
  parts = λ h. let k : n < length bs = omega arith in rw (e, w.parts k) refl;
}

mutual_step : (s : Stand) (b : ℕ) (bs : List ℕ) (e : Bool) → ends_word s b ≡ e → Walk (stand_after s b) bs (word_len (stand_after s b) bs) → Walk s (b ∷ bs) (word_len s (b ∷ bs))
mutual_step s b bs true p w = rw p (here s b bs p)
mutual_step s b bs false p w = rw p (there s b bs (word_len (stand_after s b) bs) p w)

pub walked : (s : Stand) (t : List ℕ) → Walk s t (word_len s t)
walked s [] = record { within = omega arith; space = λ h. absurd (omega arith); all = λ h. refl; parts = λ h. absurd (omega arith) }
walked s (b ∷ bs) = mutual_step s b bs (ends_word s b) refl (walked (stand_after s b) bs)

pub whole_word : (text bytes : List ℕ) (n : ℕ) → bytes ≡ text → n ≡ word_len Bare bytes → n ≡ length text → quoted_words Bare text ≡ text ∷ []
whole_word text bytes n e is whole =
    let w : Walk Bare text (word_len Bare text) = walked Bare text in
    w.all (sym (is ∙ ap (word_len Bare) e) ∙ whole)

pub front_word : (text bytes : List ℕ) (n : ℕ) → bytes ≡ text → n ≡ word_len Bare bytes → n ≤ length bytes → (n ≡ length text → ⊥)
    → quoted_words Bare text ≡ slice_range text 0 n ∷ quoted_words Bare (drop (n + 1) text)
front_word text bytes n e is within part =
    let at : word_len Bare text ≡ n = sym (is ∙ ap (word_len Bare) e) in
    let w : Walk Bare text n = subst (Walk Bare text) at (walked Bare text) in
    let few : n ≤ length text = w.within in
    let h : n < length text = omega arith in
    let all : n - 0 ≡ n = omega arith in
    rw (all, add-one) (w.parts h)
