-- Elements that are read one after another.
use Rattle.std.proofs.Common.{◌≡◌, ◌≢◌, ℕ, zero, suc, ◌<◌, ◌≤◌, true, false, cond, List, [], ◌∷◌, ◌++◌, length, drop}
use Rattle.std.proofs.Common.{refl, sym, ap, ◌∙◌, append_assoc, length-drop, arith, Some, None, subst, Result, Ok, Err}
use Rattle.std.specs.Prelude.{IfErr}
use Rattle.pg_text.specs.declared.fault.TextFault.{TextFault}
use Rattle.pg_text.specs.declared.fault.TextFault.TheVariants.{BadText}
use Rattle.std.proofs.lemmas.List.{append-nil}
use Rattle.pg_text.specs.Reading.{Read, with_front, then_read, begins, ended, number_at, words_at}
use Rattle.pg_text.specs.Reading.{next_element, elements_from, elements_at, term_at, leaf_at, as_term}
use Rattle.pg_term.specs.declared.term.Term.{Tuple, List as Listed}

module _ {A : Type 0} where
  pub no_front : (read : Read (List A)) → read ≡ with_front [] read
  no_front None = refl
  no_front (Some x) = refl

  pub front_more : (front : List A) (x : A) (read : Read (List A)) → with_front front (with_front (x ∷ []) read) ≡ with_front (front ++ x ∷ []) read
  front_more front x None = refl
  front_more front x (Some y) = ap (λ xs. Some (xs, y.1)) (sym (append_assoc front (x ∷ []) y.0))

  -- the end, where it stands there
  pub ended_here : (last : ℕ) (x : A) (text : List ℕ) → begins last text ≡ true → ended last x text ≡ Some (x, drop 1 text)
  ended_here last x text e = ap (λ b. cond b (Some (x, drop 1 text)) None) e

  pub not_ended : (last : ℕ) (x : A) (text : List ℕ) → begins last text ≡ false → ended last x text ≡ None
  not_ended last x text e = ap (λ b. cond b (Some (x, drop 1 text)) None) e

  -- an element and a comma, and those that follow
  pub elements_turn : (element : List ℕ → Read A) (last n : ℕ) (rest follows : List ℕ) (x : A) → element rest ≡ Some (x, follows) → begins 44 follows ≡ true
      → elements_from element last (suc n) rest ≡ with_front (x ∷ []) (elements_from element last n (drop 1 follows))
  elements_turn element last n rest follows x e comma =
      ap (λ r. then_read r (λ y more. next_element last y more (elements_from element last n))) e
      ∙ ap (λ b. cond b (with_front (x ∷ []) (elements_from element last n (drop 1 follows))) (ended last (x ∷ []) follows)) comma

  -- the last element
  pub elements_end : (element : List ℕ → Read A) (last n : ℕ) (rest follows : List ℕ) (x : A) → element rest ≡ Some (x, follows) → begins 44 follows ≡ false
      → elements_from element last (suc n) rest ≡ ended last (x ∷ []) follows
  elements_end element last n rest follows x e comma =
      ap (λ r. then_read r (λ y more. next_element last y more (elements_from element last n))) e
      ∙ ap (λ b. cond b (with_front (x ∷ []) (elements_from element last n (drop 1 follows))) (ended last (x ∷ []) follows)) comma

  -- no element
  pub elements_none : (element : List ℕ → Read A) (last n : ℕ) (rest : List ℕ) → element rest ≡ None → elements_from element last n rest ≡ None
  elements_none element last zero rest e = refl
  elements_none element last (suc n) rest e = ap (λ r. then_read r (λ y more. next_element last y more (elements_from element last n))) e

-- What is known while elements are read: those that were read, and then what is read of the rest.
pub record Goes {A : Type 0} (element : List ℕ → Read A) (last : ℕ) (text : List ℕ) (front : List A) (rest : List ℕ) : Type 0 where
  pub most : ℕ
  pub enough : length rest ≤ most
  pub whole : elements_at element last text ≡ with_front front (elements_from element last most rest)

module _ {A : Type 0} (element : List ℕ → Read A) (last : ℕ) (text : List ℕ) where
  pub goes_begin : begins last text ≡ false → Goes element last text [] text
  goes_begin e = record {
    most = length text;
    enough = omega arith;
    whole = ap (λ b. cond b (Some ([], drop 1 text)) (elements_from element last (length text) text)) e ∙ no_front (elements_from element last (length text) text);
  }

  pub goes_on : (front : List A) (rest follows : List ℕ) (x : A) → element rest ≡ Some (x, follows) → length follows < length rest → begins 44 follows ≡ true
      → Goes element last text front rest → Goes element last text (front ++ x ∷ []) (drop 1 follows)
  goes_on front rest follows x e shorter comma g = step g.most g.enough g.whole
    where
      step : (most : ℕ) → length rest ≤ most → elements_at element last text ≡ with_front front (elements_from element last most rest) → Goes element last text (front ++ x ∷ []) (drop 1 follows)
      step zero enough whole = absurd (omega arith)
      step (suc n) enough whole = record {
        most = n;
        enough = omega (arith, length-drop 1 follows);
        whole = whole ∙ ap (with_front front) (elements_turn element last n rest follows x e comma) ∙ front_more front x (elements_from element last n (drop 1 follows));
      }

  pub goes_end : (front : List A) (rest follows : List ℕ) (x : A) → element rest ≡ Some (x, follows) → length follows < length rest → begins 44 follows ≡ false → begins last follows ≡ true
      → Goes element last text front rest → elements_at element last text ≡ Some (front ++ x ∷ [], drop 1 follows)
  goes_end front rest follows x e shorter comma end g = step g.most g.enough g.whole
    where
      step : (most : ℕ) → length rest ≤ most → elements_at element last text ≡ with_front front (elements_from element last most rest) → elements_at element last text ≡ Some (front ++ x ∷ [], drop 1 follows)
      step zero enough whole = absurd (omega arith)
      step (suc n) enough whole = whole ∙ ap (with_front front) (elements_end element last n rest follows x e comma ∙ ended_here last (x ∷ []) follows end)

  pub goes_nowhere : (front : List A) (rest follows : List ℕ) (x : A) → element rest ≡ Some (x, follows) → length follows < length rest → begins 44 follows ≡ false → begins last follows ≡ false
      → Goes element last text front rest → elements_at element last text ≡ None
  goes_nowhere front rest follows x e shorter comma end g = step g.most g.enough g.whole
    where
      step : (most : ℕ) → length rest ≤ most → elements_at element last text ≡ with_front front (elements_from element last most rest) → elements_at element last text ≡ None
      step zero enough whole = absurd (omega arith)
      step (suc n) enough whole = whole ∙ ap (with_front front) (elements_end element last n rest follows x e comma ∙ not_ended last (x ∷ []) follows end)

  pub goes_bad : (front : List A) (rest : List ℕ) → element rest ≡ None → Goes element last text front rest → elements_at element last text ≡ None
  goes_bad front rest e g = g.whole ∙ ap (with_front front) (elements_none element last g.most rest e)

pub goes_same : {A : Type 0} (element : List ℕ → Read A) (last : ℕ) (text : List ℕ) (front front2 : List A) (rest rest2 : List ℕ) → front ≡ front2 → rest ≡ rest2
    → Goes element last text front rest → Goes element last text front2 rest2
goes_same element last text front front2 rest rest2 e f g = subst (λ x. Goes element last text x rest2) e (subst (λ y. Goes element last text front y) f g)

-- an error of a call where nothing is read
pub not_read : {T : Type 0} (P : Type 0) (result : Result T TextFault) → P → IfErr result (λ fault. fault ≡ BadText → P)
not_read P (Ok x) p = tt
not_read P (Err fault) p = λ e. p

-- where no bracket stands a term holds no terms
pub term_leaf : (room : ℕ) (text : List ℕ) → room ≢ 0 → begins 123 text ≡ false → begins 91 text ≡ false → leaf_at text ≡ term_at room text
unfolding term_at
term_leaf zero text some a b = absurd (some refl)
term_leaf (suc room) text some a b =
    ap (λ t. cond t (as_term Listed (elements_at (term_at room) 93 (drop 1 text))) (leaf_at text)) (sym b)
    ∙ ap (λ t. cond t (as_term Tuple (elements_at (term_at room) 125 (drop 1 text))) (cond (begins 91 text) (as_term Listed (elements_at (term_at room) 93 (drop 1 text))) (leaf_at text))) (sym a)

-- ---- the words of a reference

pub words_turn : (n : ℕ) (rest follows : List ℕ) (word : ℕ) → begins 46 rest ≡ true → number_at (drop 1 rest) ≡ Some (word, follows) → words_at (suc n) rest ≡ with_front (word ∷ []) (words_at n follows)
unfolding words_at
words_turn n rest follows word dot e =
    ap (λ b. cond b (then_read (number_at (drop 1 rest)) (λ w more. with_front (w ∷ []) (words_at n more))) (ended 62 [] rest)) dot
    ∙ ap (λ r. then_read r (λ w more. with_front (w ∷ []) (words_at n more))) e

pub words_bad : (n : ℕ) (rest : List ℕ) → begins 46 rest ≡ true → number_at (drop 1 rest) ≡ None → words_at (suc n) rest ≡ None
unfolding words_at
words_bad n rest dot e =
    ap (λ b. cond b (then_read (number_at (drop 1 rest)) (λ w more. with_front (w ∷ []) (words_at n more))) (ended 62 [] rest)) dot
    ∙ ap (λ r. then_read r (λ w more. with_front (w ∷ []) (words_at n more))) e

-- no word follows
pub words_end : (n : ℕ) (rest : List ℕ) → begins 46 rest ≡ false → words_at n rest ≡ ended 62 [] rest
unfolding words_at
words_end zero rest dot = refl
words_end (suc n) rest dot = ap (λ b. cond b (then_read (number_at (drop 1 rest)) (λ w more. with_front (w ∷ []) (words_at n more))) (ended 62 [] rest)) dot

-- What is known while so many words may still come.
pub record WordsGo (left : ℕ) (text front rest : List ℕ) : Type 0 where
  pub whole : words_at 3 text ≡ with_front front (words_at left rest)

pub words_begin : (text : List ℕ) → WordsGo 3 text [] text
words_begin text = record { whole = no_front (words_at 3 text) }

pub words_go_on : (left less : ℕ) (text front rest follows : List ℕ) (word : ℕ) → left ≡ suc less → begins 46 rest ≡ true → number_at (drop 1 rest) ≡ Some (word, follows)
    → WordsGo left text front rest → WordsGo less text (front ++ word ∷ []) follows
words_go_on left less text front rest follows word e dot r g = record {
  whole = g.whole ∙ ap (λ n. with_front front (words_at n rest)) e ∙ ap (with_front front) (words_turn less rest follows word dot r) ∙ front_more front word (words_at less follows);
}

pub words_stay : (left less : ℕ) (text front rest : List ℕ) → begins 46 rest ≡ false → WordsGo left text front rest → WordsGo less text front rest
words_stay left less text front rest dot g = record { whole = g.whole ∙ ap (with_front front) (words_end left rest dot ∙ sym (words_end less rest dot)) }

pub words_same : (left : ℕ) (text front front2 rest rest2 : List ℕ) → front ≡ front2 → rest ≡ rest2 → WordsGo left text front rest → WordsGo left text front2 rest2
words_same left text front front2 rest rest2 e f g = subst (λ x. WordsGo left text x rest2) e (subst (λ y. WordsGo left text front y) f g)

pub words_go_bad : (left less : ℕ) (text front rest : List ℕ) → left ≡ suc less → begins 46 rest ≡ true → number_at (drop 1 rest) ≡ None → WordsGo left text front rest → words_at 3 text ≡ None
words_go_bad left less text front rest e dot r g = g.whole ∙ ap (λ n. with_front front (words_at n rest)) e ∙ ap (with_front front) (words_bad less rest dot r)

pub words_whole : (text front rest : List ℕ) → begins 62 rest ≡ true → WordsGo 0 text front rest → words_at 3 text ≡ Some (front, drop 1 rest)
unfolding words_at
words_whole text front rest e g = g.whole ∙ ap (with_front front) (ended_here 62 [] rest e) ∙ ap (λ xs. Some (xs, drop 1 rest)) (append-nil front)

pub words_none : (text front rest : List ℕ) → begins 62 rest ≡ false → WordsGo 0 text front rest → words_at 3 text ≡ None
unfolding words_at
words_none text front rest e g = g.whole ∙ ap (with_front front) (not_ended 62 [] rest e)
