-- How often texts occur, where one occurs once more.
use Rattle.std.proofs.Common.{◌≡◌, ◌≢◌, ◌<◌, ◌≤◌, ℕ, ◌+◌, Bool, true, false, List, [], ◌∷◌, ◌++◌, Some}
use Rattle.std.proofs.Common.{None, length, get_or, cond, refl, sym, ap, ◌∙◌, subst, arith, ◌⊎◌, inl, inr}
use Rattle.std.specs.Prelude.{bytes_eq, slice_get, string_bytes}
use Rattle.std.proofs.Math.ListN.{set}
use Rattle.std.proofs.lemmas.Bool.{cases_lt}
use Rattle.std.proofs.lemmas.List.{get_or-set_other, get_or-set_same, get_or_append_left}
use Rattle.std.proofs.lemmas.List.{get_or_at, length-set, length_push}
use Rattle.std.proofs.lemmas.List.Sums.{sum_by-set, sum_by_push}
use Rattle.std.proofs.lemmas.Option.{get_or_from_slice_get, slice_get-get_or, slice_get_read, slice_get_within}
use Rattle.std.proofs.lemmas.Slice.Eq.{bytes_eq-Decides}
use Rattle.pg_explore_tally.specs.declared.counts.Counted.{Counted}
use Rattle.pg_explore_tally.specs.Counts.{AreOnce, IsFound, IsOneMore, times, times_by, with_one}
use Rattle.pg_explore_tally.proofs.Walking.{is_same}

by_value : (b : Bool) → (b ≡ true) ⊎ (b ≡ false)
by_value true = inl refl
by_value false = inr refl

other_text : (a b : List ℕ) → a ≢ b → bytes_eq a b ≡ false
other_text a b n = elim (by_value (bytes_eq a b)) as (λ _. bytes_eq a b ≡ false) [ inl e ↦ absurd (n ((bytes_eq-Decides a b).0 e)) | inr e ↦ e ]

-- what a row says of a text
says_of : (row : Counted) (text : List ℕ) (b : Bool) → bytes_eq (string_bytes row.text) text ≡ b → times_by text row ≡ cond b row.count 0
says_of row text b e = ap (λ (t : Bool). cond t row.count 0) e

says_this : (row : Counted) (text : List ℕ) → string_bytes row.text ≡ text → times_by text row ≡ row.count
says_this row text e = says_of row text true ((bytes_eq-Decides (string_bytes row.text) text).1 e)

says_none : (row : Counted) (text other : List ℕ) → string_bytes row.text ≡ text → other ≢ text → times_by other row ≡ 0
says_none row text other e n = says_of row other false (other_text (string_bytes row.text) other (λ f. n (sym f ∙ e)))

-- where a row stands in a list that was changed at a place
set_at_cases : (rows : List Counted) (place i : ℕ) (new one : Counted) → slice_get (set rows place new) i ≡ Some one → ((i ≡ place) × (new ≡ one)) ⊎ (slice_get rows i ≡ Some one)
set_at_cases rows place i new one e =
    let l = slice_get_within (set rows place new) i one e in
    let within : i < length rows = omega (arith, length-set rows place new) in
    let is = get_or_from_slice_get (set rows place new) i one one e in
    elim (is_same place i) as (λ _. ((i ≡ place) × (new ≡ one)) ⊎ (slice_get rows i ≡ Some one)) [
      | inl at ↦ inl (at, sym (subst (λ (p : ℕ). get_or (set rows place new) p one ≡ new) (sym at) (get_or-set_same rows place new one (omega arith))) ∙ is)
      | inr other ↦ inr (slice_get-get_or rows i one within ∙ ap Some (sym (get_or-set_other rows place i new one other) ∙ is))
    ]

push_at_cases : (rows : List Counted) (i : ℕ) (new one : Counted) → slice_get (rows ++ new ∷ []) i ≡ Some one → ((i ≡ length rows) × (new ≡ one)) ⊎ (slice_get rows i ≡ Some one)
push_at_cases rows i new one e =
    let l = slice_get_within (rows ++ new ∷ []) i one e in
    let is = get_or_from_slice_get (rows ++ new ∷ []) i one one e in
    elim (cases_lt i (length rows)) as (λ _. ((i ≡ length rows) × (new ≡ one)) ⊎ (slice_get rows i ≡ Some one)) [
      | inl m ↦ inr (slice_get-get_or rows i one m ∙ ap Some (sym (get_or_append_left rows (new ∷ []) one i m) ∙ is))
      | inr m ↦
          let at : i ≡ length rows = omega (arith, length_push rows new) in
          inl (at, sym (subst (λ (p : ℕ). get_or (rows ++ new ∷ []) p one ≡ new) (sym at) (get_or_at rows new [] one (length rows) refl)) ∙ is)
    ]

-- a row of the same text stood where one stands
record StoodAt (rows : List Counted) (i : ℕ) (is : List ℕ) : Type 0 where
  pub row : Counted
  pub at : slice_get rows i ≡ Some row
  pub text : string_bytes row.text ≡ is

stood : (rows : List Counted) (place i : ℕ) (row one : Counted) → slice_get rows place ≡ Some row → slice_get (set rows place (with_one row)) i ≡ Some one → StoodAt rows i (string_bytes one.text)
stood rows place i row one at e = elim (set_at_cases rows place i (with_one row) one e) as (λ _. StoodAt rows i (string_bytes one.text)) [
  | inl here ↦ record { row = row; at = subst (λ (p : ℕ). slice_get rows p ≡ Some row) (sym here.0) at; text = ap (λ (c : Counted). string_bytes c.text) here.1 }
  | inr there ↦ record { row = one; at = there; text = refl }
]

more_by : (n m a b k : ℕ) → n + a ≡ m + b → b ≡ a + k → n ≡ m + k
more_by n m a b k e f = omega arith

pub counted : (rows : List Counted) (place : ℕ) (row : Counted) (text : List ℕ) → slice_get rows place ≡ Some row → string_bytes row.text ≡ text → IsOneMore text rows (set rows place (with_one row))
counted rows place row text at is =
    let within = slice_get_within rows place row at in
    let here = get_or_from_slice_get rows place row row at in
    record {
      this = more_by (times (set rows place (with_one row)) text) (times rows text) (times_by text (get_or rows place row)) (times_by text (with_one row)) 1
          (sum_by-set (times_by text) rows place (with_one row) row within)
          (says_this (with_one row) text is ∙ ap (λ (n : ℕ). n + 1) (sym (ap (times_by text) here ∙ says_this row text is)));
      others = λ other n. more_by (times (set rows place (with_one row)) other) (times rows other) (times_by other (get_or rows place row)) (times_by other (with_one row)) 0
          (sum_by-set (times_by other) rows place (with_one row) row within)
          (says_none (with_one row) text other is n ∙ ap (λ (n : ℕ). n + 0) (sym (ap (times_by other) here ∙ says_none row text other is n)))
          ∙ add_none (times rows other);
      once = λ h i j one other e f same.
          let a = stood rows place i row one at e in
          let b = stood rows place j row other at f in
          h i j a.row b.row a.at b.at (a.text ∙ same ∙ sym b.text);
    }
  where
    add_none : (n : ℕ) → n + 0 ≡ n
    add_none n = omega arith

once_pushed : (rows : List Counted) (row : Counted) (text : List ℕ) → IsFound rows text None → string_bytes row.text ≡ text → AreOnce rows → (i j : ℕ) (one other : Counted)
    → slice_get (rows ++ row ∷ []) i ≡ Some one → slice_get (rows ++ row ∷ []) j ≡ Some other → string_bytes one.text ≡ string_bytes other.text → i ≡ j
once_pushed rows row text none is h i j one other e f same = elim (push_at_cases rows i row one e) as (λ _. i ≡ j) [
  | inl a ↦ elim (push_at_cases rows j row other f) as (λ _. i ≡ j) [
    | inl b ↦ a.0 ∙ sym b.0
    | inr b ↦ absurd (none j other b (sym same ∙ sym (ap (λ (c : Counted). string_bytes c.text) a.1) ∙ is))
  ]
  | inr a ↦ elim (push_at_cases rows j row other f) as (λ _. i ≡ j) [
    | inl b ↦ absurd (none i one a (same ∙ sym (ap (λ (c : Counted). string_bytes c.text) b.1) ∙ is))
    | inr b ↦ h i j one other a b same
  ]
]

pub pushed : (rows : List Counted) (row : Counted) (text : List ℕ) → IsFound rows text None → string_bytes row.text ≡ text → row.count ≡ 1 → IsOneMore text rows (rows ++ row ∷ [])
pushed rows row text none is one = record {
  this = sum_by_push (times_by text) rows row ∙ ap (λ (n : ℕ). times rows text + n) (says_this row text is ∙ one);
  others = λ other n. sum_by_push (times_by other) rows row ∙ ap (λ (m : ℕ). times rows other + m) (says_none row text other is n) ∙ add_none (times rows other);
  once = λ h i j a b e f same. once_pushed rows row text none is h i j a b e f same;
}
  where
    add_none : (n : ℕ) → n + 0 ≡ n
    add_none n = omega arith

-- ---- while a text is looked for

-- none of the first rows has the text
abbrev pub NoneBefore : List Counted → List ℕ → ℕ → Type 0
NoneBefore rows text count = (place : ℕ) (row : Counted) → place < count → slice_get rows place ≡ Some row → string_bytes row.text ≢ text

pub at_place : (rows : List Counted) (place : ℕ) (row : Counted) → place < length rows → row ≡ get_or rows place row → slice_get rows place ≡ Some row
at_place rows place row l e = slice_get_read rows (length rows) place row refl l e

pub none_more : (rows : List Counted) (text : List ℕ) (place : ℕ) (here : Counted) → slice_get rows place ≡ Some here → false ≡ bytes_eq (string_bytes here.text) text → NoneBefore rows text place
    → NoneBefore rows text (place + 1)
none_more rows text place here at e h i row l there same = elim (is_same place i) as (λ _. ⊥) [
  | inl this ↦ clash (e ∙ (bytes_eq-Decides (string_bytes here.text) text).1
      (ap (λ (c : Counted). string_bytes c.text) (some_row here row (sym at ∙ subst (λ (p : ℕ). slice_get rows p ≡ Some row) this there)) ∙ same))
  | inr other ↦ h i row (omega arith) there same
]
  where
    clash : false ≡ true → ⊥
    clash e = absurd (cc)

    some_row : (a b : Counted) → Some a ≡ Some b → a ≡ b
    some_row a b e = cc

pub none_at_all : (rows : List Counted) (text : List ℕ) (place : ℕ) → length rows ≤ place → NoneBefore rows text place → IsFound rows text None
none_at_all rows text place l h i row at = h i row (let m = slice_get_within rows i row at in omega arith) at
