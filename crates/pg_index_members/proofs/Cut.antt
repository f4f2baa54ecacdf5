-- Rows where a search stopped.
use Rattle.std.proofs.Common.{◌≡◌, ℕ, suc, zero, ◌+◌, ◌-◌, ◌<◌, ◌≤◌, Bool, true, false, ◌&&◌, cond, Some, List, []}
use Rattle.std.proofs.Common.{◌∷◌, ◌++◌, length, get_or, take, drop, set, refl, sym, ap, subst, ◌∙◌, arith, add-one}
use Rattle.std.specs.Prelude.{nat_le, slice_get}
use Rattle.std.specs.List.{AllByRecursion, insert, remove}
use Rattle.std.proofs.lemmas.List.{take-append-drop, set_split}
use Rattle.std.proofs.Math.Seq.{drop-cons}
use Rattle.std.proofs.lemmas.Bool.Decides.{nat_tests}
use Rattle.std.specs.declared.cmp.Ordering.TheVariants.{Less}
use Rattle.pg_term.specs.declared.pid.Pid.{Pid}
use Rattle.pg_term.specs.Same.{same_pid, pid_cmp}
use Rattle.pg_index_members.specs.declared.row.Row.{Row}
use Rattle.pg_index_members.specs.Rows.{counts_of, total_of, AreRows, all_before, IsCut}
use Rattle.pg_index_members.specs.Rows.{is_here, added, added_by, one_taken, taken_by}
use Rattle.pg_index_members.specs.Edges.{IsDownward}
use Rattle.pg_index_members.proofs.Order.{equal_if, greater_if}
use Rattle.pg_index_members.proofs.Flat.{below, rows_left, rows_right, total-append, counts-append}
use Rattle.pg_index_members.proofs.Flat.{none_less, count_head, added_after, taken_after}

pub all_at : (P : Row → Type 0) (rows : List Row) (i : ℕ) (d : Row) → AllByRecursion P rows → i < length rows → P (get_or rows i d)
all_at P [] i d h k = absurd (omega arith)
all_at P (r ∷ rs) zero d h k = h.0
all_at P (r ∷ rs) (suc i) d h k = all_at P rs i d h.1 (omega arith)

module _ (p : Pid → Bool) (down : IsDownward p) where
  -- a row before the edge has such rows before it
  front : (rows : List Row) (i : ℕ) (d : Row) → AreRows rows → i < length rows → p (get_or rows i d).pid ≡ true → AllByRecursion (λ r. p r.pid ≡ true) (take (suc i) rows)
  front [] i d h k e = absurd (omega arith)
  front (r ∷ rs) zero d h k e = (e, tt)
  front (r ∷ rs) (suc i) d h k e = (down r.pid (get_or rs i d).pid (all_at (λ later. pid_cmp r.pid later.pid ≡ Less) rs i d h.1 (omega arith)) e, front rs i d h.2 (omega arith) e)

  pub front_more : (rows : List Row) (i : ℕ) (d : Row) → AreRows rows → i < length rows → p (get_or rows i d).pid ≡ true → AllByRecursion (λ r. p r.pid ≡ true) (take (i + 1) rows)
  front_more rows i d h k e = subst (λ (n : ℕ). AllByRecursion (λ r. p r.pid ≡ true) (take n rows)) (sym (add-one i)) (front rows i d h k e)

  not_later : (r : Row) (rs : List Row) → p r.pid ≡ false → AllByRecursion (λ later. pid_cmp r.pid later.pid ≡ Less) rs → AllByRecursion (λ s. p s.pid ≡ false) rs
  not_later r [] e h = tt
  not_later r (s ∷ rs) e h = (go (p s.pid) refl, not_later r rs e h.1)
    where
      go : (b : Bool) → p s.pid ≡ b → p s.pid ≡ false
      go true f = absurd (let g : p r.pid ≡ true = down r.pid s.pid h.0 f in cc)
      go false f = f

  -- a row that is not before the edge has such rows after it
  pub from : (rows : List Row) (i : ℕ) (d : Row) → AreRows rows → i < length rows → p (get_or rows i d).pid ≡ false → AllByRecursion (λ r. p r.pid ≡ false) (drop i rows)
  from [] i d h k e = absurd (omega arith)
  from (r ∷ rs) zero d h k e = (e, not_later r rs e h.1)
  from (r ∷ rs) (suc i) d h k e = from rs i d h.2 (omega arith) e

  -- ---- the last row decides

  pub last_decides : (rows : List Row) (r : Row) → AreRows (rows ++ r ∷ []) → all_before p (rows ++ r ∷ []) ≡ p r.pid
  last_decides [] r h = go (p r.pid)
    where
      go : (b : Bool) → (b && true) ≡ b
      go true = refl
      go false = refl
  last_decides (s ∷ rows) r h = go (p r.pid) refl (last_decides rows r h.2)
    where
      last_less : (rows : List Row) → AllByRecursion (λ later. pid_cmp s.pid later.pid ≡ Less) (rows ++ r ∷ []) → pid_cmp s.pid r.pid ≡ Less
      last_less [] k = k.0
      last_less (t ∷ ts) k = last_less ts k.1

      both : (a b : Bool) → b ≡ false → (a && b) ≡ false
      both true b e = e
      both false b e = refl

      go : (b : Bool) → p r.pid ≡ b → all_before p (rows ++ r ∷ []) ≡ p r.pid → (p s.pid && all_before p (rows ++ r ∷ [])) ≡ p r.pid
      go true e f = ap (λ b. b && all_before p (rows ++ r ∷ [])) (down s.pid r.pid (last_less rows h.1) e) ∙ f
      go false e f = both (p s.pid) (all_before p (rows ++ r ∷ [])) (f ∙ e) ∙ sym e

here_within : (pid : Pid) (rows : List Row) (at : ℕ) → is_here pid (drop at rows) ≡ true → at < length rows
here_within pid [] zero e = absurd cc
here_within pid [] (suc at) e = absurd cc
here_within pid (r ∷ rs) zero e = omega arith
here_within pid (r ∷ rs) (suc at) e = let f = here_within pid rs at e in omega arith

pub total_split : (rows : List Row) (at : ℕ) → total_of (take at rows) + total_of (drop at rows) ≡ total_of rows
total_split rows at = sym (total-append (take at rows) (drop at rows)) ∙ ap total_of (take-append-drop at rows)

pub rows_front : (rows : List Row) (at : ℕ) → AreRows rows → AreRows (take at rows)
rows_front rows at h = rows_left (take at rows) (drop at rows) (subst AreRows (sym (take-append-drop at rows)) h)

pub rows_rest : (rows : List Row) (at : ℕ) → AreRows rows → AreRows (drop at rows)
rows_rest rows at h = rows_right (take at rows) (drop at rows) (subst AreRows (sym (take-append-drop at rows)) h)

pub ends_at : (rows : List Row) (i : ℕ) (r : Row) → i + 1 ≡ length rows → slice_get rows i ≡ Some r → take i rows ++ r ∷ [] ≡ rows
ends_at [] i r h e = absurd (omega arith)
ends_at (s ∷ []) zero r h e = let f : s ≡ r = cc in ap (λ t. t ∷ []) (sym f)
ends_at (s ∷ (t ∷ ts)) zero r h e = absurd (omega arith)
ends_at (s ∷ rows) (suc i) r h e = ap (λ l. s ∷ l) (ends_at rows i r (omega arith) e)

pub some_row : (rows : List Row) (i : ℕ) (r : Row) → slice_get rows i ≡ Some r → 0 < length rows
some_row [] i r e = absurd cc
some_row (s ∷ rows) i r e = omega arith

pub last_of : (p : Pid → Bool) → IsDownward p → (rows : List Row) (r : Row) → AreRows rows → slice_get rows (length rows - 1) ≡ Some r → all_before p rows ≡ p r.pid
last_of p down rows r h e =
    let some = some_row rows (length rows - 1) r e in
    let ends : take (length rows - 1) rows ++ r ∷ [] ≡ rows = ends_at rows (length rows - 1) r (omega arith) e in
    ap (all_before p) (sym ends) ∙ last_decides p down (take (length rows - 1) rows) r (subst AreRows (sym ends) h)

positive : (rows : List Row) (i : ℕ) (row : Row) → AreRows rows → i < length rows → row ≡ get_or rows i row → 0 < row.count
positive [] i row h k is = absurd (omega arith)
positive (r ∷ rs) zero row h k is = subst (λ (x : Row). 0 < x.count) (sym is) h.0
positive (r ∷ rs) (suc i) row h k is = positive rs i row h.2 (omega arith) is

module _ (pid : Pid) (rows : List Row) (at : ℕ) (h : AreRows rows) (cut : IsCut (below pid) rows at) where
  whole : take at rows ++ drop at rows ≡ rows
  whole = take-append-drop at rows

  sorted : AreRows (drop at rows)
  sorted = rows_right (take at rows) (drop at rows) (subst AreRows (sym whole) h)

  count_rest : (b : List Row) → AreRows b → AllByRecursion (λ r. below pid r.pid ≡ false) b → (k : Bool) → is_here pid b ≡ k → counts_of b pid ≡ cond k (counts_of b pid) 0
  count_rest b s f true e = refl
  count_rest [] s f false e = refl
  count_rest (r ∷ b) s f false e = count_head pid r b s f.0 ∙ ap (λ t. cond t r.count 0) e

  counted : counts_of rows pid ≡ counts_of (drop at rows) pid
  counted = ap (λ l. counts_of l pid) (sym whole) ∙ counts-append (take at rows) (drop at rows) pid ∙ (let e = none_less pid (take at rows) cut.front in omega arith)

  pub missing_count : is_here pid (drop at rows) ≡ false → counts_of rows pid ≡ 0
  missing_count e = counted ∙ count_rest (drop at rows) sorted cut.rest false e

  added_whole : (n : ℕ) → added rows pid n ≡ take at rows ++ added (drop at rows) pid n
  added_whole n = ap (λ l. added l pid n) (sym whole) ∙ added_after pid n (take at rows) (drop at rows) cut.front

  taken_whole : (n : ℕ) → one_taken rows pid n ≡ take at rows ++ one_taken (drop at rows) pid n
  taken_whole n = ap (λ l. one_taken l pid n) (sym whole) ∙ taken_after pid n (take at rows) (drop at rows) cut.front

  missing_added_rest : (n : ℕ) (b : List Row) → AllByRecursion (λ r. below pid r.pid ≡ false) b → is_here pid b ≡ false → added b pid n ≡ record { pid = pid; count = n } ∷ b
  missing_added_rest n [] f e = refl
  missing_added_rest n (r ∷ b) f e = ap (λ o. added_by o r b (added b pid n) pid n) (greater_if r.pid pid f.0 e)

  pub missing_added : (n : ℕ) → is_here pid (drop at rows) ≡ false → insert rows at (record { pid = pid; count = n }) ≡ added rows pid n
  missing_added n e = ap (λ l. take at rows ++ l) (sym (missing_added_rest n (drop at rows) cut.rest e)) ∙ sym (added_whole n)

  missing_taken_rest : (n : ℕ) (b : List Row) → AllByRecursion (λ r. below pid r.pid ≡ false) b → is_here pid b ≡ false → one_taken b pid n ≡ b
  missing_taken_rest n [] f e = refl
  missing_taken_rest n (r ∷ b) f e = ap (λ o. taken_by o r b (one_taken b pid n) n) (greater_if r.pid pid f.0 e)

  pub missing_taken : (n : ℕ) → is_here pid (drop at rows) ≡ false → one_taken rows pid n ≡ rows
  missing_taken n e = taken_whole n ∙ ap (λ l. take at rows ++ l) (missing_taken_rest n (drop at rows) cut.rest e) ∙ whole

  module _ (row : Row) (is : row ≡ get_or rows at row) (here : is_here pid (drop at rows) ≡ true) where
    within : at < length rows
    within = here_within pid rows at here

    starts : drop at rows ≡ row ∷ drop (suc at) rows
    starts = drop-cons rows at row within ∙ ap (λ r. r ∷ drop (suc at) rows) (sym is)

    same : same_pid row.pid pid ≡ true
    same = ap (is_here pid) (sym starts) ∙ here

    pub found_count : counts_of rows pid ≡ row.count
    found_count = counted ∙ ap (λ l. counts_of l pid) starts ∙ count_head pid row (drop (suc at) rows) (subst AreRows starts sorted) (subst (AllByRecursion (λ r. below pid r.pid ≡ false)) starts cut.rest).0 ∙ ap (λ t. cond t row.count 0) same

    pub found_added : (n : ℕ) → set rows at (record { pid = row.pid; count = row.count + n }) ≡ added rows pid n
    found_added n =
        set_split rows at (record { pid = row.pid; count = row.count + n }) within
        ∙ ap (λ l. take at rows ++ l) (sym (ap (λ o. added_by o row (drop (suc at) rows) (added (drop (suc at) rows) pid n) pid n) (equal_if row.pid pid same)) ∙ ap (λ l. added l pid n) (sym starts))
        ∙ sym (added_whole n)

    pub found_counts : counts_of rows pid ≡ 0 → ⊥
    found_counts none = let some = positive rows at row h within is in let e = found_count in omega arith

    found_taken : (n : ℕ) → one_taken rows pid n ≡ take at rows ++ cond (nat_le row.count n) (drop (suc at) rows) (record { pid = row.pid; count = row.count - n } ∷ drop (suc at) rows)
    found_taken n = taken_whole n ∙ ap (λ l. take at rows ++ l) (ap (λ l. one_taken l pid n) starts ∙ ap (λ o. taken_by o row (drop (suc at) rows) (one_taken (drop (suc at) rows) pid n) n) (equal_if row.pid pid same))

    pub found_all : (n : ℕ) → row.count ≤ n → remove rows at ≡ one_taken rows pid n
    found_all n k = let e : nat_le row.count n ≡ true = grind (arith, nat_tests) in sym (found_taken n ∙ ap (λ t. take at rows ++ cond t (drop (suc at) rows) (record { pid = row.pid; count = row.count - n } ∷ drop (suc at) rows)) e)

    pub found_some : (n : ℕ) → n < row.count → set rows at (record { pid = row.pid; count = row.count - n }) ≡ one_taken rows pid n
    found_some n k = let e : nat_le row.count n ≡ false = grind (arith, nat_tests) in set_split rows at (record { pid = row.pid; count = row.count - n }) within ∙ sym (found_taken n ∙ ap (λ t. take at rows ++ cond t (drop (suc at) rows) (record { pid = row.pid; count = row.count - n } ∷ drop (suc at) rows)) e)
