-- What is kept, where its rows or its last entry change.
use Rattle.std.proofs.Common.{◌≡◌, ℕ, zero, suc, ◌+◌, ◌<◌, Bool, true, false, ◌||◌, cond, get_or, length, map, take}
use Rattle.std.proofs.Common.{List, [], ◌∷◌, ◌++◌, refl, sym, ap, ◌∙◌, arith}
use Rattle.std.specs.Prelude.{slice_index_or, slice_set}
use Rattle.std.proofs.lemmas.List.{map-append, take_more}
use Rattle.pg_laws_losses.specs.PgLaws.History as history
use Rattle.pg_laws_losses.specs.PgLaws.History.{of_group}
use Rattle.pg_laws_losses.specs.PgLaws.WithLosses.{Marked}
use Rattle.pg_laws_losses.specs.Remains.Missed.{is_missed, last_applied, missed_of}
use Rattle.pg_world_account.specs.declared.entry.Entry.{Entry}
use Rattle.pg_world_account.specs.declared.histories.Histories.{Histories}
use Rattle.pg_world_account.specs.Histories.{account_of, as_entry, as_marked, tallied_in, entries_in}
use Rattle.pg_world_account.specs.Histories.{is_applied_by, last_count, last_entries, last_marks, marked_entries_in}

-- the same where all parts are
pub same_account : (a b : Histories) → entries_in a.rows ≡ entries_in b.rows → tallied_in a.rows ≡ tallied_in b.rows → marked_entries_in a.rows ≡ marked_entries_in b.rows → a.last ≡ b.last → a.formed ≡ b.formed
    → account_of a ≡ account_of b
same_account a b entries counts marks last formed = λ j. record {
  histories = λ name. entries j name ++ of_group name (last_entries (last j));
  applied = λ i name. counts j i name + last_count (last j) i name;
  marked = λ i name. marks j i name ++ last_marks (last j) i name;
  formed = formed j;
}

-- ---- what is missed

pub missed_both : (seen : ℕ → Bool) (xs ys : Marked) → missed_of seen (xs ++ ys) ≡ missed_of seen xs ++ missed_of seen ys
missed_both seen [] ys = refl
missed_both seen (x ∷ xs) ys = go (is_missed seen x) (missed_both seen xs ys)
  where
    go : (b : Bool) → missed_of seen (xs ++ ys) ≡ missed_of seen xs ++ missed_of seen ys
        → cond b (x.0 ∷ missed_of seen (xs ++ ys)) (missed_of seen (xs ++ ys)) ≡ cond b (x.0 ∷ missed_of seen xs) (missed_of seen xs) ++ missed_of seen ys
    go true same = ap (λ es. x.0 ∷ es) same
    go false same = same

-- the entries so far, and one more
pub missed_along : (seen : ℕ → Bool) (node : ℕ) (xs : List Entry) (k : ℕ) (x : Entry) → k < length xs → x ≡ get_or xs k x
    → missed_of seen (map (as_marked node) (take (k + 1) xs)) ≡ missed_of seen (map (as_marked node) (take k xs)) ++ missed_of seen (as_marked node x ∷ [])
missed_along seen node xs k x below is =
    ap (λ ys. missed_of seen (map (as_marked node) ys)) (take_more xs k x below ∙ ap (λ y. take k xs ++ y ∷ []) (sym is))
    ∙ (ap (missed_of seen) (map-append (as_marked node) (take k xs) (x ∷ [])) ∙ missed_both seen (map (as_marked node) (take k xs)) (as_marked node x ∷ []))

-- ---- the last entry of a row, which a node takes

module _ (old new : Entry) (same : as_entry new ≡ as_entry old) where
  pub entries_taken : (xs : List Entry) (k : ℕ) → k < length xs → old ≡ slice_index_or xs k old → map as_entry (slice_set xs k new) ≡ map as_entry xs
  entries_taken [] k below at = absurd (omega (arith, below))
  entries_taken (x ∷ xs) zero below at = λ j. (same ∙ ap as_entry at) j ∷ map as_entry xs
  entries_taken (x ∷ xs) (suc k) below at = ap (λ es. as_entry x ∷ es) (entries_taken xs k (omega (arith, below)) at)

  module _ (i : ℕ) (b : Bool) (taken : is_applied_by new i ≡ (b || is_applied_by old i)) where
    one_taken : (c : Bool) → is_applied_by new i ≡ (c || is_applied_by old i) → ◌≡◌ {A = Marked} (as_marked i new ∷ []) (cond c ((as_entry old, true) ∷ []) (as_marked i old ∷ []))
    one_taken true is = λ j. (same j, is j) ∷ []
    one_taken false is = λ j. (same j, is j) ∷ []

    later : (c : Bool) (m n : history.Entry × Bool) (ms : Marked) → m ∷ cond c (last_applied (n ∷ ms)) (n ∷ ms) ≡ cond c (last_applied (m ∷ n ∷ ms)) (m ∷ n ∷ ms)
    later true m n ms = refl
    later false m n ms = refl

    pub last_taken : (xs : List Entry) (k : ℕ) → k + 1 ≡ length xs → old ≡ slice_index_or xs k old → map (as_marked i) (slice_set xs k new) ≡ cond b (last_applied (map (as_marked i) xs)) (map (as_marked i) xs)
    last_taken [] k end at = absurd (omega (arith, end))
    last_taken (x ∷ []) zero end at = one_taken b taken ∙ ap (λ (e : Entry). cond b ((as_entry e, true) ∷ []) (as_marked i e ∷ [])) at
    last_taken (x ∷ []) (suc k) end at = absurd (omega (arith, end))
    last_taken (x ∷ y ∷ ys) zero end at = absurd (omega (arith, end))
    last_taken (x ∷ y ∷ ys) (suc k) end at = ap (λ ms. as_marked i x ∷ ms) (last_taken (y ∷ ys) k (omega (arith, end)) at) ∙ later b (as_marked i x) (as_marked i y) (map (as_marked i) ys)
