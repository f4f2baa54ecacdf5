-- The rows of groups where one of them changes.
use Rattle.std.proofs.Common.{◌≡◌, ℕ, ◌+◌, Bool, true, false, cond, nat_eq, ◌&&◌, List, []}
use Rattle.std.proofs.Common.{◌++◌, Option, Some, None, refl, sym, ap, ◌∙◌, arith, append-nil}
use Rattle.std.specs.Prelude.{Result, Ok, Err, OnOk, is_some}
use Rattle.std.specs.Option.{option_map_or}
use Rattle.std.specs.BTreeMap.{BTreeMap, get, UpdatesBy}
use Rattle.std.proofs.lemmas.Bool.{eqb-true}
use Rattle.pg_term.specs.declared.term.Term.{Term}
use Rattle.pg_term.specs.Same.{same_term, term_cmp}
use Rattle.pg_term.specs.contracts.term.TermEq.TheImpl.Laws.{laws-law as terms}
use Rattle.pg_term.specs.contracts.term.TermOrd.TheImpl.Laws as term_laws
use Rattle.pg_term.proofs.Same.{same_term as term_is}
use Rattle.pg_node_opens.specs.PgGroup.Functions.{upd}
use Rattle.pg_laws_losses.specs.Remains.Missed.{last_applied, marked_after}
use Rattle.pg_world_account.specs.declared.row.Row.{Row}
use Rattle.pg_world_account.specs.Histories.{count_at, tallied_in, marked_entries_in, marked_entries_of}

abbrev Rows : Type 0
Rows = BTreeMap Term Row

pub same_turned : (a b : Term) → same_term a b ≡ same_term b a
same_turned a b = go (same_term a b) (same_term b a) (λ e. ap (λ z. same_term z a) (sym (term_is a b e)) ∙ terms.refl a) (λ e. ap (λ z. same_term z b) (sym (term_is b a e)) ∙ terms.refl b)
  where
    go : (s t : Bool) → (s ≡ true → t ≡ true) → (t ≡ true → s ≡ true) → s ≡ t
    go true t f g = sym (f refl)
    go false true f g = g refl
    go false false f g = refl

pub if_ok : {A F : Type 0} {P Q : Type 0} (r : Result A F) → (P → Q) → OnOk r P → OnOk r Q
if_ok (Ok x) f h = f h
if_ok (Err e) f h = h

pub absent : (o : Option Row) → is_some o ≡ false → o ≡ None
absent None e = refl
absent (Some row) e = absurd (cc)

none_more : (k : ℕ) → k ≡ k + 0
none_more k = omega arith

-- one row changed, or was made
module _ (m n : Rows) (name : Term) (old : Option Row) (new : Row) (had : get term_cmp m name ≡ old) (h : UpdatesBy term_cmp (term_cmp name) m n (Some new)) where
  found : (q : Term) → get term_cmp n q ≡ cond (same_term q name) (Some new) (get term_cmp m q)
  found q = h.0 q ∙ ap (λ b. cond b (Some new) (get term_cmp m q)) (sym (term_laws.matches_eq-law name q) ∙ same_turned name q)

  pub found_here : get term_cmp n name ≡ Some new
  found_here = found name ∙ ap (λ b. cond b (Some new) (get term_cmp m name)) (terms.refl name)

  module _ {A : Type 0} (f : Row → A) (none : A) where
    abbrev before : Term → A
    before q = option_map_or f (get term_cmp m q) none

    read : (q : Term) → option_map_or f (get term_cmp n q) none ≡ cond (same_term q name) (f new) (before q)
    read q = ap (λ o. option_map_or f o none) (found q) ∙ go (same_term q name)
      where
        go : (b : Bool) → option_map_or f (cond b (Some new) (get term_cmp m q)) none ≡ cond b (f new) (before q)
        go true = refl
        go false = refl

    here : (q : Term) → q ≡ name → option_map_or f old none ≡ before q
    here q e = ap (λ o. option_map_or f o none) (sym had) ∙ ap before (sym e)

    pub kept : f new ≡ option_map_or f old none → (q : Term) → option_map_or f (get term_cmp n q) none ≡ option_map_or f (get term_cmp m q) none
    kept same q = read q ∙ go (same_term q name) (term_is q name)
      where
        go : (b : Bool) → (b ≡ true → q ≡ name) → cond b (f new) (before q) ≡ before q
        go true e = same ∙ here q (e refl)
        go false e = refl

  pub more_listed : {A : Type 0} (f : Row → List A) (xs : List A) → f new ≡ option_map_or f old [] ++ xs → (q : Term) → option_map_or f (get term_cmp n q) [] ≡ option_map_or f (get term_cmp m q) [] ++ cond (same_term q name) xs []
  more_listed f xs more q = read f [] q ∙ go (same_term q name) (term_is q name)
    where
      go : (b : Bool) → (b ≡ true → q ≡ name) → cond b (f new) (before f [] q) ≡ before f [] q ++ cond b xs []
      go true e = more ∙ ap (λ ys. ys ++ xs) (here f [] q (e refl))
      go false e = sym (append-nil (before f [] q))

  -- a node took the last of its entries
  pub marks_taken : (old_row : Row) (node i : ℕ) → old ≡ Some old_row → marked_entries_of new i ≡ cond (nat_eq node i) (last_applied (marked_entries_of old_row i)) (marked_entries_of old_row i)
      → (q : Term) → marked_entries_in n i q ≡ marked_after [] (nat_eq node i && same_term q name) (marked_entries_in m i q)
  marks_taken old_row node i is now q = read (λ row. marked_entries_of row i) [] q ∙ go (nat_eq node i) (same_term q name) now (term_is q name)
    where
      before_is : q ≡ name → marked_entries_of old_row i ≡ marked_entries_in m i q
      before_is e = ap (λ o. option_map_or (λ (row : Row). marked_entries_of row i) o []) (sym is) ∙ here (λ row. marked_entries_of row i) [] q e

      go : (c b : Bool) → marked_entries_of new i ≡ cond c (last_applied (marked_entries_of old_row i)) (marked_entries_of old_row i) → (b ≡ true → q ≡ name) → cond b (marked_entries_of new i) (marked_entries_in m i q) ≡ marked_after [] (c && b) (marked_entries_in m i q)
      go true true taken d = taken ∙ ap last_applied (before_is (d refl))
      go false true taken d = taken ∙ before_is (d refl)
      go true false taken d = refl
      go false false taken d = refl

  pub more_counts : (old_row : Row) (node : ℕ) → old ≡ Some old_row → count_at new.tally ≡ upd nat_eq (count_at old_row.tally) node (count_at old_row.tally node + 1)
      → (i : ℕ) (q : Term) → tallied_in n i q ≡ tallied_in m i q + cond (nat_eq node i && same_term q name) 1 0
  unfolding upd
  more_counts old_row node is more i q = read (λ row. count_at row.tally i) 0 q ∙ go (nat_eq node i) (same_term q name) refl (term_is q name)
    where
      before_is : q ≡ name → count_at old_row.tally i ≡ tallied_in m i q
      before_is e = ap (λ o. option_map_or (λ (row : Row). count_at row.tally i) o 0) (sym is) ∙ here (λ row. count_at row.tally i) 0 q e

      now_is : (c : Bool) → nat_eq node i ≡ c → count_at new.tally i ≡ cond c (count_at old_row.tally node + 1) (count_at old_row.tally i)
      now_is c e = ap (λ (g : ℕ → ℕ). g i) more ∙ ap (λ b. cond b (count_at old_row.tally node + 1) (count_at old_row.tally i)) e

      go : (c b : Bool) → nat_eq node i ≡ c → (b ≡ true → q ≡ name) → cond b (count_at new.tally i) (tallied_in m i q) ≡ tallied_in m i q + cond (c && b) 1 0
      go true true e d = now_is true e ∙ ap (λ k. k + 1) (ap (λ k. count_at old_row.tally k) (eqb-true node i e) ∙ before_is (d refl))
      go false true e d = now_is false e ∙ (before_is (d refl) ∙ none_more (tallied_in m i q))
      go true false e d = none_more (tallied_in m i q)
      go false false e d = none_more (tallied_in m i q)
