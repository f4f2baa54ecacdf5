-- What is kept of the updates is the same in a copy.
use Rattle.std.proofs.Common.{◌≡◌, ℕ, suc, Bool, true, false, cond, Option, Some}
use Rattle.std.proofs.Common.{None, List, [], ◌∷◌, refl, sym, ap, subst, ◌∙◌, arith}
use Rattle.std.proofs.Math.Path.{fun_ext}
use Rattle.std.specs.List.{All, AllZip}
use Rattle.std.specs.BTreeMap.{BTreeMap, is_at, get, UpdatesBy}
use Rattle.std.specs.Map.{lookup}
use Rattle.std.specs.Option.{option_or, option_map, option_map_or}
use Rattle.std.specs.Ordering.{is_eq}
use Rattle.pg_term.specs.declared.term.Term.{Term}
use Rattle.pg_term.specs.Same.{term_cmp}
use Rattle.pg_term.specs.contracts.term.TermOrd.TheImpl.Laws as term_order
use Rattle.pg_term.specs.contracts.term.TermEq.TheImpl.Laws as term_equality
use Rattle.pg_term.proofs.Same.{same_term as term_is}
use Rattle.pg_laws_losses.specs.PgLaws.History.{Entry}
use Rattle.pg_laws_losses.specs.PgLaws.WithLosses.{Marked}
use Rattle.pg_world_account.specs.declared.row.Row.{Row}
use Rattle.pg_world_account.specs.Histories.{entries_of, entries_in, count_at, tallied_in, marked_entries_in, marked_entries_of}

-- ---- numbers

pub numbers_copied : (ns copies : List ℕ) → AllZip (λ n copy. copy ≡ n) ns copies → copies ≡ ns
numbers_copied [] [] zip = refl
numbers_copied [] (c ∷ copies) zip = absurd zip
numbers_copied (n ∷ ns) [] zip = absurd zip
numbers_copied (n ∷ ns) (c ∷ copies) zip = λ i. zip.0 i ∷ numbers_copied ns copies zip.1 i

-- ---- rows

abbrev Rows : Type 0
Rows = BTreeMap Term Row

-- what is told of a row
abbrev Told : Type 0
Told = List Entry × ((ℕ → ℕ) × (ℕ → Marked))

abbrev told_of : Row → Told
told_of row = (entries_of row, (count_at row.tally, marked_entries_of row))

-- rows that were copied in part: what was copied, and the rows that are left
pub record RowsCopied (whole done : Rows) (left : List (Term × Row)) : Type 0 where
  pub overlaid : (q : Term) → option_or (option_map told_of (get term_cmp done q)) (option_map told_of (lookup (is_at (term_cmp q)) left)) ≡ option_map told_of (get term_cmp whole q)
  pub found : All (λ e. get term_cmp whole e.0 ≡ Some e.1) left

pub rows_begun : (whole done : Rows) (left : List (Term × Row)) → left ≡ whole.entries → All (λ e. get term_cmp whole e.0 ≡ Some e.1) whole.entries → done.entries ≡ [] → RowsCopied whole done left
rows_begun whole done left is all empty = record {
  overlaid = λ q. ap (λ (es : List (Term × Row)). option_or (option_map told_of (get term_cmp done q)) (option_map told_of (lookup (is_at (term_cmp q)) es))) is
      ∙ ap (λ (es : List (Term × Row)). option_or (option_map told_of (lookup (is_at (term_cmp q)) es)) (option_map told_of (get term_cmp whole q))) empty;
  found = subst (All (λ e. get term_cmp whole e.0 ≡ Some e.1)) (sym is) all;
}

names_decide : (x y : Term) → is_eq (term_cmp x y) ≡ true → x ≡ y
names_decide x y e = term_is x y (term_order.matches_eq-law x y ∙ e)

names_flip : (x y : Term) → is_eq (term_cmp x y) ≡ is_eq (term_cmp y x)
names_flip x y = sym (term_order.matches_eq-law x y) ∙ (term_equality.laws-law.symm x y ∙ term_order.matches_eq-law y x)

pub rows_more : (whole old new : Rows) (name key : Term) (row copy : Row) (before left : List (Term × Row)) → before ≡ (name, row) ∷ left → key ≡ name → entries_of copy ≡ entries_of row → count_at copy.tally ≡ count_at row.tally → marked_entries_of copy ≡ marked_entries_of row
    → RowsCopied whole old before → UpdatesBy term_cmp (term_cmp key) old new (Some copy) → RowsCopied whole new left
rows_more whole old new name key row copy before left is same entries counts marks copied h = record {
  overlaid = λ q. ap (λ (o : Option Told). option_or o (option_map told_of (lookup (is_at (term_cmp q)) left))) (after q) ∙ go q (is_at (term_cmp name) q) refl;
  found = λ i d below. here.found (suc i) d (omega arith);
}
  where
    here : RowsCopied whole old ((name, row) ∷ left)
    here = subst (λ (l : List (Term × Row)). RowsCopied whole old l) is copied

    first : get term_cmp whole name ≡ Some row
    first = here.found 0 (name, row) (omega arith)

    told : told_of copy ≡ told_of row
    told = λ i. (entries i, (counts i, marks i))

    mapped : (b : Bool) (o : Option Row) → option_map told_of (cond b (Some copy) o) ≡ cond b (Some (told_of row)) (option_map told_of o)
    mapped true o = ap Some told
    mapped false o = refl

    after : (q : Term) → option_map told_of (get term_cmp new q) ≡ cond (is_at (term_cmp name) q) (Some (told_of row)) (option_map told_of (get term_cmp old q))
    after q = ap (option_map told_of) ((subst (λ (k : Term). UpdatesBy term_cmp (term_cmp k) old new (Some copy)) same h).0 q) ∙ mapped (is_at (term_cmp name) q) (get term_cmp old q)

    go : (q : Term) (b : Bool) → is_at (term_cmp name) q ≡ b → option_or (cond b (Some (told_of row)) (option_map told_of (get term_cmp old q))) (option_map told_of (lookup (is_at (term_cmp q)) left)) ≡ option_map told_of (get term_cmp whole q)
    go q true e = sym (ap (option_map told_of) first) ∙ ap (λ (r : Term). option_map told_of (get term_cmp whole r)) (names_decide name q e)
    go q false e = ap (λ b. option_or (option_map told_of (get term_cmp old q)) (option_map told_of (cond b (Some row) (lookup (is_at (term_cmp q)) left)))) (sym (names_flip q name ∙ e)) ∙ here.overlaid q

or_none : (o : Option Told) → option_or o None ≡ o
or_none None = refl
or_none (Some told) = refl

all_told : (whole done : Rows) (left : List (Term × Row)) → left ≡ [] → RowsCopied whole done left → (q : Term) → option_map told_of (get term_cmp done q) ≡ option_map told_of (get term_cmp whole q)
all_told whole done left is copied q =
    let here = subst (λ (l : List (Term × Row)). RowsCopied whole done l) is copied in
    sym (or_none (option_map told_of (get term_cmp done q))) ∙ here.overlaid q

-- one thing that is told of a row, where there is one
through : (A : Type 0) (f : Told → A) (none : A) (o : Option Row) → option_map_or (λ (row : Row). f (told_of row)) o none ≡ option_map_or f (option_map told_of o) none
through A f none None = refl
through A f none (Some row) = refl

pub entries_copied : (whole done : Rows) (left : List (Term × Row)) → left ≡ [] → RowsCopied whole done left → entries_in done ≡ entries_in whole
entries_copied whole done left is copied = fun_ext (λ q. through (List Entry) (λ t. t.0) [] (get term_cmp done q)
    ∙ (ap (λ (o : Option Told). option_map_or (λ (t : Told). t.0) o []) (all_told whole done left is copied q) ∙ sym (through (List Entry) (λ t. t.0) [] (get term_cmp whole q))))

pub counts_copied : (whole done : Rows) (left : List (Term × Row)) → left ≡ [] → RowsCopied whole done left → tallied_in done ≡ tallied_in whole
counts_copied whole done left is copied = fun_ext (λ i. fun_ext (λ q. through ℕ (λ t. t.1.0 i) 0 (get term_cmp done q)
    ∙ (ap (λ (o : Option Told). option_map_or (λ (t : Told). t.1.0 i) o 0) (all_told whole done left is copied q) ∙ sym (through ℕ (λ t. t.1.0 i) 0 (get term_cmp whole q)))))

pub marks_copied : (whole done : Rows) (left : List (Term × Row)) → left ≡ [] → RowsCopied whole done left → marked_entries_in done ≡ marked_entries_in whole
marks_copied whole done left is copied = fun_ext (λ i. fun_ext (λ q. through Marked (λ t. t.1.1 i) [] (get term_cmp done q)
    ∙ (ap (λ (o : Option Told). option_map_or (λ (t : Told). t.1.1 i) o []) (all_told whole done left is copied q) ∙ sym (through Marked (λ t. t.1.1 i) [] (get term_cmp whole q)))))
