-- Holders that are sorted by their names.
use Rattle.std.proofs.Common.{◌≡◌, ℕ, zero, suc, ◌+◌, ◌<◌, ◌≤◌, Bool, true, false, cond, Some, None, Result, Ok}
use Rattle.std.proofs.Common.{Err, List, [], ◌∷◌, length, get_or, inl, inr, refl, sym, ap, subst, ◌∙◌, arith}
use Rattle.std.specs.BTreeMap.{is_at}
use Rattle.std.specs.Cmp.{IsEquivalence}
use Rattle.std.specs.List.{AllByRecursion, filter, insert, remove, slice_get}
use Rattle.std.specs.List.Sorted.{IsStrictlySortedBy, IsSortedBy, IsBinarySearchResult}
use Rattle.std.specs.Map.{keys_of, remove_entry}
use Rattle.std.specs.Option.{is_some}
use Rattle.std.proofs.lemmas.List.{get_or_default}
use Rattle.std.specs.Ordering.{eq_by_cmp, is_eq, is_lt, ordering_reverse}
use Rattle.std.specs.declared.cmp.Ordering.{Ordering}
use Rattle.std.specs.declared.cmp.Ordering.TheVariants.{Less, Equal, Greater}
use Rattle.std.proofs.Math.ListN.{get_or-map}
use Rattle.std.proofs.lemmas.Cmp.{eq_by_cmp_equiv}
use Rattle.std.proofs.lemmas.List.Sorted.{searchable_from_sorted}
use Rattle.std.proofs.lemmas.Map.{lookup-insert, lookup-remove_entry, none_passes_from_lookup}
use Rattle.std.proofs.lemmas.Map.Entries.{length-keys_of, lookup_at_gap, lookup_from_place}
use Rattle.std.proofs.lemmas.Map.Keys.{IsDistinct-from_sorted, Less-from_sorted}
use Rattle.std.proofs.lemmas.List.Elements.{All-from_get_or, recursion_from_All}
use Rattle.std.proofs.lemmas.Option.{get_or_from_slice_get, slice_get-get_or, slice_get_cases, slice_get_read}
use Rattle.pg_term.specs.declared.term.Term.{Term}
use Rattle.pg_term.specs.RefParts.{RefParts}
use Rattle.pg_term.specs.Same.{term_cmp}
use Rattle.pg_term.specs.contracts.term.TermOrd.TheImpl.Laws as term_laws
use Rattle.pg_term.proofs.Same.{same_term as term_is}
use Rattle.pg_lock.specs.Holders.{AreSorted, holder_among, IsPlace}

abbrev pub Holder : Type 0
Holder = Term × RefParts

pub laws : IsEquivalence (eq_by_cmp term_cmp)
laws = eq_by_cmp_equiv term_laws.total-law

-- a comparison the other way round
back : (x y : Term) (o : Ordering) → term_cmp x y ≡ o → term_cmp y x ≡ ordering_reverse o
back x y o e = term_laws.total-law.antisymm y x ∙ ap ordering_reverse e

-- names that compare as equal are one
pub named : (name other : Term) → is_at (term_cmp name) other ≡ true → name ≡ other
named name other e = term_is name other (term_laws.matches_eq-law name other ∙ e)

-- ---- what a binary search finds

rises : (es : List Holder) → AreSorted es → IsSortedBy (λ a b. is_lt (term_cmp a.0 b.0)) es
rises es s k d low within =
    let less = Less-from_sorted term_cmp (keys_of es) k (k + 1) d.0 s (omega arith) (omega (arith, length-keys_of es)) in
    ap is_lt (back (get_or es k d).0 (get_or es (k + 1) d).0 Less ((λ i. term_cmp (sym (get_or-map (λ (e : Holder). e.0) es k d) i) (sym (get_or-map (λ (e : Holder). e.0) es (k + 1) d) i)) ∙ less))

pub place_is : (es : List Holder) (name : Term) (r : Result ℕ ℕ) → AreSorted es → IsBinarySearchResult (λ (e : Holder). term_cmp e.0 name) es r → IsPlace es name r
place_is es name (Ok i) s found = found
place_is es name (Err i) s parted = parted (searchable_from_sorted term_laws.total-law (λ (e : Holder). e.0) es name (rises es s))

-- the name at a place
name_is : (es : List Holder) (name : Term) (i : ℕ) → IsPlace es name (Ok i) → (e : Holder) → e ≡ get_or es i e → e.0 ≡ name
name_is es name i place e is = term_is e.0 name (term_laws.matches_eq-law e.0 name ∙ ap is_eq (ap (λ (x : Holder). term_cmp x.0 name) is ∙ place e))

pub found : (es : List Holder) (name : Term) (i : ℕ) → AreSorted es → i < length es → IsPlace es name (Ok i) → (e : Holder) → e ≡ get_or es i e → holder_among es name ≡ Some e.1
found es name i s within place e is = subst (λ n. holder_among es n ≡ Some e.1) (name_is es name i place e is)
    (lookup_from_place laws es i e.0 e.1 (IsDistinct-from_sorted term_cmp (keys_of es) s) (slice_get_read es (length es) i e refl within is))

-- some holder of a name
unheld : Term → Holder
unheld name = (name, record { node = []; creation = 0; words = [] })

pub found_so : (es : List Holder) (name : Term) (i : ℕ) → AreSorted es → i < length es → IsPlace es name (Ok i) → is_some (holder_among es name) ≡ true
found_so es name i s within place =
    let d = unheld name in
    let e = get_or es i d in
    ap is_some (found es name i s within place e (get_or_default es i d e within))

-- each holder is the one that its name finds
pub each_found : (es : List Holder) → AreSorted es → AllByRecursion (λ (e : Holder). holder_among es e.0 ≡ Some e.1) es
each_found [] s = tt
each_found (first ∷ es) s = recursion_from_All (λ (e : Holder). holder_among (first ∷ es) e.0 ≡ Some e.1) (first ∷ es) (All-from_get_or (λ (e : Holder). holder_among (first ∷ es) e.0 ≡ Some e.1) (first ∷ es) first (λ i within.
    lookup_from_place laws (first ∷ es) i (get_or (first ∷ es) i first).0 (get_or (first ∷ es) i first).1 (IsDistinct-from_sorted term_cmp (keys_of (first ∷ es)) s) (slice_get-get_or (first ∷ es) i first within)))

reaches : (es : List Holder) (i : ℕ) (e : Holder) → slice_get es i ≡ Some e → i < length es
reaches es i e is = elim ((slice_get_cases es i).1) [
  | inl there ↦ there.1
  | inr past ↦ absurd (cc (sym is ∙ past.1))
]

pub absent : (es : List Holder) (name : Term) (i : ℕ) → AreSorted es → i ≤ length es → IsPlace es name (Err i) → holder_among es name ≡ None
absent es name i s within place = lookup_at_gap term_laws.total-law name es i s
    (λ j e below is. back e.0 name Less (ap (λ (x : Holder). term_cmp x.0 name) (sym (get_or_from_slice_get es j e e is)) ∙ place.0 j e (omega arith) below))
    (λ e is. back e.0 name Greater (ap (λ (x : Holder). term_cmp x.0 name) (sym (get_or_from_slice_get es i e e is)) ∙ place.1 i e (omega arith) (reaches es i e is)))

-- ---- one more

pub through : {X : Type 0} (P Q : X → Type 0) → ((x : X) → P x → Q x) → (xs : List X) → AllByRecursion P xs → AllByRecursion Q xs
through P Q f [] all = tt
through P Q f (x ∷ xs) all = (f x all.0, through P Q f xs all.1)

all_with : (P : Term → Type 0) (name : Term) (holder : RefParts) (es : List Holder) (i : ℕ) → P name → AllByRecursion P (keys_of es) → AllByRecursion P (keys_of (insert es i (name, holder)))
all_with P name holder es zero p all = (p, all)
all_with P name holder [] (suc i) p all = (p, tt)
all_with P name holder (e ∷ es) (suc i) p all = (all.0, all_with P name holder es i p all.1)

pub sorted_with : (name : Term) (holder : RefParts) (es : List Holder) (i : ℕ) → AreSorted es → i ≤ length es → IsPlace es name (Err i) → AreSorted (insert es i (name, holder))
unfolding IsStrictlySortedBy
sorted_with name holder [] zero s within place = (tt, tt)
sorted_with name holder [] (suc i) s within place = absurd (omega (arith, within))
sorted_with name holder (e ∷ es) zero s within place =
    let first : term_cmp name e.0 ≡ Less = back e.0 name Greater (place.1 0 e (omega arith) (omega arith)) in
    ((first, through (λ n. term_cmp e.0 n ≡ Less) (λ n. term_cmp name n ≡ Less) (λ n h. term_laws.total-law.trans name e.0 n first h) (keys_of es) s.0), s)
sorted_with name holder (e ∷ es) (suc i) s within place = (
  all_with (λ n. term_cmp e.0 n ≡ Less) name holder es i (place.0 0 e (omega arith) (omega arith)) s.0,
  sorted_with name holder es i s.1 (omega arith) (λ k d low below. place.0 (suc k) d (omega arith) (omega arith), λ k d low below. place.1 (suc k) d (omega arith) (omega arith)),
)

pub among_with : (name : Term) (holder : RefParts) (es : List Holder) (i : ℕ) → holder_among es name ≡ None → (other : Term) → holder_among (insert es i (name, holder)) other ≡ cond (is_at (term_cmp name) other) (Some holder) (holder_among es other)
among_with name holder es i none other = lookup-insert laws name holder other es i (none_passes_from_lookup (is_at (term_cmp name)) es none)

-- ---- one less

all_without : (P : Term → Type 0) (es : List Holder) (i : ℕ) → AllByRecursion P (keys_of es) → AllByRecursion P (keys_of (remove es i))
all_without P [] zero all = tt
all_without P [] (suc i) all = tt
all_without P (e ∷ es) zero all = all.1
all_without P (e ∷ es) (suc i) all = (all.0, all_without P es i all.1)

pub sorted_without : (es : List Holder) (i : ℕ) → AreSorted es → AreSorted (remove es i)
unfolding IsStrictlySortedBy
sorted_without [] zero s = tt
sorted_without [] (suc i) s = tt
sorted_without (e ∷ es) zero s = s.1
sorted_without (e ∷ es) (suc i) s = (all_without (λ n. term_cmp e.0 n ≡ Less) es i s.0, sorted_without es i s.1)

tail_sorted : (e : Holder) (es : List Holder) → AreSorted (e ∷ es) → AreSorted es
unfolding IsStrictlySortedBy
tail_sorted e es s = s.1

-- the entry at the place of a name is the one that the name finds
removed : (name : Term) (es : List Holder) (i : ℕ) → AreSorted es → i < length es → IsPlace es name (Ok i) → remove es i ≡ remove_entry (is_at (term_cmp name)) es
removed name [] i s within place = absurd (omega (arith, within))
removed name (e ∷ es) zero s within place =
    let at : is_at (term_cmp name) e.0 ≡ true = ap is_eq (back e.0 name Equal (place e)) in
    ap (λ b. cond b es (e ∷ remove_entry (is_at (term_cmp name)) es)) (sym at)
removed name (e ∷ es) (suc i) s within place =
    let less = Less-from_sorted term_cmp (keys_of (e ∷ es)) 0 (suc i) e.0 s (omega arith) (omega (arith, length-keys_of (e ∷ es))) in
    let here : (get_or es i e).0 ≡ name = term_is (get_or es i e).0 name (term_laws.matches_eq-law (get_or es i e).0 name ∙ ap is_eq (place e)) in
    let below : term_cmp e.0 name ≡ Less = ap (term_cmp e.0) (sym here ∙ sym (get_or-map (λ (x : Holder). x.0) es i e)) ∙ less in
    let apart : is_at (term_cmp name) e.0 ≡ false = ap is_eq (back e.0 name Less below) in
    ap (λ rest. e ∷ rest) (removed name es i (tail_sorted e es s) (omega arith) place)
    ∙ ap (λ b. cond b es (e ∷ remove_entry (is_at (term_cmp name)) es)) (sym apart)

pub among_without : (name : Term) (es : List Holder) (i : ℕ) → AreSorted es → i < length es → IsPlace es name (Ok i) → (other : Term) → holder_among (remove es i) other ≡ cond (is_at (term_cmp name) other) None (holder_among es other)
among_without name es i s within place other =
    ap (λ l. holder_among l other) (removed name es i s within place)
    ∙ lookup-remove_entry laws (is_at (term_cmp name)) (λ x y h. laws.congr name x y h) other es (IsDistinct-from_sorted term_cmp (keys_of es) s)

-- ---- some

all_passing : (P : Term → Type 0) (test : Holder → Bool) (es : List Holder) → AllByRecursion P (keys_of es) → AllByRecursion P (keys_of (filter test es))
all_passing P test [] all = tt
all_passing P test (e ∷ es) all = go (all_passing P test es all.1) (test e)
  where
    go : AllByRecursion P (keys_of (filter test es)) → (b : Bool) → AllByRecursion P (keys_of (cond b (e ∷ filter test es) (filter test es)))
    go rest true = (all.0, rest)
    go rest false = rest

pub sorted_passing : (test : Holder → Bool) (es : List Holder) → AreSorted es → AreSorted (filter test es)
unfolding IsStrictlySortedBy
sorted_passing test [] s = tt
sorted_passing test (e ∷ es) s = go (sorted_passing test es s.1) (test e)
  where
    go : AreSorted (filter test es) → (b : Bool) → AreSorted (cond b (e ∷ filter test es) (filter test es))
    go rest true = (all_passing (λ n. term_cmp e.0 n ≡ Less) test es s.0, rest)
    go rest false = rest
