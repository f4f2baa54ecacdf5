-- Places of nodes by their names.
use Rattle.std.proofs.Common.{◌≡◌, ℕ, zero, suc, ◌<◌, List, [], ◌∷◌, ◌++◌, length, Bool, true, false}
use Rattle.std.proofs.Common.{cond, Option, Some, None, if◌then◌else◌, refl, sym, ap, ◌∙◌, arith}
use Rattle.std.specs.Prelude.{option_map, is_some, slice_set, slice_index_or}
use Rattle.std.specs.BTreeMap.{BTreeMap, UpdatesBy, get}
use Rattle.std.specs.Cmp.Lexicographic.{texts_ties, nat_list_eq_equiv}
use Rattle.std.specs.Option.{option_or}
use Rattle.std.specs.Ordering.{is_eq}
use Rattle.std.proofs.lemmas.Slice.Eq.{bytes_eq-Decides}
use Rattle.pg_term.specs.Same.{same_atom, atom_cmp}
use Rattle.pg_script_trace.specs.PgStep.declared.start.Start.{Start}
use Rattle.pg_script.specs.Scripts.{place_of, change_at, HavePlaces}

-- ---- one node more

-- the last of nodes
abbrev last_place : Bool → ℕ → Option ℕ
last_place same n = if same then Some n else None

behind_first : (found : Option ℕ) (same : Bool) (n : ℕ) → option_map suc (option_or found (last_place same n)) ≡ option_or (option_map suc found) (last_place same (suc n))
behind_first None true n = refl
behind_first None false n = refl
behind_first (Some x) same n = refl

first_or : (same : Bool) (a b : Option ℕ) (last : Option ℕ) → option_map suc a ≡ option_or (option_map suc b) last → (if same then Some 0 else option_map suc a) ≡ option_or (if same then Some 0 else option_map suc b) last
first_or true a b last e = refl
first_or false a b last e = e

pushed : (name : List ℕ) (starts : List Start) (start : Start) → place_of name (starts ++ start ∷ []) ≡ option_or (place_of name starts) (last_place (same_atom name start.name) (length starts))
pushed name [] start = only (same_atom name start.name)
  where
    only : (same : Bool) → (if same then Some 0 else option_map suc None) ≡ last_place same 0
    only true = refl
    only false = refl
pushed name (x ∷ xs) start =
    first_or (same_atom name x.name) (place_of name (xs ++ start ∷ [])) (place_of name xs) (last_place (same_atom name start.name) (suc (length xs)))
    (ap (option_map suc) (pushed name xs start) ∙ behind_first (place_of name xs) (same_atom name start.name) (length xs))

-- where the name stood nowhere, it stands there now
chosen : (name other : List ℕ) (starts : List Start) (same : Bool) → same_atom other name ≡ same → place_of name starts ≡ None → option_or (place_of other starts) (last_place same (length starts)) ≡ cond same (Some (length starts)) (place_of other starts)
chosen name other starts true e none =
    let one : other ≡ name = (bytes_eq-Decides other name).0 e in
    ap (λ (o : Option ℕ). option_or o (Some (length starts))) (ap (λ (n : List ℕ). place_of n starts) one ∙ none)
chosen name other starts false e none = or_none (place_of other starts)
  where
    or_none : (o : Option ℕ) → option_or o None ≡ o
    or_none None = refl
    or_none (Some x) = refl

none_from : {A : Type 0} (o : Option A) → is_some o ≡ false → o ≡ None
none_from None e = refl
none_from (Some x) e = absurd (cc)

pub placed_push : (before after : BTreeMap (List ℕ) ℕ) (starts : List Start) (n : ℕ) (key : List ℕ) (start : Start) → HavePlaces before starts → n ≡ length starts → UpdatesBy atom_cmp (atom_cmp key) before after (Some n)
    → key ≡ start.name → is_some (get atom_cmp before start.name) ≡ false → HavePlaces after (starts ++ start ∷ [])
placed_push before after starts n key start placed len updates is none other =
    let absent : place_of start.name starts ≡ None = sym (placed start.name) ∙ none_from (get atom_cmp before start.name) none in
    let same : same_atom other start.name ≡ same_atom key other = nat_list_eq_equiv.symm other start.name ∙ ap (λ (n : List ℕ). same_atom n other) (sym is) in
    updates.0 other
    ∙ ap (λ (k : ℕ). cond (is_eq (atom_cmp key other)) (Some k) (get atom_cmp before other)) len
    ∙ ap (λ (b : Bool). cond b (Some (length starts)) (get atom_cmp before other)) (sym (texts_ties key other) ∙ sym same)
    ∙ ap (λ (o : Option ℕ). cond (same_atom other start.name) (Some (length starts)) o) (placed other)
    ∙ sym (pushed other starts start ∙ chosen start.name other starts (same_atom other start.name) refl absent)

-- ---- a place is within

suc_of : (o : Option ℕ) (p : ℕ) → option_map suc o ≡ Some p → (n : ℕ) × (o ≡ Some n) × (p ≡ suc n)
suc_of None p e = absurd (cc)
suc_of (Some n) p e = (n, refl, cc)

within_step : (same : Bool) (o : Option ℕ) (n p : ℕ) → ((q : ℕ) → o ≡ Some q → q < n) → (if same then Some 0 else option_map suc o) ≡ Some p → p < suc n
within_step true o n p h e = let k : 0 ≡ p = cc in omega arith
within_step false o n p h e =
    let s = suc_of o p e in
    let k = h s.0 s.1 in
    let l = s.2 in
    omega arith

pub place_within : (name : List ℕ) (starts : List Start) (p : ℕ) → place_of name starts ≡ Some p → p < length starts
place_within name [] p e = absurd (cc)
place_within name (x ∷ xs) p e = within_step (same_atom name x.name) (place_of name xs) (length xs) p (λ q h. place_within name xs q h) e

-- ---- a change at a place

pub changed : (starts : List Start) (p : ℕ) (x : Start) (change : Start → Start) → p < length starts → slice_set starts p (change (slice_index_or starts p x)) ≡ change_at p change starts
changed [] p x change h = absurd (omega arith)
changed (y ∷ ys) zero x change h = refl
changed (y ∷ ys) (suc p) x change h = ap (λ (zs : List Start). y ∷ zs) (changed ys p x change (omega arith))

pub same_places : (name : List ℕ) (starts : List Start) (p : ℕ) (x new : Start) → p < length starts → new.name ≡ (slice_index_or starts p x).name → place_of name (slice_set starts p new) ≡ place_of name starts
same_places name [] p x new h e = absurd (omega arith)
same_places name (y ∷ ys) zero x new h e = ap (λ (n : List ℕ). if same_atom name n then Some 0 else option_map suc (place_of name ys)) e
same_places name (y ∷ ys) (suc p) x new h e = ap (λ (o : Option ℕ). if same_atom name y.name then Some 0 else option_map suc o) (same_places name ys p x new (omega arith) e)
