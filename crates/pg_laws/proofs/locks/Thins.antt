-- Lists of entries of which some are left out.
use Rattle.std.proofs.Common.{◌≡◌, ℕ, ◌+◌, ◌≤◌, Bool, true, false, not, ◌&&◌, cond, List, [], ◌∷◌}
use Rattle.std.proofs.Common.{◌++◌, refl, ap, sym, ◌∙◌, subst, inl, inr, ◌⊎◌, ◌≢◌, arith, append-nil}
use Rattle.pg_term.specs.Same.{same_atom}
use Rattle.pg_step.specs.PgGroup.declared.update.Update.{Update}
use Rattle.pg_step.specs.Nodes.{Node}
use Rattle.pg_laws.proofs.references.Keys.{atoms, split, same_is, differ}
use Rattle.pg_laws.proofs.references.References.{cond_append}
use Rattle.pg_laws.proofs.locks.Named.{Entry, updates}

-- entries, each with a mark that says whether it is kept
abbrev pub Marks : Type 0
Marks = List (Entry × Bool)

abbrev pub all_entries : Marks → List Entry
all_entries [] = []
all_entries (m ∷ ms) = m.0 ∷ all_entries ms

abbrev pub kept_of : Marks → List Entry
kept_of [] = []
kept_of (m ∷ ms) = cond m.1 (m.0 ∷ kept_of ms) (kept_of ms)

-- how many entries of a node are left out
abbrev pub misses : Node → Marks → ℕ
misses a [] = 0
misses a (m ∷ ms) = cond (same_atom a m.0.node && not m.1) 1 0 + misses a ms

-- what holds of each entry that is left out
abbrev pub EachMissed : (Entry → Type 0) → Marks → Type 0
EachMissed F [] = Unit {0}
EachMissed F (m ∷ ms) = cond m.1 (Unit {0}) (F m.0) × EachMissed F ms

-- The log has the updates of all these entries, but for some that have an excuse, at most one of each node that is gone.
pub record Thin (F : Entry → Type 0) (gone : Node → Bool) (log : List Update) (all : List Entry) : Type 0 where
  pub marks : Marks
  pub every : all_entries marks ≡ all
  pub log_is : log ≡ updates (kept_of marks)
  pub few : (a : Node) → misses a marks ≤ cond (gone a) 1 0
  pub each : EachMissed F marks

-- ---- lists in turn

pub all_entries-append : (xs ys : Marks) → all_entries (xs ++ ys) ≡ all_entries xs ++ all_entries ys
all_entries-append [] ys = refl
all_entries-append (x ∷ xs) ys = ap (λ zs. x.0 ∷ zs) (all_entries-append xs ys)

pub kept_of-append : (xs ys : Marks) → kept_of (xs ++ ys) ≡ kept_of xs ++ kept_of ys
kept_of-append [] ys = refl
kept_of-append (x ∷ xs) ys = cond_append x.1 x.0 (kept_of (xs ++ ys)) (kept_of xs) (kept_of ys) (kept_of-append xs ys)

pub misses-append : (a : Node) (xs ys : Marks) → misses a (xs ++ ys) ≡ misses a xs + misses a ys
misses-append a [] ys = omega arith
misses-append a (x ∷ xs) ys = omega (arith, misses-append a xs ys)

pub updates-append : (xs ys : List Entry) → updates (xs ++ ys) ≡ updates xs ++ updates ys
updates-append [] ys = refl
updates-append (x ∷ xs) ys = ap (λ zs. x.update ∷ zs) (updates-append xs ys)

each-append : (F : Entry → Type 0) (xs ys : Marks) → EachMissed F xs → EachMissed F ys → EachMissed F (xs ++ ys)
each-append F [] ys a b = b
each-append F (x ∷ xs) ys a b = (a.0, each-append F xs ys a.1 b)

one_map : (F G : Entry → Type 0) (b : Bool) (e : Entry) → (F e → G e) → cond b (Unit {0}) (F e) → cond b (Unit {0}) (G e)
one_map F G true e f x = tt
one_map F G false e f x = f x

each_map : (F G : Entry → Type 0) (xs : Marks) → ((e : Entry) → F e → G e) → EachMissed F xs → EachMissed G xs
each_map F G [] f a = tt
each_map F G (x ∷ xs) f a = (one_map F G x.1 x.0 (f x.0) a.0, each_map F G xs f a.1)

no_less : (b c : Bool) → (b ≡ true → c ≡ true) → cond {A = ℕ} b 1 0 ≤ cond {A = ℕ} c 1 0
no_less true true f = omega arith
no_less false true f = omega arith
no_less false false f = omega arith
no_less true false f = let y : false ≡ true = f refl in absurd (cc)

-- ---- thin logs

pub thin_map : {F G : Entry → Type 0} {gone gone' : Node → Bool} {log log' : List Update} {all all' : List Entry} → ((e : Entry) → F e → G e) → ((a : Node) → gone a ≡ true → gone' a ≡ true)
    → log' ≡ log → all' ≡ all → Thin F gone log all → Thin G gone' log' all'
thin_map {F} {G} {gone} {gone'} f g l a t = record {
  marks = t.marks;
  every = t.every ∙ sym a;
  log_is = l ∙ t.log_is;
  few = λ i. let x : misses i t.marks ≤ cond {A = ℕ} (gone i) 1 0 = t.few i in let y : cond {A = ℕ} (gone i) 1 0 ≤ cond {A = ℕ} (gone' i) 1 0 = no_less (gone i) (gone' i) (g i) in omega (arith, x, y);
  each = each_map F G t.marks f t.each;
}

-- one more, which is told
pub thin_push : {F G : Entry → Type 0} {gone : Node → Bool} {log log' : List Update} {all all' : List Entry} (e : Entry) → ((x : Entry) → F x → G x) → Thin F gone log all
    → log' ≡ log ++ e.update ∷ [] → all' ≡ all ++ e ∷ [] → Thin G gone log' all'
thin_push {F} {G} {gone} e f t l a = record {
  marks = t.marks ++ (e, true) ∷ [];
  every = all_entries-append t.marks ((e, true) ∷ []) ∙ (ap (λ xs. xs ++ e ∷ []) t.every ∙ sym a);
  log_is = l ∙ (ap (λ xs. xs ++ e.update ∷ []) t.log_is ∙ (sym (updates-append (kept_of t.marks) (e ∷ [])) ∙ ap updates (sym (kept_of-append t.marks ((e, true) ∷ [])))));
  few = λ i.
      let x : misses i t.marks ≤ cond {A = ℕ} (gone i) 1 0 = t.few i in
      let y : misses i (t.marks ++ (e, true) ∷ []) ≡ misses i t.marks + (cond {A = ℕ} (same_atom i e.node && false) 1 0 + 0) = misses-append i t.marks ((e, true) ∷ []) in
      let z : cond {A = ℕ} (same_atom i e.node && false) 1 0 ≡ 0 = never (same_atom i e.node) in
      omega (arith, x, y, z);
  each = each-append G t.marks ((e, true) ∷ []) (each_map F G t.marks f t.each) (tt, tt);
}
  where
    never : (b : Bool) → cond {A = ℕ} (b && false) 1 0 ≡ 0
    never true = refl
    never false = refl

-- one more, which is left out
pub thin_skip : {F : Entry → Type 0} {gone gone' : Node → Bool} {log : List Update} {all all' : List Entry} (e : Entry) → Thin F gone log all → ((a : Node) → gone a ≡ true → gone' a ≡ true)
    → gone e.node ≡ false → gone' e.node ≡ true → F e → all' ≡ all ++ e ∷ [] → Thin F gone' log all'
thin_skip {F} {gone} {gone'} e t g here then f a = record {
  marks = t.marks ++ (e, false) ∷ [];
  every = all_entries-append t.marks ((e, false) ∷ []) ∙ (ap (λ xs. xs ++ e ∷ []) t.every ∙ sym a);
  log_is = t.log_is ∙ ap updates (sym (append-nil (kept_of t.marks)) ∙ sym (kept_of-append t.marks ((e, false) ∷ [])));
  few = λ i. go i (split same_atom atoms i e.node);
  each = each-append F t.marks ((e, false) ∷ []) t.each (f, tt);
}
  where
    as_one : (b : Bool) → cond {A = ℕ} (b && true) 1 0 ≡ cond {A = ℕ} b 1 0
    as_one true = refl
    as_one false = refl

    go : (i : Node) → (i ≡ e.node) ⊎ (i ≢ e.node) → misses i (t.marks ++ (e, false) ∷ []) ≤ cond {A = ℕ} (gone' i) 1 0
    go i (inl q) =
        let x : misses i t.marks ≤ 0 = subst (λ b. misses i t.marks ≤ cond {A = ℕ} b 1 0) (ap gone q ∙ here) (t.few i) in
        let y : misses i (t.marks ++ (e, false) ∷ []) ≡ misses i t.marks + (cond {A = ℕ} (same_atom i e.node && true) 1 0 + 0) = misses-append i t.marks ((e, false) ∷ []) in
        let z : cond {A = ℕ} (same_atom i e.node && true) 1 0 ≡ 1 = as_one (same_atom i e.node) ∙ ap (λ b. cond {A = ℕ} b 1 0) (same_is same_atom atoms i e.node q) in
        let v : cond {A = ℕ} (gone' i) 1 0 ≡ 1 = ap (λ b. cond {A = ℕ} b 1 0) (ap gone' q ∙ then) in
        omega (arith, x, y, z, v)
    go i (inr n) =
        let x : misses i t.marks ≤ cond {A = ℕ} (gone i) 1 0 = t.few i in
        let y : misses i (t.marks ++ (e, false) ∷ []) ≡ misses i t.marks + (cond {A = ℕ} (same_atom i e.node && true) 1 0 + 0) = misses-append i t.marks ((e, false) ∷ []) in
        let z : cond {A = ℕ} (same_atom i e.node && true) 1 0 ≡ 0 = as_one (same_atom i e.node) ∙ ap (λ b. cond {A = ℕ} b 1 0) (differ same_atom atoms i e.node n) in
        let v : cond {A = ℕ} (gone i) 1 0 ≤ cond {A = ℕ} (gone' i) 1 0 = no_less (gone i) (gone' i) (g i) in
        omega (arith, x, y, z, v)

-- nothing is left out yet
pub thin_none : {F : Entry → Type 0} {gone : Node → Bool} {log : List Update} {all : List Entry} → log ≡ [] → all ≡ [] → Thin F gone log all
thin_none {F} {gone} l a = record { marks = []; every = sym a; log_is = l; few = λ i. omega arith; each = tt }

-- where nobody is gone nothing is left out
pub thin_whole : {F : Entry → Type 0} {gone : Node → Bool} {log : List Update} {all : List Entry} → ((a : Node) → gone a ≡ false) → Thin F gone log all → log ≡ updates all
thin_whole {F} {gone} nobody t = t.log_is ∙ ap updates (kept t.marks (λ a. subst (λ b. misses a t.marks ≤ cond {A = ℕ} b 1 0) (nobody a) (t.few a)) ∙ t.every)
  where
    one : (m : Entry × Bool) (more : ℕ) → cond {A = ℕ} (same_atom m.0.node m.0.node && not m.1) 1 0 + more ≤ 0 → m.1 ≡ true
    one m more low = go m.1 (subst (λ b. cond {A = ℕ} (b && not m.1) 1 0 + more ≤ 0) (atoms.refl m.0.node) low)
      where
        go : (b : Bool) → cond {A = ℕ} (true && not b) 1 0 + more ≤ 0 → b ≡ true
        go true _ = refl
        go false low = absurd (omega (arith, low))

    kept : (ms : Marks) → ((a : Node) → misses a ms ≤ 0) → kept_of ms ≡ all_entries ms
    kept [] none = refl
    kept (m ∷ ms) none =
        let stays : m.1 ≡ true = one m (misses m.0.node ms) (none m.0.node) in
        ap (λ b. cond b (m.0 ∷ kept_of ms) (kept_of ms)) stays
        ∙ ap (λ xs. m.0 ∷ xs) (kept ms (λ a. let low : cond {A = ℕ} (same_atom a m.0.node && not m.1) 1 0 + misses a ms ≤ 0 = none a in omega (arith, low)))
