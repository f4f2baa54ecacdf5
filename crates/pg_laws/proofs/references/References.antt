-- The references of nodes, which messages are about one, and who holds a lock.
use Rattle.std.proofs.Common.{◌≡◌, ◌≢◌, ℕ, Bool, true, false, ◌&&◌, ◌+◌, ◌*◌, ◌/◌, ◌%◌, cond, List, []}
use Rattle.std.proofs.Common.{◌∷◌, ◌++◌, Option, Some, None, refl, sym, ap, ◌∙◌, inl, inr, ◌⊎◌, nat_eq}
use Rattle.std.specs.Cmp.{first_so, second_so}
use Rattle.std.proofs.lemmas.Bool.{eqb-true}
use Rattle.std.specs.Cmp.Lexicographic.{pointwise, bytes_decides}
use Rattle.pg_term.specs.declared.term.Term.{Term}
use Rattle.pg_term.specs.RefParts.{RefParts, ref_eq}
use Rattle.pg_term.specs.Same.{same_atom, same_term}
use Rattle.pg_step.specs.PgRefs.Numbered.{numbered}
use Rattle.std.proofs.lemmas.Nat.{div-add-mod'}
use Rattle.pg_step.specs.PgLock.Locks.{Locks, held, is_holder}
use Rattle.pg_step.specs.PgMessageTypes.declared.message.Message.{Message}
use Rattle.pg_step.specs.PgMessageTypes.declared.message.Message.TheVariants.{Call, Reply, DelLock}
use Rattle.pg_laws.proofs.references.Keys.{Decides, atoms, terms, numbers, cases, differ, same_is}

-- ---- references

pub references : Decides ref_eq
references = record {
  refl = λ r. ap (λ b. b && (nat_eq r.creation r.creation && pointwise nat_eq r.words r.words)) (atoms.refl r.node) ∙ ap (λ b. b && pointwise nat_eq r.words r.words) (numbers.refl r.creation) ∙ atoms.refl r.words;
  is = λ r s e.
      let node = (bytes_decides r.node s.node).0 (first_so (pointwise nat_eq r.node s.node) (nat_eq r.creation s.creation && pointwise nat_eq r.words s.words) e) in
      let rest = second_so (pointwise nat_eq r.node s.node) (nat_eq r.creation s.creation && pointwise nat_eq r.words s.words) e in
      let creation = eqb-true _ _ (first_so (nat_eq r.creation s.creation) (pointwise nat_eq r.words s.words) rest) in
      let words = (bytes_decides r.words s.words).0 (second_so (nat_eq r.creation s.creation) (pointwise nat_eq r.words s.words) rest) in
      λ i. record { node = node i; creation = creation i; words = words i };
}

-- reference number c of node h, and reference number k of node i, are not one
abbrev pub IsOther : List ℕ → ℕ → List ℕ → ℕ → Type 0
IsOther h c i k = (h ≢ i) ⊎ (c ≢ k)

-- no two references of a node are one
pub numbered_apart : (h i : List ℕ) (c k : ℕ) → numbered h c ≡ numbered i k → (h ≡ i) × (c ≡ k)
numbered_apart h i c k e =
    let words : c % 262144 ∷ c / 262144 ∷ 0 ∷ [] ≡ k % 262144 ∷ k / 262144 ∷ 0 ∷ [] = ap (λ (r : RefParts). r.words) e in
    let low : c % 262144 ≡ k % 262144 = cc in
    let high : c / 262144 ≡ k / 262144 = cc in
    (ap (λ (r : RefParts). r.node) e, sym (div-add-mod' c 262144) ∙ (λ j. high j * 262144 + low j) ∙ div-add-mod' k 262144)

pub numbered_same : (h : List ℕ) (c : ℕ) → ref_eq (numbered h c) (numbered h c) ≡ true
numbered_same h c = references.refl (numbered h c)

pub numbered_other : (h i : List ℕ) (c k : ℕ) → IsOther h c i k → ref_eq (numbered h c) (numbered i k) ≡ false
numbered_other h i c k (inl n) = differ ref_eq references (numbered h c) (numbered i k) (λ e. n (numbered_apart h i c k e).0)
numbered_other h i c k (inr n) = differ ref_eq references (numbered h c) (numbered i k) (λ e. n (numbered_apart h i c k e).1)

-- of two references, the same or another
pub cases_ref : (h i : List ℕ) (c k : ℕ) → ((h ≡ i) × (c ≡ k)) ⊎ IsOther h c i k
cases_ref h i c k = go (cases same_atom atoms h i) (cases nat_eq numbers c k)
  where
    go : (h ≡ i) ⊎ (h ≢ i) → (c ≡ k) ⊎ (c ≢ k) → ((h ≡ i) × (c ≡ k)) ⊎ IsOther h c i k
    go (inl e) (inl f) = inl (e, f)
    go (inr n) _ = inr (inl n)
    go (inl e) (inr n) = inr (inr n)

-- ---- messages about a reference

abbrev pub refers : RefParts → Message → Bool
refers reference (Call r request) = ref_eq r reference
refers reference (Reply r said) = ref_eq r reference
refers reference (DelLock name r) = ref_eq r reference
refers reference _ = false

-- the messages about one reference
abbrev pub about : RefParts → List Message → List Message
about reference [] = []
about reference (x ∷ xs) = cond (refers reference x) (x ∷ about reference xs) (about reference xs)

pub cond_append : {A : Type 0} (b : Bool) (x : A) (all xs ys : List A) → all ≡ xs ++ ys → cond b (x ∷ all) all ≡ cond b (x ∷ xs) xs ++ ys
cond_append true x all xs ys e = ap (λ zs. x ∷ zs) e
cond_append false x all xs ys e = e

pub about-append : (r : RefParts) (xs ys : List Message) → about r (xs ++ ys) ≡ about r xs ++ about r ys
about-append r [] ys = refl
about-append r (x ∷ xs) ys = cond_append (refers r x) x _ _ _ (about-append r xs ys)

pub about_here : (r : RefParts) (x : Message) (xs : List Message) → refers r x ≡ true → about r (x ∷ xs) ≡ x ∷ about r xs
about_here r x xs e = ap (λ b. cond b (x ∷ about r xs) (about r xs)) e

pub about_past : (r : RefParts) (x : Message) (xs : List Message) → refers r x ≡ false → about r (x ∷ xs) ≡ about r xs
about_past r x xs e = ap (λ b. cond b (x ∷ about r xs) (about r xs)) e

-- what is sent where a test passes
pub about_sent : (r : RefParts) (b : Bool) (x : Message) → refers r x ≡ true → about r (cond b (x ∷ []) []) ≡ cond b (x ∷ []) []
about_sent r true x e = about_here r x [] e
about_sent r false x e = refl

pub about_sent_other : (r : RefParts) (b : Bool) (x : Message) → refers r x ≡ false → about r (cond b (x ∷ []) []) ≡ []
about_sent_other r true x e = about_past r x [] e
about_sent_other r false x e = refl

-- ---- holders

-- what one reference holds no other does
pub held_by_one : (r s : RefParts) (o : Option RefParts) → ref_eq r s ≡ false → is_holder o r ≡ true → is_holder o s ≡ false
held_by_one r s None n e = refl
held_by_one r s (Some holder) n e = ap (λ x. ref_eq x s) (references.is holder r e) ∙ n

module _ (locks : Locks) (N : Term) where
  held_here : (o : Option RefParts) (M : Term) → N ≡ M → held locks N o M ≡ o
  unfolding held
  held_here o M e = ap (λ b. cond b o (locks M)) (same_is same_term terms N M e)

  held_there : (o : Option RefParts) (M : Term) → N ≢ M → held locks N o M ≡ locks M
  unfolding held
  held_there o M n = ap (λ b. cond b o (locks M)) (differ same_term terms N M n)

  pub lent_self : (r : RefParts) → ((M : Term) → is_holder (locks M) r ≡ false) → (M : Term) → is_holder (held locks N (Some r) M) r ≡ same_term N M
  lent_self r none M = go (cases same_term terms N M)
    where
      go : (N ≡ M) ⊎ (N ≢ M) → is_holder (held locks N (Some r) M) r ≡ same_term N M
      go (inl e) = ap (λ o. is_holder o r) (held_here (Some r) M e) ∙ references.refl r ∙ sym (same_is same_term terms N M e)
      go (inr n) = ap (λ o. is_holder o r) (held_there (Some r) M n) ∙ none M ∙ sym (differ same_term terms N M n)

  pub lent_other : (r s : RefParts) → ref_eq r s ≡ false → locks N ≡ None → (M : Term) → is_holder (held locks N (Some r) M) s ≡ is_holder (locks M) s
  lent_other r s other free M = go (cases same_term terms N M)
    where
      go : (N ≡ M) ⊎ (N ≢ M) → is_holder (held locks N (Some r) M) s ≡ is_holder (locks M) s
      go (inl e) = ap (λ o. is_holder o s) (held_here (Some r) M e) ∙ other ∙ sym (ap (λ o. is_holder o s) (ap locks (sym e) ∙ free))
      go (inr n) = ap (λ o. is_holder o s) (held_there (Some r) M n)

  pub freed_self : (r : RefParts) → ((M : Term) → is_holder (locks M) r ≡ same_term N M) → (M : Term) → is_holder (held locks N None M) r ≡ false
  freed_self r has M = go (cases same_term terms N M)
    where
      go : (N ≡ M) ⊎ (N ≢ M) → is_holder (held locks N None M) r ≡ false
      go (inl e) = ap (λ o. is_holder o r) (held_here None M e)
      go (inr n) = ap (λ o. is_holder o r) (held_there None M n) ∙ has M ∙ differ same_term terms N M n

  pub freed_other : (s : RefParts) → is_holder (locks N) s ≡ false → (M : Term) → is_holder (held locks N None M) s ≡ is_holder (locks M) s
  freed_other s none M = go (cases same_term terms N M)
    where
      go : (N ≡ M) ⊎ (N ≢ M) → is_holder (held locks N None M) s ≡ is_holder (locks M) s
      go (inl e) = ap (λ o. is_holder o s) (held_here None M e) ∙ sym (ap (λ o. is_holder o s) (ap locks (sym e)) ∙ none)
      go (inr n) = ap (λ o. is_holder o s) (held_there None M n)
