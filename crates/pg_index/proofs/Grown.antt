-- Tables to which names are added, and taken out again.
use Rattle.std.proofs.Math.Path.{fun_ext}
use Rattle.std.proofs.Common.{◌≡◌, ℕ, ◌<◌, Bool, true, false, cond, Option, Some, None, List, [], ◌∷◌, ◌++◌, length}
use Rattle.std.proofs.Common.{refl, sym, ap, subst, ◌∙◌, nat_eq, arith, append_assoc, append-nil, length-append}
use Rattle.std.specs.Prelude.{Result, Ok, Err, OnOk, OnErr}
use Rattle.std.specs.Option.{option_map}
use Rattle.std.specs.List.{AllByRecursion}
use Rattle.std.specs.Map.{lookup}
use Rattle.pg_term.specs.declared.pid.Pid.{Pid}
use Rattle.pg_term.specs.declared.term.Term.{Term}
use Rattle.pg_term.specs.Same.{same_term}
use Rattle.pg_group.specs.Functions.{upd}
use Rattle.pg_group.specs.Value.{nobody, greater, told}
use Rattle.pg_group.proofs.Changes.{upd_other, upd_twice}
use Rattle.pg_index.specs.Groups.{Numbered, counts_by_number, is_used, counts_raised, IsPartlyRaised}
use Rattle.pg_index.specs.Index.{Numbers, number_of, table_of, HasGroups, AreNumberedApart}
use Rattle.pg_index.specs.Grown.{IsGrown}
use Rattle.pg_index.specs.declared.memberships.Memberships.{Memberships}
use Rattle.pg_index.proofs.Numbers.{number_is}

apart_number : (used : ℕ → Bool) (group k : ℕ) → used group ≡ false → used k ≡ true → nat_eq group k ≡ false
apart_number used group k free busy = go (nat_eq group k) refl
  where
    go : (t : Bool) → nat_eq group k ≡ t → nat_eq group k ≡ false
    go true e = absurd (let same : used group ≡ used k = ap used (number_is group k e) in cc)
    go false e = e

-- ---- lists with one more at the end

all_and_one : {A : Type 0} (P : A → Type 0) (xs : List A) (x : A) → AllByRecursion P xs → P x → AllByRecursion P (xs ++ x ∷ [])
all_and_one P [] x all one = (one, tt)
all_and_one P (y ∷ xs) x all one = (all.0, all_and_one P xs x all.1 one)

all_but_one : {A : Type 0} (P : A → Type 0) (xs : List A) (x : A) → AllByRecursion P (xs ++ x ∷ []) → AllByRecursion P xs × P x
all_but_one P [] x all = (tt, all.0)
all_but_one P (y ∷ xs) x all = let rest = all_but_one P xs x all.1 in ((all.0, rest.0), rest.1)

last_of : {A : Type 0} (xs ys zs : List A) (x : A) → xs ++ x ∷ [] ≡ ys ++ zs → length ys < length (xs ++ x ∷ []) → (rest : List A) × ((zs ≡ rest ++ x ∷ []) × (xs ≡ ys ++ rest))
last_of xs [] zs x e h = (xs, (sym e, refl))
last_of [] (y ∷ ys) zs x e h = absurd (omega (arith, h))
last_of (w ∷ xs) (y ∷ ys) zs x e h =
    let tails : xs ++ x ∷ [] ≡ ys ++ zs = cc in
    let heads : w ≡ y = cc in
    let found = last_of xs ys zs x tails (omega (arith, h)) in
    (found.0, (found.1.0, λ i. heads i ∷ found.1.1 i))

none_more : {A : Type 0} (xs ys : List A) → length (xs ++ ys) ≡ length xs → xs ++ ys ≡ xs
none_more xs [] e = append-nil xs
none_more xs (y ∷ ys) e = absurd (let all = length-append xs (y ∷ ys) in omega (arith, e, all))

-- ---- the numbers of names that came

number_among : (used : ℕ → Bool) (test : Term → Bool) (group : ℕ) (more : List (Term × ℕ)) → AllByRecursion (λ entry. used entry.1 ≡ false) more → lookup test more ≡ Some group → used group ≡ false
number_among used test group [] free found = absurd cc
number_among used test group (e ∷ es) free found = go (test e.0) found (number_among used test group es free.1)
  where
    go : (t : Bool) → cond t (Some e.1) (lookup test es) ≡ Some group → (lookup test es ≡ Some group → used group ≡ false) → used group ≡ false
    go true is later = let same : e.1 ≡ group = cc in sym (ap used same) ∙ free.0
    go false is later = later is

number_came : (used : ℕ → Bool) (test : Term → Bool) (group : ℕ) (entries more : List (Term × ℕ)) → AllByRecursion (λ entry. used entry.1 ≡ false) more
    → lookup test entries ≡ None → lookup test (entries ++ more) ≡ Some group → used group ≡ false
number_came used test group [] more free none found = number_among used test group more free found
number_came used test group (e ∷ es) more free none found = go (test e.0) none found (number_came used test group es more free)
  where
    go : (t : Bool) → cond t (Some e.1) (lookup test es) ≡ None → cond t (Some e.1) (lookup test (es ++ more)) ≡ Some group
        → (lookup test es ≡ None → lookup test (es ++ more) ≡ Some group → used group ≡ false) → used group ≡ false
    go true missing is later = absurd cc
    go false missing is later = later missing is

-- ---- a table that grows

pub not_grown : (n : Numbers) (m : Memberships) → IsGrown n m n m
not_grown n m = record {
  more = [];
  entries = sym (append-nil n.entries);
  free = tt;
  used = λ k busy. busy;
  kept = λ k busy. refl;
}

module _ (n : Numbers) (m : Memberships) (numbers : Numbers) (now : Memberships) (grown : IsGrown n m numbers now) where
  was_free : (group : ℕ) → is_used now.groups group ≡ false → is_used m.groups group ≡ false
  was_free group free = go (is_used m.groups group) refl
    where
      go : (b : Bool) → is_used m.groups group ≡ b → is_used m.groups group ≡ false
      go true e = absurd (let busy = grown.used group e in cc)
      go false e = e

  -- no other name
  grown_still : (numbers' : Numbers) (then : Memberships) → numbers'.entries ≡ numbers.entries
      → ((k : ℕ) → is_used m.groups k ≡ true → is_used then.groups k ≡ is_used now.groups k)
      → ((k : ℕ) → is_used m.groups k ≡ true → counts_by_number then.groups k ≡ counts_by_number now.groups k)
      → IsGrown n m numbers' then
  grown_still numbers' then same used counts = record {
    more = grown.more;
    entries = same ∙ grown.entries;
    free = grown.free;
    used = λ k busy. used k busy ∙ grown.used k busy;
    kept = λ k busy. counts k busy ∙ grown.kept k busy;
  }

  pub grown_same : (then : Memberships) → is_used then.groups ≡ is_used now.groups → counts_by_number then.groups ≡ counts_by_number now.groups → IsGrown n m numbers then
  grown_same then used counts = grown_still numbers then refl (λ k busy. ap (λ (u : ℕ → Bool). u k) used) (λ k busy. ap (λ (c : Numbered). c k) counts)

  module _ (then : Memberships) (group : ℕ) (free : is_used now.groups group ≡ false) (opened : is_used then.groups ≡ upd nat_eq (is_used now.groups) group true) (counts : counts_by_number then.groups ≡ counts_by_number now.groups) where
    distinct : (k : ℕ) → is_used m.groups k ≡ true → nat_eq group k ≡ false
    distinct k busy = apart_number (is_used now.groups) group k free (grown.used k busy)

    -- one name more
    pub grown_more : (numbers' : Numbers) (name : Term) → numbers'.entries ≡ numbers.entries ++ (name, group) ∷ [] → IsGrown n m numbers' then
    grown_more numbers' name one = record {
      more = grown.more ++ (name, group) ∷ [];
      entries = one ∙ ap (λ es. es ++ (name, group) ∷ []) grown.entries ∙ append_assoc n.entries grown.more ((name, group) ∷ []);
      free = all_and_one (λ entry. is_used m.groups entry.1 ≡ false) grown.more (name, group) grown.free (was_free group free);
      used = λ k busy. ap (λ (u : ℕ → Bool). u k) opened ∙ upd_other nat_eq (is_used now.groups) group true k (distinct k busy) ∙ grown.used k busy;
      kept = λ k busy. ap (λ (c : Numbered). c k) counts ∙ grown.kept k busy;
    }

    -- the number is given up
    pub grown_given_up : (numbers' : Numbers) (last : Memberships) → numbers'.entries ≡ numbers.entries → is_used last.groups ≡ upd nat_eq (is_used then.groups) group false
        → counts_by_number last.groups ≡ upd nat_eq (counts_by_number then.groups) group nobody → IsGrown n m numbers' last
    grown_given_up numbers' last same closed dropped = grown_still numbers' last same
        (λ k busy. ap (λ (u : ℕ → Bool). u k) (closed ∙ ap (λ (u : ℕ → Bool). upd nat_eq u group false) opened ∙ upd_twice nat_eq (is_used now.groups) group true false) ∙ upd_other nat_eq (is_used now.groups) group false k (distinct k busy))
        (λ k busy. ap (λ (c : Numbered). c k) dropped ∙ upd_other nat_eq (counts_by_number then.groups) group nobody k (distinct k busy) ∙ ap (λ (c : Numbered). c k) counts)

  -- counts are raised in a group whose name came
  pub grown_raised : (then : Memberships) (name : Term) (group : ℕ) (pids : List Pid) (ended : Pid → Bool) {T E : Type 0} (result : Result T E)
      → number_of n name ≡ None → number_of numbers name ≡ Some group → is_used then.groups ≡ is_used now.groups
      → OnOk result (counts_by_number then.groups ≡ counts_raised (counts_by_number now.groups) group pids ended)
      → OnErr result (IsPartlyRaised (counts_by_number now.groups) (counts_by_number then.groups) group pids ended) → IsGrown n m numbers then
  grown_raised then name group pids ended result none has used whole partly = grown_still numbers then refl (λ k busy. ap (λ (u : ℕ → Bool). u k) used) (λ k busy. others result whole partly k (distinct k busy))
    where
      free : is_used m.groups group ≡ false
      free = number_came (is_used m.groups) (same_term name) group n.entries grown.more grown.free none (subst (λ (es : List (Term × ℕ)). lookup (same_term name) es ≡ Some group) grown.entries has)

      distinct : (k : ℕ) → is_used m.groups k ≡ true → nat_eq group k ≡ false
      distinct k busy = apart_number (is_used m.groups) group k free busy

      others : {T E : Type 0} (r : Result T E) → OnOk r (counts_by_number then.groups ≡ counts_raised (counts_by_number now.groups) group pids ended)
          → OnErr r (IsPartlyRaised (counts_by_number now.groups) (counts_by_number then.groups) group pids ended) → (k : ℕ) → nat_eq group k ≡ false → counts_by_number then.groups k ≡ counts_by_number now.groups k
      others (Ok v) h g k other = ap (λ (c : Numbered). c k) h ∙ upd_other nat_eq (counts_by_number now.groups) group (greater (counts_by_number now.groups group) (told pids ended)) k other
      others (Err e) h g k other = g.others k other

  -- the last name goes
  pub grown_less : (numbers' : Numbers) (then : Memberships) (name : Term) (group : ℕ) → length n.entries < length numbers.entries → numbers.entries ≡ numbers'.entries ++ (name, group) ∷ []
      → is_used then.groups ≡ upd nat_eq (is_used now.groups) group false → counts_by_number then.groups ≡ upd nat_eq (counts_by_number now.groups) group nobody → IsGrown n m numbers' then
  grown_less numbers' then name group longer popped closed dropped =
      let last = last_of numbers'.entries n.entries grown.more (name, group) (sym popped ∙ grown.entries) (subst (λ (es : List (Term × ℕ)). length n.entries < length es) popped longer) in
      let parts = all_but_one (λ entry. is_used m.groups entry.1 ≡ false) last.0 (name, group) (subst (AllByRecursion (λ entry. is_used m.groups entry.1 ≡ false)) last.1.0 grown.free) in
      record {
        more = last.0;
        entries = last.1.1;
        free = parts.0;
        used = λ k busy. ap (λ (u : ℕ → Bool). u k) closed ∙ upd_other nat_eq (is_used now.groups) group false k (apart_number (is_used m.groups) group k parts.1 busy) ∙ grown.used k busy;
        kept = λ k busy. ap (λ (c : Numbered). c k) dropped ∙ upd_other nat_eq (counts_by_number now.groups) group nobody k (apart_number (is_used m.groups) group k parts.1 busy) ∙ grown.kept k busy;
      }

  -- all that came are gone
  module _ (all : length numbers.entries ≡ length n.entries) (there : HasGroups (number_of n) (is_used m.groups)) where
    entries_back : numbers.entries ≡ n.entries
    entries_back = grown.entries ∙ none_more n.entries grown.more (ap (λ (es : List (Term × ℕ)). length es) (sym grown.entries) ∙ all)

    number_back : (name : Term) → number_of numbers name ≡ number_of n name
    number_back name = ap (lookup (same_term name)) entries_back

    pub back_there : HasGroups (number_of numbers) (is_used now.groups)
    back_there name group has = grown.used group (there name group (sym (number_back name) ∙ has))

    pub back_apart : AreNumberedApart (number_of n) → AreNumberedApart (number_of numbers)
    back_apart apart one other group e f = apart one other group (sym (number_back one) ∙ e) (sym (number_back other) ∙ f)

    pub table_back : table_of numbers now ≡ table_of n m
    table_back = fun_ext (λ name. ap (option_map (counts_by_number now.groups)) (number_back name) ∙ go name (number_of n name) refl)
      where
        go : (name : Term) (o : Option ℕ) → number_of n name ≡ o → option_map (counts_by_number now.groups) o ≡ option_map (counts_by_number m.groups) o
        go name None e = refl
        go name (Some k) e = ap Some (grown.kept k (there name k e))

-- the name of a group that is absent has no number
pub unnumbered : (n : Numbers) (m : Memberships) (name : Term) → table_of n m name ≡ None → number_of n name ≡ None
unnumbered n m name absent = go (number_of n name) absent
  where
    go : (o : Option ℕ) → option_map (counts_by_number m.groups) o ≡ None → o ≡ None
    go None e = refl
    go (Some k) e = absurd cc
