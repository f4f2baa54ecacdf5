-- The ended of a node that are listed in order are its first processes that have ended.
use Rattle.std.proofs.Common.{◌≡◌, ℕ, zero, suc, ◌+◌, ◌*◌, ◌<◌, ◌≤◌, Bool, true, false, ◌||◌, cond}
use Rattle.std.proofs.Common.{List, [], ◌∷◌, ◌++◌, refl, sym, ap, subst, ◌∙◌, arith, ◌≢◌, ◌⊎◌, inl, inr}
use Rattle.std.specs.BTreeMap.{is_at}
use Rattle.std.specs.Cmp.Lexicographic.{bytes_decides}
use Rattle.std.specs.List.{AllByRecursion, filter, list_any}
use Rattle.std.specs.List.Sorted.{IsStrictlySortedBy}
use Rattle.std.specs.Ordering.{is_eq, nat_cmp, ordering_then}
use Rattle.std.specs.declared.cmp.Ordering.{Ordering}
use Rattle.std.specs.declared.cmp.Ordering.TheVariants.{Less, Equal, Greater}
use Rattle.std.proofs.lemmas.Bool.{cases_eq}
use Rattle.std.proofs.lemmas.Bool.Decides.{nat_tests}
use Rattle.std.proofs.lemmas.List.Elements.{filter-append}
use Rattle.pg_term.specs.declared.pid.Pid.{Pid}
use Rattle.pg_term.specs.Same.{same_atom, same_pid, atom_cmp, pid_cmp}
use Rattle.pg_term.specs.contracts.atom.AtomOrd.TheImpl.Laws as atom_laws
use Rattle.pg_term.specs.contracts.pid.PidOrd.TheImpl.Laws as pid_laws
use Rattle.pg_term.specs.contracts.pid.PidEq.TheImpl.Laws as pid_equality
use Rattle.pg_term.proofs.Same as decided
use Rattle.pg_group.specs.declared.ended.Ended.{Ended}
use Rattle.pg_group.specs.Ended.{ended_of, is_whole, single_of}
use Rattle.pg_group.specs.Ends.{has_pid}
use Rattle.pg_group.specs.Scope.{at_node}
use Rattle.pg_ends.specs.Numbers.{pid_of, number_in, is_among, first_pids, ended_among}

-- ---- numbers

-- the numbers of processes, as the law tells of them
pub record AreNumbered (own : List ℕ) : Type 0 where
  pub number : (n : ℕ) → number_in (pid_of own n) ≡ n
  pub made : (made n : ℕ) → 1 ≤ n → n ≤ made → is_among made (pid_of own n) ≡ true
  pub first : (made : ℕ) (pid : Pid) → is_among made pid ≡ true → 1 ≤ number_in pid
  pub last : (made : ℕ) (pid : Pid) → is_among made pid ≡ true → number_in pid ≤ made
  pub only : (made : ℕ) (pid : Pid) → is_among made pid ≡ true → pid ≡ pid_of pid.node (number_in pid)

clash : {A : Type 0} (b : Bool) → b ≡ true → b ≡ false → A
clash true a b = absurd (cc b)
clash false a b = absurd (cc a)

among_as : (made n : ℕ) (pid : Pid) → is_among made pid ≡ true → number_in pid ≤ n → is_among n pid ≡ true
among_as made n pid is few = grind (arith, nat_tests)

equal_node : (a b : List ℕ) → same_atom a b ≡ true → atom_cmp a b ≡ Equal
equal_node a b s = go (atom_cmp a b) (sym (atom_laws.matches_eq-law a b) ∙ s)
  where
    go : (o : Ordering) → is_eq o ≡ true → o ≡ Equal
    go Less h = absurd (cc h)
    go Equal h = refl
    go Greater h = absurd (cc h)

self_same : (x : Pid) → same_pid x x ≡ true
self_same x = pid_equality.laws-law.refl x

cases_last : (m n : ℕ) → m ≤ suc n → (m ≤ n) ⊎ (m ≡ suc n)
cases_last m n few = go (cases_eq m (suc n))
  where
    go : (m ≡ suc n) ⊎ (m ≢ suc n) → (m ≤ n) ⊎ (m ≡ suc n)
    go (inl is) = inr is
    go (inr other) = inl (omega (arith, few, other))

-- of two pids of one node the greater has the greater number
higher : (a b c d : ℕ) → ordering_then (nat_cmp a c) (ordering_then (nat_cmp b d) (nat_cmp 1 1)) ≡ Less → b < 32768 → a * 32768 + b < c * 32768 + d
higher a b c d less low = grind (arith, nat_tests)

-- ---- the list, process by process

module _ (own : List ℕ) (numbered : AreNumbered own) where
  same_so : (x y : Pid) → same_pid x y ≡ is_at (pid_cmp x) y
  same_so x y = pid_laws.matches_eq-law x y

  -- past the process of a number stand those of greater numbers
  past : (n : ℕ) (y : Pid) → at_node own y ≡ true → pid_cmp (pid_of own n) y ≡ Less → is_among n y ≡ false
  past n y here less = go (is_among n y) refl
    where
      p : Pid
      p = pid_of own n

      go : (b : Bool) → is_among n y ≡ b → b ≡ false
      go false e = refl
      go true e =
          let same : own ≡ y.node = (bytes_decides own y.node).0 here in
          let shown : y ≡ pid_of y.node (number_in y) = numbered.only n y e in
          let one : y.creation ≡ 1 = ap (λ (z : Pid). z.creation) shown in
          let rest : ordering_then (nat_cmp p.serial y.serial) (ordering_then (nat_cmp p.id y.id) (nat_cmp 1 1)) ≡ Less =
          (λ i. ordering_then (sym (equal_node own y.node here) i) (ordering_then (nat_cmp p.serial y.serial) (ordering_then (nat_cmp p.id y.id) (nat_cmp 1 (sym one i))))) ∙ less in
          let low : p.id < 32768 = omega arith in
          let more : number_in p < number_in y = higher p.serial p.id y.serial y.id rest low in
          let is : number_in p ≡ n = numbered.number n in
          let few : number_in y ≤ n = numbered.last n y e in
          absurd (omega (arith, more, is, few))

  apart : (n : ℕ) (y : Pid) → pid_cmp (pid_of own n) y ≡ Less → same_pid (pid_of own n) y ≡ false
  apart n y less = same_so (pid_of own n) y ∙ ap is_eq less

  none_past : (n : ℕ) (ys : List Pid) → AllByRecursion (λ y. pid_cmp (pid_of own n) y ≡ Less) ys → AllByRecursion (λ y. at_node own y ≡ true) ys → filter (is_among n) ys ≡ []
  none_past n [] less here = refl
  none_past n (y ∷ ys) less here = ap (λ b. cond b (y ∷ filter (is_among n) ys) (filter (is_among n) ys)) (past n y here.0 less.0) ∙ none_past n ys less.1 here.1

  none_same : (n : ℕ) (ys : List Pid) → AllByRecursion (λ y. pid_cmp (pid_of own n) y ≡ Less) ys → filter (same_pid (pid_of own n)) ys ≡ []
  none_same n [] less = refl
  none_same n (y ∷ ys) less = ap (λ b. cond b (y ∷ filter (same_pid (pid_of own n)) ys) (filter (same_pid (pid_of own n)) ys)) (apart n y less.0) ∙ none_same n ys less.1

  lower_too : (n : ℕ) (ys : List Pid) → filter (is_among (suc n)) ys ≡ [] → filter (is_among n) ys ≡ []
  lower_too n [] e = refl
  lower_too n (y ∷ ys) e = go (lower_too n ys) (is_among (suc n) y) (is_among n y) refl refl e
    where
      go : (filter (is_among (suc n)) ys ≡ [] → filter (is_among n) ys ≡ []) → (b d : Bool) → is_among (suc n) y ≡ b → is_among n y ≡ d → cond b (y ∷ filter (is_among (suc n)) ys) (filter (is_among (suc n)) ys) ≡ [] → cond d (y ∷ filter (is_among n) ys) (filter (is_among n) ys) ≡ []
      go rest true d e f none = absurd (cc none)
      go rest false false e f none = rest none
      go rest false true e f none = clash (is_among (suc n) y) (let few = numbered.last n y f in among_as n (suc n) y f (omega (arith, few))) e

  -- one process more
  one_more : (n : ℕ) (xs : List Pid) → IsStrictlySortedBy pid_cmp xs → AllByRecursion (λ y. at_node own y ≡ true) xs → filter (is_among (suc n)) xs ≡ filter (is_among n) xs ++ filter (same_pid (pid_of own (suc n))) xs
  unfolding IsStrictlySortedBy
  one_more n [] sorted here = refl
  one_more n (x ∷ xs) sorted here = go (one_more n xs sorted.1 here.1) (is_among n x) (same_pid p x) refl refl
    where
      p : Pid
      p = pid_of own (suc n)

      below : List Pid
      below = filter (is_among n) xs

      goal : Bool → Bool → Bool → Type 0
      goal a b d = cond a (x ∷ filter (is_among (suc n)) xs) (filter (is_among (suc n)) xs) ≡ cond b (x ∷ below) below ++ cond d (x ∷ filter (same_pid p) xs) (filter (same_pid p) xs)

      go : filter (is_among (suc n)) xs ≡ below ++ filter (same_pid p) xs → (b d : Bool) → is_among n x ≡ b → same_pid p x ≡ d → goal (is_among (suc n) x) b d
      go more true true e f =
          let is : p ≡ x = decided.pid_is p x f in
          let few : number_in x ≤ n = numbered.last n x e in
          let number : number_in x ≡ suc n = ap number_in (sym is) ∙ numbered.number (suc n) in
          absurd (omega (arith, few, number))
      go more true false e f =
          let few = numbered.last n x e in
          subst (λ a. goal a true false) (sym (among_as n (suc n) x e (omega (arith, few)))) (ap (λ l. x ∷ l) more)
      go more false true e f =
          let is : p ≡ x = decided.pid_is p x f in
          let less : AllByRecursion (λ y. pid_cmp p y ≡ Less) xs = subst (λ z. AllByRecursion (λ y. pid_cmp z y ≡ Less) xs) (sym is) sorted.0 in
          let none = none_past (suc n) xs less here.1 in
          let first : is_among (suc n) x ≡ true = ap (is_among (suc n)) (sym is) ∙ numbered.made (suc n) (suc n) (omega arith) (omega arith) in
          subst (λ a. goal a false true) (sym first)
          ((λ i. x ∷ none i) ∙ (λ i. sym (lower_too n xs none) i ++ x ∷ sym (none_same (suc n) xs less) i))
      go more false false e f = subst (λ a. goal a false false) (sym (not_first (is_among (suc n) x) refl)) more
        where
          not_first : (a : Bool) → is_among (suc n) x ≡ a → is_among (suc n) x ≡ false
          not_first false g = g
          not_first true g =
              let last = numbered.last (suc n) x g in
              clash (same_pid p x) (at_last (cases_last (number_in x) n last)) f
            where
              at_last : (number_in x ≤ n) ⊎ (number_in x ≡ suc n) → same_pid p x ≡ true
              at_last (inl few) = clash (is_among n x) (among_as (suc n) n x g few) e
              at_last (inr is) =
                  let node : own ≡ x.node = (bytes_decides own x.node).0 here.0 in
                  ap (λ z. same_pid z x) ((λ i. pid_of (node i) (sym is i)) ∙ sym (numbered.only (suc n) x g)) ∙ self_same x

  -- a process stands in the list once, or not at all
  stands_once : (p : Pid) (xs : List Pid) → IsStrictlySortedBy pid_cmp xs → filter (same_pid p) xs ≡ cond (list_any (is_at (pid_cmp p)) xs) (p ∷ []) []
  unfolding IsStrictlySortedBy
  stands_once p [] sorted = refl
  stands_once p (x ∷ xs) sorted = go (stands_once p xs sorted.1) (same_pid p x) (is_at (pid_cmp p) x) refl (same_so p x)
    where
      go : filter (same_pid p) xs ≡ cond (list_any (is_at (pid_cmp p)) xs) (p ∷ []) [] → (b d : Bool) → same_pid p x ≡ b → b ≡ d → cond b (x ∷ filter (same_pid p) xs) (filter (same_pid p) xs) ≡ cond (d || list_any (is_at (pid_cmp p)) xs) (p ∷ []) []
      go rest true true e f =
          let is : p ≡ x = decided.pid_is p x e in
          (λ i. sym is i ∷ none p xs (subst (λ z. AllByRecursion (λ y. pid_cmp z y ≡ Less) xs) (sym is) sorted.0) i)
        where
          none : (q : Pid) (ys : List Pid) → AllByRecursion (λ y. pid_cmp q y ≡ Less) ys → filter (same_pid q) ys ≡ []
          none q [] less = refl
          none q (y ∷ ys) less = ap (λ b. cond b (y ∷ filter (same_pid q) ys) (filter (same_pid q) ys)) (same_so q y ∙ ap is_eq less.0) ∙ none q ys less.1
      go rest false false e f = rest
      go rest true false e f = absurd (cc f)
      go rest false true e f = absurd (cc f)

  none_among : (xs : List Pid) → filter (is_among 0) xs ≡ []
  none_among [] = refl
  none_among (x ∷ xs) = ap (λ b. cond b (x ∷ filter (is_among 0) xs) (filter (is_among 0) xs)) (never (is_among 0 x) refl) ∙ none_among xs
    where
      never : (b : Bool) → is_among 0 x ≡ b → is_among 0 x ≡ false
      never false e = e
      never true e = let first = numbered.first 0 x e in let last = numbered.last 0 x e in absurd (omega (arith, first, last))

  pub listed_so : (xs : List Pid) (ended : Pid → Bool) → IsStrictlySortedBy pid_cmp xs → AllByRecursion (λ y. at_node own y ≡ true) xs → ((n : ℕ) → ended (pid_of own n) ≡ list_any (is_at (pid_cmp (pid_of own n))) xs)
      → (n : ℕ) → filter (is_among n) xs ≡ ended_among own n ended
  unfolding first_pids
  listed_so xs ended sorted here has zero = none_among xs
  listed_so xs ended sorted here has (suc n) =
      one_more n xs sorted here
      ∙ (λ i. listed_so xs ended sorted here has n i ++ stands_once (pid_of own (suc n)) xs sorted i)
      ∙ (λ i. filter ended (first_pids own n) ++ cond (sym (has (suc n)) i) (pid_of own (suc n) ∷ []) [])
      ∙ sym (filter-append ended (first_pids own n) (pid_of own (suc n) ∷ []))

-- ---- the ended of the node

all_here : (own : List ℕ) (keys : List Pid) → AllByRecursion (λ y. at_node own y ≡ true) (filter (at_node own) keys)
all_here own [] = tt
all_here own (x ∷ keys) = go (all_here own keys) (at_node own x) refl
  where
    go : AllByRecursion (λ y. at_node own y ≡ true) (filter (at_node own) keys) → (b : Bool) → at_node own x ≡ b → AllByRecursion (λ y. at_node own y ≡ true) (cond b (x ∷ filter (at_node own) keys) (filter (at_node own) keys))
    go rest true e = (e, rest)
    go rest false e = rest

found_here : (own : List ℕ) (p : Pid) → at_node own p ≡ true → (keys : List Pid) → list_any (is_at (pid_cmp p)) keys ≡ list_any (is_at (pid_cmp p)) (filter (at_node own) keys)
found_here own p here [] = refl
found_here own p here (x ∷ keys) = go (is_at (pid_cmp p) x) (at_node own x) refl refl (found_here own p here keys)
  where
    rest : List Pid
    rest = filter (at_node own) keys

    go : (b d : Bool) → is_at (pid_cmp p) x ≡ b → at_node own x ≡ d → list_any (is_at (pid_cmp p)) keys ≡ list_any (is_at (pid_cmp p)) rest → b || list_any (is_at (pid_cmp p)) keys ≡ list_any (is_at (pid_cmp p)) (cond d (x ∷ rest) rest)
    go true true e f h = ap (λ b. b || list_any (is_at (pid_cmp p)) rest) (sym e)
    go true false e f h = clash (at_node own x) (ap (at_node own) (sym (decided.pid_is p x (pid_laws.matches_eq-law p x ∙ e))) ∙ here) f
    go false true e f h = h ∙ ap (λ b. b || list_any (is_at (pid_cmp p)) rest) (sym e)
    go false false e f h = h

pub singles_so : (own : List ℕ) → AreNumbered own → (ended : Ended) → is_whole ended own ≡ false → IsStrictlySortedBy pid_cmp (single_of ended own) → (n : ℕ) → filter (is_among n) (single_of ended own) ≡ ended_among own n (ended_of ended)
singles_so own numbered ended single sorted n =
    listed_so own numbered (single_of ended own) (ended_of ended) sorted (all_here own ended.pids)
    (λ k. ap (λ b. b || has_pid ended.pids (pid_of own k)) single ∙ found_here own (pid_of own k) ((bytes_decides own own).1 refl) ended.pids) n

-- the whole node has ended
pub all_so : (own : List ℕ) (ended : Ended) → is_whole ended own ≡ true → (n : ℕ) → first_pids own n ≡ ended_among own n (ended_of ended)
unfolding first_pids
all_so own ended whole zero = refl
all_so own ended whole (suc n) =
    (λ i. all_so own ended whole n i ++ cond (sym (ap (λ b. b || has_pid ended.pids (pid_of own (suc n))) whole) i) (pid_of own (suc n) ∷ []) [])
    ∙ sym (filter-append (ended_of ended) (first_pids own n) (pid_of own (suc n) ∷ []))

-- ---- one process more

pub first_more : (own : List ℕ) (n : ℕ) → first_pids own (n + 1) ≡ first_pids own n ++ pid_of own (n + 1) ∷ []
unfolding first_pids
first_more own n =
    let next : n + 1 ≡ suc n = omega arith in
    ap (first_pids own) next ∙ ap (λ k. first_pids own n ++ pid_of own k ∷ []) (sym next)

pub none_first : (own : List ℕ) → [] ≡ first_pids own 0
unfolding first_pids
none_first own = refl
