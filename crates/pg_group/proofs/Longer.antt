-- How much longer a list of members grows.
use Rattle.std.proofs.Common.{◌≡◌, ℕ, suc, ◌+◌, ◌-◌, ◌<◌, ◌≤◌, max, Bool, true, false, cond, Some}
use Rattle.std.proofs.Common.{None, List, [], ◌∷◌, ◌++◌, length, refl, sym, ap, subst, ◌∙◌, arith}
use Rattle.std.specs.Prelude.{count_by}
use Rattle.std.proofs.lemmas.List.{length-append}
use Rattle.std.proofs.lemmas.List.Sums.{sum_by-append, count_by-le-length}
use Rattle.pg_term.specs.declared.pid.Pid.{Pid}
use Rattle.pg_term.specs.declared.term.Term.{Term}
use Rattle.pg_term.specs.Same.{same_pid, same_term}
use Rattle.pg_term.proofs.Same as decided
use Rattle.pg_group.specs.declared.update.Update.{Update}
use Rattle.pg_group.specs.declared.update.Update.TheVariants.{Create, Delete, Join, Leave}
use Rattle.pg_group.specs.Value.{Value, apply, count_in, name_of}
use Rattle.pg_group.specs.Members.{IsMemberList}
use Rattle.pg_group.specs.Table.{Table, applied, changed, exchanged}
use Rattle.pg_group.proofs.Changes.{upd_by}
use Rattle.pg_group.proofs.Lists.{counted, counted_first}

-- ---- lists and how often a pid stands in them

-- without the first pid that is this one
abbrev without_one : Pid → List Pid → List Pid
without_one x [] = []
without_one x (y ∷ ys) = cond (same_pid x y) ys (y ∷ without_one x ys)

-- a pid that is there can be put in front
abbrev IsFront : Pid → List Pid → List Pid → Type 0
IsFront x ys rest = ((q : Pid) → count_by (same_pid q) ys ≡ count_by (same_pid q) (x ∷ rest)) × (length ys ≡ suc (length rest))

in_front : (x : Pid) (ys : List Pid) → 0 < count_by (same_pid x) ys → IsFront x ys (without_one x ys)
in_front x [] h = absurd (omega arith)
in_front x (y ∷ ys) h = go (same_pid x y) refl (in_front x ys)
  where
    go : (b : Bool) → same_pid x y ≡ b → (0 < count_by (same_pid x) ys → IsFront x ys (without_one x ys)) → IsFront x (y ∷ ys) (cond b ys (y ∷ without_one x ys))
    go true t later = (λ q. ap (λ (p : Pid). count_by (same_pid q) (p ∷ ys)) (sym (decided.pid_is x y t)), refl)
    go false t later =
        let here : count_by (same_pid x) (y ∷ ys) ≡ 0 + count_by (same_pid x) ys = counted x y ys ∙ ap (λ b. cond b 1 0 + count_by (same_pid x) ys) t in
        let rest = later (omega arith) in
        let longer : length ys ≡ suc (length (without_one x ys)) = rest.1 in
        (λ q. swapped q (rest.0 q), omega arith)
      where
        swapped : (q : Pid) → count_by (same_pid q) ys ≡ count_by (same_pid q) (x ∷ without_one x ys) → count_by (same_pid q) (y ∷ ys) ≡ count_by (same_pid q) (x ∷ y ∷ without_one x ys)
        swapped q e =
            let a = counted q y ys in
            let b = counted q x (without_one x ys) in
            let c = counted q x (y ∷ without_one x ys) in
            let d = counted q y (without_one x ys) in
            omega arith

-- a list that has no pid more often is no longer
no_longer : (xs ys : List Pid) → ((q : Pid) → count_by (same_pid q) xs ≤ count_by (same_pid q) ys) → length xs ≤ length ys
no_longer [] ys h = omega arith
no_longer (x ∷ xs) ys h =
    let first = counted_first x xs in
    let here = h x in
    let front = in_front x ys (omega arith) in
    let longer : length ys ≡ suc (length (without_one x ys)) = front.1 in
    let rest : length xs ≤ length (without_one x ys) = no_longer xs (without_one x ys) (λ q. fewer q (h q) (front.0 q)) in
    omega arith
  where
    fewer : (q : Pid) → count_by (same_pid q) (x ∷ xs) ≤ count_by (same_pid q) ys → count_by (same_pid q) ys ≡ count_by (same_pid q) (x ∷ without_one x ys) → count_by (same_pid q) xs ≤ count_by (same_pid q) (without_one x ys)
    fewer q most e =
        let a = counted q x xs in
        let b = counted q x (without_one x ys) in
        omega arith

-- members that are counted no more often than before, but for some pids
pub longer_by : (v w : Value) (among : Pid → Bool) (more before after : List Pid) → ((q : Pid) → count_in w q ≤ count_in v q + count_by (same_pid q) more) → IsMemberList v among before → IsMemberList w among after → length after ≤ length before + length more
longer_by v w among more before after grown was is =
    let both = length-append before more in
    let shorter : length after ≤ length (before ++ more) = no_longer after (before ++ more) (λ q. counts q (was.each q) (is.each q)) in
    omega arith
  where
    passed : (b : Bool) (n m k : ℕ) → n ≤ m + k → cond b n 0 ≤ cond b m 0 + k
    passed true n m k h = h
    passed false n m k h = omega arith

    counts : (q : Pid) → count_by (same_pid q) before ≡ cond (among q) (count_in v q) 0 → count_by (same_pid q) after ≡ cond (among q) (count_in w q) 0 → count_by (same_pid q) after ≤ count_by (same_pid q) (before ++ more)
    counts q e f =
        let all : count_by (same_pid q) (before ++ more) ≡ count_by (same_pid q) before + count_by (same_pid q) more = sum_by-append (λ x. cond (same_pid q x) 1 0) before more in
        let most = passed (among q) (count_in w q) (count_in v q) (count_by (same_pid q) more) (grown q) in
        omega arith

-- ---- an update

-- the pid that joins
abbrev pub joining : Update → List Pid
joining (Create name) = []
joining (Delete name) = []
joining (Join name pid) = pid ∷ []
joining (Leave name pid) = []

joining_one : (update : Update) → length (joining update) ≤ 1
joining_one (Create name) = omega arith
joining_one (Delete name) = omega arith
joining_one (Join name pid) = omega arith
joining_one (Leave name pid) = omega arith

once : (pid q : Pid) → same_pid pid q ≡ true → count_by (same_pid q) (pid ∷ []) ≡ 1
once pid q t = ap (λ (p : Pid). count_by (same_pid q) (p ∷ [])) (decided.pid_is pid q t) ∙ counted_first q []

applied_more : (v : Value) (update : Update) (ended : Pid → Bool) (q : Pid) → count_in (applied v update ended) q ≤ count_in v q + count_by (same_pid q) (joining update)
applied_more None (Create name) ended q = omega arith
applied_more (Some counts) (Create name) ended q = omega arith
applied_more v (Delete name) ended q = omega arith
applied_more None (Leave name pid) ended q = omega arith
applied_more (Some counts) (Leave name pid) ended q =
    upd_by same_pid counts pid (λ n. n ≤ counts q + 0) (counts pid - 1) q
    (λ t. let e : counts pid ≡ counts q = ap counts (decided.pid_is pid q t) in omega arith) (λ t. omega arith)
applied_more None (Join name pid) ended q = go (ended pid)
  where
    go : (b : Bool) → count_in (cond b None (apply None (Join name pid))) q ≤ 0 + count_by (same_pid q) (pid ∷ [])
    go true = omega arith
    go false = omega arith
applied_more (Some counts) (Join name pid) ended q = go (ended pid)
  where
    go : (b : Bool) → count_in (cond b (Some counts) (apply (Some counts) (Join name pid))) q ≤ counts q + count_by (same_pid q) (pid ∷ [])
    go true = omega arith
    go false =
        upd_by same_pid counts pid (λ n. n ≤ counts q + count_by (same_pid q) (pid ∷ [])) (counts pid + 1) q
        (λ t. let e : counts pid ≡ counts q = ap counts (decided.pid_is pid q t) in let f = once pid q t in omega arith) (λ t. omega arith)

changed_more : (table : Table) (update : Update) (ended : Pid → Bool) (name : Term) (q : Pid) → count_in (changed table update ended name) q ≤ count_in (table name) q + count_by (same_pid q) (joining update)
changed_more table update ended name q =
    upd_by same_term table (name_of update) (λ v. count_in v q ≤ count_in (table name) q + count_by (same_pid q) (joining update)) (applied (table (name_of update)) update ended) name
    (λ t. subst (λ (n : Term). count_in (applied (table (name_of update)) update ended) q ≤ count_in (table n) q + count_by (same_pid q) (joining update)) (decided.same_term (name_of update) name t) (applied_more (table (name_of update)) update ended q))
    (λ t. omega arith)

pub changed_one_more : (table : Table) (update : Update) (ended : Pid → Bool) (name : Term) (q : Pid) → count_in (changed table update ended name) q ≤ count_in (table name) q + 1
changed_one_more table update ended name q =
    let grown = changed_more table update ended name q in
    let some = count_by-le-length (same_pid q) (joining update) in
    let one = joining_one update in
    omega arith

pub changed_longer : (table : Table) (update : Update) (ended : Pid → Bool) (name : Term) (among : Pid → Bool) (before after : List Pid) → IsMemberList (table name) among before → IsMemberList (changed table update ended name) among after → length after ≤ length before + 1
changed_longer table update ended name among before after was is =
    let grown = longer_by (table name) (changed table update ended name) among (joining update) before after (changed_more table update ended name) was is in
    let one = joining_one update in
    omega arith

-- ---- an exchange

exchanged_more : (v : Value) (pids : List Pid) (ended : Pid → Bool) (q : Pid) → count_in (exchanged v pids ended) q ≤ count_in v q + count_by (same_pid q) pids
exchanged_more None pids ended q = go (ended q)
  where
    go : (b : Bool) → cond b 0 (count_by (same_pid q) pids) ≤ 0 + count_by (same_pid q) pids
    go true = omega arith
    go false = omega arith
exchanged_more (Some counts) pids ended q = go (ended q)
  where
    go : (b : Bool) → max (counts q) (cond b 0 (count_by (same_pid q) pids)) ≤ counts q + count_by (same_pid q) pids
    go true = omega arith
    go false = omega arith

pub exchanged_longer : (v : Value) (pids : List Pid) (ended : Pid → Bool) (among : Pid → Bool) (before after : List Pid) → IsMemberList v among before → IsMemberList (exchanged v pids ended) among after → length after ≤ length before + length pids
exchanged_longer v pids ended among before after was is = longer_by v (exchanged v pids ended) among pids before after (exchanged_more v pids ended) was is
