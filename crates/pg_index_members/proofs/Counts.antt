-- What is added and taken, as counts; and the rows as a list of members.
use Rattle.std.proofs.Common.{◌≡◌, ℕ, ◌+◌, ◌-◌, ◌≤◌, Bool, true, false, cond, Some}
use Rattle.std.proofs.Common.{List, [], ◌∷◌, refl, sym, ap, subst, ◌∙◌, arith}
use Rattle.std.specs.Prelude.{count_by, nat_le}
use Rattle.std.specs.List.{AllByRecursion}
use Rattle.std.specs.Ordering.{is_lt, is_gt}
use Rattle.std.proofs.Math.Path.{fun_ext}
use Rattle.std.proofs.lemmas.Bool.Decides.{nat_tests}
use Rattle.std.specs.declared.cmp.Ordering.{Ordering}
use Rattle.std.specs.declared.cmp.Ordering.TheVariants.{Less, Equal, Greater}
use Rattle.pg_term.specs.declared.pid.Pid.{Pid}
use Rattle.pg_term.specs.Same.{same_pid, pid_cmp}
use Rattle.pg_group.specs.Functions.{upd}
use Rattle.pg_group.specs.Members.{IsInOrder, IsMemberList}
use Rattle.pg_group.proofs.Put.{all-put, ordered-put, count-put}
use Rattle.pg_index_members.specs.declared.row.Row.{Row}
use Rattle.pg_index_members.specs.Rows.{counts_of, spread, AreRows, added, added_by, one_taken, taken_by}
use Rattle.pg_index_members.proofs.Order.{same_is, same_if, same_self, symm, turned, other_turned, other_if_less}
use Rattle.pg_index_members.proofs.Flat.{none_greater, later_greater}

-- ---- one pid's count, and the others'

added_self : (pid : Pid) (n : ℕ) (rows : List Row) → counts_of (added rows pid n) pid ≡ counts_of rows pid + n
added_self pid n [] = let e : cond (same_pid pid pid) n 0 ≡ n = ap (λ b. cond b n 0) (same_self pid) in omega arith
added_self pid n (r ∷ rs) = go (pid_cmp r.pid pid) refl (added_self pid n rs)
  where
    go : (o : Ordering) → pid_cmp r.pid pid ≡ o → counts_of (added rs pid n) pid ≡ counts_of rs pid + n → counts_of (added_by o r rs (added rs pid n) pid n) pid ≡ counts_of (r ∷ rs) pid + n
    go Less e i = omega arith
    go Equal e i = let f : same_pid pid r.pid ≡ true = symm pid r.pid ∙ same_if r.pid pid e in let g : cond (same_pid pid r.pid) r.count 0 ≡ r.count = ap (λ b. cond b r.count 0) f in let h : cond (same_pid pid r.pid) (r.count + n) 0 ≡ r.count + n = ap (λ b. cond b (r.count + n) 0) f in omega arith
    go Greater e i = let g : cond (same_pid pid pid) n 0 ≡ n = ap (λ b. cond b n 0) (same_self pid) in omega arith

added_other : (pid q : Pid) (n : ℕ) (rows : List Row) → same_pid pid q ≡ false → counts_of (added rows pid n) q ≡ counts_of rows q
added_other pid q n [] h = let e : cond (same_pid q pid) n 0 ≡ 0 = ap (λ b. cond b n 0) (symm q pid ∙ h) in omega arith
added_other pid q n (r ∷ rs) h = go (pid_cmp r.pid pid) refl (added_other pid q n rs h)
  where
    go : (o : Ordering) → pid_cmp r.pid pid ≡ o → counts_of (added rs pid n) q ≡ counts_of rs q → counts_of (added_by o r rs (added rs pid n) pid n) q ≡ counts_of (r ∷ rs) q
    go Less e i = omega arith
    go Equal e i =
        let f : same_pid q r.pid ≡ false = ap (same_pid q) (same_is r.pid pid (same_if r.pid pid e)) ∙ symm q pid ∙ h in
        let g : cond (same_pid q r.pid) r.count 0 ≡ 0 = ap (λ b. cond b r.count 0) f in
        let k : cond (same_pid q r.pid) (r.count + n) 0 ≡ 0 = ap (λ b. cond b (r.count + n) 0) f in
        omega arith
    go Greater e i = let g : cond (same_pid q pid) n 0 ≡ 0 = ap (λ b. cond b n 0) (symm q pid ∙ h) in omega arith

pub counts-added : (pid : Pid) (n : ℕ) (rows : List Row) → counts_of (added rows pid n) ≡ upd same_pid (counts_of rows) pid (counts_of rows pid + n)
unfolding upd
counts-added pid n rows = fun_ext (λ q. go q (same_pid pid q) refl)
  where
    go : (q : Pid) (b : Bool) → same_pid pid q ≡ b → counts_of (added rows pid n) q ≡ cond b (counts_of rows pid + n) (counts_of rows q)
    go q true e = subst (λ (x : Pid). counts_of (added rows pid n) x ≡ counts_of rows pid + n) (same_is pid q e) (added_self pid n rows)
    go q false e = added_other pid q n rows e

taken_self : (pid : Pid) (n : ℕ) (rows : List Row) → AreRows rows → counts_of (one_taken rows pid n) pid ≡ counts_of rows pid - n
taken_self pid n [] h = omega arith
taken_self pid n (r ∷ rs) h = go (pid_cmp r.pid pid) refl (taken_self pid n rs h.2)
  where
    some : (k : Bool) → nat_le r.count n ≡ k → same_pid pid r.pid ≡ true → counts_of rs pid ≡ 0 → counts_of (cond k rs (record { pid = r.pid; count = r.count - n } ∷ rs)) pid ≡ r.count - n
    some true e f g = let few : r.count ≤ n = grind (arith, nat_tests) in omega arith
    some false e f g = let i : cond (same_pid pid r.pid) (r.count - n) 0 ≡ r.count - n = ap (λ b. cond b (r.count - n) 0) f in omega arith

    go : (o : Ordering) → pid_cmp r.pid pid ≡ o → counts_of (one_taken rs pid n) pid ≡ counts_of rs pid - n → counts_of (taken_by o r rs (one_taken rs pid n) n) pid ≡ counts_of (r ∷ rs) pid - n
    go Less e i = let f : cond (same_pid pid r.pid) r.count 0 ≡ 0 = ap (λ b. cond b r.count 0) (other_turned r.pid pid (other_if_less r.pid pid e)) in omega arith
    go Equal e i =
        let f : same_pid pid r.pid ≡ true = symm pid r.pid ∙ same_if r.pid pid e in
        let g : counts_of rs pid ≡ 0 = none_greater pid rs (later_greater pid r rs h (ap is_lt e)) in
        let k : cond (same_pid pid r.pid) r.count 0 ≡ r.count = ap (λ b. cond b r.count 0) f in
        let l = some (nat_le r.count n) refl f g in
        l ∙ omega arith
    go Greater e i = let f : counts_of (r ∷ rs) pid ≡ 0 = none_greater pid (r ∷ rs) (turned r.pid pid e, later_greater pid r rs h (ap is_lt e)) in omega arith

taken_other : (pid q : Pid) (n : ℕ) (rows : List Row) → same_pid pid q ≡ false → counts_of (one_taken rows pid n) q ≡ counts_of rows q
taken_other pid q n [] h = refl
taken_other pid q n (r ∷ rs) h = go (pid_cmp r.pid pid) refl (taken_other pid q n rs h)
  where
    some : (k : Bool) → same_pid q r.pid ≡ false → counts_of (cond k rs (record { pid = r.pid; count = r.count - n } ∷ rs)) q ≡ counts_of rs q
    some true f = refl
    some false f = let i : cond (same_pid q r.pid) (r.count - n) 0 ≡ 0 = ap (λ b. cond b (r.count - n) 0) f in omega arith

    go : (o : Ordering) → pid_cmp r.pid pid ≡ o → counts_of (one_taken rs pid n) q ≡ counts_of rs q → counts_of (taken_by o r rs (one_taken rs pid n) n) q ≡ counts_of (r ∷ rs) q
    go Less e i = omega arith
    go Equal e i =
        let f : same_pid q r.pid ≡ false = ap (same_pid q) (same_is r.pid pid (same_if r.pid pid e)) ∙ symm q pid ∙ h in
        let g : cond (same_pid q r.pid) r.count 0 ≡ 0 = ap (λ b. cond b r.count 0) f in
        let k = some (nat_le r.count n) f in
        k ∙ omega arith
    go Greater e i = refl

pub counts-taken : (pid : Pid) (n : ℕ) (rows : List Row) → AreRows rows → counts_of (one_taken rows pid n) ≡ upd same_pid (counts_of rows) pid (counts_of rows pid - n)
unfolding upd
counts-taken pid n rows h = fun_ext (λ q. go q (same_pid pid q) refl)
  where
    go : (q : Pid) (b : Bool) → same_pid pid q ≡ b → counts_of (one_taken rows pid n) q ≡ cond b (counts_of rows pid - n) (counts_of rows q)
    go q true e = subst (λ (x : Pid). counts_of (one_taken rows pid n) x ≡ counts_of rows pid - n) (same_is pid q e) (taken_self pid n rows h)
    go q false e = taken_other pid q n rows e

-- ---- the list of members

all-spread : (among : Pid → Bool) (Q : Pid → Type 0) (P : Row → Type 0) → ((r : Row) → P r → Q r.pid) → (rows : List Row) → AllByRecursion P rows → AllByRecursion Q (spread among rows)
all-spread among Q P f [] h = tt
all-spread among Q P f (r ∷ rs) h = all-put Q (cond (among r.pid) r.count 0) r.pid (spread among rs) (f r h.0) (all-spread among Q P f rs h.1)

ordered-spread : (among : Pid → Bool) (rows : List Row) → AreRows rows → IsInOrder (spread among rows)
ordered-spread among [] h = tt
ordered-spread among (r ∷ rs) h =
    ordered-put (cond (among r.pid) r.count 0) r.pid (spread among rs)
    (all-spread among (λ later. is_gt (pid_cmp r.pid later) ≡ false) (λ later. pid_cmp r.pid later.pid ≡ Less) (λ s e. ap is_gt e) rs h.1)
    (ordered-spread among rs h.2)

count-spread : (among : Pid → Bool) (q : Pid) (rows : List Row) → count_by (same_pid q) (spread among rows) ≡ cond (among q) (counts_of rows q) 0
count-spread among q [] = go (among q)
  where
    go : (b : Bool) → ◌≡◌ {A = ℕ} 0 (cond b 0 0)
    go true = refl
    go false = refl
count-spread among q (r ∷ rs) =
    count-put q (cond (among r.pid) r.count 0) r.pid (spread among rs) ∙ ap (λ c. cond (same_pid q r.pid) (cond (among r.pid) r.count 0) 0 + c) (count-spread among q rs) ∙ go (same_pid q r.pid) refl
  where
    both : (b : Bool) → cond b r.count 0 + cond b (counts_of rs q) 0 ≡ cond b (r.count + counts_of rs q) 0
    both true = refl
    both false = refl

    none : (b : Bool) → 0 + cond b (counts_of rs q) 0 ≡ cond b (0 + counts_of rs q) 0
    none true = refl
    none false = refl

    go : (b : Bool) → same_pid q r.pid ≡ b → cond b (cond (among r.pid) r.count 0) 0 + cond (among q) (counts_of rs q) 0 ≡ cond (among q) (cond b r.count 0 + counts_of rs q) 0
    go true e = ap (λ p. cond (among p) r.count 0 + cond (among q) (counts_of rs q) 0) (sym (same_is q r.pid e)) ∙ both (among q)
    go false e = none (among q)

pub members : (among : Pid → Bool) (rows : List Row) → AreRows rows → IsMemberList (Some (counts_of rows)) among (spread among rows)
members among rows h = record { ordered = ordered-spread among rows h; each = λ q. count-spread among q rows }
