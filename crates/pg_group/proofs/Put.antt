-- A pid some times before others.
use Rattle.std.proofs.Common.{◌≡◌, ℕ, suc, zero, ◌+◌, ◌-◌, ◌<◌, ◌≤◌, Bool, true, false, cond}
use Rattle.std.proofs.Common.{Some, List, ◌∷◌, ◌++◌, length, refl, ap, ◌∙◌, arith, add-one}
use Rattle.std.specs.Prelude.{count_by, slice_get}
use Rattle.std.specs.List.{AllByRecursion}
use Rattle.std.specs.Ordering.{is_gt}
use Rattle.std.proofs.lemmas.Cmp.{tied_itself}
use Rattle.pg_term.specs.declared.pid.Pid.{Pid}
use Rattle.pg_term.specs.Same.{same_pid, pid_cmp}
use Rattle.pg_term.specs.contracts.pid.PidOrd.TheImpl.Laws as order_laws
use Rattle.pg_group.specs.Members.{IsInOrder, put}
use Rattle.pg_group.proofs.Lists.{counted}

pub length-put : (n : ℕ) (pid : Pid) (pids : List Pid) → length (put n pid pids) ≡ n + length pids
length-put zero pid pids = omega arith
length-put (suc n) pid pids = let e = length-put n pid pids in omega arith

pub get-put_low : (n : ℕ) (pid : Pid) (pids : List Pid) (i : ℕ) → i < n → slice_get (put n pid pids) i ≡ Some pid
get-put_low zero pid pids i h = absurd (omega arith)
get-put_low (suc n) pid pids zero h = refl
get-put_low (suc n) pid pids (suc i) h = get-put_low n pid pids i (omega arith)

pub get-put_high : (n : ℕ) (pid : Pid) (pids : List Pid) (i : ℕ) → n ≤ i → slice_get (put n pid pids) i ≡ slice_get pids (i - n)
get-put_high zero pid pids i h = let e : i ≡ i - 0 = omega arith in ap (slice_get pids) e
get-put_high (suc n) pid pids zero h = absurd (omega arith)
get-put_high (suc n) pid pids (suc i) h = let e : i - n ≡ suc i - suc n = omega arith in get-put_high n pid pids i (omega arith) ∙ ap (slice_get pids) e

pub all-put : (P : Pid → Type 0) (n : ℕ) (pid : Pid) (pids : List Pid) → P pid → AllByRecursion P pids → AllByRecursion P (put n pid pids)
all-put P zero pid pids p h = h
all-put P (suc n) pid pids p h = (p, all-put P n pid pids p h)

pub ordered-put : (n : ℕ) (pid : Pid) (pids : List Pid) → AllByRecursion (λ later. is_gt (pid_cmp pid later) ≡ false) pids → IsInOrder pids → IsInOrder (put n pid pids)
ordered-put zero pid pids h o = o
ordered-put (suc n) pid pids h o = (all-put (λ later. is_gt (pid_cmp pid later) ≡ false) n pid pids (ap is_gt (tied_itself order_laws.total-law pid)) h, ordered-put n pid pids h o)

pub count-put : (q : Pid) (n : ℕ) (pid : Pid) (pids : List Pid) → count_by (same_pid q) (put n pid pids) ≡ cond (same_pid q pid) n 0 + count_by (same_pid q) pids
count-put q zero pid pids = go (same_pid q pid)
  where
    go : (b : Bool) → count_by (same_pid q) pids ≡ cond b 0 0 + count_by (same_pid q) pids
    go true = omega arith
    go false = omega arith
count-put q (suc n) pid pids = counted q pid (put n pid pids) ∙ ap (λ c. cond (same_pid q pid) 1 0 + c) (count-put q n pid pids) ∙ go (same_pid q pid)
  where
    go : (b : Bool) → cond b 1 0 + (cond b n 0 + count_by (same_pid q) pids) ≡ cond b (suc n) 0 + count_by (same_pid q) pids
    go true = omega arith
    go false = omega arith

pub put_next : (n m : ℕ) (pid : Pid) (pids : List Pid) → n ≡ m + 1 → put n pid pids ≡ pid ∷ put m pid pids
put_next n m pid pids e = ap (λ k. put k pid pids) (e ∙ add-one m)

pub put_none : (n : ℕ) (pid : Pid) (pids : List Pid) → n ≡ 0 → put n pid pids ≡ pids
put_none n pid pids e = ap (λ k. put k pid pids) e

pub put-append : (n : ℕ) (pid : Pid) (xs ys : List Pid) → put n pid xs ++ ys ≡ put n pid (xs ++ ys)
put-append zero pid xs ys = refl
put-append (suc n) pid xs ys = ap (λ l. pid ∷ l) (put-append n pid xs ys)
