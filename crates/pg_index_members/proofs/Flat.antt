-- Rows in one list.
use Rattle.std.proofs.Common.{◌≡◌, ℕ, ◌+◌, ◌-◌, ◌<◌, ◌≤◌, Bool, true, false, cond}
use Rattle.std.proofs.Common.{min, List, [], ◌∷◌, ◌++◌, refl, ap, subst, ◌∙◌, arith}
use Rattle.std.specs.Prelude.{nat_le}
use Rattle.std.proofs.lemmas.Bool.Decides.{nat_tests}
use Rattle.std.specs.List.{AllByRecursion}
use Rattle.std.specs.Ordering.{is_lt}
use Rattle.std.specs.declared.cmp.Ordering.{Ordering}
use Rattle.std.specs.declared.cmp.Ordering.TheVariants.{Less, Equal, Greater}
use Rattle.pg_term.specs.declared.pid.Pid.{Pid}
use Rattle.pg_term.specs.Same.{same_pid, pid_cmp}
use Rattle.pg_index_members.specs.declared.row.Row.{Row}
use Rattle.pg_index_members.specs.Rows.{counts_of, total_of, AreRows, added, added_by, one_taken, taken_by}
use Rattle.pg_index_members.proofs.Order.{less_if, less_trans, greater_if, turned, greater_turned}
use Rattle.pg_index_members.proofs.Order.{other_if_less, other_turned, same_is, same_if, symm}

-- whether a pid is less than an edge
abbrev pub below : Pid → Pid → Bool
below pid q = is_lt (pid_cmp q pid)

pub all_append : (P : Row → Type 0) (a b : List Row) → AllByRecursion P a → AllByRecursion P b → AllByRecursion P (a ++ b)
all_append P [] b h k = k
all_append P (r ∷ a) b h k = (h.0, all_append P a b h.1 k)

pub all_left : (P : Row → Type 0) (a b : List Row) → AllByRecursion P (a ++ b) → AllByRecursion P a
all_left P [] b h = tt
all_left P (r ∷ a) b h = (h.0, all_left P a b h.1)

pub all_right : (P : Row → Type 0) (a b : List Row) → AllByRecursion P (a ++ b) → AllByRecursion P b
all_right P [] b h = h
all_right P (r ∷ a) b h = all_right P a b h.1

pub total-append : (a b : List Row) → total_of (a ++ b) ≡ total_of a + total_of b
total-append [] b = omega arith
total-append (r ∷ a) b = let e = total-append a b in omega arith

pub rows_left : (a b : List Row) → AreRows (a ++ b) → AreRows a
rows_left [] b h = tt
rows_left (r ∷ a) b h = (h.0, all_left (λ later. pid_cmp r.pid later.pid ≡ Less) a b h.1, rows_left a b h.2)

pub rows_right : (a b : List Row) → AreRows (a ++ b) → AreRows b
rows_right [] b h = h
rows_right (r ∷ a) b h = rows_right a b h.2

-- each row of the first is less than each of the second
pub rows_across : (a b : List Row) → AreRows (a ++ b) → AllByRecursion (λ r. AllByRecursion (λ s. pid_cmp r.pid s.pid ≡ Less) b) a
rows_across [] b h = tt
rows_across (r ∷ a) b h = (all_right (λ later. pid_cmp r.pid later.pid ≡ Less) a b h.1, rows_across a b h.2)

pub all_map : (P Q : Row → Type 0) → ((r : Row) → P r → Q r) → (a : List Row) → AllByRecursion P a → AllByRecursion Q a
all_map P Q f [] h = tt
all_map P Q f (r ∷ a) h = (f r h.0, all_map P Q f a h.1)

-- ---- what stands before a pid, and what does not

-- the head is not less than the pid: all later rows are greater
pub later_greater : (pid : Pid) (r : Row) (rs : List Row) → AreRows (r ∷ rs) → below pid r.pid ≡ false → AllByRecursion (λ s. pid_cmp pid s.pid ≡ Less) rs
later_greater pid r rs h e = all_map (λ s. pid_cmp r.pid s.pid ≡ Less) (λ s. pid_cmp pid s.pid ≡ Less) step rs h.1
  where
    step : (s : Row) → pid_cmp r.pid s.pid ≡ Less → pid_cmp pid s.pid ≡ Less
    step s f = go (same_pid r.pid pid) refl
      where
        go : (b : Bool) → same_pid r.pid pid ≡ b → pid_cmp pid s.pid ≡ Less
        go true g = subst (λ (p : Pid). pid_cmp p s.pid ≡ Less) (same_is r.pid pid g) f
        go false g = less_trans pid r.pid s.pid (turned r.pid pid (greater_if r.pid pid e g)) f

-- none of them is the pid
pub none_less : (pid : Pid) (a : List Row) → AllByRecursion (λ r. below pid r.pid ≡ true) a → counts_of a pid ≡ 0
none_less pid [] h = refl
none_less pid (r ∷ a) h = let e = none_less pid a h.1 in let f : same_pid pid r.pid ≡ false = other_turned r.pid pid (other_if_less r.pid pid (less_if (pid_cmp r.pid pid) h.0)) in let g : cond (same_pid pid r.pid) r.count 0 ≡ 0 = ap (λ b. cond b r.count 0) f in omega arith

pub none_greater : (pid : Pid) (a : List Row) → AllByRecursion (λ r. pid_cmp pid r.pid ≡ Less) a → counts_of a pid ≡ 0
none_greater pid [] h = refl
none_greater pid (r ∷ a) h = let e = none_greater pid a h.1 in let f : same_pid pid r.pid ≡ false = other_if_less pid r.pid h.0 in let g : cond (same_pid pid r.pid) r.count 0 ≡ 0 = ap (λ b. cond b r.count 0) f in omega arith

pub counts-append : (a b : List Row) (q : Pid) → counts_of (a ++ b) q ≡ counts_of a q + counts_of b q
counts-append [] b q = omega arith
counts-append (r ∷ a) b q = let e = counts-append a b q in omega arith

-- the first row that is not before the pid, if it is the pid's: its count
pub count_head : (pid : Pid) (r : Row) (rs : List Row) → AreRows (r ∷ rs) → below pid r.pid ≡ false → counts_of (r ∷ rs) pid ≡ cond (same_pid r.pid pid) r.count 0
count_head pid r rs h e =
    let f : counts_of rs pid ≡ 0 = none_greater pid rs (later_greater pid r rs h e) in
    let g : cond (same_pid pid r.pid) r.count 0 ≡ cond (same_pid r.pid pid) r.count 0 = ap (λ b. cond b r.count 0) (symm pid r.pid) in
    omega arith

pub added_after : (pid : Pid) (n : ℕ) (a b : List Row) → AllByRecursion (λ r. below pid r.pid ≡ true) a → added (a ++ b) pid n ≡ a ++ added b pid n
added_after pid n [] b h = refl
added_after pid n (r ∷ a) b h = ap (λ o. added_by o r (a ++ b) (added (a ++ b) pid n) pid n) (less_if (pid_cmp r.pid pid) h.0) ∙ ap (λ l. r ∷ l) (added_after pid n a b h.1)

pub taken_after : (pid : Pid) (n : ℕ) (a b : List Row) → AllByRecursion (λ r. below pid r.pid ≡ true) a → one_taken (a ++ b) pid n ≡ a ++ one_taken b pid n
taken_after pid n [] b h = refl
taken_after pid n (r ∷ a) b h = ap (λ o. taken_by o r (a ++ b) (one_taken (a ++ b) pid n) n) (less_if (pid_cmp r.pid pid) h.0) ∙ ap (λ l. r ∷ l) (taken_after pid n a b h.1)

-- rows greater than the pid are not looked at, unless there is nothing before them
first_added : (pid : Pid) (n : ℕ) (b : List Row) → AllByRecursion (λ r. pid_cmp pid r.pid ≡ Less) b → added b pid n ≡ record { pid = pid; count = n } ∷ b
first_added pid n [] h = refl
first_added pid n (s ∷ b) h = ap (λ o. added_by o s b (added b pid n) pid n) (greater_turned pid s.pid h.0)

added_step : (pid : Pid) (n : ℕ) (r : Row) (a b : List Row) → added (a ++ b) pid n ≡ added a pid n ++ b → (o : Ordering) → added_by o r (a ++ b) (added (a ++ b) pid n) pid n ≡ added_by o r a (added a pid n) pid n ++ b
added_step pid n r a b e Less = ap (λ l. r ∷ l) e
added_step pid n r a b e Equal = refl
added_step pid n r a b e Greater = refl

pub added_before : (pid : Pid) (n : ℕ) (a b : List Row) → AllByRecursion (λ r. pid_cmp pid r.pid ≡ Less) b → added (a ++ b) pid n ≡ added a pid n ++ b
added_before pid n [] b h = first_added pid n b h
added_before pid n (r ∷ a) b h = added_step pid n r a b (added_before pid n a b h) (pid_cmp r.pid pid)

first_taken : (pid : Pid) (n : ℕ) (b : List Row) → AllByRecursion (λ r. pid_cmp pid r.pid ≡ Less) b → one_taken b pid n ≡ b
first_taken pid n [] h = refl
first_taken pid n (s ∷ b) h = ap (λ o. taken_by o s b (one_taken b pid n) n) (greater_turned pid s.pid h.0)

taken_some : (r : Row) (n : ℕ) (a b : List Row) (k : Bool) → cond k (a ++ b) (record { pid = r.pid; count = r.count - n } ∷ (a ++ b)) ≡ cond k a (record { pid = r.pid; count = r.count - n } ∷ a) ++ b
taken_some r n a b true = refl
taken_some r n a b false = refl

taken_step : (pid : Pid) (n : ℕ) (r : Row) (a b : List Row) → one_taken (a ++ b) pid n ≡ one_taken a pid n ++ b → (o : Ordering) → taken_by o r (a ++ b) (one_taken (a ++ b) pid n) n ≡ taken_by o r a (one_taken a pid n) n ++ b
taken_step pid n r a b e Less = ap (λ l. r ∷ l) e
taken_step pid n r a b e Equal = taken_some r n a b (nat_le r.count n)
taken_step pid n r a b e Greater = refl

pub taken_before : (pid : Pid) (n : ℕ) (a b : List Row) → AllByRecursion (λ r. pid_cmp pid r.pid ≡ Less) b → one_taken (a ++ b) pid n ≡ one_taken a pid n ++ b
taken_before pid n [] b h = first_taken pid n b h
taken_before pid n (r ∷ a) b h = taken_step pid n r a b (taken_before pid n a b h) (pid_cmp r.pid pid)

-- ---- rows with a pid added or taken

all_added : (P : Row → Type 0) (pid : Pid) (n : ℕ) (rows : List Row) → P (record { pid = pid; count = n }) → ((r : Row) → P r → P (record { pid = r.pid; count = r.count + n })) → AllByRecursion P rows → AllByRecursion P (added rows pid n)
all_added P pid n [] f g h = (f, tt)
all_added P pid n (r ∷ rs) f g h = go (pid_cmp r.pid pid) (all_added P pid n rs f g h.1)
  where
    go : (o : Ordering) → AllByRecursion P (added rs pid n) → AllByRecursion P (added_by o r rs (added rs pid n) pid n)
    go Less k = (h.0, k)
    go Equal k = (g r h.0, h.1)
    go Greater k = (f, (h.0, h.1))

pub rows_added : (pid : Pid) (n : ℕ) (rows : List Row) → 0 < n → AreRows rows → AreRows (added rows pid n)
rows_added pid n [] k h = (k, tt, tt)
rows_added pid n (r ∷ rs) k h = go (pid_cmp r.pid pid) refl (rows_added pid n rs k h.2)
  where
    go : (o : Ordering) → pid_cmp r.pid pid ≡ o → AreRows (added rs pid n) → AreRows (added_by o r rs (added rs pid n) pid n)
    go Less e i = (h.0, all_added (λ later. pid_cmp r.pid later.pid ≡ Less) pid n rs e (λ s f. f) h.1, i)
    go Equal e i = (omega arith, h.1, h.2)
    go Greater e i = (k, (turned r.pid pid e, all_map (λ s. pid_cmp r.pid s.pid ≡ Less) (λ s. pid_cmp pid s.pid ≡ Less) (λ s f. less_trans pid r.pid s.pid (turned r.pid pid e) f) rs h.1), (h.0, h.1, h.2))

all_taken : (P : Row → Type 0) (pid : Pid) (n : ℕ) (rows : List Row) → ((r : Row) → P r → P (record { pid = r.pid; count = r.count - n })) → AllByRecursion P rows → AllByRecursion P (one_taken rows pid n)
all_taken P pid n [] g h = tt
all_taken P pid n (r ∷ rs) g h = go (pid_cmp r.pid pid) (all_taken P pid n rs g h.1)
  where
    some : (k : Bool) → AllByRecursion P (cond k rs (record { pid = r.pid; count = r.count - n } ∷ rs))
    some true = h.1
    some false = (g r h.0, h.1)

    go : (o : Ordering) → AllByRecursion P (one_taken rs pid n) → AllByRecursion P (taken_by o r rs (one_taken rs pid n) n)
    go Less k = (h.0, k)
    go Equal k = some (nat_le r.count n)
    go Greater k = h

pub rows_taken : (pid : Pid) (n : ℕ) (rows : List Row) → AreRows rows → AreRows (one_taken rows pid n)
rows_taken pid n [] h = tt
rows_taken pid n (r ∷ rs) h = go (pid_cmp r.pid pid) (rows_taken pid n rs h.2)
  where
    some : (k : Bool) → nat_le r.count n ≡ k → AreRows (cond k rs (record { pid = r.pid; count = r.count - n } ∷ rs))
    some true e = h.2
    some false e = (grind (arith, nat_tests), h.1, h.2)

    go : (o : Ordering) → AreRows (one_taken rs pid n) → AreRows (taken_by o r rs (one_taken rs pid n) n)
    go Less i = (h.0, all_taken (λ later. pid_cmp r.pid later.pid ≡ Less) pid n rs (λ s f. f) h.1, i)
    go Equal i = some (nat_le r.count n) refl
    go Greater i = h

pub total-added : (pid : Pid) (n : ℕ) (rows : List Row) → total_of (added rows pid n) ≡ total_of rows + n
total-added pid n [] = omega arith
total-added pid n (r ∷ rs) = go (pid_cmp r.pid pid) (total-added pid n rs)
  where
    go : (o : Ordering) → total_of (added rs pid n) ≡ total_of rs + n → total_of (added_by o r rs (added rs pid n) pid n) ≡ r.count + total_of rs + n
    go Less e = omega arith
    go Equal e = omega arith
    go Greater e = omega arith

-- the counts of one pid are no more than all
pub count_le : (pid : Pid) (rows : List Row) → counts_of rows pid ≤ total_of rows
count_le pid [] = omega arith
count_le pid (r ∷ rs) = go (same_pid pid r.pid) (count_le pid rs)
  where
    go : (b : Bool) → counts_of rs pid ≤ total_of rs → cond b r.count 0 + counts_of rs pid ≤ r.count + total_of rs
    go true e = omega arith
    go false e = omega arith

pub total-taken : (pid : Pid) (n : ℕ) (rows : List Row) → AreRows rows → total_of (one_taken rows pid n) + min n (counts_of rows pid) ≡ total_of rows
total-taken pid n [] h = omega arith
total-taken pid n (r ∷ rs) h = go (pid_cmp r.pid pid) refl (total-taken pid n rs h.2)
  where
    some : (k : Bool) → nat_le r.count n ≡ k → total_of (cond k rs (record { pid = r.pid; count = r.count - n } ∷ rs)) + min n r.count ≡ r.count + total_of rs
    some true e = let f : r.count ≤ n = grind (arith, nat_tests) in omega arith
    some false e = let f : n < r.count = grind (arith, nat_tests) in omega arith

    go : (o : Ordering) → pid_cmp r.pid pid ≡ o → total_of (one_taken rs pid n) + min n (counts_of rs pid) ≡ total_of rs → total_of (taken_by o r rs (one_taken rs pid n) n) + min n (counts_of (r ∷ rs) pid) ≡ r.count + total_of rs
    go Less e i = let f : cond (same_pid pid r.pid) r.count 0 ≡ 0 = ap (λ b. cond b r.count 0) (other_turned r.pid pid (other_if_less r.pid pid e)) in omega arith
    go Equal e i = let f : counts_of (r ∷ rs) pid ≡ r.count = count_head pid r rs h (ap is_lt e) ∙ ap (λ b. cond b r.count 0) (same_if r.pid pid e) in let g = some (nat_le r.count n) refl in ap (λ m. total_of (taken_by Equal r rs (one_taken rs pid n) n) + min n m) f ∙ g
    go Greater e i = let f : counts_of (r ∷ rs) pid ≡ 0 = none_greater pid (r ∷ rs) (turned r.pid pid e, later_greater pid r rs h (ap is_lt e)) in omega arith
