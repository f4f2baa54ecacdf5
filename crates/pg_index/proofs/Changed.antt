-- One count changed, and the listing of its pid with it.
use Rattle.std.proofs.Math.Path.{fun_ext}
use Rattle.std.proofs.Common.{◌≡◌, ℕ, ◌+◌, ◌-◌, ◌<◌, max, Bool, true, false, cond, Option}
use Rattle.std.proofs.Common.{List, [], take, refl, sym, ap, subst, ◌∙◌, nat_eq, nat_lt, arith}
use Rattle.std.specs.Prelude.{is_some}
use Rattle.std.proofs.lemmas.Bool.Decides.{nat_tests}
use Rattle.slab.specs.Slab.{Slab, Updates}
use Rattle.pg_term.specs.declared.pid.Pid.{Pid}
use Rattle.pg_term.specs.Same.{same_pid}
use Rattle.pg_term.specs.contracts.pid.PidEq.TheImpl.Laws as pid_laws
use Rattle.pg_term.proofs.Same.{pid_is}
use Rattle.pg_group.specs.Functions.{upd}
use Rattle.pg_group.specs.Value.{Counts, nobody, greater, told, with_one_more}
use Rattle.pg_group.proofs.Changes.{upd_from, upd_same, upd_at, upd_other, upd_twice}
use Rattle.pg_group.proofs.Merges.{raised, between_so_far}
use Rattle.pg_index_members.specs.declared.row.Row.{Row}
use Rattle.pg_index_members.specs.Rows.{counts_of}
use Rattle.pg_index.specs.Groups.{Numbered, is_used, counts_changed, IsPartlyRaised}
use Rattle.pg_index.specs.Listings.{listed_as, ListsByMember}
use Rattle.pg_index.proofs.Numbers.{number_is, number_itself}
use Rattle.pg_index.proofs.Listed.{marked_same}
use Rattle.pg_index.proofs.Dropped.{changed_elsewhere, changed_of_others}

module _ (listed : Pid → ℕ → Bool) (pid : Pid) (group : ℕ) (b : Bool) where
  pub marked_here : listed_as listed pid group b pid group ≡ b
  marked_here =
      ap (λ f. f group) (upd_at same_pid listed pid (upd nat_eq (listed pid) group b) (pid_laws.laws-law.refl pid))
      ∙ upd_at nat_eq (listed pid) group b (number_itself group)

  pub marked_of_others : (q : Pid) (n : ℕ) → same_pid pid q ≡ false → listed_as listed pid group b q n ≡ listed q n
  marked_of_others q n e = ap (λ f. f n) (upd_other same_pid listed pid (upd nat_eq (listed pid) group b) q e)

  pub marked_elsewhere : (n : ℕ) → nat_eq group n ≡ false → listed_as listed pid group b pid n ≡ listed pid n
  marked_elsewhere n e =
      ap (λ f. f n) (upd_at same_pid listed pid (upd nat_eq (listed pid) group b) (pid_laws.laws-law.refl pid))
      ∙ upd_other nat_eq (listed pid) group b n e

pub marked_twice : (listed : Pid → ℕ → Bool) (pid : Pid) (group : ℕ) (a b : Bool) → listed_as (listed_as listed pid group a) pid group b ≡ listed_as listed pid group b
marked_twice listed pid group a b =
    let once = upd_at same_pid listed pid (upd nat_eq (listed pid) group a) (pid_laws.laws-law.refl pid) in
    ap (λ (f : ℕ → Bool). upd same_pid (listed_as listed pid group a) pid (upd nat_eq f group b)) once
    ∙ ap (λ (f : ℕ → Bool). upd same_pid (listed_as listed pid group a) pid f) (upd_twice nat_eq (listed pid) group a b)
    ∙ upd_twice same_pid listed pid (upd nat_eq (listed pid) group a) (upd nat_eq (listed pid) group b)

-- a pid is listed by its new count
pub listed_after : (listed listed' : Pid → ℕ → Bool) (counts counts' : Numbered) (pid : Pid) (group : ℕ) (b : Bool) (k : ℕ)
    → ListsByMember listed counts → listed' ≡ listed_as listed pid group b → counts' ≡ counts_changed counts group pid k → b ≡ nat_lt 0 (counts' group pid) → ListsByMember listed' counts'
listed_after listed listed' counts counts' pid group b k h e f is q n = go (same_pid pid q) refl
  where
    own : (t : Bool) → nat_eq group n ≡ t → listed' pid n ≡ nat_lt 0 (counts' n pid)
    own true g = subst (λ (m : ℕ). listed' pid m ≡ nat_lt 0 (counts' m pid)) (number_is group n g) (ap (λ l. l pid group) e ∙ marked_here listed pid group b ∙ is)
    own false g =
        ap (λ l. l pid n) e ∙ marked_elsewhere listed pid group b n g ∙ h pid n
        ∙ ap (nat_lt 0) (sym (ap (λ c. c n pid) f ∙ changed_elsewhere counts group pid k n pid g))

    go : (t : Bool) → same_pid pid q ≡ t → listed' q n ≡ nat_lt 0 (counts' n q)
    go true g = subst (λ (p : Pid). listed' p n ≡ nat_lt 0 (counts' n p)) (pid_is pid q g) (own (nat_eq group n) refl)
    go false g =
        ap (λ l. l q n) e ∙ marked_of_others listed pid group b q n g ∙ h q n
        ∙ ap (nat_lt 0) (sym (ap (λ c. c n q) f ∙ changed_of_others counts group pid k n q g))

pub listed_kept : (listed : Pid → ℕ → Bool) (counts counts' : Numbered) (pid : Pid) (group : ℕ) (k : ℕ)
    → ListsByMember listed counts → counts' ≡ counts_changed counts group pid k → nat_lt 0 (counts group pid) ≡ nat_lt 0 (counts' group pid) → ListsByMember listed counts'
listed_kept listed counts counts' pid group k h f is = listed_after listed listed counts counts' pid group (listed pid group) k h (marked_same listed pid group (listed pid group) refl) f (h pid group ∙ is)

-- a count that stays
pub counted_same : (counts : Numbered) (pid : Pid) (group k : ℕ) → k ≡ counts group pid → counts ≡ counts_changed counts group pid k
counted_same counts pid group k e =
    sym (upd_same nat_eq counts group (number_is group) (upd same_pid (counts group) pid k) (upd_same same_pid (counts group) pid (pid_is pid) k e))

pub more_is_some : (n more : ℕ) → 0 < more → true ≡ nat_lt 0 (n + more)
more_is_some n more h = grind (arith, nat_tests)

pub some_left : (n m : ℕ) → m ≡ n - 1 → (n ≡ 1 → ⊥) → nat_lt 0 n ≡ nat_lt 0 m
some_left n m e f = go (nat_lt 0 n) (nat_lt 0 m) refl refl
  where
    go : (a b : Bool) → nat_lt 0 n ≡ a → nat_lt 0 m ≡ b → a ≡ b
    go true true g h = refl
    go false false g h = refl
    go true false g h = absurd (f (grind (arith, nat_tests)))
    go false true g h = absurd (grind (arith, nat_tests))

-- a count that is not all that came was there before
pub was_some : (n more count : ℕ) → count ≡ n + more → (count ≡ more → ⊥) → nat_lt 0 n ≡ nat_lt 0 (n + more)
was_some n more count e f = go (nat_lt 0 n) (nat_lt 0 (n + more)) refl refl
  where
    go : (a b : Bool) → nat_lt 0 n ≡ a → nat_lt 0 (n + more) ≡ b → a ≡ b
    go true true g h = refl
    go false false g h = refl
    go true false g h = absurd (grind (arith, nat_tests))
    go false true g h = absurd (f (grind (arith, nat_tests)))

-- a count that was none before, and is none again
pub changed_back : (counts after back : Numbered) (pid : Pid) (group k : ℕ) → counts group pid ≡ 0 → after ≡ counts_changed counts group pid k → back ≡ counts_changed after group pid 0 → back ≡ counts
changed_back counts after back pid group k none e f =
    f
    ∙ ap (λ (c : Numbered). counts_changed c group pid 0) e
    ∙ ap (λ (g : Counts). upd nat_eq (counts_changed counts group pid k) group (upd same_pid g pid 0)) (upd_at nat_eq counts group (upd same_pid (counts group) pid k) (number_itself group))
    ∙ upd_twice nat_eq counts group (upd same_pid (counts group) pid k) (upd same_pid (upd same_pid (counts group) pid k) pid 0)
    ∙ ap (λ (g : Counts). upd nat_eq counts group g) (upd_twice same_pid (counts group) pid k 0)
    ∙ sym (counted_same counts pid group 0 (sym none))

-- ---- the numbers in use

pub used_changed : (old new : Slab (List Row)) (group : ℕ) (slot : Option (List Row)) → Updates old new group slot → is_used new ≡ upd nat_eq (is_used old) group (is_some slot)
used_changed old new group slot u = upd_from nat_eq (is_used old) group (is_used new) (is_some slot) (λ n. go n (nat_eq group n) refl)
  where
    go : (n : ℕ) (t : Bool) → nat_eq group n ≡ t → is_used new n ≡ cond t (is_some slot) (is_used old n)
    go n true e = ap (is_used new) (sym (number_is group n e)) ∙ ap is_some u.changed
    go n false e = ap is_some (u.others n differ)
      where
        differ : n ≡ group → ⊥
        differ same = let f : nat_eq group group ≡ false = ap (nat_eq group) (sym same) ∙ e in let g : nat_eq group group ≡ true = number_itself group in cc

-- ---- counts raised to those of a list

pub raised_more : (before counts counts' : Numbered) (group : ℕ) (s seen seen' : Counts) (pid : Pid)
    → counts ≡ upd nat_eq before group (greater (before group) s) → seen ≡ s → seen' ≡ with_one_more seen pid
    → counts' ≡ counts_changed counts group pid (max (counts group pid) (seen' pid))
    → counts' ≡ upd nat_eq before group (greater (before group) (with_one_more s pid))
raised_more before counts counts' group s seen seen' pid e f g h =
    let row : counts group ≡ greater (before group) s = ap (λ (c : Numbered). c group) e ∙ upd_at nat_eq before group (greater (before group) s) (number_itself group) in
    let next : upd same_pid (counts group) pid (max (counts group pid) (seen' pid)) ≡ greater (before group) (with_one_more s pid) = raised (before group) s (counts group) (upd same_pid (counts group) pid (max (counts group pid) (seen' pid))) seen seen' pid row f g refl in
    h ∙ ap (λ (c : Numbered). upd nat_eq c group (upd same_pid (counts group) pid (max (counts group pid) (seen' pid)))) e
    ∙ upd_twice nat_eq before group (greater (before group) s) (upd same_pid (counts group) pid (max (counts group pid) (seen' pid)))
    ∙ ap (upd nat_eq before group) next

pub raised_so_far : (before counts : Numbered) (group : ℕ) (pids : List Pid) (ended : Pid → Bool) (i : ℕ)
    → counts ≡ upd nat_eq before group (greater (before group) (told (take i pids) ended)) → IsPartlyRaised before counts group pids ended
raised_so_far before counts group pids ended i e = record {
  others = λ n other. ap (λ (c : Numbered). c n) e ∙ upd_other nat_eq before group (greater (before group) (told (take i pids) ended)) n other;
  raised = between_so_far (before group) (counts group) pids ended i (ap (λ (c : Numbered). c group) e ∙ upd_at nat_eq before group (greater (before group) (told (take i pids) ended)) (number_itself group));
}

pub raised_none : (counts : Numbered) (group : ℕ) (ended : Pid → Bool) → counts ≡ upd nat_eq counts group (greater (counts group) (told [] ended))
raised_none counts group ended = sym (upd_same nat_eq counts group (number_is group) (greater (counts group) (told [] ended)) (fun_ext (λ pid. go pid (ended pid))))
  where
    go : (pid : Pid) (b : Bool) → max (counts group pid) (cond b 0 0) ≡ counts group pid
    go pid true = omega arith
    go pid false = omega arith

pub told_none : (rows : List Row) (ended : Pid → Bool) → rows ≡ [] → counts_of rows ≡ told [] ended
told_none rows ended e = ap counts_of e ∙ fun_ext (λ pid. go (ended pid))
  where
    go : (b : Bool) → ◌≡◌ {A = ℕ} 0 (cond b 0 0)
    go true = refl
    go false = refl

pub told_now : (counts counts' : Counts) (pid : Pid) → counts' ≡ with_one_more counts pid → counts' pid ≡ counts pid + 1
told_now counts counts' pid e = ap (λ (f : Counts). f pid) e ∙ upd_at same_pid counts pid (counts pid + 1) (pid_laws.laws-law.refl pid)

abbrev pub raised_to : Numbered → ℕ → Counts → Numbered
raised_to before group s = upd nat_eq before group (greater (before group) s)

-- one more in a group that nobody was in
pub added_one : (before counts counts' : Numbered) (group : ℕ) (s : Counts) (pid : Pid)
    → before group ≡ nobody → counts ≡ upd nat_eq before group (greater (before group) s)
    → counts' ≡ counts_changed counts group pid (counts group pid + 1)
    → counts' ≡ upd nat_eq before group (greater (before group) (with_one_more s pid))
added_one before counts counts' group s pid none e h =
    let row : counts group pid ≡ max (before group pid) (s pid) = ap (λ (c : Numbered). c group pid) e ∙ ap (λ (c : Counts). c pid) (upd_at nat_eq before group (greater (before group) s) (number_itself group)) in
    let zero_before : before group pid ≡ 0 = ap (λ (c : Counts). c pid) none in
    let next : with_one_more s pid pid ≡ s pid + 1 = told_now s (with_one_more s pid) pid refl in
    let same : counts group pid + 1 ≡ max (counts group pid) (with_one_more s pid pid) = omega arith in
    raised_more before counts counts' group s s (with_one_more s pid) pid e refl refl (h ∙ ap (counts_changed counts group pid) same)
