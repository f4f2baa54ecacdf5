-- Groups that are merged, and counts that are raised to those of a list.
use Rattle.std.proofs.Common.{◌≡◌, ℕ, ◌+◌, ◌-◌, ◌≤◌, ◌<◌, max, Bool, true, false, cond, Some}
use Rattle.std.proofs.Common.{None, List, [], length, take, get_or, refl, sym, ap, ◌∙◌, arith}
use Rattle.std.specs.Prelude.{count_by}
use Rattle.std.proofs.Math.Path.{fun_ext}
use Rattle.std.proofs.lemmas.List.Sums.{count_by_more_yes, count_by_more_no, sum_by-take-le, count_by-le-length}
use Rattle.std.proofs.lemmas.List.{length-take-le}
use Rattle.pg_term.specs.declared.pid.Pid.{Pid}
use Rattle.pg_term.specs.Same.{same_pid}
use Rattle.pg_term.specs.contracts.pid.PidEq.TheImpl.Laws as pid_laws
use Rattle.pg_term.proofs.Same.{pid_is}
use Rattle.pg_group.specs.declared.update.Update.{Update}
use Rattle.pg_group.specs.declared.update.Update.TheVariants.{Create, Delete, Join, Leave}
use Rattle.pg_group.specs.Functions.{upd}
use Rattle.pg_group.specs.Value.{Value, Counts, nobody, apply, less, merge, greater, told, with_one_more, IsBetween}
use Rattle.pg_group.proofs.Changes.{upd_at, upd_from}

-- ---- merge

pub merge_commutes : (v w : Value) → merge v w ≡ merge w v
merge_commutes None None = refl
merge_commutes None (Some g) = refl
merge_commutes (Some f) None = refl
merge_commutes (Some f) (Some g) = ap Some (fun_ext (λ pid. omega arith))

pub merge_associates : (u v w : Value) → merge (merge u v) w ≡ merge u (merge v w)
merge_associates None v w = refl
merge_associates (Some f) None w = refl
merge_associates (Some f) (Some g) None = refl
merge_associates (Some f) (Some g) (Some h) = ap Some (fun_ext (λ pid. omega arith))

pub merge_once : (v : Value) → merge v v ≡ v
merge_once None = refl
merge_once (Some f) = ap Some (fun_ext (λ pid. omega arith))

-- ---- ended pids left out

module _ (ended : Pid → Bool) where
  out_of_both : (b : Bool) (m n : ℕ) → cond b 0 (max m n) ≡ max (cond b 0 m) (cond b 0 n)
  out_of_both true m n = refl
  out_of_both false m n = refl

  pub less_merge : (v w : Value) → less (merge v w) ended ≡ merge (less v ended) (less w ended)
  less_merge None w = refl
  less_merge (Some f) None = refl
  less_merge (Some f) (Some g) = ap Some (fun_ext (λ pid. out_of_both (ended pid) (f pid) (g pid)))

  out_twice : (b : Bool) (n : ℕ) → cond b 0 (cond b 0 n) ≡ cond b 0 n
  out_twice true n = refl
  out_twice false n = refl

  abbrev thin : Counts → Counts
  thin counts pid = cond (ended pid) 0 (counts pid)

  -- a change of one pid's count
  out_of_change : (counts : Counts) (pid : Pid) (k : ℕ → ℕ) (q : Pid) → cond (ended q) 0 (upd same_pid (thin counts) pid (k (thin counts pid)) q) ≡ cond (ended q) 0 (upd same_pid counts pid (k (counts pid)) q)
  unfolding upd
  out_of_change counts pid k q = go (ended q) (same_pid pid q) refl refl
    where
      go : (e s : Bool) → ended q ≡ e → same_pid pid q ≡ s → cond e 0 (cond s (k (cond (ended pid) 0 (counts pid))) (cond e 0 (counts q))) ≡ cond e 0 (cond s (k (counts pid)) (counts q))
      go true s d t = refl
      go false true d t = ap (λ b. k (cond b 0 (counts pid))) (ap ended (pid_is pid q t) ∙ d)
      go false false d t = refl

  pub less_apply : (v : Value) (update : Update) → less (apply (less v ended) update) ended ≡ less (apply v update) ended
  less_apply None update = refl
  less_apply (Some counts) (Create name) = ap Some (fun_ext (λ q. out_twice (ended q) (counts q)))
  less_apply (Some counts) (Delete name) = refl
  less_apply (Some counts) (Join name pid) = ap Some (fun_ext (λ q. out_of_change counts pid (λ n. n + 1) q))
  less_apply (Some counts) (Leave name pid) = ap Some (fun_ext (λ q. out_of_change counts pid (λ n. n - 1) q))

-- ---- a list of pids, as far as it was read

module _ (pids : List Pid) (ended : Pid → Bool) (i : ℕ) (pid : Pid) (within : i < length pids) (is : get_or pids i pid ≡ pid) where
  counted_again : count_by (same_pid pid) (take (i + 1) pids) ≡ count_by (same_pid pid) (take i pids) + 1
  counted_again = count_by_more_yes (same_pid pid) pids i pid within (ap (same_pid pid) is ∙ pid_laws.laws-law.refl pid)

  counted_as_before : (q : Pid) → same_pid pid q ≡ false → count_by (same_pid q) (take (i + 1) pids) ≡ count_by (same_pid q) (take i pids)
  counted_as_before q other = count_by_more_no (same_pid q) pids i pid within (ap (same_pid q) is ∙ pid_laws.laws-law.symm q pid ∙ other)

  pub told_more : ended pid ≡ false → told (take (i + 1) pids) ended ≡ with_one_more (told (take i pids) ended) pid
  told_more lives = upd_from same_pid (told (take i pids) ended) pid (told (take (i + 1) pids) ended) (told (take i pids) ended pid + 1) (λ q. go q (same_pid pid q) refl)
    where
      here : told (take (i + 1) pids) ended pid ≡ told (take i pids) ended pid + 1
      here = ap (λ b. cond b 0 (count_by (same_pid pid) (take (i + 1) pids))) lives ∙ counted_again ∙ ap (λ b. cond b 0 (count_by (same_pid pid) (take i pids)) + 1) (sym lives)

      go : (q : Pid) (s : Bool) → same_pid pid q ≡ s → told (take (i + 1) pids) ended q ≡ cond s (told (take i pids) ended pid + 1) (told (take i pids) ended q)
      go q true t = ap (told (take (i + 1) pids) ended) (sym (pid_is pid q t)) ∙ here
      go q false t = ap (cond (ended q) 0) (counted_as_before q t)

  pub told_kept : ended pid ≡ true → told (take (i + 1) pids) ended ≡ told (take i pids) ended
  told_kept gone = fun_ext (λ q. go q (same_pid pid q) refl)
    where
      go : (q : Pid) (s : Bool) → same_pid pid q ≡ s → told (take (i + 1) pids) ended q ≡ told (take i pids) ended q
      go q true t =
          let e : ended q ≡ true = sym (ap ended (pid_is pid q t)) ∙ gone in
          ap (λ b. cond b 0 (count_by (same_pid q) (take (i + 1) pids))) e ∙ ap (λ b. cond b 0 (count_by (same_pid q) (take i pids))) (sym e)
      go q false t = ap (cond (ended q) 0) (counted_as_before q t)

-- nothing is told by an empty list
pub told_nothing : (ended : Pid → Bool) → nobody ≡ told [] ended
told_nothing ended = fun_ext (λ q. go (ended q))
  where
    go : (b : Bool) → ◌≡◌ {A = ℕ} 0 (cond b 0 0)
    go true = refl
    go false = refl

pub nothing_raised : (f : Counts) (ended : Pid → Bool) → f ≡ greater f (told [] ended)
nothing_raised f ended = fun_ext (λ q. go (f q) (ended q))
  where
    go : (n : ℕ) (b : Bool) → n ≡ max n (cond b 0 0)
    go n true = omega arith
    go n false = omega arith

-- what was counted once more is counted
pub counted_now : (f g : Counts) (pid : Pid) (n : ℕ) → g ≡ with_one_more f pid → n ≡ g pid → 0 < n
counted_now f g pid n more is =
    let one : g pid ≡ f pid + 1 = ap (λ (h : Counts). h pid) more ∙ upd_at same_pid f pid (f pid + 1) (pid_laws.laws-law.refl pid) in
    omega arith

pub told_within : (pids : List Pid) (ended : Pid → Bool) (i : ℕ) (q : Pid) → told (take i pids) ended q ≤ told pids ended q
told_within pids ended i q = go (ended q)
  where
    go : (b : Bool) → cond b 0 (count_by (same_pid q) (take i pids)) ≤ cond b 0 (count_by (same_pid q) pids)
    go true = omega arith
    go false = sum_by-take-le (λ x. cond (same_pid q x) 1 0) pids i

-- ---- counts raised to those of a list

raised_at : (f s : Counts) (pid : Pid) → upd same_pid (greater f s) pid (max (greater f s pid) (with_one_more s pid pid)) ≡ greater f (with_one_more s pid)
unfolding upd
raised_at f s pid = fun_ext (λ q. go q (same_pid pid q) refl)
  where
    self : cond (same_pid pid pid) (s pid + 1) (s pid) ≡ s pid + 1
    self = ap (λ b. cond b (s pid + 1) (s pid)) (pid_laws.laws-law.refl pid)

    go : (q : Pid) (b : Bool) → same_pid pid q ≡ b → cond b (max (max (f pid) (s pid)) (cond (same_pid pid pid) (s pid + 1) (s pid))) (max (f q) (s q)) ≡ max (f q) (cond b (s pid + 1) (s q))
    go q true t =
        let e : f pid ≡ f q = ap f (pid_is pid q t) in
        ap (max (max (f pid) (s pid))) self ∙ omega arith
    go q false t = refl

-- one more pid of the list
pub raised : (f s row row' seen seen' : Counts) (pid : Pid) → row ≡ greater f s → seen ≡ s → seen' ≡ with_one_more seen pid → row' ≡ upd same_pid row pid (max (row pid) (seen' pid)) → row' ≡ greater f (with_one_more s pid)
raised f s row row' seen seen' pid r e more h =
    let m : seen' ≡ with_one_more s pid = more ∙ ap (λ (t : Counts). with_one_more t pid) e in
    h ∙ (λ i. upd same_pid (r i) pid (max (r i pid) (m i pid))) ∙ raised_at f s pid

-- ---- bounds of what a list tells

pub told_up_to : (pids : List Pid) (ended : Pid → Bool) (i : ℕ) (q : Pid) → i ≤ length pids → told (take i pids) ended q ≤ i
told_up_to pids ended i q within = go (ended q)
  where
    go : (b : Bool) → cond b 0 (count_by (same_pid q) (take i pids)) ≤ i
    go true = omega arith
    go false = omega (arith, count_by-le-length (same_pid q) (take i pids), length-take-le i pids within)

pub between_so_far : (f counts : Counts) (pids : List Pid) (ended : Pid → Bool) (i : ℕ) → counts ≡ greater f (told (take i pids) ended) → IsBetween f (greater f (told pids ended)) counts
between_so_far f counts pids ended i e pid =
    let at : counts pid ≡ max (f pid) (told (take i pids) ended pid) = ap (λ (g : Counts). g pid) e in
    let within : told (take i pids) ended pid ≤ told pids ended pid = told_within pids ended i pid in
    (omega arith, omega arith)
