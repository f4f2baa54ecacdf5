-- Groups without ended pids stay so.
use Rattle.std.proofs.Common.{◌≡◌, ℕ, ◌+◌, ◌-◌, max, Bool, true, false, cond}
use Rattle.std.proofs.Common.{◌||◌, Some, None, List, refl, sym, ap, ◌∙◌}
use Rattle.std.specs.Prelude.{count_by}
use Rattle.std.proofs.Math.Path.{fun_ext}
use Rattle.pg_term.specs.declared.pid.Pid.{Pid}
use Rattle.pg_term.specs.Same.{same_pid}
use Rattle.pg_term.proofs.Same.{pid_is}
use Rattle.pg_group.specs.declared.update.Update.{Update}
use Rattle.pg_group.specs.declared.update.Update.TheVariants.{Create, Delete, Join, Leave}
use Rattle.pg_group.specs.Ended.{ended_with}
use Rattle.pg_group.specs.Functions.{upd}
use Rattle.pg_group.specs.Scope.{at_node}
use Rattle.pg_group.specs.Value.{Value, Counts, apply, less, NoneEnded, with_one_more, with_one_less}
use Rattle.pg_group.specs.Table.{applied, exchanged}
use Rattle.pg_group.proofs.Changes.{upd_by}

thin : (b : Bool) (n : ℕ) → (b ≡ true → n ≡ 0) → n ≡ cond b 0 n
thin true n h = h refl
thin false n h = refl

module _ (ended : Pid → Bool) where
  -- no ended pid is counted
  abbrev Living : Counts → Type 0
  Living counts = (pid : Pid) → ended pid ≡ true → counts pid ≡ 0

  thinned : (counts : Counts) → Living counts → Some counts ≡ less (Some counts) ended
  thinned counts h = ap Some (fun_ext (λ pid. thin (ended pid) (counts pid) (h pid)))

  more_living : (counts : Counts) (pid : Pid) → Living counts → ended pid ≡ false → Living (with_one_more counts pid)
  more_living counts pid h lives q e =
      upd_by same_pid counts pid (λ n. n ≡ 0) (counts pid + 1) q (λ t. absurd (cc (sym lives ∙ ap ended (pid_is pid q t) ∙ e))) (λ t. h q e)

  less_living : (counts : Counts) (pid : Pid) → Living counts → Living (with_one_less counts pid)
  less_living counts pid h q e =
      upd_by same_pid counts pid (λ n. n ≡ 0) (counts pid - 1) q (λ t. ap (λ n. n - 1) (h pid (ap ended (pid_is pid q t) ∙ e))) (λ t. h q e)

  -- a join of an ended pid counts nothing
  join_thinned : (counts : Counts) (pid : Pid) → Living counts → ended pid ≡ true → Some counts ≡ less (Some (with_one_more counts pid)) ended
  join_thinned counts pid h gone = ap Some (fun_ext (λ q.
      upd_by same_pid counts pid (λ n. counts q ≡ cond (ended q) 0 n) (counts pid + 1) q
      (λ t. let e : ended q ≡ true = sym (ap ended (pid_is pid q t)) ∙ gone in h q e ∙ sym (ap (λ b. cond b 0 (counts pid + 1)) e))
      (λ t. thin (ended q) (counts q) (h q))))

  pub kept : (v : Value) (update : Update) → NoneEnded v ended → NoneEnded (applied v update ended) ended
  kept None (Create name) h = λ pid e. refl
  kept (Some counts) (Create name) h = h
  kept v (Delete name) h = λ pid e. refl
  kept None (Join name pid) h = go (ended pid)
    where
      go : (b : Bool) → NoneEnded (cond b None (apply None (Join name pid))) ended
      go true = λ q e. refl
      go false = λ q e. refl
  kept (Some counts) (Join name pid) h = go (ended pid) refl
    where
      go : (b : Bool) → ended pid ≡ b → NoneEnded (cond b (Some counts) (Some (with_one_more counts pid))) ended
      go true e = h
      go false e = more_living counts pid h e
  kept None (Leave name pid) h = λ q e. refl
  kept (Some counts) (Leave name pid) h = less_living counts pid h

  -- what is told of ended pids counts nothing
  pub kept_exchanged : (v : Value) (pids : List Pid) → NoneEnded v ended → NoneEnded (exchanged v pids ended) ended
  kept_exchanged None pids h q e = ap (λ b. cond b 0 (count_by (same_pid q) pids)) e
  kept_exchanged (Some counts) pids h q e = (λ i. max (h q e i) (cond (e i) 0 (count_by (same_pid q) pids)))

  -- a pid that ends is taken out
  pub kept_without : (v : Value) (pid : Pid) → NoneEnded v ended → NoneEnded (less v (same_pid pid)) (upd same_pid ended pid true)
  unfolding upd
  kept_without None pid h = λ q e. refl
  kept_without (Some counts) pid h = λ q e. go (same_pid pid q) q e
    where
      go : (b : Bool) (q : Pid) → cond b true (ended q) ≡ true → cond b 0 (counts q) ≡ 0
      go true q e = refl
      go false q e = h q e

  -- the pids of a node that is lost are taken out
  pub kept_without_node : (v : Value) (node : List ℕ) → NoneEnded v ended → NoneEnded (less v (at_node node)) (ended_with ended node)
  kept_without_node None node h = λ q e. refl
  kept_without_node (Some counts) node h = λ q e. go (at_node node q) q e
    where
      go : (b : Bool) (q : Pid) → (b || ended q) ≡ true → cond b 0 (counts q) ≡ 0
      go true q e = refl
      go false q e = h q e

  pub value : (v : Value) (update : Update) → NoneEnded v ended → applied v update ended ≡ less (apply v update) ended
  value None (Create name) h = ap Some (fun_ext (λ pid. thin (ended pid) 0 (λ e. refl)))
  value (Some counts) (Create name) h = thinned counts h
  value None (Delete name) h = refl
  value (Some counts) (Delete name) h = refl
  value None (Join name pid) h = go (ended pid)
    where
      go : (b : Bool) → cond b None (apply None (Join name pid)) ≡ None
      go true = refl
      go false = refl
  value (Some counts) (Join name pid) h = go (ended pid) refl
    where
      go : (b : Bool) → ended pid ≡ b → cond b (Some counts) (Some (with_one_more counts pid)) ≡ less (Some (with_one_more counts pid)) ended
      go true e = join_thinned counts pid h e
      go false e = thinned (with_one_more counts pid) (more_living counts pid h e)
  value None (Leave name pid) h = refl
  value (Some counts) (Leave name pid) h = thinned (with_one_less counts pid) (less_living counts pid h)
