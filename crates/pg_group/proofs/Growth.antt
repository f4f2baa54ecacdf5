-- How much an update adds to a count.
use Rattle.std.proofs.Common.{ℕ, ◌+◌, ◌-◌, ◌≤◌, Bool, true, false, cond, Some, None, arith}
use Rattle.pg_term.specs.declared.pid.Pid.{Pid}
use Rattle.pg_term.specs.declared.term.Term.{Term}
use Rattle.pg_term.specs.Same.{same_pid, same_term}
use Rattle.pg_group.specs.declared.update.Update.{Update}
use Rattle.pg_group.specs.declared.update.Update.TheVariants.{Create, Delete, Join, Leave}
use Rattle.pg_group.specs.Value.{Value, apply, count_in, name_of}
use Rattle.pg_group.specs.Table.{Table, applied, changed}
use Rattle.pg_group.proofs.Changes.{upd_by}

module _ (n : ℕ) where
  grown : (v : Value) (update : Update) → ((pid : Pid) → count_in v pid ≤ n) → (pid : Pid) → count_in (apply v update) pid ≤ n + 1
  grown None (Create name) h pid = omega arith
  grown (Some counts) (Create name) h pid = omega (arith, h pid)
  grown None (Delete name) h pid = omega arith
  grown (Some counts) (Delete name) h pid = omega arith
  grown None (Join name member) h pid = omega arith
  grown (Some counts) (Join name member) h pid = upd_by same_pid counts member (λ k. k ≤ n + 1) (counts member + 1) pid (λ e. omega (arith, h member)) (λ e. omega (arith, h pid))
  grown None (Leave name member) h pid = omega arith
  grown (Some counts) (Leave name member) h pid = upd_by same_pid counts member (λ k. k ≤ n + 1) (counts member - 1) pid (λ e. omega (arith, h member)) (λ e. omega (arith, h pid))

  applied_grown : (v : Value) (update : Update) (ended : Pid → Bool) → ((pid : Pid) → count_in v pid ≤ n) → (pid : Pid) → count_in (applied v update ended) pid ≤ n + 1
  applied_grown v (Create name) ended h pid = grown v (Create name) h pid
  applied_grown v (Delete name) ended h pid = grown v (Delete name) h pid
  applied_grown v (Leave name member) ended h pid = grown v (Leave name member) h pid
  applied_grown v (Join name member) ended h pid = go (ended member)
    where
      go : (b : Bool) → count_in (cond b v (apply v (Join name member))) pid ≤ n + 1
      go true = omega (arith, h pid)
      go false = grown v (Join name member) h pid

  -- no count of the table grows by more than one
  pub changed_grown : (table : Table) (update : Update) (ended : Pid → Bool) → ((name : Term) (pid : Pid) → count_in (table name) pid ≤ n) → (name : Term) (pid : Pid) → count_in (changed table update ended name) pid ≤ n + 1
  changed_grown table update ended h name pid =
      upd_by same_term table (name_of update) (λ v. count_in v pid ≤ n + 1) (applied (table (name_of update)) update ended) name
      (λ e. applied_grown (table (name_of update)) update ended (h (name_of update)) pid) (λ e. omega (arith, h name pid))
