-- Tables into which one group of another node is merged.
use Rattle.std.proofs.Common.{◌≡◌, ◌≤◌, Bool, Some, None, List, sym, ap, ◌∙◌, arith}
use Rattle.std.specs.Prelude.{is_some, unwrap_or}
use Rattle.std.proofs.Math.Path.{fun_ext}
use Rattle.pg_term.specs.declared.pid.Pid.{Pid}
use Rattle.pg_term.specs.declared.term.Term.{Term}
use Rattle.pg_term.specs.Same.{same_term}
use Rattle.pg_term.specs.contracts.term.TermEq.TheImpl.Laws as term_laws
use Rattle.pg_group.specs.declared.update.Update.TheVariants.{Create}
use Rattle.pg_group.specs.Functions.{upd}
use Rattle.pg_group.specs.Value.{Value, Counts, nobody, apply, greater, told, count_in, IsBetween}
use Rattle.pg_group.specs.Table.{Table, exchanged, merged, PartlyMerged}
use Rattle.pg_group.proofs.Changes.{upd_at, upd_other, upd_twice}

same_counts : (f g : Counts) → ◌≡◌ {A = Value} (Some f) (Some g) → f ≡ g
same_counts f g e = ap (λ (v : Value). unwrap_or v nobody) e

made_is_there : (v : Value) (name : Term) → apply v (Create name) ≡ None → ⊥
made_is_there None name e = cc
made_is_there (Some f) name e = cc

module _ (pids : List Pid) (ended : Pid → Bool) where
  exchanged_whole : (v : Value) (name : Term) (m : Counts) → Some m ≡ apply v (Create name) → Some (greater m (told pids ended)) ≡ exchanged v pids ended
  exchanged_whole None name m e =
      let empty : m ≡ nobody = same_counts m nobody e in
      ap Some (ap (λ (f : Counts). greater f (told pids ended)) empty ∙ fun_ext (λ pid. omega arith))
  exchanged_whole (Some f) name m e = ap (λ (g : Counts). Some (greater g (told pids ended))) (same_counts m f e)

  least : (v : Value) (name : Term) (m : Counts) → Some m ≡ apply v (Create name) → (pid : Pid) → count_in v pid ≤ m pid
  least None name m e pid = omega arith
  least (Some f) name m e pid = let same : m pid ≡ f pid = ap (λ (g : Counts). g pid) (same_counts m f e) in omega arith

  most : (v : Value) (pid : Pid) → count_in v pid ≤ count_in (exchanged v pids ended) pid
  most None pid = omega arith
  most (Some f) pid = omega arith

  -- the table is as it was
  pub nothing_merged : (old new : Table) (name : Term) → new ≡ old → PartlyMerged old new name pids ended
  nothing_merged old new name e = record {
    others = λ other apart. ap (λ (t : Table). t other) e;
    stays = λ there. ap (λ (t : Table). is_some (t name)) e ∙ there;
    raised = λ pid.
        let same : count_in (new name) pid ≡ count_in (old name) pid = ap (λ (t : Table). count_in (t name) pid) e in
        let up = most (old name) pid in
        (omega arith, omega arith);
  }

  -- the group was made where it was missing, and then its counts were raised
  module _ (old made new : Table) (name : Term) (m n : Counts) (first : made ≡ upd same_term old name (apply (old name) (Create name))) (had : made name ≡ Some m) (then : new ≡ upd same_term made name (Some n)) where
    is_made : Some m ≡ apply (old name) (Create name)
    is_made = sym had ∙ ap (λ (t : Table). t name) first ∙ upd_at same_term old name (apply (old name) (Create name)) (term_laws.laws-law.refl name)

    rewritten : new ≡ upd same_term old name (Some n)
    rewritten = then ∙ ap (λ (t : Table). upd same_term t name (Some n)) first ∙ upd_twice same_term old name (apply (old name) (Create name)) (Some n)

    pub all_merged : n ≡ greater m (told pids ended) → new ≡ merged old name pids ended
    all_merged e = rewritten ∙ ap (upd same_term old name) (ap Some e ∙ exchanged_whole (old name) name m is_made)

    pub partly_merged : IsBetween m (greater m (told pids ended)) n → PartlyMerged old new name pids ended
    partly_merged between = record {
      others = λ other apart. ap (λ (t : Table). t other) rewritten ∙ upd_other same_term old name (Some n) other apart;
      stays = λ there. ap is_some here;
      raised = λ pid.
          let at : count_in (new name) pid ≡ n pid = ap (λ (v : Value). count_in v pid) here in
          let top : greater m (told pids ended) pid ≡ count_in (exchanged (old name) pids ended) pid = ap (λ (v : Value). count_in v pid) (exchanged_whole (old name) name m is_made) in
          let low = least (old name) name m is_made pid in
          let both = between pid in
          (omega arith, omega arith);
    }
      where
        here : new name ≡ Some n
        here = ap (λ (t : Table). t name) rewritten ∙ upd_at same_term old name (Some n) (term_laws.laws-law.refl name)

  pub never_missing : (old made : Table) (name : Term) → made ≡ upd same_term old name (apply (old name) (Create name)) → made name ≡ None → ⊥
  never_missing old made name first gone =
      made_is_there (old name) name (sym (ap (λ (t : Table). t name) first ∙ upd_at same_term old name (apply (old name) (Create name)) (term_laws.laws-law.refl name)) ∙ gone)
