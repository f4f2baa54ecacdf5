-- Tables into which groups are merged, one after the other.
use Rattle.std.proofs.Common.{◌≡◌, ℕ, suc, zero, ◌+◌, ◌<◌, Bool, List, [], ◌∷◌, length, take, get_or, sym, ap, ◌∙◌, arith, add-one}
use Rattle.pg_term.specs.declared.pid.Pid.{Pid}
use Rattle.pg_term.specs.declared.term.Term.{Term}
use Rattle.pg_group.specs.Table.{Table, GroupList, merged, all_merged}

module _ (ended : Pid → Bool) where
  merged_next : (table : Table) (groups : GroupList) (i : ℕ) (group : Term × List Pid) → i < length groups → group ≡ get_or groups i group → all_merged table (take (suc i) groups) ended ≡ merged (all_merged table (take i groups) ended) group.0 group.1 ended
  merged_next table [] i group h e = absurd (omega arith)
  merged_next table (g ∷ gs) zero group h e = ap (λ (p : Term × List Pid). merged table p.0 p.1 ended) (sym e)
  merged_next table (g ∷ gs) (suc i) group h e = merged_next (merged table g.0 g.1 ended) gs i group (omega arith) e

  -- one more group
  pub merged_more : (table : Table) (groups : GroupList) (i : ℕ) (group : Term × List Pid) (old new : Table) → i < length groups → group ≡ get_or groups i group → old ≡ all_merged table (take i groups) ended → new ≡ merged old group.0 group.1 ended → new ≡ all_merged table (take (i + 1) groups) ended
  merged_more table groups i group old new h e so_far more =
      more ∙ ap (λ (t : Table). merged t group.0 group.1 ended) so_far ∙ sym (merged_next table groups i group h e) ∙ ap (λ n. all_merged table (take n groups) ended) (sym (add-one i))
