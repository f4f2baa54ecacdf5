-- What groups tell of, as a table.
use Rattle.std.proofs.Common.{◌≡◌, Bool, true, false, cond, ◌||◌, Some, None, List, [], ◌∷◌, refl, sym, ap, subst, ◌∙◌}
use Rattle.std.proofs.Math.Path.{fun_ext}
use Rattle.std.specs.Prelude.{is_some}
use Rattle.std.specs.List.{AllByRecursion, IsDistinct, list_any}
use Rattle.std.proofs.lemmas.Map.Keys.{IsDistinct-head, IsDistinct-tail}
use Rattle.pg_term.specs.declared.pid.Pid.{Pid}
use Rattle.pg_term.specs.declared.term.Term.{Term}
use Rattle.pg_term.specs.Same.{same_term}
use Rattle.pg_term.specs.contracts.term.TermEq.TheImpl.Laws as term_laws
use Rattle.pg_group.specs.Functions.{upd}
use Rattle.pg_group.specs.Value.{Value, count_in, less, merge, listed}
use Rattle.pg_group.specs.Scope.{anywhere}
use Rattle.pg_group.specs.Members.{IsMemberList}
use Rattle.pg_group.specs.Table.{Table, exchanged, merged}
use Rattle.pg_exchange.specs.GroupList.{GroupList, all_merged, announced_table, announced_names, IsSnapshot}

with_nothing : (v : Value) → v ≡ merge v None
with_nothing None = refl
with_nothing (Some counts) = refl

-- a list of all members tells of a group that is there
listed_is : (v : Value) (pids : List Pid) → IsMemberList v anywhere pids → listed pids ≡ Some (count_in v)
listed_is v pids is = ap Some (fun_ext is.each)

none_any : (test : Term → Bool) (names : List Term) → AllByRecursion (λ name. test name ≡ false) names → list_any test names ≡ false
none_any test [] h = refl
none_any test (name ∷ names) h = ap (λ b. b || list_any test names) h.0 ∙ none_any test names h.1

there : (v : Value) → cond (is_some v) (Some (count_in v)) None ≡ v
there None = refl
there (Some counts) = refl

module _ (decides : (x y : Term) → same_term x y ≡ true → x ≡ y) where
  module _ (associates : (u v w : Value) → merge (merge u v) w ≡ merge u (merge v w)) (ended : Pid → Bool) (spreads : (v w : Value) → less (merge v w) ended ≡ merge (less v ended) (less w ended)) where
    -- one more group
    one_announced : (table : Table) (first : Term) (pids : List Pid) (rest : Value) (name : Term) → merge (merged table first pids ended name) (less rest ended) ≡ merge (table name) (less (merge (cond (same_term first name) (listed pids) None) rest) ended)
    unfolding upd
    one_announced table first pids rest name = go (same_term first name) refl
      where
        go : (b : Bool) → same_term first name ≡ b → merge (cond b (exchanged (table first) pids ended) (table name)) (less rest ended) ≡ merge (table name) (less (merge (cond b (listed pids) None) rest) ended)
        go true t =
            ap (λ n. merge (exchanged (table n) pids ended) (less rest ended)) (decides first name t)
            ∙ associates (table name) (less (listed pids) ended) (less rest ended) ∙ ap (merge (table name)) (sym (spreads (listed pids) rest))
        go false t = refl

    pub all_announced : (table : Table) (groups : GroupList) (name : Term) → all_merged table groups ended name ≡ merge (table name) (less (announced_table groups name) ended)
    all_announced table [] name = with_nothing (table name)
    all_announced table (group ∷ groups) name = all_announced (merged table group.0 group.1 ended) groups name ∙ one_announced table group.0 group.1 (announced_table groups name) name

  -- groups of different names tell of each once
  announced_once : (own : Table) (groups : GroupList) → IsDistinct same_term (announced_names groups) → AllByRecursion (λ group. IsMemberList (own group.0) anywhere group.1) groups → (name : Term) → announced_table groups name ≡ cond (list_any (same_term name) (announced_names groups)) (Some (count_in (own name))) None
  announced_once own [] once members name = refl
  announced_once own (group ∷ groups) once members name = go (same_term group.0 name) refl (announced_once own groups (IsDistinct-tail same_term group.0 (announced_names groups) once) members.1 name)
    where
      go : (b : Bool) → same_term group.0 name ≡ b → announced_table groups name ≡ cond (list_any (same_term name) (announced_names groups)) (Some (count_in (own name))) None → merge (cond b (listed group.1) None) (announced_table groups name) ≡ cond (same_term name group.0 || list_any (same_term name) (announced_names groups)) (Some (count_in (own name))) None
      go true t rest =
          let is : group.0 ≡ name = decides group.0 name t in
          let others : list_any (same_term name) (announced_names groups) ≡ false = none_any (same_term name) (announced_names groups) (subst (λ (n : Term). AllByRecursion (λ other. same_term n other ≡ false) (announced_names groups)) is (IsDistinct-head same_term group.0 (announced_names groups) once)) in
          let none : announced_table groups name ≡ None = rest ∙ ap (λ b. cond b (Some (count_in (own name))) None) others in
          ap (merge (listed group.1)) none ∙ listed_is (own group.0) group.1 members.0 ∙ ap (λ n. Some (count_in (own n))) is
          ∙ ap (λ b. cond (b || list_any (same_term name) (announced_names groups)) (Some (count_in (own name))) None) (sym (term_laws.laws-law.symm name group.0 ∙ t))
      go false t rest =
          rest ∙ ap (λ b. cond (b || list_any (same_term name) (announced_names groups)) (Some (count_in (own name))) None) (sym (term_laws.laws-law.symm name group.0 ∙ t))

  pub snapshot_announced : (own : Table) (groups : GroupList) → IsSnapshot own groups → (name : Term) → announced_table groups name ≡ own name
  snapshot_announced own groups is name =
      announced_once own groups is.names.once is.members name ∙ ap (λ b. cond b (Some (count_in (own name))) None) (is.names.each name) ∙ there (own name)
