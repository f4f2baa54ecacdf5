-- Groups that are there and groups that are absent, merged one after the other.
use Rattle.std.proofs.Common.{◌≡◌, Bool, true, false, cond, Some, None, List, [], ◌∷◌, ◌++◌, refl, sym, ap, ◌∙◌}
use Rattle.std.proofs.Math.Path.{fun_ext}
use Rattle.std.specs.Prelude.{is_some, IsSome}
use Rattle.std.specs.List.{AllByRecursion}
use Rattle.pg_term.specs.declared.pid.Pid.{Pid}
use Rattle.pg_term.specs.declared.term.Term.{Term}
use Rattle.pg_term.specs.Same.{same_term}
use Rattle.pg_term.specs.contracts.term.TermEq.TheImpl.Laws as term_laws
use Rattle.pg_term.proofs.Same.{same_term as term_is}
use Rattle.pg_group.specs.Functions.{upd}
use Rattle.pg_group.specs.Value.{Value}
use Rattle.pg_group.specs.Table.{Table, exchanged, merged, AreAbsent}
use Rattle.pg_group.proofs.Changes.{upd_other, upd_by}
use Rattle.pg_exchange.specs.GroupList.{GroupList, all_merged}
use Rattle.pg_exchange.specs.Undone.{ArePresent}

pub one_more : {A : Type 0} (P : A → Type 0) (xs : List A) (x : A) → AllByRecursion P xs → P x → AllByRecursion P (xs ++ x ∷ [])
one_more P [] x all one = (one, tt)
one_more P (y ∷ xs) x all one = (all.0, one_more P xs x all.1 one)

-- a group that is there and one that is not have different names
differ : (table : Table) (present absent : Term) → IsSome (table present) → table absent ≡ None → same_term present absent ≡ false
differ table present absent there none = go (same_term present absent) refl
  where
    go : (b : Bool) → same_term present absent ≡ b → same_term present absent ≡ false
    go true e = absurd (let no : is_some (table present) ≡ false = ap (λ n. is_some (table n)) (term_is present absent e) ∙ ap is_some none in cc)
    go false e = e

upd_swap : (table : Table) (j k : Term) (v w : Value) → same_term j k ≡ false → upd same_term (upd same_term table j v) k w ≡ upd same_term (upd same_term table k w) j v
unfolding upd
upd_swap table j k v w apart = fun_ext (λ x. go x (same_term j x) (same_term k x) refl refl)
  where
    go : (x : Term) (a b : Bool) → same_term j x ≡ a → same_term k x ≡ b → cond b w (cond a v (table x)) ≡ cond a v (cond b w (table x))
    go x true true e f = absurd (let one : same_term j k ≡ true = ap (same_term j) (term_is k x f) ∙ e in cc)
    go x true false e f = refl
    go x false true e f = refl
    go x false false e f = refl

module _ (ended : Pid → Bool) where
  -- the order of groups of different names does not matter
  merged_swap : (table : Table) (j k : Term) (xs ys : List Pid) → same_term j k ≡ false → merged (merged table j xs ended) k ys ended ≡ merged (merged table k ys ended) j xs ended
  merged_swap table j k xs ys apart =
      ap (λ (v : Value). upd same_term (merged table j xs ended) k (exchanged v ys ended)) (upd_other same_term table j (exchanged (table j) xs ended) k apart)
      ∙ upd_swap table j k (exchanged (table j) xs ended) (exchanged (table k) ys ended) apart
      ∙ ap (λ (v : Value). upd same_term (merged table k ys ended) j (exchanged v xs ended)) (sym (upd_other same_term table k (exchanged (table k) ys ended) j (term_laws.laws-law.symm k j ∙ apart)))

  pub merged_last : (table : Table) (groups : GroupList) (group : Term × List Pid) → all_merged table (groups ++ group ∷ []) ended ≡ merged (all_merged table groups ended) group.0 group.1 ended
  merged_last table [] group = refl
  merged_last table (g ∷ groups) group = merged_last (merged table g.0 g.1 ended) groups group

  -- a group that is there, merged before those that are absent
  pub merged_first : (own : Table) (group : Term × List Pid) → IsSome (own group.0) → (groups : GroupList) → AreAbsent own groups → (table : Table) → all_merged (merged table group.0 group.1 ended) groups ended ≡ merged (all_merged table groups ended) group.0 group.1 ended
  merged_first own group there [] absent table = refl
  merged_first own group there (g ∷ groups) absent table =
      ap (λ (t : Table). all_merged t groups ended) (merged_swap table group.0 g.0 group.1 g.1 (differ own group.0 g.0 there absent.0))
      ∙ merged_first own group there groups absent.1 (merged table g.0 g.1 ended)

  exchanged_stays : (v : Value) (pids : List Pid) → is_some v ≡ true → is_some (exchanged v pids ended) ≡ true
  exchanged_stays None pids there = absurd cc
  exchanged_stays (Some counts) pids there = refl

  merged_stays : (table : Table) (name : Term) (pids : List Pid) → IsSome (table name) → (other : Term) → IsSome (table other) → IsSome (merged table name pids ended other)
  merged_stays table name pids there other stays = upd_by same_term table name IsSome (exchanged (table name) pids ended) other (λ e. exchanged_stays (table name) pids there) (λ e. stays)

  all_stay : (table : Table) (name : Term) (pids : List Pid) → IsSome (table name) → (groups : GroupList) → ArePresent table groups → ArePresent (merged table name pids ended) groups
  all_stay table name pids there [] present = tt
  all_stay table name pids there (g ∷ groups) present = (merged_stays table name pids there g.0 present.0, all_stay table name pids there groups present.1)

  -- groups that are there were merged: a group that was absent still is
  still_absent : (table : Table) (groups : GroupList) → ArePresent table groups → (name : Term) → table name ≡ None → all_merged table groups ended name ≡ None
  still_absent table [] present name none = none
  still_absent table (g ∷ groups) present name none =
      still_absent (merged table g.0 g.1 ended) groups (all_stay table g.0 g.1 present.0 groups present.1) name
      (upd_other same_term table g.0 (exchanged (table g.0) g.1 ended) name (differ table g.0 name present.0 none) ∙ none)

  pub all_still_absent : (table : Table) (groups : GroupList) → ArePresent table groups → (others : GroupList) → AreAbsent table others → AreAbsent (all_merged table groups ended) others
  all_still_absent table groups present [] absent = tt
  all_still_absent table groups present (g ∷ others) absent = (still_absent table groups present g.0 absent.0, all_still_absent table groups present others absent.1)

-- a test that fails shows that a group is absent
pub absent_by : (v : Value) (b : Bool) → (IsSome v → b ≡ true) → b ≡ false → v ≡ None
absent_by None b says fails = refl
absent_by (Some counts) b says fails = absurd (let passes : b ≡ true = says refl in cc)
