-- What was merged of groups and is taken back leaves them as they were.
use Rattle.std.proofs.Common.{◌≡◌, ℕ, ◌+◌, ◌-◌, ◌<◌, ◌≤◌, max, Bool, true, false, cond, Option, Some, None, List}
use Rattle.std.proofs.Common.{[], ◌∷◌, ◌++◌, length, map, get_or, refl, sym, ap, subst, ◌∙◌, arith, inl, inr}
use Rattle.std.specs.Prelude.{nat_lt, is_some, count_by, ◌⊎◌}
use Rattle.std.proofs.Math.Path.{fun_ext}
use Rattle.std.proofs.lemmas.Bool.{ltb-true, ltb-false, lt-ltb, le-ltb}
use Rattle.std.proofs.lemmas.List.{map-append, length-map, length-append}
use Rattle.std.proofs.lemmas.List.Sums.{sum_by-cons}
use Rattle.std.specs.declared.vec.Vec.{Vec}
use Rattle.std.specs.declared.alloc.Global.{Global}
use Rattle.pg_term.specs.declared.pid.Pid.{Pid}
use Rattle.pg_term.specs.declared.term.Term.{Term}
use Rattle.pg_term.specs.Same.{same_pid, same_term}
use Rattle.pg_term.specs.contracts.pid.PidEq.TheImpl.Laws as pid_laws
use Rattle.pg_term.specs.contracts.term.TermEq.TheImpl.Laws as term_laws
use Rattle.pg_term.proofs.Same.{pid_is, same_term as term_is}
use Rattle.pg_group.specs.declared.update.Update.TheVariants.{Leave}
use Rattle.pg_group.specs.Functions.{upd}
use Rattle.pg_group.specs.Value.{Counts, Value, apply, count_in, with_one_less, IsBetween}
use Rattle.pg_group.specs.Table.{Table, exchanged, merged, PartlyMerged}
use Rattle.pg_group.proofs.Changes.{upd_at, upd_other, upd_same, upd_twice}
use Rattle.pg_exchange.specs.GroupList.{GroupList}
use Rattle.pg_exchange.specs.Undone.{Before, before_of, lowered, put_back, with_back, undone, noted}

abbrev once : Counts → Pid → ℕ → Counts
once counts pid least = cond (nat_lt least (counts pid)) (with_one_less counts pid) counts

-- one pid of the list
module _ (f g : Counts) (pid q : Pid) (below : f pid ≤ g pid) (here : f q ≤ g q) where
  once_at : (c : ℕ) (b s : Bool) → nat_lt (f pid) (g pid) ≡ b → same_pid pid q ≡ s → (f q ≤ cond b (with_one_less g pid) g q) × (max (f q) (cond b (with_one_less g pid) g q - c) ≡ max (f q) (g q - (cond s 1 0 + c)))
  unfolding upd
  once_at c true true low same =
      let less : f pid < g pid = ltb-true (f pid) (g pid) low in
      let is : pid ≡ q = pid_is pid q same in
      let f_is : f pid ≡ f q = ap f is in
      let g_is : g pid ≡ g q = ap g is in
      let at : cond (same_pid pid q) (g pid - 1) (g q) ≡ g q - 1 = ap (λ b. cond b (g pid - 1) (g q)) same ∙ ap (λ n. n - 1) g_is in
      (omega arith, omega arith)
  once_at c true false low other =
      let at : cond (same_pid pid q) (g pid - 1) (g q) ≡ g q = ap (λ b. cond b (g pid - 1) (g q)) other in
      (omega arith, omega arith)
  once_at c false true high same =
      let most : g pid ≤ f pid = ltb-false (f pid) (g pid) high in
      let is : pid ≡ q = pid_is pid q same in
      let f_is : f pid ≡ f q = ap f is in
      let g_is : g pid ≡ g q = ap g is in
      (here, omega arith)
  once_at c false false high other = (here, omega arith)

-- each count goes down to what it was, as far as the list has the pid often enough
lowered_is : (f g : Counts) (pids : List Pid) → ((q : Pid) → f q ≤ g q) → (q : Pid) → lowered g pids (map f pids) q ≡ max (f q) (g q - count_by (same_pid q) pids)
lowered_is f g [] above q =
    let here : f q ≤ g q = above q in
    omega arith
lowered_is f g (pid ∷ pids) above q =
    lowered_is f (once g pid (f pid)) pids (λ p. (once_at f g pid p (above pid) (above p) 0 (nat_lt (f pid) (g pid)) (same_pid pid p) refl refl).0) q
    ∙ (once_at f g pid q (above pid) (above q) (count_by (same_pid q) pids) (nat_lt (f pid) (g pid)) (same_pid pid q) refl refl).1
    ∙ ap (λ b. max (f q) (g q - (cond b 1 0 + count_by (same_pid q) pids))) (pid_laws.laws-law.symm pid q)
    ∙ ap (λ n. max (f q) (g q - n)) (sym (sum_by-cons (λ x. cond (same_pid q x) 1 0) pid pids))

module _ (old new : Table) (name : Term) (pids : List Pid) (ended : Pid → Bool) (partly : PartlyMerged old new name pids ended) where
  counts_back : (v w : Value) → (is_some v ≡ true → is_some w ≡ true) → IsBetween (count_in v) (count_in (exchanged v pids ended)) (count_in w) → put_back w pids (before_of v pids) ≡ v
  counts_back None w stays between = refl
  counts_back (Some f) None stays between = absurd (no (stays refl))
    where
      no : false ≡ true → ⊥
      no e = cc
  counts_back (Some f) (Some g) stays between = ap Some (fun_ext (λ q. lowered_is f g pids (λ p. (between p).0) q ∙ at q (ended q) (between q)))
    where
      at : (q : Pid) (b : Bool) → (f q ≤ g q) × (g q ≤ max (f q) (cond b 0 (count_by (same_pid q) pids))) → max (f q) (g q - count_by (same_pid q) pids) ≡ f q
      at q true h =
          let low : f q ≤ g q = h.0 in
          let high : g q ≤ max (f q) 0 = h.1 in
          omega arith
      at q false h =
          let low : f q ≤ g q = h.0 in
          let high : g q ≤ max (f q) (count_by (same_pid q) pids) = h.1 in
          omega arith

  -- one group
  pub group_back : with_back new (name, pids) (before_of (old name) pids) ≡ old
  unfolding upd
  group_back = fun_ext (λ other. go other (same_term name other) refl)
    where
      go : (other : Term) (b : Bool) → same_term name other ≡ b → cond b (put_back (new name) pids (before_of (old name) pids)) (new other) ≡ old other
      go other true t = counts_back (old name) (new name) partly.stays partly.raised ∙ ap old (term_is name other t)
      go other false t = partly.others other t

-- the last group that was noted is led back first
pub undone_last : (table : Table) (groups : GroupList) (rest : List Before) (before : Before) (group : Term × List Pid) → length rest < length groups → group ≡ get_or groups (length rest) group → undone table groups (rest ++ before ∷ []) ≡ undone (with_back table group before) groups rest
undone_last table [] rest before group within is = absurd (omega arith)
undone_last table (g ∷ groups) [] before group within is = ap (λ (p : Term × List Pid). with_back table p before) (sym is)
undone_last table (g ∷ groups) (first ∷ rest) before group within is = ap (λ (t : Table). with_back t g first) (undone_last table groups rest before group (omega arith) is)

-- a whole merge is one that may have been cut short
pub whole : (old : Table) (name : Term) (pids : List Pid) (ended : Pid → Bool) → PartlyMerged old (merged old name pids ended) name pids ended
whole old name pids ended = record {
  others = λ other apart. upd_other same_term old name (exchanged (old name) pids ended) other apart;
  stays = λ there. ap is_some at ∙ stays (old name) there;
  raised = λ q. ((subst (λ (n : ℕ). count_in (old name) q ≤ n) (sym (ap (λ (v : Value). count_in v q) at)) (above (old name) q)), (subst (λ (n : ℕ). n ≤ count_in (exchanged (old name) pids ended) q) (sym (ap (λ (v : Value). count_in v q) at)) (omega arith)));
}
  where
    at : merged old name pids ended name ≡ exchanged (old name) pids ended
    at = upd_at same_term old name (exchanged (old name) pids ended) (term_laws.laws-law.refl name)

    stays : (v : Value) → is_some v ≡ true → is_some (exchanged v pids ended) ≡ true
    stays None there = absurd cc
    stays (Some f) there = refl

    above : (v : Value) (q : Pid) → count_in v q ≤ count_in (exchanged v pids ended) q
    above None q = omega arith
    above (Some f) q = omega arith

-- one more group that is merged, whole or in part
pub one_more_back : (old new : Table) (groups : GroupList) (noted_so_far : List (Option (Vec ℕ Global))) (before : Option (Vec ℕ Global)) (group : Term × List Pid) (ended : Pid → Bool) → length noted_so_far < length groups → group ≡ get_or groups (length noted_so_far) group → noted before ≡ before_of (old group.0) group.1 → PartlyMerged old new group.0 group.1 ended → undone new groups (map noted (noted_so_far ++ before ∷ [])) ≡ undone old groups (map noted noted_so_far)
one_more_back old new groups so_far before group ended within is noted_is partly =
    let len : length (map noted so_far) ≡ length so_far = length-map so_far noted in
    ap (undone new groups) (map-append noted so_far (before ∷ []))
    ∙ undone_last new groups (map noted so_far) (noted before) group (subst (λ n. n < length groups) (sym len) within) (subst (λ n. group ≡ get_or groups n group) (sym len) is)
    ∙ ap (λ (b : Before). undone (with_back new group b) groups (map noted so_far)) noted_is
    ∙ ap (λ (t : Table). undone t groups (map noted so_far)) (group_back old new group.0 group.1 ended partly)

-- the last of those that were noted
pub last_back : (old new final : Table) (groups : GroupList) (so_far rest : List (Option (Vec ℕ Global))) (before : Option (Vec ℕ Global)) (place : ℕ) (group : Term × List Pid) (pids : List Pid) → (length so_far ≤ length groups) × (undone old groups (map noted so_far) ≡ final) → so_far ≡ rest ++ before ∷ [] → place ≡ length rest → group ≡ get_or groups place group → pids ≡ group.1 → new ≡ with_back old (group.0, pids) (noted before) → (length rest ≤ length groups) × (undone new groups (map noted rest) ≡ final)
last_back old new final groups so_far rest before place group pids leads popped at is members led =
    let more : length so_far ≡ length rest + 1 = ap (λ (bs : List (Option (Vec ℕ Global))). length bs) popped ∙ length-append rest (before ∷ []) in
    let within : length rest < length groups = omega (arith, more, leads.0) in
    let len : length (map noted rest) ≡ length rest = length-map rest noted in (
      omega (arith, within),
      ap (λ (t : Table). undone t groups (map noted rest)) (led ∙ ap (λ (ps : List Pid). with_back old (group.0, ps) (noted before)) members)
          ∙ sym (undone_last old groups (map noted rest) (noted before) group (subst (λ n. n < length groups) (sym len) within) (subst (λ n. group ≡ get_or groups n group) (at ∙ sym len) is))
          ∙ ap (undone old groups) (sym (map-append noted rest (before ∷ [])))
          ∙ ap (λ (bs : List (Option (Vec ℕ Global))). undone old groups (map noted bs)) (sym popped)
          ∙ leads.1,
    )

-- ---- one pid of a list after the other

-- a table whose group is as it was
pub kept : (table : Table) (name : Term) (v : Value) → v ≡ table name → upd same_term table name v ≡ table
kept table name v is = upd_same same_term table name (term_is name) v is

-- nothing is left to be lowered
lowered_all : (v : Value) (pids : List Pid) (least : List ℕ) → (length pids ≡ 0) ⊎ (length least ≡ 0) → put_back v pids (Some least) ≡ v
lowered_all None pids least none = refl
lowered_all (Some counts) [] least none = refl
lowered_all (Some counts) (pid ∷ pids) [] none = refl
lowered_all (Some counts) (pid ∷ pids) (k ∷ least) (inl e) = absurd (omega (arith, e))
lowered_all (Some counts) (pid ∷ pids) (k ∷ least) (inr e) = absurd (omega (arith, e))

-- as two lists side by side end
pub all_lowered : {A C : Type 0} {B : A → Type 0} {D : C → Type 0} (v : Value) (pids : List Pid) (least : List ℕ) → ((x : A) × ((length pids ≡ 0) × B x)) ⊎ ((y : C) × ((length least ≡ 0) × D y)) → put_back v pids (Some least) ≡ v
all_lowered v pids least (inl none) = lowered_all v pids least (inl none.1.0)
all_lowered v pids least (inr none) = lowered_all v pids least (inr none.1.0)

-- a pid that is taken once, and one that is not
taken_once : (v : Value) (name : Term) (pid : Pid) (pids : List Pid) (k : ℕ) (least : List ℕ) → nat_lt k (count_in v pid) ≡ true → put_back (apply v (Leave name pid)) pids (Some least) ≡ put_back v (pid ∷ pids) (Some (k ∷ least))
taken_once None name pid pids k least low = refl
taken_once (Some counts) name pid pids k least low = ap (λ b. Some (lowered (cond b (with_one_less counts pid) counts) pids least)) (sym low)

not_taken : (v : Value) (pid : Pid) (pids : List Pid) (k : ℕ) (least : List ℕ) → nat_lt k (count_in v pid) ≡ false → put_back v pids (Some least) ≡ put_back v (pid ∷ pids) (Some (k ∷ least))
not_taken None pid pids k least high = refl
not_taken (Some counts) pid pids k least high = ap (λ b. Some (lowered (cond b (with_one_less counts pid) counts) pids least)) (sym high)

-- a leave of the pid, and then the rest
pub next_taken : (table new : Table) (name : Term) (pid : Pid) (pids : List Pid) (k : ℕ) (least : List ℕ) → k < count_in (table name) pid → new ≡ upd same_term table name (apply (table name) (Leave name pid)) → upd same_term new name (put_back (new name) pids (Some least)) ≡ upd same_term table name (put_back (table name) (pid ∷ pids) (Some (k ∷ least)))
next_taken table new name pid pids k least low is =
    let at : new name ≡ apply (table name) (Leave name pid) = ap (λ (t : Table). t name) is ∙ upd_at same_term table name (apply (table name) (Leave name pid)) (term_laws.laws-law.refl name) in
    let value : put_back (new name) pids (Some least) ≡ put_back (table name) (pid ∷ pids) (Some (k ∷ least)) = ap (λ v. put_back v pids (Some least)) at ∙ taken_once (table name) name pid pids k least (lt-ltb k (count_in (table name) pid) low) in
    ap (upd same_term new name) value
    ∙ ap (λ (t : Table). upd same_term t name (put_back (table name) (pid ∷ pids) (Some (k ∷ least)))) is
    ∙ upd_twice same_term table name (apply (table name) (Leave name pid)) (put_back (table name) (pid ∷ pids) (Some (k ∷ least)))

pub next_stays : (table : Table) (name : Term) (pid : Pid) (pids : List Pid) (k : ℕ) (least : List ℕ) → count_in (table name) pid ≤ k → upd same_term table name (put_back (table name) pids (Some least)) ≡ upd same_term table name (put_back (table name) (pid ∷ pids) (Some (k ∷ least)))
next_stays table name pid pids k least high = ap (upd same_term table name) (not_taken (table name) pid pids k least (le-ltb k (count_in (table name) pid) high))
