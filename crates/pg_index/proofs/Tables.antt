-- Tables whose groups have numbers.
use Rattle.std.proofs.Math.Path.{fun_ext}
use Rattle.std.proofs.Common.{◌≡◌, ℕ, ◌+◌, Bool, true, false, cond, Option, Some}
use Rattle.std.proofs.Common.{None, List, refl, sym, ap, subst, ◌∙◌, nat_eq, nat_lt}
use Rattle.std.specs.Prelude.{is_some, Result, Ok, Err, OnOk, OnErr}
use Rattle.std.specs.Option.{option_map}
use Rattle.pg_term.specs.declared.pid.Pid.{Pid}
use Rattle.pg_term.specs.declared.term.Term.{Term}
use Rattle.pg_term.specs.Same.{same_pid, same_term}
use Rattle.pg_term.specs.contracts.pid.PidEq.TheImpl.Laws as pid_laws
use Rattle.pg_term.proofs.Same as decided
use Rattle.pg_group.specs.Functions.{upd}
use Rattle.pg_group.specs.Value.{Value, Counts, nobody, less, apply, with_one_more, with_one_less, greater, told}
use Rattle.pg_group.specs.declared.update.Update.TheVariants.{Create, Join, Leave}
use Rattle.pg_group.proofs.Maps.{table_kept}
use Rattle.pg_group.proofs.Exchanges.{all_merged, partly_merged}
use Rattle.pg_group.specs.Scope.{at_node}
use Rattle.pg_group.specs.Table.{Table, without, merged, PartlyMerged}
use Rattle.pg_group.specs.Table as tables
use Rattle.pg_group.proofs.Changes.{upd_from, upd_same, upd_at, upd_other, upd_twice}
use Rattle.pg_index_members.specs.declared.row.Row.{Row}
use Rattle.pg_index_members.specs.Rows.{counts_of}
use Rattle.pg_index.specs.Groups.{Numbered, counts_at, counts_changed, counts_raised}
use Rattle.pg_index.specs.Groups.{without_pid, without_nodes, IsPartlyRaised}
use Rattle.pg_index.specs.Listings.{listed_as}
use Rattle.pg_index.specs.Index.{contents_of, HasGroups, AreNumberedApart}
use Rattle.pg_index.proofs.Numbers.{number_is, number_itself}
use Rattle.pg_index.proofs.Changed.{marked_here, marked_of_others, marked_elsewhere}

pub members_at : (slot : Option (List Row)) → is_some slot ≡ true → option_map counts_of slot ≡ Some (counts_at slot)
members_at None e = absurd cc
members_at (Some rows) e = refl

-- one listing and one count taken out
pub row_removed : (listed listed' : Pid → ℕ → Bool) (counts counts' : Counts) (pid : Pid) (group : ℕ)
    → listed' ≡ listed_as listed pid group false → counts' ≡ upd same_pid counts pid 0
    → (((q : Pid) → listed q group ≡ nat_lt 0 (counts q)) → (q : Pid) → listed' q group ≡ nat_lt 0 (counts' q))
    × ((q : Pid) (n : ℕ) → nat_eq group n ≡ false → listed' q n ≡ listed q n)
row_removed listed listed' counts counts' pid group e f = (λ h q. mine h q (same_pid pid q) refl, λ q n g. others q n g (same_pid pid q) refl)
  where
    mine : ((q : Pid) → listed q group ≡ nat_lt 0 (counts q)) → (q : Pid) (t : Bool) → same_pid pid q ≡ t → listed' q group ≡ nat_lt 0 (counts' q)
    mine h q true g =
        let none : counts' pid ≡ 0 = ap (λ (c : Counts). c pid) f ∙ upd_at same_pid counts pid 0 (pid_laws.laws-law.refl pid) in
        subst (λ (p : Pid). listed' p group ≡ nat_lt 0 (counts' p)) (decided.pid_is pid q g) (ap (λ l. l pid group) e ∙ marked_here listed pid group false ∙ ap (nat_lt 0) (sym none))
    mine h q false g =
        ap (λ l. l q group) e ∙ marked_of_others listed pid group false q group g ∙ h q
        ∙ ap (nat_lt 0) (sym (ap (λ (c : Counts). c q) f ∙ upd_other same_pid counts pid 0 q g))

    others : (q : Pid) (n : ℕ) → nat_eq group n ≡ false → (t : Bool) → same_pid pid q ≡ t → listed' q n ≡ listed q n
    others q n g true k = subst (λ (p : Pid). listed' p n ≡ listed p n) (decided.pid_is pid q k) (ap (λ l. l pid n) e ∙ marked_elsewhere listed pid group false n g)
    others q n g false k = ap (λ l. l q n) e ∙ marked_of_others listed pid group false q n k

module _ (number_of : Term → Option ℕ) (counts : Numbered) where
  -- one group has other members
  pub group_changed : AreNumberedApart number_of → (name : Term) (group : ℕ) (after : Counts) (counts' : Numbered) → number_of name ≡ Some group → counts' ≡ upd nat_eq counts group after
      → contents_of number_of counts' ≡ upd same_term (contents_of number_of counts) name (Some after)
  group_changed apart name group after counts' had e =
      upd_from same_term (contents_of number_of counts) name (contents_of number_of counts') (Some after) (λ q. go q (same_term name q) refl)
    where
      here : option_map counts' (number_of name) ≡ Some after
      here = ap (option_map counts') had ∙ ap Some (ap (λ (c : Numbered). c group) e ∙ upd_at nat_eq counts group after (number_itself group))

      other : (q : Term) (o : Option ℕ) → number_of q ≡ o → same_term name q ≡ false → option_map counts' o ≡ option_map counts o
      other q None f g = refl
      other q (Some n) f g = ap Some (ap (λ (c : Numbered). c n) e ∙ upd_other nat_eq counts group after n (distinct (nat_eq group n) refl))
        where
          distinct : (t : Bool) → nat_eq group n ≡ t → nat_eq group n ≡ false
          distinct true k = absurd (let same = apart name q group had (f ∙ ap Some (sym (number_is group n k))) in cc)
          distinct false k = k

      go : (q : Term) (t : Bool) → same_term name q ≡ t → contents_of number_of counts' q ≡ cond t (Some after) (contents_of number_of counts q)
      go q true f = ap (contents_of number_of counts') (sym (decided.same_term name q f)) ∙ here
      go q false f = other q (number_of q) refl f

  -- a pid, or a node, in no group
  pub pid_gone : (pid : Pid) → contents_of number_of (without_pid counts pid) ≡ without (contents_of number_of counts) pid
  unfolding upd
  pid_gone pid = fun_ext (λ name. go (number_of name))
    where
      go : (o : Option ℕ) → option_map (without_pid counts pid) o ≡ less (option_map counts o) (same_pid pid)
      go None = refl
      go (Some group) = refl

  pub node_gone : (node : List ℕ) → contents_of number_of (without_nodes counts node) ≡ tables.without_node (contents_of number_of counts) node
  node_gone node = fun_ext (λ name. go (number_of name))
    where
      go : (o : Option ℕ) → option_map (without_nodes counts node) o ≡ less (option_map counts o) (at_node node)
      go None = refl
      go (Some group) = refl

-- ---- a group that is made

pub is_there : (number_of : Term → Option ℕ) (counts : Numbered) (name : Term) → is_some (contents_of number_of counts name) ≡ is_some (number_of name)
is_there number_of counts name = go (number_of name)
  where
    go : (o : Option ℕ) → is_some (option_map counts o) ≡ is_some o
    go None = refl
    go (Some group) = refl

pub made_before : (table : Table) (name : Term) → is_some (table name) ≡ true → table ≡ upd same_term table name (apply (table name) (Create name))
made_before table name e = table_kept table name (apply (table name) (Create name)) (go (table name) e)
  where
    go : (v : Value) → is_some v ≡ true → apply v (Create name) ≡ v
    go None f = absurd cc
    go (Some counts) f = refl

module _ (number_of number_of' : Term → Option ℕ) (used used' : ℕ → Bool) (counts : Numbered) (name copy : Term) (group : ℕ)
    (same : copy ≡ name)
    (put : (q : Term) → number_of' q ≡ cond (same_term copy q) (Some group) (number_of q))
    (absent : is_some (number_of name) ≡ false)
    (free : used group ≡ false)
    (opened : used' ≡ upd nat_eq used group true)
    (there : HasGroups number_of used) where
  at_name : (q : Term) → number_of' q ≡ cond (same_term name q) (Some group) (number_of q)
  at_name q = put q ∙ ap (λ (n : Term). cond (same_term n q) (Some group) (number_of q)) same

  pub made_now : counts group ≡ nobody → contents_of number_of' counts ≡ upd same_term (contents_of number_of counts) name (apply (contents_of number_of counts name) (Create name))
  made_now empty = upd_from same_term (contents_of number_of counts) name (contents_of number_of' counts) (apply (contents_of number_of counts name) (Create name)) (λ q. go q (same_term name q) refl)
    where
      nobody_yet : (o : Option ℕ) → is_some o ≡ false → apply (option_map counts o) (Create name) ≡ Some nobody
      nobody_yet None e = refl
      nobody_yet (Some n) e = absurd cc

      go : (q : Term) (t : Bool) → same_term name q ≡ t → contents_of number_of' counts q ≡ cond t (apply (contents_of number_of counts name) (Create name)) (contents_of number_of counts q)
      go q true e = ap (option_map counts) (at_name q ∙ ap (λ t. cond t (Some group) (number_of q)) e) ∙ ap Some empty ∙ sym (nobody_yet (number_of name) absent)
      go q false e = ap (option_map counts) (at_name q ∙ ap (λ t. cond t (Some group) (number_of q)) e)

  still_used : (n : ℕ) → used n ≡ true → used' n ≡ true
  still_used n e = go (nat_eq group n) refl
    where
      go : (t : Bool) → nat_eq group n ≡ t → used' n ≡ true
      go true f = ap used' (sym (number_is group n f)) ∙ ap (λ (u : ℕ → Bool). u group) opened ∙ upd_at nat_eq used group true (number_itself group)
      go false f = ap (λ (u : ℕ → Bool). u n) opened ∙ upd_other nat_eq used group true n f ∙ e

  some_number : (m n : ℕ) → ◌≡◌ {A = Option ℕ} (Some m) (Some n) → m ≡ n
  some_number m n e = cc

  pub made_there : HasGroups number_of' used'
  made_there q n e = go (same_term name q) refl
    where
      go : (t : Bool) → same_term name q ≡ t → used' n ≡ true
      go true f =
          let is : group ≡ n = some_number group n (sym (at_name q ∙ ap (λ t. cond t (Some group) (number_of q)) f) ∙ e) in
          ap used' (sym is) ∙ ap (λ (u : ℕ → Bool). u group) opened ∙ upd_at nat_eq used group true (number_itself group)
      go false f = still_used n (there q n (sym (at_name q ∙ ap (λ t. cond t (Some group) (number_of q)) f) ∙ e))

  pub made_apart : AreNumberedApart number_of → AreNumberedApart number_of'
  made_apart apart one other n e f = go (same_term name one) (same_term name other) refl refl
    where
      new : (q : Term) → same_term name q ≡ true → number_of' q ≡ Some n → group ≡ n
      new q t g = some_number group n (sym (at_name q ∙ ap (λ b. cond b (Some group) (number_of q)) t) ∙ g)

      old : (q : Term) → same_term name q ≡ false → number_of' q ≡ Some n → number_of q ≡ Some n
      old q t g = sym (at_name q ∙ ap (λ b. cond b (Some group) (number_of q)) t) ∙ g

      never : (p q : Term) → same_term name p ≡ true → number_of' p ≡ Some n → same_term name q ≡ false → number_of' q ≡ Some n → ⊥
      never p q t g u h = let busy : used group ≡ true = ap used (new p t g) ∙ there q n (old q u h) in cc

      go : (s t : Bool) → same_term name one ≡ s → same_term name other ≡ t → same_term one other ≡ true
      go true true s t = ap (λ (x : Term). same_term x other) (sym (decided.same_term name one s)) ∙ t
      go true false s t = absurd (never one other s e t f)
      go false true s t = absurd (never other one t f s e)
      go false false s t = apart one other n (old one s e) (old other t f)

-- a group that was made and given up again
pub given_up : (counts counts' counts'' : Numbered) (group : ℕ) → counts group ≡ nobody → counts' ≡ counts → counts'' ≡ upd nat_eq counts' group nobody → counts'' ≡ counts
given_up counts counts' counts'' group empty e f = f ∙ ap (λ (c : Numbered). upd nat_eq c group nobody) e ∙ upd_same nat_eq counts group (number_is group) nobody (sym empty)

pub given_up_there : (number_of number_of' : Term → Option ℕ) (used used' used'' : ℕ → Bool) (group : ℕ) → HasGroups number_of used → number_of' ≡ number_of → used group ≡ false
    → used' ≡ upd nat_eq used group true → used'' ≡ upd nat_eq used' group false → HasGroups number_of' used''
given_up_there number_of number_of' used used' used'' group there same free opened closed q n e =
    ap (λ (u : ℕ → Bool). u n) (closed ∙ ap (λ (u : ℕ → Bool). upd nat_eq u group false) opened ∙ upd_twice nat_eq used group true false ∙ upd_same nat_eq used group (number_is group) false (sym free))
    ∙ there q n (sym (ap (λ (f : Term → Option ℕ). f q) same) ∙ e)

-- ---- a group that is gone

module _ (number_of number_of' : Term → Option ℕ) (used used' : ℕ → Bool) (counts counts' : Numbered) (name : Term) (group : ℕ)
    (had : number_of name ≡ Some group)
    (removed : (q : Term) → number_of' q ≡ cond (same_term name q) None (number_of q))
    (apart : AreNumberedApart number_of) where
  kept_number : (q : Term) (n : ℕ) → number_of' q ≡ Some n → (number_of q ≡ Some n) × (nat_eq group n ≡ false)
  kept_number q n e = go (same_term name q) refl
    where
      distinct : same_term name q ≡ false → number_of q ≡ Some n → (t : Bool) → nat_eq group n ≡ t → nat_eq group n ≡ false
      distinct other f true k = absurd (let same = apart name q group had (f ∙ ap Some (sym (number_is group n k))) in cc)
      distinct other f false k = k

      go : (t : Bool) → same_term name q ≡ t → (number_of q ≡ Some n) × (nat_eq group n ≡ false)
      go true f = absurd (let none : number_of' q ≡ None = removed q ∙ ap (λ t. cond t None (number_of q)) f in cc)
      go false f = let is = sym (removed q ∙ ap (λ t. cond t None (number_of q)) f) ∙ e in (is, distinct f is (nat_eq group n) refl)

  pub gone_there : HasGroups number_of used → used' ≡ upd nat_eq used group false → HasGroups number_of' used'
  gone_there there closed q n e =
      let kept = kept_number q n e in
      ap (λ (u : ℕ → Bool). u n) closed ∙ upd_other nat_eq used group false n kept.1 ∙ there q n kept.0

  pub gone_apart : AreNumberedApart number_of'
  gone_apart one other n e f = apart one other n ((kept_number one n e).0) ((kept_number other n f).0)

  pub gone : counts' ≡ upd nat_eq counts group nobody → contents_of number_of' counts' ≡ upd same_term (contents_of number_of counts) name None
  gone closed = upd_from same_term (contents_of number_of counts) name (contents_of number_of' counts') None (λ q. go q (same_term name q) refl)
    where
      other : (q : Term) (o : Option ℕ) → number_of' q ≡ o → option_map counts' o ≡ option_map counts o
      other q None e = refl
      other q (Some n) e = ap Some (ap (λ (c : Numbered). c n) closed ∙ upd_other nat_eq counts group nobody n ((kept_number q n e).1))

      go : (q : Term) (t : Bool) → same_term name q ≡ t → contents_of number_of' counts' q ≡ cond t None (contents_of number_of counts q)
      go q true e = ap (option_map counts') (removed q ∙ ap (λ t. cond t None (number_of q)) e)
      go q false e = other q (number_of' q) refl ∙ ap (option_map counts) (removed q ∙ ap (λ t. cond t None (number_of q)) e)

pub absent_gone : (number_of : Term → Option ℕ) (counts : Numbered) (name : Term) → number_of name ≡ None → contents_of number_of counts ≡ upd same_term (contents_of number_of counts) name None
absent_gone number_of counts name e = table_kept (contents_of number_of counts) name None (ap (option_map counts) (sym e))

-- ---- counts of one group

module _ (number_of : Term → Option ℕ) (counts counts' : Numbered) (name : Term) (group : ℕ) (apart : AreNumberedApart number_of) (had : number_of name ≡ Some group) where
  has_counts : contents_of number_of counts name ≡ Some (counts group)
  has_counts = ap (option_map counts) had

  pub joined : (pid : Pid) → counts' ≡ counts_changed counts group pid (counts group pid + 1)
      → contents_of number_of counts' ≡ upd same_term (contents_of number_of counts) name (apply (contents_of number_of counts name) (Join name pid))
  joined pid e =
      group_changed number_of counts apart name group (with_one_more (counts group) pid) counts' had e
      ∙ ap (λ (v : Value). upd same_term (contents_of number_of counts) name (apply v (Join name pid))) (sym has_counts)

  pub left : (pid : Pid) → counts' ≡ upd nat_eq counts group (with_one_less (counts group) pid)
      → contents_of number_of counts' ≡ upd same_term (contents_of number_of counts) name (apply (contents_of number_of counts name) (Leave name pid))
  left pid e =
      group_changed number_of counts apart name group (with_one_less (counts group) pid) counts' had e
      ∙ ap (λ (v : Value). upd same_term (contents_of number_of counts) name (apply v (Leave name pid))) (sym has_counts)

module _ (number_of : Term → Option ℕ) (counts : Numbered) (name : Term) (had : number_of name ≡ None) where
  none_here : contents_of number_of counts name ≡ None
  none_here = ap (option_map counts) had

  pub joined_absent : (pid : Pid) → contents_of number_of counts ≡ upd same_term (contents_of number_of counts) name (apply (contents_of number_of counts name) (Join name pid))
  joined_absent pid = table_kept (contents_of number_of counts) name (apply (contents_of number_of counts name) (Join name pid)) (ap (λ (v : Value). apply v (Join name pid)) none_here ∙ sym none_here)

  pub left_absent : (pid : Pid) → contents_of number_of counts ≡ upd same_term (contents_of number_of counts) name (apply (contents_of number_of counts name) (Leave name pid))
  left_absent pid = table_kept (contents_of number_of counts) name (apply (contents_of number_of counts name) (Leave name pid)) (ap (λ (v : Value). apply v (Leave name pid)) none_here ∙ sym none_here)

pub joined_if : (number_of : Term → Option ℕ) (counts counts' : Numbered) (name : Term) (group : ℕ) → AreNumberedApart number_of → Some group ≡ number_of name → (pid : Pid) {T E : Type 0} (result : Result T E)
    → OnOk result (counts' ≡ counts_changed counts group pid (counts group pid + 1))
    → OnOk result (contents_of number_of counts' ≡ upd same_term (contents_of number_of counts) name (apply (contents_of number_of counts name) (Join name pid)))
joined_if number_of counts counts' name group apart had pid (Ok v) h = joined number_of counts counts' name group apart (sym had) pid h
joined_if number_of counts counts' name group apart had pid (Err e) h = tt

-- ---- a merge

pub merged_whole : (number_of : Term → Option ℕ) (counts counts' : Numbered) (old : Table) (name : Term) (group : ℕ) (pids : List Pid) (ended : Pid → Bool)
    → AreNumberedApart number_of → Some group ≡ number_of name
    → contents_of number_of counts ≡ upd same_term old name (apply (old name) (Create name))
    → {T E : Type 0} (result : Result T E)
    → OnOk result (counts' ≡ counts_raised counts group pids ended)
    → OnOk result (contents_of number_of counts' ≡ merged old name pids ended)
merged_whole number_of counts counts' old name group pids ended apart had made (Err e) h = tt
merged_whole number_of counts counts' old name group pids ended apart had made (Ok v) h =
    let after = greater (counts group) (told pids ended) in
    all_merged pids ended old (contents_of number_of counts) (contents_of number_of counts') name (counts group) after made (ap (option_map counts) (sym had))
    (group_changed number_of counts apart name group after counts' (sym had) h) refl

pub merged_partly : (number_of : Term → Option ℕ) (counts counts' : Numbered) (old : Table) (name : Term) (group : ℕ) (pids : List Pid) (ended : Pid → Bool)
    → AreNumberedApart number_of → Some group ≡ number_of name
    → contents_of number_of counts ≡ upd same_term old name (apply (old name) (Create name))
    → {T E : Type 0} (result : Result T E)
    → OnErr result (IsPartlyRaised counts counts' group pids ended)
    → OnErr result (PartlyMerged old (contents_of number_of counts') name pids ended)
merged_partly number_of counts counts' old name group pids ended apart had made (Ok v) h = tt
merged_partly number_of counts counts' old name group pids ended apart had made (Err e) h =
    partly_merged pids ended old (contents_of number_of counts) (contents_of number_of counts') name (counts group) (counts' group) made (ap (option_map counts) (sym had))
    (group_changed number_of counts apart name group (counts' group) counts' (sym had) (upd_from nat_eq counts group counts' (counts' group) (λ n. go n (nat_eq group n) refl))) h.raised
  where
    go : (n : ℕ) (t : Bool) → nat_eq group n ≡ t → counts' n ≡ cond t (counts' group) (counts n)
    go n true f = ap counts' (sym (number_is group n f))
    go n false f = h.others n f
