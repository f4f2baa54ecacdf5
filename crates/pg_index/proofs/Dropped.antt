-- Pids that are taken out of all groups.
use Rattle.std.proofs.Math.Path.{fun_ext}
use Rattle.std.proofs.Common.{◌≡◌, ℕ, Bool, true, false, cond, ◌||◌, Some, None, List}
use Rattle.std.proofs.Common.{[], ◌∷◌, refl, sym, ap, subst, ◌∙◌, nat_eq, nat_lt, arith}
use Rattle.std.specs.List.{list_any}
use Rattle.std.specs.BTreeMap.{get, is_at}
use Rattle.std.specs.BTreeSet.{BTreeSet, contains}
use Rattle.std.proofs.lemmas.Bool.Decides.{nat_tests}
use Rattle.pg_term.specs.declared.pid.Pid.{Pid}
use Rattle.pg_term.specs.Same.{same_pid, atom_cmp}
use Rattle.pg_term.specs.contracts.pid.PidEq.TheImpl.Laws as pid_laws
use Rattle.pg_term.proofs.Same.{pid_is}
use Rattle.pg_group.specs.Functions.{upd}
use Rattle.pg_group.specs.Scope.{at_node}
use Rattle.pg_group.proofs.Changes.{upd_from, upd_same, upd_at, upd_other}
use Rattle.pg_index.specs.declared.listing.Listing.{Listing}
use Rattle.pg_index.specs.Groups.{Numbered, counts_changed, without_pid, without_nodes}
use Rattle.pg_index.specs.Listings.{process_of, listing_of, listing_cmp, listed_in, AreGroupsOf, ListsByMember}
use Rattle.pg_index.proofs.Numbers.{number_is, number_itself}
use Rattle.pg_index.proofs.Listed.{Nodes, has, at_group, apart, same_node, node_is, listing_is, node_alike, nodes_tie, pid_from}

pub none_if : (n : ℕ) → nat_lt 0 n ≡ false → n ≡ 0
none_if n e = grind (arith, nat_tests)

-- ---- one count changed

module _ (counts : Numbered) (group : ℕ) (pid : Pid) (count : ℕ) where
  pub changed_here : counts_changed counts group pid count group pid ≡ count
  changed_here =
      ap (λ f. f pid) (upd_at nat_eq counts group (upd same_pid (counts group) pid count) (number_itself group))
      ∙ upd_at same_pid (counts group) pid count (pid_laws.laws-law.refl pid)

  pub changed_elsewhere : (n : ℕ) (q : Pid) → nat_eq group n ≡ false → counts_changed counts group pid count n q ≡ counts n q
  changed_elsewhere n q e = ap (λ f. f q) (upd_other nat_eq counts group (upd same_pid (counts group) pid count) n e)

  pub changed_of_others : (n : ℕ) (q : Pid) → same_pid pid q ≡ false → counts_changed counts group pid count n q ≡ counts n q
  changed_of_others n q e = go (nat_eq group n) refl
    where
      go : (t : Bool) → nat_eq group n ≡ t → counts_changed counts group pid count n q ≡ counts n q
      go true f =
          let same : group ≡ n = number_is group n f in
          ap (λ m. counts_changed counts group pid count m q) (sym same)
          ∙ ap (λ f. f q) (upd_at nat_eq counts group (upd same_pid (counts group) pid count) (number_itself group))
          ∙ upd_other same_pid (counts group) pid count q e
          ∙ ap (λ m. counts m q) same
      go false f = changed_elsewhere n q f

-- ---- one pid

-- a pid is out of some of its groups, and of their listings
pub record PartlyDropped (pid : Pid) (was now : BTreeSet Listing) (before after : Numbered) : Type 0 where
  pub mine : AreGroupsOf now after pid
  pub listed : (other : Pid) (group : ℕ) → pid.node ≡ other.node → same_pid pid other ≡ false → contains listing_cmp now (listing_of other group) ≡ contains listing_cmp was (listing_of other group)
  pub counted : (group : ℕ) (other : Pid) → same_pid pid other ≡ false → after group other ≡ before group other

pub none_dropped : (pid : Pid) (set : BTreeSet Listing) (counts : Numbered) → AreGroupsOf set counts pid → PartlyDropped pid set set counts counts
none_dropped pid set counts h = record { mine = h; listed = λ other group node e. refl; counted = λ group other e. refl }

pub one_dropped : (pid : Pid) (was now next : BTreeSet Listing) (before after then : Numbered) (group : ℕ) (key : Listing)
    → PartlyDropped pid was now before after
    → key ≡ listing_of pid group
    → then ≡ counts_changed after group pid 0
    → ((l : Listing) → contains listing_cmp next l ≡ cond (is_at (listing_cmp key) l) false (contains listing_cmp now l))
    → PartlyDropped pid was next before then
one_dropped pid was now next before after then group key h is counts removed = record {
  mine = λ n. own n (nat_eq group n) refl;
  listed = λ other n node e. gone (listing_of other n) ∙ ap (λ t. cond t false (contains listing_cmp now (listing_of other n))) (apart pid other group n node e) ∙ h.listed other n node e;
  counted = λ n other e. ap (λ f. f n other) counts ∙ changed_of_others after group pid 0 n other e ∙ h.counted n other e;
}
  where
    gone : (l : Listing) → contains listing_cmp next l ≡ cond (is_at (listing_cmp (listing_of pid group)) l) false (contains listing_cmp now l)
    gone l = removed l ∙ ap (λ k. cond (is_at (listing_cmp k) l) false (contains listing_cmp now l)) is

    left : (n : ℕ) → contains listing_cmp next (listing_of pid n) ≡ cond (nat_eq group n) false (contains listing_cmp now (listing_of pid n))
    left n = gone (listing_of pid n) ∙ ap (λ t. cond t false (contains listing_cmp now (listing_of pid n))) (at_group (process_of pid) group n)

    own : (n : ℕ) (t : Bool) → nat_eq group n ≡ t → contains listing_cmp next (listing_of pid n) ≡ nat_lt 0 (then n pid)
    own n true e =
        let zero : then n pid ≡ 0 = ap (λ f. f n pid) counts ∙ ap (λ m. counts_changed after group pid 0 m pid) (sym (number_is group n e)) ∙ changed_here after group pid 0 in
        left n ∙ ap (λ t. cond t false (contains listing_cmp now (listing_of pid n))) e ∙ ap (nat_lt 0) (sym zero)
    own n false e =
        let same : then n pid ≡ after n pid = ap (λ f. f n pid) counts ∙ changed_elsewhere after group pid 0 n pid e in
        left n ∙ ap (λ t. cond t false (contains listing_cmp now (listing_of pid n))) e ∙ h.mine n ∙ ap (nat_lt 0) (sym same)

pub pid_dropped : (pid : Pid) (was now : BTreeSet Listing) (before after : Numbered) → PartlyDropped pid was now before after → ((n : ℕ) → contains listing_cmp now (listing_of pid n) ≡ false) → after ≡ without_pid before pid
pid_dropped pid was now before after h none = fun_ext (λ n. upd_from same_pid (before n) pid (after n) 0 (λ q. go n q (same_pid pid q) refl))
  where
    go : (n : ℕ) (q : Pid) (t : Bool) → same_pid pid q ≡ t → after n q ≡ cond t 0 (before n q)
    go n q true e = ap (after n) (sym (pid_is pid q e)) ∙ none_if (after n pid) (sym (h.mine n) ∙ none n)
    go n q false e = h.counted n q e

-- a pid that is listed nowhere is a member of no group
pub nowhere : (counts : Numbered) (pid : Pid) → ((n : ℕ) → nat_lt 0 (counts n pid) ≡ false) → counts ≡ without_pid counts pid
nowhere counts pid none = fun_ext (λ n. sym (upd_same same_pid (counts n) pid (pid_is pid) 0 (sym (none_if (counts n pid) (none n)))))

without_here : (counts : Numbered) (pid : Pid) (n : ℕ) → without_pid counts pid n pid ≡ 0
without_here counts pid n = upd_at same_pid (counts n) pid 0 (pid_laws.laws-law.refl pid)

without_others : (counts : Numbered) (pid : Pid) (n : ℕ) (q : Pid) → same_pid pid q ≡ false → without_pid counts pid n q ≡ counts n q
without_others counts pid n q e = upd_other same_pid (counts n) pid 0 q e

-- the listings, once the set of the pid's node has none of the pid
pub listed_without : (old new : Nodes) (pid : Pid) (was now : BTreeSet Listing) (before after : Numbered)
    → ListsByMember (listed_in old) before
    → get atom_cmp old pid.node ≡ Some was
    → ((node : List ℕ) → get atom_cmp new node ≡ cond (is_at (atom_cmp pid.node) node) (Some now) (get atom_cmp old node))
    → after ≡ without_pid before pid
    → ((n : ℕ) → contains listing_cmp now (listing_of pid n) ≡ false)
    → ((other : Pid) (group : ℕ) → pid.node ≡ other.node → same_pid pid other ≡ false → contains listing_cmp now (listing_of other group) ≡ contains listing_cmp was (listing_of other group))
    → ListsByMember (listed_in new) after
listed_without old new pid was now before after listed had put counts none others q n = go (same_pid pid q) refl
  where
    other : (t : Bool) → is_at (atom_cmp pid.node) q.node ≡ t → same_pid pid q ≡ false → has (cond t (Some now) (get atom_cmp old q.node)) (listing_of q n) ≡ listed_in old q n
    other true f e =
        let node : pid.node ≡ q.node = same_node pid.node q.node f in
        others q n node e ∙ ap (λ o. has o (listing_of q n)) (sym had) ∙ ap (λ (a : List ℕ). has (get atom_cmp old a) (listing_of q n)) node
    other false f e = refl

    go : (t : Bool) → same_pid pid q ≡ t → listed_in new q n ≡ nat_lt 0 (after n q)
    go true e =
        let here : listed_in new pid n ≡ false = ap (λ o. has o (listing_of pid n)) (put pid.node ∙ ap (λ t. cond t (Some now) (get atom_cmp old pid.node)) (node_is pid.node)) ∙ none n in
        let zero : after n pid ≡ 0 = ap (λ f. f n pid) counts ∙ without_here before pid n in
        subst (λ (p : Pid). listed_in new p n ≡ nat_lt 0 (after n p)) (pid_is pid q e) (here ∙ ap (nat_lt 0) (sym zero))
    go false e =
        ap (λ o. has o (listing_of q n)) (put q.node) ∙ other (is_at (atom_cmp pid.node) q.node) refl e ∙ listed q n
        ∙ ap (nat_lt 0) (sym (ap (λ f. f n q) counts ∙ without_others before pid n q e))

-- ---- one node

-- the pids of a node are out of the groups that they were listed in, but for these listings, which are to come
pub record NodePartlyDropped (node : List ℕ) (left : List Listing) (before after : Numbered) : Type 0 where
  pub mine : (pid : Pid) (n : ℕ) → at_node node pid ≡ true → list_any (is_at (listing_cmp (listing_of pid n))) left ≡ false → after n pid ≡ 0
  pub others : (pid : Pid) (n : ℕ) → at_node node pid ≡ false → after n pid ≡ before n pid

pub node_undropped : (node : List ℕ) (set : BTreeSet Listing) (left : List Listing) (counts : Numbered) → left ≡ set.keys → ((pid : Pid) → at_node node pid ≡ true → AreGroupsOf set counts pid) → NodePartlyDropped node left counts counts
node_undropped node set left counts all h = record {
  mine = λ pid n at none. none_if (counts n pid) (sym (h pid at n) ∙ ap (λ (ls : List Listing). list_any (is_at (listing_cmp (listing_of pid n))) ls) (sym all) ∙ none);
  others = λ pid n e. refl;
}

-- what is in no group stays so, where one count becomes none
still_none : (counts : Numbered) (group : ℕ) (p : Pid) (n : ℕ) (q : Pid) → counts n q ≡ 0 → counts_changed counts group p 0 n q ≡ 0
still_none counts group p n q zero = go (same_pid p q) refl (nat_eq group n) refl
  where
    go : (s : Bool) → same_pid p q ≡ s → (t : Bool) → nat_eq group n ≡ t → counts_changed counts group p 0 n q ≡ 0
    go false e t f = changed_of_others counts group p 0 n q e ∙ zero
    go true e false f = changed_elsewhere counts group p 0 n q f ∙ zero
    go true e true f =
        ap (λ m. counts_changed counts group p 0 m q) (sym (number_is group n f))
        ∙ ap (counts_changed counts group p 0 group) (sym (pid_is p q e))
        ∙ changed_here counts group p 0

nodes_tie_here : (p : Pid) → at_node p.node p ≡ true
nodes_tie_here p = sym (nodes_tie p.node p.node) ∙ node_is p.node

pub listing_dropped : (node : List ℕ) (found left : List Listing) (l : Listing) (p : Pid) (before after then : Numbered)
    → NodePartlyDropped node found before after → found ≡ l ∷ left → p.node ≡ node → process_of p ≡ l.process
    → then ≡ counts_changed after l.group p 0
    → NodePartlyDropped node left before then
listing_dropped node found left l p before after then h is home process counts = record {
  mine = λ pid n at none. ap (λ f. f n pid) counts ∙ mine pid n at none (is_at (listing_cmp (listing_of pid n)) l) refl;
  others = λ pid n e. ap (λ f. f n pid) counts ∙ others pid n e (same_pid p pid) refl ∙ h.others pid n e;
}
  where
    mine : (pid : Pid) (n : ℕ) → at_node node pid ≡ true → list_any (is_at (listing_cmp (listing_of pid n))) left ≡ false → (t : Bool) → is_at (listing_cmp (listing_of pid n)) l ≡ t → counts_changed after l.group p 0 n pid ≡ 0
    mine pid n at none true e =
        let listed : listing_of pid n ≡ l = listing_is (listing_of pid n) l e in
        let group : l.group ≡ n = ap (λ (k : Listing). k.group) (sym listed) in
        let same : p ≡ pid = pid_from p pid (home ∙ node_alike node pid.node at) (process ∙ ap (λ (k : Listing). k.process) (sym listed)) in
        ap (λ m. counts_changed after l.group p 0 m pid) (sym group)
        ∙ ap (counts_changed after l.group p 0 l.group) (sym same)
        ∙ changed_here after l.group p 0
    mine pid n at none false e = still_none after l.group p n pid (h.mine pid n at (ap (λ (ls : List Listing). list_any (is_at (listing_cmp (listing_of pid n))) ls) is ∙ ap (λ t. t || list_any (is_at (listing_cmp (listing_of pid n))) left) e ∙ none))

    others : (pid : Pid) (n : ℕ) → at_node node pid ≡ false → (t : Bool) → same_pid p pid ≡ t → counts_changed after l.group p 0 n pid ≡ after n pid
    others pid n e false f = changed_of_others after l.group p 0 n pid f
    others pid n e true f = absurd (
        let here : at_node node pid ≡ true = ap (λ (q : Pid). at_node node q) (sym (pid_is p pid f)) ∙ ap (λ (a : List ℕ). at_node a p) (sym home) ∙ nodes_tie_here p in
        let no : true ≡ false = sym here ∙ e in
        cc)

pub node_dropped : (node : List ℕ) (left : List Listing) (before after : Numbered) → NodePartlyDropped node left before after → left ≡ [] → after ≡ without_nodes before node
node_dropped node left before after h is = fun_ext (λ n. fun_ext (λ pid. go n pid (at_node node pid) refl))
  where
    go : (n : ℕ) (pid : Pid) (t : Bool) → at_node node pid ≡ t → after n pid ≡ cond t 0 (before n pid)
    go n pid true e = h.mine pid n e (ap (λ (ls : List Listing). list_any (is_at (listing_cmp (listing_of pid n))) ls) is)
    go n pid false e = h.others pid n e

at_node_is : (node : List ℕ) (pid : Pid) → at_node node pid ≡ true → pid.node ≡ node
at_node_is node pid e = sym (node_alike node pid.node e)

-- what is listed at the node of a set
pub set_of_node : (old : Nodes) (node : List ℕ) (set : BTreeSet Listing) (counts : Numbered) → ListsByMember (listed_in old) counts → get atom_cmp old node ≡ Some set → (pid : Pid) → at_node node pid ≡ true → AreGroupsOf set counts pid
set_of_node old node set counts listed had pid at n =
    ap (λ o. has o (listing_of pid n)) (sym had ∙ ap (λ (a : List ℕ). get atom_cmp old a) (sym (at_node_is node pid at))) ∙ listed pid n

pub listed_without_node : (old new : Nodes) (node : List ℕ) (before after : Numbered)
    → ListsByMember (listed_in old) before
    → ((other : List ℕ) → get atom_cmp new other ≡ cond (is_at (atom_cmp node) other) None (get atom_cmp old other))
    → after ≡ without_nodes before node
    → ListsByMember (listed_in new) after
listed_without_node old new node before after listed put counts q n = go (at_node node q) refl
  where
    at : is_at (atom_cmp node) q.node ≡ at_node node q
    at = nodes_tie node q.node

    go : (t : Bool) → at_node node q ≡ t → listed_in new q n ≡ nat_lt 0 (after n q)
    go true e =
        ap (λ o. has o (listing_of q n)) (put q.node ∙ ap (λ t. cond t None (get atom_cmp old q.node)) (at ∙ e))
        ∙ ap (nat_lt 0) (sym (ap (λ f. f n q) counts ∙ ap (λ t. cond t 0 (before n q)) e))
    go false e =
        ap (λ o. has o (listing_of q n)) (put q.node ∙ ap (λ t. cond t None (get atom_cmp old q.node)) (at ∙ e))
        ∙ listed q n
        ∙ ap (nat_lt 0) (sym (ap (λ f. f n q) counts ∙ ap (λ t. cond t 0 (before n q)) e))

-- a node with no set has no member anywhere
pub no_set : (old : Nodes) (node : List ℕ) (counts : Numbered) → ListsByMember (listed_in old) counts → get atom_cmp old node ≡ None → counts ≡ without_nodes counts node
no_set old node counts listed had = fun_ext (λ n. fun_ext (λ pid. go n pid (at_node node pid) refl))
  where
    go : (n : ℕ) (pid : Pid) (t : Bool) → at_node node pid ≡ t → counts n pid ≡ cond t 0 (counts n pid)
    go n pid true e = none_if (counts n pid) (sym (listed pid n) ∙ ap (λ o. has o (listing_of pid n)) (ap (λ (a : List ℕ). get atom_cmp old a) (at_node_is node pid e) ∙ had))
    go n pid false e = refl
