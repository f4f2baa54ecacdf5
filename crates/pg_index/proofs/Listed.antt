-- Listings that are put in and taken out.
use Rattle.std.proofs.Math.Path.{fun_ext}
use Rattle.std.proofs.Common.{◌≡◌, ℕ, Bool, true, false, cond, ◌&&◌, Option, Some, List, refl, sym, ap, ◌∙◌, nat_eq}
use Rattle.std.specs.Option.{option_map_or}
use Rattle.std.specs.Ordering.{is_eq}
use Rattle.std.specs.Cmp.{first_so, second_so}
use Rattle.std.specs.BTreeMap.{BTreeMap, get, is_at}
use Rattle.std.specs.BTreeSet.{BTreeSet, contains}
use Rattle.std.specs.List.{list_any}
use Rattle.std.specs.BTreeMap.{is_at as set_at}
use Rattle.std.specs.Map.{lookup}
use Rattle.std.specs.Cmp.Lexicographic.{bytes_decides, texts_ties}
use Rattle.std.proofs.lemmas.Bool.{eqb-true}
use Rattle.pg_term.specs.declared.pid.Pid.{Pid}
use Rattle.pg_term.specs.Same.{same_pid, same_atom, atom_cmp}
use Rattle.pg_term.specs.contracts.pid.PidEq.TheImpl.Laws as pid_laws
use Rattle.pg_term.proofs.Same.{pid_is}
use Rattle.pg_group.specs.Functions.{upd}
use Rattle.pg_group.proofs.Changes.{upd_from, upd_same}
use Rattle.pg_index.specs.declared.listing.Process.{Process}
use Rattle.pg_index.specs.declared.listing.Listing.{Listing}
use Rattle.pg_index.specs.contracts.listing.ListingOrd.TheImpl.Laws as listing_order
use Rattle.pg_index.specs.contracts.listing.ProcessPartialEq.TheImpl.{ghosts as equal_processes}
use Rattle.pg_index.specs.contracts.listing.ProcessEq.TheImpl.Laws as process_laws
use Rattle.pg_index.specs.Listings.{process_of, listing_of, listing_cmp, listed_in, listed_as}

abbrev pub same_process : Process → Process → Bool
same_process = equal_processes.eq

pub process_is : (a b : Process) → same_process a b ≡ true → a ≡ b
process_is a b e =
    let serial = eqb-true _ _ (first_so (nat_eq a.serial b.serial) (nat_eq a.id b.id && nat_eq a.creation b.creation) e) in
    let more = second_so (nat_eq a.serial b.serial) (nat_eq a.id b.id && nat_eq a.creation b.creation) e in
    let id = eqb-true _ _ (first_so (nat_eq a.id b.id) (nat_eq a.creation b.creation) more) in
    let creation = eqb-true _ _ (second_so (nat_eq a.id b.id) (nat_eq a.creation b.creation) more) in
    λ i. record { serial = serial i; id = id i; creation = creation i }

pub listing_is : (a b : Listing) → is_eq (listing_cmp a b) ≡ true → a ≡ b
listing_is a b e =
    let both = listing_order.matches_eq-law a b ∙ e in
    let process = process_is a.process b.process (first_so (same_process a.process b.process) (nat_eq a.group b.group) both) in
    let group = eqb-true _ _ (second_so (same_process a.process b.process) (nat_eq a.group b.group) both) in
    λ i. record { process = process i; group = group i }

-- two listings of one process differ by the group
pub at_group : (p : Process) (m n : ℕ) → is_eq (listing_cmp (record { process = p; group = m }) (record { process = p; group = n })) ≡ nat_eq m n
at_group p m n =
    sym (listing_order.matches_eq-law (record { process = p; group = m }) (record { process = p; group = n }))
    ∙ ap (λ b. b && nat_eq m n) (process_laws.laws-law.refl p)

-- listings at one node are of one pid, if they are of one process
pub pid_from : (p q : Pid) → p.node ≡ q.node → process_of p ≡ process_of q → p ≡ q
pid_from p q node e = λ i. record { node = node i; serial = (e i).serial; id = (e i).id; creation = (e i).creation }

-- and of two, if they are not
pub apart : (p q : Pid) (m n : ℕ) → p.node ≡ q.node → same_pid p q ≡ false → is_eq (listing_cmp (listing_of p m) (listing_of q n)) ≡ false
apart p q m n node other = go (same_process (process_of p) (process_of q)) refl
  where
    go : (b : Bool) → same_process (process_of p) (process_of q) ≡ b → is_eq (listing_cmp (listing_of p m) (listing_of q n)) ≡ false
    go true e = absurd (let same : same_pid p q ≡ true = sym (ap (same_pid p) (pid_from p q node (process_is (process_of p) (process_of q) e))) ∙ pid_laws.laws-law.refl p in cc)
    go false e = sym (listing_order.matches_eq-law (listing_of p m) (listing_of q n)) ∙ ap (λ b. b && nat_eq m n) e

pub same_node : (a b : List ℕ) → is_eq (atom_cmp a b) ≡ true → a ≡ b
same_node a b e = (bytes_decides a b).0 (texts_ties a b ∙ e)

pub node_is : (a : List ℕ) → is_eq (atom_cmp a a) ≡ true
node_is a = sym (texts_ties a a) ∙ (bytes_decides a a).1 refl

abbrev pub Nodes : Type 0
Nodes = BTreeMap (List ℕ) (BTreeSet Listing)

-- what is listed of one process at one node
abbrev pub has : Option (BTreeSet Listing) → Listing → Bool
has found l = option_map_or (λ set. contains listing_cmp set l) found false

-- one listing was put in or taken out of the set of its node
pub set_marked : (old new : Nodes) (pid : Pid) (group : ℕ) (b : Bool) (was now : BTreeSet Listing) (key : Listing)
    → key ≡ listing_of pid group
    → ((l : Listing) → has (get atom_cmp old pid.node) l ≡ contains listing_cmp was l)
    → ((l : Listing) → contains listing_cmp now l ≡ cond (is_at (listing_cmp key) l) b (contains listing_cmp was l))
    → ((node : List ℕ) → get atom_cmp new node ≡ cond (is_at (atom_cmp pid.node) node) (Some now) (get atom_cmp old node))
    → listed_in new ≡ listed_as (listed_in old) pid group b
set_marked old new pid group b was now key is had changing put =
    upd_from same_pid (listed_in old) pid (listed_in new) (upd nat_eq (listed_in old pid) group b) (λ q. go q (same_pid pid q) refl)
  where
    changed : (l : Listing) → contains listing_cmp now l ≡ cond (is_at (listing_cmp (listing_of pid group)) l) b (contains listing_cmp was l)
    changed l = changing l ∙ ap (λ k. cond (is_at (listing_cmp k) l) b (contains listing_cmp was l)) is

    own : (n : ℕ) → listed_in new pid n ≡ cond (nat_eq group n) b (listed_in old pid n)
    own n =
        ap (λ f. has f (listing_of pid n)) (put pid.node ∙ ap (λ t. cond t (Some now) (get atom_cmp old pid.node)) (node_is pid.node))
        ∙ changed (listing_of pid n)
        ∙ ap (λ t. cond t b (contains listing_cmp was (listing_of pid n))) (at_group (process_of pid) group n)
        ∙ ap (cond (nat_eq group n) b) (sym (had (listing_of pid n)))

    other : (q : Pid) (n : ℕ) → same_pid pid q ≡ false → (t : Bool) → is_at (atom_cmp pid.node) q.node ≡ t → has (cond t (Some now) (get atom_cmp old q.node)) (listing_of q n) ≡ listed_in old q n
    other q n e true f =
        let node : pid.node ≡ q.node = same_node pid.node q.node f in
        changed (listing_of q n)
        ∙ ap (λ t. cond t b (contains listing_cmp was (listing_of q n))) (apart pid q group n node e)
        ∙ sym (had (listing_of q n))
        ∙ ap (λ (a : List ℕ). has (get atom_cmp old a) (listing_of q n)) node
    other q n e false f = refl

    go : (q : Pid) (t : Bool) → same_pid pid q ≡ t → listed_in new q ≡ cond t (upd nat_eq (listed_in old pid) group b) (listed_in old q)
    go q true e =
        ap (listed_in new) (sym (pid_is pid q e))
        ∙ upd_from nat_eq (listed_in old pid) group (listed_in new pid) b own
    go q false e = fun_ext (λ n. ap (λ f. has f (listing_of q n)) (put q.node) ∙ other q n e (is_at (atom_cmp pid.node) q.node) refl)

-- what is so already stays so
pub marked_same : (listed : Pid → ℕ → Bool) (pid : Pid) (group : ℕ) (b : Bool) → listed pid group ≡ b → listed ≡ listed_as listed pid group b
marked_same listed pid group b e =
    sym (upd_same same_pid listed pid (pid_is pid) (upd nat_eq (listed pid) group b) (upd_same nat_eq (listed pid) group (λ n. eqb-true group n) b (sym e)))

-- a set with the same keys was put back
pub set_kept : (old new : Nodes) (node : List ℕ) (was now : BTreeSet Listing) → get atom_cmp old node ≡ Some was → now.keys ≡ was.keys
    → ((other : List ℕ) → get atom_cmp new other ≡ cond (is_at (atom_cmp node) other) (Some now) (get atom_cmp old other))
    → listed_in new ≡ listed_in old
set_kept old new node was now had same put = fun_ext (λ q. fun_ext (λ n. ap (λ f. has f (listing_of q n)) (put q.node) ∙ go q n (is_at (atom_cmp node) q.node) refl))
  where
    go : (q : Pid) (n : ℕ) (t : Bool) → is_at (atom_cmp node) q.node ≡ t → has (cond t (Some now) (get atom_cmp old q.node)) (listing_of q n) ≡ listed_in old q n
    go q n true e =
        ap (λ (ks : List Listing). list_any (set_at (listing_cmp (listing_of q n))) ks) same
        ∙ ap (λ f. has f (listing_of q n)) (sym had)
        ∙ ap (λ (a : List ℕ). has (get atom_cmp old a) (listing_of q n)) (same_node node q.node e)
    go q n false e = refl

pub map_kept : (old same new : Nodes) → same ≡ old → new.entries ≡ same.entries → listed_in new ≡ listed_in old
map_kept old same new e f =
    (λ i q n. has (lookup (is_at (atom_cmp q.node)) (f i)) (listing_of q n)) ∙ ap (λ (m : Nodes). listed_in m) e

-- the set of a node was put in
pub set_put : (old same new : Nodes) (copy node : List ℕ) (set : BTreeSet Listing) → same ≡ old → copy ≡ node
    → ((other : List ℕ) → get atom_cmp new other ≡ cond (is_at (atom_cmp copy) other) (Some set) (get atom_cmp same other))
    → (other : List ℕ) → get atom_cmp new other ≡ cond (is_at (atom_cmp node) other) (Some set) (get atom_cmp old other)
set_put old same new copy node set s e h other = h other ∙ (λ i. cond (is_at (atom_cmp (e i)) other) (Some set) (get atom_cmp (s i) other))

pub node_alike : (a b : List ℕ) → same_atom a b ≡ true → a ≡ b
node_alike a b e = (bytes_decides a b).0 e

pub nodes_tie : (a b : List ℕ) → is_eq (atom_cmp a b) ≡ same_atom a b
nodes_tie a b = sym (texts_ties a b)
