-- Groups whose list fits into a frame have few members.
use Rattle.std.proofs.Common.{◌≡◌, ◌≤◌, ◌<◌, ◌+◌, ℕ, suc, Bool, true, false, ◌||◌, cond, Some, None, List}
use Rattle.std.proofs.Common.{[], ◌∷◌, ◌++◌, map, length, refl, sym, ap, subst, ◌∙◌, inl, inr, arith}
use Rattle.std.specs.Prelude.{codes, count_by, is_some, nat_le, pos}
use Rattle.std.specs.List.{AllByRecursion, list_any}
use Rattle.std.proofs.lemmas.Bool.{le-leb}
use Rattle.std.proofs.lemmas.List.{length-append, length-map}
use Rattle.pg_term.specs.declared.pid.Pid.{Pid}
use Rattle.pg_term.specs.declared.term.Term.{Term, Tuple, List as Listed}
use Rattle.pg_term.specs.declared.term.Term.TheVariants.{Atom, Int, Pid as Process}
use Rattle.pg_term.specs.Same.{same_pid, same_term}
use Rattle.pg_term.specs.contracts.term.TermEq.TheImpl.Laws.{laws-law as terms}
use Rattle.pg_term.proofs.Same.{pid_is, same_term as term_is}
use Rattle.pg_node_state.specs.PgTermIo.Writing.{item_bytes, all_bytes, tuple_head, list_head, written}
use Rattle.pg_node_state.proofs.PgTermIo.Written.{tuple_is, list_is, count_le}
use Rattle.pg_node_state.specs.PgGroup.Members.{IsMemberList}
use Rattle.pg_node_state.specs.PgGroup.Scope.{anywhere}
use Rattle.pg_node_state.specs.PgGroup.Table.{Table}
use Rattle.pg_node_state.specs.PgGroup.Value.{Value, count_in, merge, listed}
use Rattle.pg_node_state.proofs.PgGroup.Lists.{counted, counted_first}
use Rattle.pg_node_state.specs.PgExchange.GroupList.{GroupList, IsSnapshot, announced_table, announced_names}
use Rattle.pg_node_state.specs.PgMessageTypes.declared.message.Message.TheVariants.{Exchange}
use Rattle.pg_node_state.specs.PgMessageTypes.declared.packet.Packet.{Packet}
use Rattle.pg_node_state.specs.PgMessageTypes.Writing.{group_term, term_of_packet}
use Rattle.pg_node_state.specs.PgNodeSends.Opening.{IsAnnouncement}
use Rattle.pg_node_state.specs.PgNodeOpens.Places.{name_at}
use Rattle.pg_node_state.proofs.PgNodeOpens.Alike.{both_true}
use Rattle.pg_node_state.proofs.PgNodeOpens.Named.{clash}
use Rattle.pg_node_state.specs.PgStep.Config.{Config, groups_at, first_table}
use Rattle.pg_node_state.specs.PgStep.Nodes.{Node}
use Rattle.pg_world_packets.specs.Fitting.{FitsFrame}
use Rattle.pg_world_packets.specs.Openings.{FitsOpening, AllFit, SomeIsTooLong, are_few, have_few}
use Rattle.pg_world_config.specs.Firsts.{seen_first}
use Rattle.pg_world_packets.proofs.Ordered.{first_told}
use Rattle.pg_world_packets.proofs.OrderedOnce.{fits_once}

-- ---- lists and how often a pid stands in them

-- without the first pid that is this one
abbrev without_one : Pid → List Pid → List Pid
without_one x [] = []
without_one x (y ∷ ys) = cond (same_pid x y) ys (y ∷ without_one x ys)

-- a pid that is there can be put in front
abbrev IsFront : Pid → List Pid → List Pid → Type 0
IsFront x ys rest = ((q : Pid) → count_by (same_pid q) ys ≡ count_by (same_pid q) (x ∷ rest)) × (length ys ≡ suc (length rest))

in_front : (x : Pid) (ys : List Pid) → 0 < count_by (same_pid x) ys → IsFront x ys (without_one x ys)
in_front x [] h = absurd (omega arith)
in_front x (y ∷ ys) h = go (same_pid x y) refl (in_front x ys)
  where
    go : (b : Bool) → same_pid x y ≡ b → (0 < count_by (same_pid x) ys → IsFront x ys (without_one x ys)) → IsFront x (y ∷ ys) (cond b ys (y ∷ without_one x ys))
    go true t later = (λ q. ap (λ (p : Pid). count_by (same_pid q) (p ∷ ys)) (sym (pid_is x y t)), refl)
    go false t later =
        let here : count_by (same_pid x) (y ∷ ys) ≡ 0 + count_by (same_pid x) ys = counted x y ys ∙ ap (λ b. cond b 1 0 + count_by (same_pid x) ys) t in
        let rest = later (omega arith) in
        let longer : length ys ≡ suc (length (without_one x ys)) = rest.1 in
        (λ q. swapped q (rest.0 q), omega arith)
      where
        swapped : (q : Pid) → count_by (same_pid q) ys ≡ count_by (same_pid q) (x ∷ without_one x ys) → count_by (same_pid q) (y ∷ ys) ≡ count_by (same_pid q) (x ∷ y ∷ without_one x ys)
        swapped q e =
            let a = counted q y ys in
            let b = counted q x (without_one x ys) in
            let c = counted q x (y ∷ without_one x ys) in
            let d = counted q y (without_one x ys) in
            omega arith

-- a list that has no pid more often is no longer
no_longer : (xs ys : List Pid) → ((q : Pid) → count_by (same_pid q) xs ≤ count_by (same_pid q) ys) → length xs ≤ length ys
no_longer [] ys h = omega arith
no_longer (x ∷ xs) ys h =
    let first = counted_first x xs in
    let here = h x in
    let front = in_front x ys (omega arith) in
    let longer : length ys ≡ suc (length (without_one x ys)) = front.1 in
    let rest : length xs ≤ length (without_one x ys) = no_longer xs (without_one x ys) (λ q. fewer q (h q) (front.0 q)) in
    omega arith
  where
    fewer : (q : Pid) → count_by (same_pid q) (x ∷ xs) ≤ count_by (same_pid q) ys → count_by (same_pid q) ys ≡ count_by (same_pid q) (x ∷ without_one x ys) → count_by (same_pid q) xs ≤ count_by (same_pid q) (without_one x ys)
    fewer q most e =
        let a = counted q x xs in
        let b = counted q x (without_one x ys) in
        omega arith

-- ---- bytes

list_held : (ts : List Term) → length (all_bytes ts) ≤ length (item_bytes (Listed ts))
list_held ts = omega (arith, ap length (list_is ts), length-append (list_head (length ts) ++ all_bytes ts) (106 ∷ []), length-append (list_head (length ts)) (all_bytes ts))

tuple_held : (ts : List Term) → length (all_bytes ts) ≤ length (item_bytes (Tuple ts))
tuple_held ts = omega (arith, ap length (tuple_is ts), length-append (tuple_head (length ts)) (all_bytes ts))

-- of terms one after the other the first, and the others
first_held : (t : Term) (ts : List Term) → length (item_bytes t) ≤ length (all_bytes (t ∷ ts))
first_held t ts = omega (arith, length-append (item_bytes t) (all_bytes ts))

rest_held : (t : Term) (ts : List Term) → length (all_bytes ts) ≤ length (all_bytes (t ∷ ts))
rest_held t ts = omega (arith, length-append (item_bytes t) (all_bytes ts))

members_held : (pids : List Pid) → length pids ≤ length (all_bytes (map Process pids))
members_held pids = omega (arith, count_le (map Process pids), length-map pids Process)

group_held : (group : Term × List Pid) → length group.1 ≤ length (item_bytes (group_term group))
group_held group =
    let members = map Process group.1 in
    omega (arith, members_held group.1, list_held members, first_held (Listed members) [], rest_held group.0 (Listed members ∷ []), list_held (group.0 ∷ Listed members ∷ []))

second_held : (t u : Term) → length (item_bytes u) ≤ length (item_bytes (Tuple (t ∷ u ∷ [])))
second_held t u = omega (arith, first_held u [], rest_held t (u ∷ []), tuple_held (t ∷ u ∷ []))

third_held : (t u v : Term) → length (item_bytes v) ≤ length (item_bytes (Tuple (t ∷ u ∷ v ∷ [])))
third_held t u v = omega (arith, first_held v [], rest_held u (v ∷ []), rest_held t (u ∷ v ∷ []), tuple_held (t ∷ u ∷ v ∷ []))

-- what tells groups takes as many bytes as they do
packet_held : (own : Node) (told : GroupList) → length (all_bytes (map group_term told)) ≤ length (written (term_of_packet (record { stamp = 0; message = Exchange own told })))
packet_held own told =
    let groups : Term = Listed (map group_term told) in
    let exchange : Term = Tuple (Atom (codes "exchange") ∷ Atom own ∷ groups ∷ []) in
    let cast : Term = Tuple (Atom (codes "cast") ∷ exchange ∷ []) in
    let a : length (all_bytes (map group_term told)) ≤ length (item_bytes groups) = list_held (map group_term told) in
    let b : length (item_bytes groups) ≤ length (item_bytes exchange) = third_held (Atom (codes "exchange")) (Atom own) groups in
    let c : length (item_bytes exchange) ≤ length (item_bytes cast) = second_held (Atom (codes "cast")) exchange in
    let d : length (item_bytes cast) ≤ length (item_bytes (Tuple (Int (pos 0) ∷ cast ∷ []))) = second_held (Int (pos 0)) cast in
    omega (arith, a, b, c, d)

-- ---- the groups that a table tells

merge_first : (v w : Value) (pid : Pid) → count_in v pid ≤ count_in (merge v w) pid
merge_first None w pid = omega arith
merge_first (Some f) None pid = omega arith
merge_first (Some f) (Some g) pid = omega arith

merge_second : (v w : Value) (pid : Pid) → count_in w pid ≤ count_in (merge v w) pid
merge_second None w pid = omega arith
merge_second (Some f) None pid = omega arith
merge_second (Some f) (Some g) pid = omega arith

first_counted : (group : Term × List Pid) (groups : GroupList) (pid : Pid) → count_by (same_pid pid) group.1 ≤ count_in (announced_table (group ∷ groups) group.0) pid
first_counted group groups pid = go (same_term group.0 group.0) (terms.refl group.0)
  where
    go : (b : Bool) → b ≡ true → count_by (same_pid pid) group.1 ≤ count_in (merge (cond b (listed group.1) None) (announced_table groups group.0)) pid
    go true e = merge_first (listed group.1) (announced_table groups group.0) pid
    go false e = absurd (clash (sym e))

later_counted : (group : Term × List Pid) (groups : GroupList) (name : Term) (pid : Pid) → count_in (announced_table groups name) pid ≤ count_in (announced_table (group ∷ groups) name) pid
later_counted group groups name pid = merge_second (cond (same_term group.0 name) (listed group.1) None) (announced_table groups name) pid

-- the members that are told of a group
record Found (table : Table) (name : Term) (told : GroupList) : Type 0 where
  pids : List Pid
  is : IsMemberList (table name) anywhere pids
  held : length pids ≤ length (all_bytes (map group_term told))

found : (table : Table) (told : GroupList) (name : Term) → list_any (same_term name) (announced_names told) ≡ true → AllByRecursion (λ group. IsMemberList (table group.0) anywhere group.1) told → Found table name told
found table [] name has all = absurd (clash (sym has))
found table (group ∷ told) name has all = go (same_term name group.0) refl has (λ h. found table told name h all.1)
  where
    go : (b : Bool) → same_term name group.0 ≡ b → (b || list_any (same_term name) (announced_names told)) ≡ true → (list_any (same_term name) (announced_names told) ≡ true → Found table name told) → Found table name (group ∷ told)
    go true is h later = record {
      pids = group.1;
      is = subst (λ (n : Term). IsMemberList (table n) anywhere group.1) (sym (term_is name group.0 is)) all.0;
      held = omega (arith, group_held group, first_held (group_term group) (map group_term told));
    }
    go false is h later =
        let rest = later h in
        record { pids = rest.pids; is = rest.is; held = omega (arith, rest.held, rest_held (group_term group) (map group_term told)) }

some_of : (v : Value) (pid : Pid) → 0 < count_in v pid → is_some v ≡ true
some_of None pid l = absurd (omega (arith, l))
some_of (Some f) pid l = refl

module _ (table : Table) (told : GroupList) (is : IsSnapshot table told) where
  -- members that are counted no more often than the table has them take bytes
  one_held : (name : Term) (members : List Pid) → ((pid : Pid) → count_by (same_pid pid) members ≤ count_in (table name) pid) → length members ≤ length (all_bytes (map group_term told))
  one_held name [] counts = omega arith
  one_held name (pid ∷ pids) counts =
      let here : 0 < count_in (table name) pid = omega (arith, counted_first pid pids, counts pid) in
      let there = found table told name (is.names.each name ∙ some_of (table name) pid here) is.members in
      let longer : length (pid ∷ pids) ≤ length there.pids = no_longer (pid ∷ pids) there.pids (λ q. fewer q there.pids (there.is.each q) (counts q)) in
      omega (arith, longer, there.held)
    where
      fewer : (q : Pid) (listed : List Pid) → count_by (same_pid q) listed ≡ count_in (table name) q → count_by (same_pid q) (pid ∷ pids) ≤ count_in (table name) q → count_by (same_pid q) (pid ∷ pids) ≤ count_by (same_pid q) listed
      fewer q listed e l = omega (arith, e, l)

  few_groups : length (all_bytes (map group_term told)) ≤ 4294967296 → (groups : GroupList) → ((name : Term) (pid : Pid) → count_in (announced_table groups name) pid ≤ count_in (table name) pid) → are_few groups ≡ true
  few_groups short [] counts = refl
  few_groups short (group ∷ groups) counts =
      let held = one_held group.0 group.1 (λ pid. through (count_by (same_pid pid) group.1) (count_in (announced_table (group ∷ groups) group.0) pid) (count_in (table group.0) pid) (first_counted group groups pid) (counts group.0 pid)) in
      both_true (nat_le (length group.1) 4294967296) (are_few groups) (le-leb (length group.1) 4294967296 (omega (arith, held, short)))
      (few_groups short groups (λ name pid. through (count_in (announced_table groups name) pid) (count_in (announced_table (group ∷ groups) name) pid) (count_in (table name) pid) (later_counted group groups name pid) (counts name pid)))
    where
      through : (a b c : ℕ) → a ≤ b → b ≤ c → a ≤ c
      through a b c l m = omega (arith, l, m)

fitting : (groups : GroupList) (own : Node) (packet : Packet) → IsAnnouncement (first_table groups) own packet → FitsFrame packet → are_few groups ≡ true
fitting groups own packet is fits =
    let short : length (written (term_of_packet (record { stamp = 0; message = Exchange own is.0 }))) ≤ 16777216 = subst FitsFrame is.2 fits in
    few_groups (first_table groups) is.0 is.1 (omega (arith, short, packet_held own is.0)) groups
    (λ name pid. itself (count_in (announced_table groups name) pid) (count_in (first_table groups name) pid) (ap (λ (v : Value). count_in v pid) (sym (first_told groups name))))
  where
    itself : (a b : ℕ) → a ≡ b → a ≤ b
    itself a b e = omega (arith, e)

-- ---- configurations

pub fits_few : (config : Config) (i : ℕ) → FitsOpening (seen_first config i) → are_few (groups_at config i) ≡ true
fits_few config i fits = fitting (groups_at config i) (name_at (seen_first config i).names 0) fits.0 fits.1 fits.2

few_all : (config : Config) → ((i : ℕ) → i < length config → are_few (groups_at config i) ≡ true) → have_few config ≡ true
few_all [] few = refl
few_all (start ∷ config) few = both_true (are_few start.groups) (have_few config) (few 0 (omega arith)) (few_all config (λ i low. few (suc i) (omega (arith, low))))

pub all_few : (config : Config) → AllFit config → have_few config ≡ true
all_few config fit = few_all config (λ i low. fits_few config i (fit i low))

pub not_all : (config : Config) → SomeIsTooLong config → AllFit config → ⊥
not_all config (i, low, inl long) fit = fits_once (seen_first config i) (fit i low) long
not_all config (i, low, inr many) fit = clash (sym (fits_few config i (fit i low)) ∙ many)
