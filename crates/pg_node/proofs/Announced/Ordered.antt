-- The groups of a table in the order of terms.
use Rattle.std.proofs.Common.{◌≡◌, ℕ, zero, suc, ◌+◌, Bool, true, false, ◌&&◌, ◌||◌, cond, List, [], ◌∷◌}
use Rattle.std.proofs.Common.{map, length, get_or, refl, ap, subst, ◌∙◌, arith}
use Rattle.std.specs.List.{AllByRecursion, IsDistinct, list_any}
use Rattle.std.specs.List.Sorted.{IsSorted}
use Rattle.std.specs.Ordering.{is_lt, ordering_reverse}
use Rattle.std.specs.declared.cmp.Ordering.{Ordering}
use Rattle.std.specs.declared.cmp.Ordering.TheVariants.{Less, Equal, Greater}
use Rattle.pg_term.specs.declared.pid.Pid.{Pid}
use Rattle.pg_term.specs.declared.term.Term.{Term, List as Listed}
use Rattle.pg_term.specs.Same.{same_term, term_cmp}
use Rattle.pg_term.specs.contracts.term.TermEq.TheImpl.Laws as equality_laws
use Rattle.pg_term.specs.contracts.term.TermOrd.TheImpl.Laws as order_laws
use Rattle.pg_node_state.specs.PgTermIo.Writing.{item_bytes, all_bytes, list_head}
use Rattle.pg_node_state.specs.PgGroup.Members.{IsMemberList}
use Rattle.pg_node_state.specs.PgGroup.Scope.{anywhere}
use Rattle.pg_node_state.specs.PgGroup.Table.{Table, GroupList}
use Rattle.pg_node_state.specs.PgMessageTypes.Name.{is_name}
use Rattle.pg_node_state.specs.PgMessageTypes.Writing.{group_term}
use Rattle.pg_node_state.specs.PgExchange.GroupList.{IsSnapshot, announced_names}
use Rattle.pg_message_writer.proofs.Listed.{made_len}
use Rattle.pg_node.proofs.Announced.Listings.{more_bytes}
use Rattle.pg_node.specs.Announced.{are_names, AreGroups}

-- ---- a group is put where it belongs

abbrev Group : Type 0
Group = Term × List Pid

abbrev put_in : Group → GroupList → GroupList
put_in group [] = group ∷ []
put_in group (first ∷ groups) = cond (is_lt (term_cmp first.0 group.0)) (first ∷ put_in group groups) (group ∷ first ∷ groups)

len_put : (group : Group) (groups : GroupList) → length (all_bytes (map group_term (put_in group groups))) ≡ length (item_bytes (group_term group)) + length (all_bytes (map group_term groups))
len_put group [] = more_bytes group []
len_put group (first ∷ groups) = go (is_lt (term_cmp first.0 group.0)) (len_put group groups)
  where
    go : (b : Bool) → length (all_bytes (map group_term (put_in group groups))) ≡ length (item_bytes (group_term group)) + length (all_bytes (map group_term groups))
        → length (all_bytes (map group_term (cond b (first ∷ put_in group groups) (group ∷ first ∷ groups)))) ≡ length (item_bytes (group_term group)) + length (all_bytes (map group_term (first ∷ groups)))
    go true e = omega (arith, more_bytes first (put_in group groups), more_bytes first groups, e)
    go false e = more_bytes group (first ∷ groups)

count_put : (group : Group) (groups : GroupList) → length (put_in group groups) ≡ suc (length groups)
count_put group [] = refl
count_put group (first ∷ groups) = go (is_lt (term_cmp first.0 group.0)) (count_put group groups)
  where
    go : (b : Bool) → length (put_in group groups) ≡ suc (length groups) → length (cond b (first ∷ put_in group groups) (group ∷ first ∷ groups)) ≡ suc (length (first ∷ groups))
    go true e = ap suc e
    go false e = refl

and_swap : (a b c : Bool) → a && (b && c) ≡ b && (a && c)
and_swap true true c = refl
and_swap true false c = refl
and_swap false true c = refl
and_swap false false c = refl

or_swap : (a b c : Bool) → (a || (b || c)) ≡ (b || (a || c))
or_swap true true c = refl
or_swap true false c = refl
or_swap false true c = refl
or_swap false false c = refl

pass_put : (group : Group) (groups : GroupList) → are_names (put_in group groups) ≡ is_name group.0 && are_names groups
pass_put group [] = refl
pass_put group (first ∷ groups) = go (is_lt (term_cmp first.0 group.0)) (pass_put group groups)
  where
    go : (b : Bool) → are_names (put_in group groups) ≡ is_name group.0 && are_names groups → are_names (cond b (first ∷ put_in group groups) (group ∷ first ∷ groups)) ≡ is_name group.0 && are_names (first ∷ groups)
    go true e = ap (λ (c : Bool). is_name first.0 && c) e ∙ and_swap (is_name first.0) (is_name group.0) (are_names groups)
    go false e = refl

any_put : (name : Term) (group : Group) (groups : GroupList) → list_any (same_term name) (announced_names (put_in group groups)) ≡ (same_term name group.0 || list_any (same_term name) (announced_names groups))
any_put name group [] = refl
any_put name group (first ∷ groups) = go (is_lt (term_cmp first.0 group.0)) (any_put name group groups)
  where
    go : (b : Bool) → list_any (same_term name) (announced_names (put_in group groups)) ≡ (same_term name group.0 || list_any (same_term name) (announced_names groups))
        → list_any (same_term name) (announced_names (cond b (first ∷ put_in group groups) (group ∷ first ∷ groups))) ≡ (same_term name group.0 || list_any (same_term name) (announced_names (first ∷ groups)))
    go true e = ap (λ (c : Bool). same_term name first.0 || c) e ∙ or_swap (same_term name first.0) (same_term name group.0) (list_any (same_term name) (announced_names groups))
    go false e = refl

all_put : (P : Group → Type 0) (group : Group) (groups : GroupList) → P group → AllByRecursion P groups → AllByRecursion P (put_in group groups)
all_put P group [] p all = (p, tt)
all_put P group (first ∷ groups) p all = go (is_lt (term_cmp first.0 group.0)) (all_put P group groups p all.1)
  where
    go : (b : Bool) → AllByRecursion P (put_in group groups) → AllByRecursion P (cond b (first ∷ put_in group groups) (group ∷ first ∷ groups))
    go true e = (all.0, e)
    go false e = (p, all)

names_all : (test : Term → Bool) (groups : GroupList) → AllByRecursion (λ name. test name ≡ false) (announced_names groups) → AllByRecursion (λ (group : Group). test group.0 ≡ false) groups
names_all test [] all = tt
names_all test (group ∷ groups) all = (all.0, names_all test groups all.1)

all_names : (test : Term → Bool) (groups : GroupList) → AllByRecursion (λ (group : Group). test group.0 ≡ false) groups → AllByRecursion (λ name. test name ≡ false) (announced_names groups)
all_names test [] all = tt
all_names test (group ∷ groups) all = (all.0, all_names test groups all.1)

abbrev Differ : Term → GroupList → Type 0
Differ name groups = AllByRecursion (λ other. same_term name other ≡ false) (announced_names groups)

differ_put : (name : Term) (group : Group) (groups : GroupList) → same_term name group.0 ≡ false → Differ name groups → Differ name (put_in group groups)
differ_put name group groups other all = all_names (same_term name) (put_in group groups) (all_put (λ (g : Group). same_term name g.0 ≡ false) group groups other (names_all (same_term name) groups all))

turned : (x y : Term) → same_term x y ≡ same_term y x
turned x y = equality_laws.laws-law.symm x y

distinct_put : (group : Group) (groups : GroupList) → Differ group.0 groups → IsDistinct same_term (announced_names groups) → IsDistinct same_term (announced_names (put_in group groups))
unfolding IsDistinct
distinct_put group [] apart once = (tt, tt)
distinct_put group (first ∷ groups) apart once = go (is_lt (term_cmp first.0 group.0)) (distinct_put group groups apart.1 once.1)
  where
    go : (b : Bool) → IsDistinct same_term (announced_names (put_in group groups)) → IsDistinct same_term (announced_names (cond b (first ∷ put_in group groups) (group ∷ first ∷ groups)))
    go true e = (differ_put first.0 group groups (turned first.0 group.0 ∙ apart.0) once.0, e)
    go false e = (apart, once)

-- ---- in order

abbrev NotBelow : Term → GroupList → Type 0
NotBelow name [] = Unit {0}
NotBelow name (first ∷ groups) = is_lt (term_cmp first.0 name) ≡ false

sorted_onto : (name : Term) (groups : GroupList) → NotBelow name groups → IsSorted term_cmp (announced_names groups) → IsSorted term_cmp (name ∷ announced_names groups)
sorted_onto name [] below up k d low high = absurd (omega (arith, high))
sorted_onto name (first ∷ groups) below up zero d low high = below
sorted_onto name (first ∷ groups) below up (suc k) d low high =
    subst (λ n. is_lt (term_cmp (get_or (name ∷ announced_names (first ∷ groups)) n d) (get_or (announced_names (first ∷ groups)) k d)) ≡ false) {x = suc (k + 1)} {y = suc k + 1} (omega arith) (up k d (omega arith) (omega (arith, high)))

sorted_tail : (name : Term) (groups : GroupList) → IsSorted term_cmp (name ∷ announced_names groups) → IsSorted term_cmp (announced_names groups)
sorted_tail name groups up k d low high =
    subst (λ n. is_lt (term_cmp (get_or (name ∷ announced_names groups) n d) (get_or (announced_names groups) k d)) ≡ false) {x = suc k + 1} {y = suc (k + 1)} (omega arith) (up (suc k) d (omega arith) (omega (arith, high)))

not_below : (name : Term) (groups : GroupList) → IsSorted term_cmp (name ∷ announced_names groups) → NotBelow name groups
not_below name [] up = tt
not_below name (first ∷ groups) up = up zero name (omega arith) (omega arith)

not_less : (x y : Term) → is_lt (term_cmp x y) ≡ true → is_lt (term_cmp y x) ≡ false
not_less x y e = ap is_lt (order_laws.total-law.antisymm y x) ∙ go (term_cmp x y) e
  where
    go : (o : Ordering) → is_lt o ≡ true → is_lt (ordering_reverse o) ≡ false
    go Less f = refl
    go Equal f = absurd cc
    go Greater f = absurd cc

below_put : (name : Term) (group : Group) (groups : GroupList) → is_lt (term_cmp group.0 name) ≡ false → NotBelow name groups → NotBelow name (put_in group groups)
below_put name group [] low below = low
below_put name group (first ∷ groups) low below = go (is_lt (term_cmp first.0 group.0))
  where
    go : (b : Bool) → NotBelow name (cond b (first ∷ put_in group groups) (group ∷ first ∷ groups))
    go true = below
    go false = low

sorted_put : (group : Group) (groups : GroupList) → IsSorted term_cmp (announced_names groups) → IsSorted term_cmp (announced_names (put_in group groups))
sorted_put group [] up = sorted_onto group.0 [] tt up
sorted_put group (first ∷ groups) up = go (is_lt (term_cmp first.0 group.0)) refl (sorted_put group groups (sorted_tail first.0 groups up))
  where
    go : (b : Bool) → is_lt (term_cmp first.0 group.0) ≡ b → IsSorted term_cmp (announced_names (put_in group groups)) → IsSorted term_cmp (announced_names (cond b (first ∷ put_in group groups) (group ∷ first ∷ groups)))
    go true t rest = sorted_onto first.0 (put_in group groups) (below_put first.0 group groups (not_less first.0 group.0 t) (not_below first.0 groups up)) rest
    go false t rest = sorted_onto group.0 (first ∷ groups) t up

-- ---- all of them

abbrev pub in_order : GroupList → GroupList
in_order [] = []
in_order (group ∷ groups) = put_in group (in_order groups)

len_order : (groups : GroupList) → length (all_bytes (map group_term (in_order groups))) ≡ length (all_bytes (map group_term groups))
len_order [] = refl
len_order (group ∷ groups) = omega (arith, len_put group (in_order groups), len_order groups, more_bytes group groups)

count_order : (groups : GroupList) → length (in_order groups) ≡ length groups
count_order [] = refl
count_order (group ∷ groups) = count_put group (in_order groups) ∙ ap suc (count_order groups)

-- the list takes as many bytes in any order
pub list_order : (groups : GroupList) → length (item_bytes (Listed (map group_term (in_order groups)))) ≡ length (item_bytes (Listed (map group_term groups)))
list_order groups =
    let head = ap (λ (n : ℕ). length (list_head n)) (count_order groups) in
    omega (arith, made_len group_term (in_order groups), made_len group_term groups, len_order groups, head)

pub pass_order : (groups : GroupList) → are_names (in_order groups) ≡ are_names groups
pass_order [] = refl
pass_order (group ∷ groups) = pass_put group (in_order groups) ∙ ap (λ (b : Bool). is_name group.0 && b) (pass_order groups)

any_order : (name : Term) (groups : GroupList) → list_any (same_term name) (announced_names (in_order groups)) ≡ list_any (same_term name) (announced_names groups)
any_order name [] = refl
any_order name (group ∷ groups) = any_put name group (in_order groups) ∙ ap (λ (b : Bool). same_term name group.0 || b) (any_order name groups)

all_order : (P : Group → Type 0) (groups : GroupList) → AllByRecursion P groups → AllByRecursion P (in_order groups)
all_order P [] all = tt
all_order P (group ∷ groups) all = all_put P group (in_order groups) all.0 (all_order P groups all.1)

distinct_order : (groups : GroupList) → IsDistinct same_term (announced_names groups) → IsDistinct same_term (announced_names (in_order groups))
unfolding IsDistinct
distinct_order [] once = tt
distinct_order (group ∷ groups) once =
    distinct_put group (in_order groups) (all_names (same_term group.0) (in_order groups) (all_order (λ (g : Group). same_term group.0 g.0 ≡ false) groups (names_all (same_term group.0) groups once.0))) (distinct_order groups once.1)

sorted_order : (groups : GroupList) → IsSorted term_cmp (announced_names (in_order groups))
sorted_order [] = λ k d low high. absurd (omega (arith, high))
sorted_order (group ∷ groups) = sorted_put group (in_order groups) (sorted_order groups)

-- what a table says, in order, is its snapshot
pub snapshot_of : (table : Table) (groups : GroupList) → AreGroups table groups → IsSnapshot table (in_order groups)
snapshot_of table groups are = record {
  names = record { each = λ name. any_order name groups ∙ are.names.each name; once = distinct_order groups are.names.once };
  ordered = sorted_order groups;
  members = all_order (λ (group : Group). IsMemberList (table group.0) anywhere group.1) groups are.members;
}
