-- How long the groups of a table are that were visited.
use Rattle.std.proofs.Common.{◌≡◌, ℕ, zero, suc, ◌+◌, ◌≤◌, Bool, true, false, ◌&&◌, cond, Some, List, [], ◌∷◌, ◌++◌}
use Rattle.std.proofs.Common.{map, length, length-append, min, take, refl, sym, ap, subst, ◌∙◌, arith, add-one}
use Rattle.std.specs.Prelude.{slice_get, ◌==◌}
use Rattle.std.specs.Int.{w32, to_be_bytes}
use Rattle.std.specs.List.{AllByRecursion}
use Rattle.std.proofs.Math.ListN.{length-map}
use Rattle.std.proofs.lemmas.List.{take_all}
use Rattle.pg_term.specs.declared.pid.Pid.{Pid}
use Rattle.pg_term.specs.declared.term.Term.{Term, List as Listed}
use Rattle.pg_term.specs.declared.term.Term.TheVariants.{Pid as Process}
use Rattle.pg_node_state.specs.PgTermIo.Writing.{item_bytes, all_bytes, list_head}
use Rattle.pg_node_state.specs.PgGroup.Members.{IsMemberList}
use Rattle.pg_node_state.specs.PgGroup.Scope.{anywhere}
use Rattle.pg_node_state.specs.PgGroup.Table.{Table, GroupList, AreNames}
use Rattle.pg_node_state.specs.PgMessageTypes.Name.{is_name}
use Rattle.pg_node_state.specs.PgMessageTypes.Writing.{group_term}
use Rattle.pg_node_state.specs.PgExchange.GroupList.{announced_names}
use Rattle.pg_message_writer.proofs.Words.{two_len}
use Rattle.pg_message_writer.proofs.Listed.{made_len}
use Rattle.pg_node.specs.Announced.{too_long, are_names, AreGroups}

abbrev pub AreMembers : Table → GroupList → Type 0
AreMembers table groups = AllByRecursion (λ group. IsMemberList (table group.0) anywhere group.1) groups

-- ---- one group more

names_push : (groups : GroupList) (group : Term × List Pid) → announced_names (groups ++ group ∷ []) ≡ announced_names groups ++ group.0 ∷ []
names_push [] group = refl
names_push (first ∷ groups) group = ap (λ names. first.0 ∷ names) (names_push groups group)

members_push : (table : Table) (groups : GroupList) (group : Term × List Pid) → AreMembers table groups → IsMemberList (table group.0) anywhere group.1 → AreMembers table (groups ++ group ∷ [])
members_push table [] group are is = (is, tt)
members_push table (first ∷ groups) group are is = (are.0, members_push table groups group are.1 is)

and_true : (b : Bool) → b && true ≡ b
and_true true = refl
and_true false = refl

and_false : (b : Bool) → b && false ≡ false
and_false true = refl
and_false false = refl

and_assoc : (a b c : Bool) → a && (b && c) ≡ (a && b) && c
and_assoc true b c = refl
and_assoc false b c = refl

are_push : (groups : GroupList) (group : Term × List Pid) → are_names (groups ++ group ∷ []) ≡ are_names groups && is_name group.0
are_push [] group = and_true (is_name group.0)
are_push (first ∷ groups) group = ap (λ (b : Bool). is_name first.0 && b) (are_push groups group) ∙ and_assoc (is_name first.0) (are_names groups) (is_name group.0)

pub more_bytes : (group : Term × List Pid) (groups : GroupList) → length (all_bytes (map group_term (group ∷ groups))) ≡ length (item_bytes (group_term group)) + length (all_bytes (map group_term groups))
more_bytes group groups = length-append (item_bytes (group_term group)) (all_bytes (map group_term groups))

len_push : (groups : GroupList) (group : Term × List Pid) → length (all_bytes (map group_term (groups ++ group ∷ []))) ≡ length (all_bytes (map group_term groups)) + length (item_bytes (group_term group))
len_push [] group = omega (arith, more_bytes group [])
len_push (first ∷ groups) group = omega (arith, more_bytes first (groups ++ group ∷ []), more_bytes first groups, len_push groups group)

-- ---- the groups so far

-- the name of one more group is counted, if it is one
pub record Named (name : Term) (are are' : Bool) (len len' : ℕ) : Type 0 where
  pub both : are' ≡ are && is_name name
  pub longer : are' ≡ true → len' ≡ min (len + (6 + length (item_bytes name))) too_long
  pub bound : len ≤ too_long → len' ≤ too_long

-- groups of these names are counted, after what stands before them
pub record Walked (table : Table) (names : List Term) (head : ℕ) (are : Bool) (len : ℕ) : Type 0 where
  pub groups : GroupList
  pub named : announced_names groups ≡ names
  pub members : AreMembers table groups
  pub pass : are ≡ are_names groups
  pub long : are ≡ true → len ≡ min (head + length (all_bytes (map group_term groups))) too_long
  pub bound : len ≤ too_long

first_true : (a b c : Bool) → a ≡ b && c → a ≡ true → b ≡ true
first_true a true c e t = refl
first_true a false c e t = absurd cc

pub walked_more : (table : Table) (names names' : List Term) (head : ℕ) (are are' : Bool) (len len' len'' : ℕ) (name : Term) (pids : List Pid)
    → names' ≡ names ++ name ∷ [] → IsMemberList (table name) anywhere pids → Named name are are' len len'
    → len'' ≡ min (len' + length (item_bytes (Listed (map Process pids)))) too_long → Walked table names head are len → Walked table names' head are' len''
walked_more table names names' head are are' len len' len'' name pids more is named e was = record {
  groups = was.groups ++ group ∷ [];
  named = names_push was.groups group ∙ ap (λ ns. ns ++ name ∷ []) was.named ∙ sym more;
  members = members_push table was.groups group was.members is;
  pass = named.both ∙ ap (λ (b : Bool). b && is_name name) was.pass ∙ sym (are_push was.groups group);
  long = λ t.
      let before = was.long (first_true are' are (is_name name) named.both t) in
      let here = named.longer t in
      omega (arith, e, before, here, len_push was.groups group, two_len name (Listed (map Process pids)));
  bound = omega (arith, e);
}
  where
    group : Term × List Pid
    group = (name, pids)

next_from : (order : List Term) (place : ℕ) (name : Term) → slice_get order place ≡ Some name → take (suc place) order ≡ take place order ++ name ∷ []
next_from [] place name at = absurd cc
next_from (first ∷ order) zero name at = let same : first ≡ name = cc in ap (λ n. n ∷ []) same
next_from (first ∷ order) (suc place) name at = ap (λ names. first ∷ names) (next_from order place name at)

pub next_names : (order : List Term) (place : ℕ) (name : Term) → slice_get order place ≡ Some name → take (place + 1) order ≡ take place order ++ name ∷ []
next_names order place name at = ap (λ n. take n order) (add-one place) ∙ next_from order place name at

-- ---- all groups

all_names : (order : List Term) (place count : ℕ) → count ≡ length order → count ≤ place → take place order ≡ order
all_names order place count e past = take_all place order (omega (arith, e, past))

pub walked_all : (table : Table) (order : List Term) (place count len : ℕ) (are : Bool) → AreNames table order → count ≡ length order → count ≤ place
    → Walked table (take place order) (length (list_head count) + 1) are len
    → (groups : GroupList) × AreGroups table groups × (are ≡ are_names groups) × (are ≡ true → len ≡ min (length (item_bytes (Listed (map group_term groups)))) too_long)
walked_all table order place count len are named counted past was = (
  was.groups,
  record { names = subst (AreNames table) (sym all) named; members = was.members },
  was.pass,
  λ t.
      let l = was.long t in
      let head = ap (λ (n : ℕ). length (list_head n)) many in
      omega (arith, made_len group_term was.groups, l, head),
)
  where
    all : announced_names was.groups ≡ order
    all = was.named ∙ all_names order place count counted past

    many : length was.groups ≡ count
    many = let l = length-map was.groups (λ group. group.0) in let m = ap length all in omega (arith, l, m, counted)

-- a name that is one, and one that is none
pub named_so : (name : Term) (are are' : Bool) (len len' more : ℕ) → is_name name ≡ true → are' ≡ are → more ≡ length (item_bytes name) → len' ≡ min (len + (6 + more)) too_long → Named name are are' len len'
named_so name are are' len len' more is same e l =
    record { both = same ∙ sym (and_true are) ∙ ap (λ (b : Bool). are && b) (sym is); longer = λ t. omega (arith, e, l); bound = λ b. omega (arith, l) }

pub named_not : (name : Term) (are are' : Bool) (len len' : ℕ) → is_name name ≡ false → are' ≡ false → len' ≡ len → Named name are are' len len'
named_not name are are' len len' none lost same =
    record { both = lost ∙ sym (and_false are) ∙ ap (λ (b : Bool). are && b) (sym none); longer = λ t. absurd (let clash = sym t ∙ lost in cc); bound = λ b. omega (arith, b, same) }

head_of : (b : Bool) (count : ℕ) → length (cond b [] (108 ∷ to_be_bytes w32 count)) ≤ 5
head_of true count = omega arith
head_of false count = let e : length (108 ∷ to_be_bytes w32 count) ≡ 5 = refl in omega (arith, e)

head_few : (count : ℕ) → length (list_head count) ≤ 5
head_few count = head_of (count == 0) count

pub walked_none : (table : Table) (order : List Term) (count head : ℕ) → head ≡ length (list_head count) → Walked table (take 0 order) (length (list_head count) + 1) true (head + 1)
walked_none table order count head e =
    let few = head_few count in
    record { groups = []; named = refl; members = tt; pass = refl; long = λ t. omega (arith, e, few); bound = omega (arith, e, few) }
