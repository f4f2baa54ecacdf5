-- No group that is brought has more members than there are bytes.
use Rattle.std.proofs.Common.{◌≡◌, ℕ, ◌≤◌, List, [], ◌∷◌, length, Option, Some, None, IfSome, refl, ap, subst, arith, sym}
use Rattle.std.specs.Option.{option_map}
use Rattle.std.proofs.lemmas.Option.{option_and_then_some, same_Some}
use Rattle.pg_term.specs.declared.pid.Pid.{Pid}
use Rattle.pg_term.specs.declared.term.Term.{Term, map-Term, out-Term}
use Rattle.pg_term.specs.declared.term.Term.TheOpen.{Term-F}
use Rattle.pg_step.specs.PgTermIo.Spelling.{Spells}
use Rattle.pg_step.specs.PgTermIo.Weight.{weight_step, weight, total_weight}
use Rattle.pg_step.proofs.PgTermIo.Weighed.{weight_out, weight_some, light}
use Rattle.pg_step.specs.PgExchange.GroupList.{GroupList}
use Rattle.pg_step.specs.PgMessageTypes.Members.{HasFewMembers}
use Rattle.pg_step.specs.PgMessageTypes.Parts.{tuple_in, elements_of, list_in, items_of, pid_of}
use Rattle.pg_step.specs.PgMessageTypes.Reading.{read_each}
use Rattle.pg_node_requests.specs.Members.{group_in, group_of, groups_of, pids_of}

mapped : {A B P : Type 0} (f : A → B) (o : Option A) (y : B) → option_map f o ≡ Some y → ((x : A) → o ≡ Some x → f x ≡ y → P) → P
mapped f None y e k = absurd cc
mapped f (Some x) y e k = k x refl (same_Some (f x) y e)

tuple_parts : (l : Term-F Term) (ts : List Term) → tuple_in l ≡ Some ts → total_weight ts ≤ weight_step (map-Term Term ℕ weight l)
tuple_parts (Term-F.Tuple us) ts e = omega (arith, ap total_weight (same_Some us ts e))
tuple_parts (Term-F.Int z) ts e = absurd cc
tuple_parts (Term-F.Atom a) ts e = absurd cc
tuple_parts (Term-F.Ref r) ts e = absurd cc
tuple_parts (Term-F.Pid p) ts e = absurd cc
tuple_parts (Term-F.List us) ts e = absurd cc
tuple_parts (Term-F.Binary content) ts e = absurd cc

list_parts : (l : Term-F Term) (ts : List Term) → list_in l ≡ Some ts → total_weight ts ≤ weight_step (map-Term Term ℕ weight l)
list_parts (Term-F.List us) ts e = omega (arith, ap total_weight (same_Some us ts e))
list_parts (Term-F.Int z) ts e = absurd cc
list_parts (Term-F.Atom a) ts e = absurd cc
list_parts (Term-F.Ref r) ts e = absurd cc
list_parts (Term-F.Pid p) ts e = absurd cc
list_parts (Term-F.Tuple us) ts e = absurd cc
list_parts (Term-F.Binary content) ts e = absurd cc

elements_light : (t : Term) (ts : List Term) → elements_of t ≡ Some ts → total_weight ts ≤ weight t
elements_light t ts e = rw (weight_out t) (tuple_parts (out-Term t) ts e)

items_light : (t : Term) (ts : List Term) → items_of t ≡ Some ts → total_weight ts ≤ weight t
items_light t ts e = rw (weight_out t) (list_parts (out-Term t) ts e)

pids_few : (ts : List Term) (ps : List Pid) → read_each pid_of ts ≡ Some ps → length ps ≤ total_weight ts
pids_few [] ps e = omega (arith, ap length (same_Some [] ps e))
pids_few (t ∷ ts) ps e =
    option_and_then_some (λ p. option_map (λ ps. p ∷ ps) (read_each pid_of ts)) (pid_of t) ps e (λ p is more.
    mapped (λ ps. p ∷ ps) (read_each pid_of ts) ps more (λ qs rest same.
    omega (arith, ap length same, pids_few ts qs rest, weight_some t)))

told : (ts : List Term) (g : Term × List Pid) → group_in ts ≡ Some g → length g.1 ≤ total_weight ts
told [] g e = absurd cc
told (n ∷ []) g e = absurd cc
told (n ∷ t ∷ u ∷ ts) g e = absurd cc
told (n ∷ t ∷ []) g e =
    mapped (λ pids. (n, pids)) (pids_of t) g e (λ ps found same.
    option_and_then_some (read_each pid_of) (items_of t) ps found (λ ts is each.
    omega (arith, ap (λ (g : Term × List Pid). length g.1) same, pids_few ts ps each, items_light t ts is)))

group_few : (t : Term) (g : Term × List Pid) → group_of t ≡ Some g → length g.1 ≤ weight t
group_few t g e = option_and_then_some group_in (elements_of t) g e (λ ts is e. omega (arith, told ts g e, elements_light t ts is))

all_few : (limit : ℕ) (ts : List Term) (gs : GroupList) → total_weight ts ≤ limit → read_each group_of ts ≡ Some gs → HasFewMembers limit gs
all_few limit [] gs h e = subst (HasFewMembers limit) (same_Some [] gs e) tt
all_few limit (t ∷ ts) gs h e =
    option_and_then_some (λ g. option_map (λ gs. g ∷ gs) (read_each group_of ts)) (group_of t) gs e (λ g is more.
    mapped (λ gs. g ∷ gs) (read_each group_of ts) gs more (λ hs rest same.
    subst (HasFewMembers limit) same (omega (arith, group_few t g is), all_few limit ts hs (omega arith) rest)))

groups_few : (limit : ℕ) (t : Term) (gs : GroupList) → weight t ≤ limit → groups_of t ≡ Some gs → HasFewMembers limit gs
groups_few limit t gs h e =
    option_and_then_some (read_each group_of) (items_of t) gs e (λ ts is each. all_few limit ts gs (omega (arith, items_light t ts is)) each)

few_if : (limit : ℕ) (t : Term) (found : Option GroupList) → weight t ≤ limit → found ≡ groups_of t → IfSome found (HasFewMembers limit)
few_if limit t None h e = tt
few_if limit t (Some gs) h e = groups_few limit t gs h (sym e)

pub few_spelled : (bytes : List ℕ) (t : Term) (found : Option GroupList) → Spells t bytes → found ≡ groups_of t → IfSome found (HasFewMembers (length bytes))
few_spelled bytes t found spelled is = few_if (length bytes) t found (light t bytes spelled) is
