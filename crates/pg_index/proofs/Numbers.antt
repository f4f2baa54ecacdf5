-- Groups that are written at their numbers.
use Rattle.std.proofs.Math.Path.{fun_ext}
use Rattle.std.proofs.Common.{◌≡◌, ℕ, ◌+◌, Bool, true, false, cond, Option, Some}
use Rattle.std.proofs.Common.{None, List, [], ◌∷◌, length, refl, sym, ap, subst, ◌∙◌, nat_eq, arith}
use Rattle.std.specs.Prelude.{unwrap_or, IsSome, Result, Ok, Err, OnOk, count_by}
use Rattle.std.proofs.lemmas.Bool.Decides.{nat_tests}
use Rattle.std.proofs.Common.{rules}
use Rattle.std.proofs.lemmas.Bool.{eqb-true}
use Rattle.slab.specs.Slab.{Slab, get, with_value, Updates}
use Rattle.slab.proofs.SlabLemmas.{Updates-with_value}
use Rattle.pg_term.specs.declared.pid.Pid.{Pid}
use Rattle.pg_term.specs.Same.{same_pid}
use Rattle.pg_term.proofs.Same.{pid_is}
use Rattle.pg_group.specs.Functions.{upd}
use Rattle.pg_group.specs.Value.{Value, Counts, nobody}
use Rattle.pg_group.specs.Scope.{anywhere, at_node}
use Rattle.pg_group.specs.Members.{IsMemberList}
use Rattle.pg_group.proofs.Lists.{counted_first}
use Rattle.pg_group.proofs.Changes.{upd_from, upd_same}
use Rattle.pg_index_members.specs.declared.row.Row.{Row}
use Rattle.pg_index_members.specs.Rows.{counts_of}
use Rattle.pg_index.specs.Groups.{counts_at, counts_by_number, without_node}

pub number_is : (m n : ℕ) → nat_eq m n ≡ true → m ≡ n
number_is = eqb-true

pub number_itself : (n : ℕ) → nat_eq n n ≡ true
number_itself n = search rules

-- one slot has other members
pub slot_changed : (old new : Slab (List Row)) (group : ℕ) (slot : Option (List Row)) (counts : Counts) → Updates old new group slot → counts_at slot ≡ counts → counts_by_number new ≡ upd nat_eq (counts_by_number old) group counts
slot_changed old new group slot counts u is = upd_from nat_eq (counts_by_number old) group (counts_by_number new) counts (λ n. go n (nat_eq group n) refl)
  where
    go : (n : ℕ) (t : Bool) → nat_eq group n ≡ t → counts_by_number new n ≡ cond t counts (counts_by_number old n)
    go n true e = ap (counts_by_number new) (sym (number_is group n e)) ∙ ap counts_at u.changed ∙ is
    go n false e = ap counts_at (u.others n (λ same. differ same))
      where
        differ : n ≡ group → ⊥
        differ same = let f : nat_eq group group ≡ false = ap (nat_eq group) (sym same) ∙ e in let g : nat_eq group group ≡ true = number_itself group in cc

pub written : (groups : Slab (List Row)) (group : ℕ) (old new : List Row) (counts : Counts) → Some old ≡ get groups group → counts_of new ≡ counts → counts_by_number (with_value groups group new) ≡ upd nat_eq (counts_by_number groups) group counts
written groups group old new counts had is = slot_changed groups (with_value groups group new) group (Some new) counts (Updates-with_value groups group new (subst (λ (o : Option (List Row)). IsSome o) had refl)) is

-- what leaves nobody as it is does not change a number that is free
pub nobody_there : (groups : Slab (List Row)) (group : ℕ) (f : Counts → Counts) → None ≡ get groups group → f nobody ≡ nobody → counts_by_number groups ≡ upd nat_eq (counts_by_number groups) group (f (counts_by_number groups group))
nobody_there groups group f free kept =
    let none : counts_by_number groups group ≡ nobody = ap counts_at (sym free) in
    sym (upd_same nat_eq (counts_by_number groups) group (number_is group) (f (counts_by_number groups group)) (ap f none ∙ kept ∙ sym none))

pub nobody_less : (pid : Pid) → upd same_pid nobody pid 0 ≡ nobody
nobody_less pid = upd_same same_pid nobody pid (pid_is pid) 0 refl

pub nobody_of_node : (node : List ℕ) → without_node nobody node ≡ nobody
nobody_of_node node = fun_ext (λ pid. go (at_node node pid))
  where
    go : (b : Bool) → ◌≡◌ {A = ℕ} (cond b 0 0) 0
    go true = refl
    go false = refl

pub counts_alone : (f g : Counts) → ◌≡◌ {A = Value} (Some f) (Some g) → f ≡ g
counts_alone f g e = ap (λ (v : Value). unwrap_or v nobody) e

pub added_at : (groups : Slab (List Row)) (group : ℕ) (old new : List Row) (pid : Pid) (more : ℕ) {T E : Type 0} (result : Result T E) → Some old ≡ get groups group
    → OnOk result (counts_of new ≡ upd same_pid (counts_of old) pid (counts_of old pid + more))
    → OnOk result (counts_by_number (with_value groups group new) ≡ upd nat_eq (counts_by_number groups) group (upd same_pid (counts_by_number groups group) pid (counts_by_number groups group pid + more)))
added_at groups group old new pid more (Err e) had h = tt
added_at groups group old new pid more (Ok v) had h =
    written groups group old new (upd same_pid (counts_by_number groups group) pid (counts_by_number groups group pid + more)) had
    (h ∙ ap (λ o. upd same_pid (counts_at o) pid (counts_at o pid + more)) had)

-- a group without a member in its list is nobody's
pub nobody_in : (counts : Counts) (pids : List Pid) (n : ℕ) → n ≡ length pids → IsMemberList (Some counts) anywhere pids → (nat_eq n 0 ≡ true → counts ≡ nobody) × (counts ≡ nobody → nat_eq n 0 ≡ true)
nobody_in counts [] n len h = (λ e. fun_ext (λ pid. sym (h.each pid)), λ e. ap (λ m. nat_eq m 0) len)
nobody_in counts (x ∷ pids) n len h = (
  λ e. absurd (let none : n ≡ 0 = grind (arith, nat_tests) in omega arith),
  λ e. absurd (let some = counted_first x pids in let none : count_by (same_pid x) (x ∷ pids) ≡ 0 = h.each x ∙ ap (λ (c : Counts). c x) e in omega arith),
)
