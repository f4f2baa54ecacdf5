-- A configuration whose groups are put in order.
use Rattle.std.proofs.Common.{◌≡◌, ◌≤◌, ◌^◌, ℕ, zero, suc, ◌+◌, Bool, true, false, cond, map}
use Rattle.std.proofs.Common.{length, List, [], ◌∷◌, None, refl, sym, ap, ◌∙◌, arith, subst}
use Rattle.std.specs.Prelude.{count_by, slice_get, unwrap_or}
use Rattle.std.specs.List.{AllByRecursion, IsDistinct, remove}
use Rattle.std.proofs.Math.Path.{fun_ext}
use Rattle.std.proofs.lemmas.Map.Keys.{IsDistinct-head, IsDistinct-tail}
use Rattle.pg_term.specs.declared.pid.Pid.{Pid}
use Rattle.pg_term.specs.declared.term.Term.{Term}
use Rattle.pg_term.specs.Same.{same_term, same_pid}
use Rattle.pg_term.specs.contracts.term.TermEq.TheImpl.Laws as term_laws
use Rattle.pg_term.proofs.Same.{same_term as term_is}
use Rattle.pg_node_state.specs.PgGroup.Value.{Value, count_in, merge, listed}
use Rattle.pg_node_state.specs.PgGroup.Scope.{anywhere}
use Rattle.pg_node_state.specs.PgGroup.Members.{IsMemberList}
use Rattle.pg_node_state.proofs.PgGroup.Merges.{merge_associates, less_merge}
use Rattle.pg_node_state.proofs.PgGroup.Longer.{longer_by}
use Rattle.pg_node_state.specs.PgExchange.GroupList.{GroupList, announced_table, announced_names}
use Rattle.pg_node_state.proofs.PgExchange.Tables.{all_announced, snapshot_announced}
use Rattle.pg_node_state.specs.PgMessageTypes.Members.{HasFewMembers}
use Rattle.pg_node_state.specs.PgStep.declared.start.Start.{Start}
use Rattle.pg_node_state.specs.PgStep.Nodes.{Node}
use Rattle.pg_node_state.specs.PgStep.State.{new_state}
use Rattle.pg_node_state.specs.PgStep.Config.{Config, names_of, groups_at, made_at, ports_at, first_table}
use Rattle.pg_laws_losses.specs.PgLaws.History.{known}
use Rattle.pg_laws_losses.proofs.PgLaws.tables.Values.{less_nobody}
use Rattle.pg_world_config.specs.Firsts.{seen_first}
use Rattle.pg_world_packets.specs.Starts.{IsOrdered, Orders, TellsFew}

-- what a node starts with is what its groups tell
pub first_told : (groups : GroupList) (name : Term) → first_table groups name ≡ announced_table groups name
first_told groups name = all_announced term_is merge_associates (λ pid. false) (less_merge (λ pid. false)) (λ n. None) groups name ∙ less_nobody (announced_table groups name)

-- ---- tables

-- the groups of one of them, in order, make the same table
pub ordered_table : (given start : Start) → IsOrdered given start → first_table start.groups ≡ first_table given.groups
ordered_table given start is = fun_ext (λ name. first_told start.groups name ∙ snapshot_announced term_is (first_table given.groups) start.groups is.groups name)

-- groups of other names do not tell of this one
none_told : (groups : GroupList) (name : Term) → AllByRecursion (λ other. same_term name other ≡ false) (announced_names groups) → announced_table groups name ≡ None
none_told [] name others = refl
none_told (group ∷ groups) name others =
    ap (λ b. merge (cond b (listed group.1) None) (announced_table groups name)) (term_laws.laws-law.symm group.0 name ∙ others.0) ∙ none_told groups name others.1

nothing_le : (n : ℕ) → 0 ≤ n
nothing_le n = omega arith

pub itself_le : (n : ℕ) → n ≤ n
itself_le n = omega arith

with_nothing : (a n : ℕ) → a ≤ n → a ≤ 0 + n
with_nothing a n l = omega (arith, l)

-- Some members, of which each is there as often as the group has it.
record Covers (limit : ℕ) (v : Value) : Type 0 where
  members : List Pid
  few : length members ≤ limit
  all : (pid : Pid) → count_in v pid ≤ count_by (same_pid pid) members

covered_more : (limit : ℕ) (group : Term × List Pid) (groups : GroupList) → IsDistinct same_term (announced_names (group ∷ groups)) → length group.1 ≤ limit → (name : Term) → Covers limit (announced_table groups name)
    → Covers limit (announced_table (group ∷ groups) name)
covered_more limit group groups once few name rest = go (same_term group.0 name) refl
  where
    here : Covers limit (merge (listed group.1) None)
    here = record { members = group.1; few = few; all = λ pid. itself_le (count_by (same_pid pid) group.1) }

    go : (b : Bool) → same_term group.0 name ≡ b → Covers limit (merge (cond b (listed group.1) None) (announced_table groups name))
    go true t =
        let is : group.0 ≡ name = term_is group.0 name t in
        let none : announced_table groups name ≡ None = none_told groups name (subst (λ (n : Term). AllByRecursion (λ other. same_term n other ≡ false) (announced_names groups)) is (IsDistinct-head same_term group.0 (announced_names groups) once)) in
        subst (λ (v : Value). Covers limit (merge (listed group.1) v)) (sym none) here
    go false t = rest

covered : (limit : ℕ) (groups : GroupList) → IsDistinct same_term (announced_names groups) → HasFewMembers limit groups → (name : Term) → Covers limit (announced_table groups name)
covered limit [] once few name = record { members = []; few = nothing_le limit; all = λ pid. nothing_le (count_by (same_pid pid) []) }
covered limit (group ∷ groups) once few name =
    covered_more limit group groups once few.0 name (covered limit groups (IsDistinct-tail same_term group.0 (announced_names groups) once) few.1 name)

no_members : IsMemberList None anywhere []
no_members = record { ordered = tt; each = λ pid. refl }

-- what a snapshot tells of a group has few members
member_few : (limit : ℕ) (v : Value) (pids : List Pid) → Covers limit v → IsMemberList v anywhere pids → length pids ≤ limit
member_few limit v pids covers is =
    let longer : length pids ≤ 0 + length covers.members = longer_by None v anywhere covers.members [] pids (λ pid. with_nothing (count_in v pid) (count_by (same_pid pid) covers.members) (covers.all pid)) no_members is in
    omega (arith, longer, covers.few)

pub tells_few : (groups : GroupList) → IsDistinct same_term (announced_names groups) → HasFewMembers (2 ^ 32) groups → TellsFew (first_table groups)
tells_few groups once few told is = go told is.members
  where
    go : (told : GroupList) → AllByRecursion (λ group. IsMemberList (first_table groups group.0) anywhere group.1) told → HasFewMembers (2 ^ 32) told
    go [] all = tt
    go (group ∷ others) all =
        (member_few (2 ^ 32) (first_table groups group.0) group.1 (subst (Covers (2 ^ 32)) (sym (first_told groups group.0)) (covered (2 ^ 32) groups once few group.0)) all.0, go others all.1)

-- ---- configurations

pub ordered_names : (given config : Config) → Orders given config → names_of config ≡ names_of given
ordered_names [] [] orders = refl
ordered_names [] (start ∷ starts) orders = absurd orders
ordered_names (one ∷ others) [] orders = absurd orders
ordered_names (one ∷ others) (start ∷ starts) orders = λ j. orders.0.name j ∷ ordered_names others starts orders.1 j

pub ordered_length : (given config : Config) → Orders given config → length config ≡ length given
ordered_length [] [] orders = refl
ordered_length [] (start ∷ starts) orders = absurd orders
ordered_length (one ∷ others) [] orders = absurd orders
ordered_length (one ∷ others) (start ∷ starts) orders = ap suc (ordered_length others starts orders.1)

ordered_ports : (given config : Config) → Orders given config → map (λ (start : Start). start.ports) config ≡ map (λ (start : Start). start.ports) given
ordered_ports [] [] orders = refl
ordered_ports [] (start ∷ starts) orders = absurd orders
ordered_ports (one ∷ others) [] orders = absurd orders
ordered_ports (one ∷ others) (start ∷ starts) orders = λ j. orders.0.ports j ∷ ordered_ports others starts orders.1 j

ordered_made : (given config : Config) → Orders given config → map (λ (start : Start). start.made) config ≡ map (λ (start : Start). start.made) given
ordered_made [] [] orders = refl
ordered_made [] (start ∷ starts) orders = absurd orders
ordered_made (one ∷ others) [] orders = absurd orders
ordered_made (one ∷ others) (start ∷ starts) orders = λ j. orders.0.made j ∷ ordered_made others starts orders.1 j

pub same_ports : (given config : Config) (i : ℕ) → Orders given config → ports_at config i ≡ ports_at given i
same_ports given config i orders = ap (λ (ports : List ℕ). unwrap_or (slice_get ports i) 0) (ordered_ports given config orders)

pub same_made : (given config : Config) (i : ℕ) → Orders given config → made_at config i ≡ made_at given i
same_made given config i orders = ap (λ (made : List ℕ). unwrap_or (slice_get made i) 0) (ordered_made given config orders)

pub same_tables : (given config : Config) (i : ℕ) → Orders given config → first_table (groups_at config i) ≡ first_table (groups_at given i)
same_tables [] [] i orders = refl
same_tables [] (start ∷ starts) i orders = absurd orders
same_tables (one ∷ others) [] i orders = absurd orders
same_tables (one ∷ others) (start ∷ starts) zero orders = ordered_table one start orders.0
same_tables (one ∷ others) (start ∷ starts) (suc i) orders = same_tables others starts i orders.1

pub same_known : (given config : Config) (test : Node → Bool) (name : Term) → Orders given config → known test name config ≡ known test name given
same_known [] [] test name orders = refl
same_known [] (start ∷ starts) test name orders = absurd orders
same_known (one ∷ others) [] test name orders = absurd orders
same_known (one ∷ others) (start ∷ starts) test name orders =
    λ j. merge (cond (test (orders.0.name j)) (ordered_table one start orders.0 j name) None) (same_known others starts test name orders.1 j)

-- a node starts as the same
pub same_first : (given config : Config) (i : ℕ) → Orders given config → seen_first config i ≡ seen_first given i
same_first given config i orders =
    let names = ordered_names given config orders in
    λ j. record {
      names = unwrap_or (slice_get (names j) i) [] ∷ remove (names j) i;
      ports = same_ports given config i orders j;
      state = record { clock = 0; state = new_state (same_tables given config i orders j) (same_made given config i orders j) };
      answers = λ port. [];
    }
