-- A process that begins.
use Rattle.std.proofs.Common.{◌≡◌, ◌≤◌, ◌+◌, ◌^◌, ◌∙◌, ℕ, zero, suc, false, None, List, [], ◌∷◌, ◌++◌, length, refl, ap, arith, subst}
use Rattle.pg_term.specs.declared.pid.Pid.{Pid}
use Rattle.pg_term.specs.declared.term.Term.{Term}
use Rattle.pg_step.specs.Config.{first_table}
use Rattle.pg_step.specs.PgExchange.GroupList.{GroupList, all_merged}
use Rattle.pg_step.specs.PgMessageTypes.Members.{HasFewMembers}
use Rattle.pg_node.specs.Begun.{CantBegin}
use Rattle.pg_node.specs.PgGroup.Table.{Table}
use Rattle.pg_node.specs.PgGroup.Value.{count_in}
use Rattle.pg_node.specs.PgNodeState.declared.state.fault.NodeFault.{NodeFault}
use Rattle.pg_node.specs.PgStep.Nodes.{Node}
use Rattle.pg_node.proofs.PgNodeState.Apart.{few_in_none}
use Rattle.pg_node.proofs.PgNodeState.Counts.{few_merged}
use Rattle.pg_process.specs.Situations.{seen_in}

-- one more thing of which nothing is seen
pub none_more : {A B : Type 0} (see : A → B) (none : B) (xs : List A) (x : A) → see x ≡ none → ((place : ℕ) → seen_in see none xs place ≡ none)
    → (place : ℕ) → seen_in see none (xs ++ x ∷ []) place ≡ none
none_more see none [] x is each zero = is
none_more see none [] x is each (suc n) = refl
none_more see none (y ∷ xs) x is each zero = each zero
none_more see none (y ∷ xs) x is each (suc n) = none_more see none xs x is (λ k. each (suc k)) n

pub longer : {A : Type 0} (xs : List A) (x : A) → length (xs ++ x ∷ []) ≡ length xs + 1
longer [] x = refl
longer (y ∷ xs) x = omega (arith, longer xs x)

itself_le : 2 ^ 32 ≤ 2 ^ 32
itself_le = omega arith

-- the table that is filled with groups where none was
pub filled_is : (old full : Table) (groups : GroupList) → full ≡ all_merged old groups (λ pid. false) → old ≡ (λ name. None) → full ≡ first_table groups
filled_is old full groups is none = is ∙ ap (λ (t : Table). all_merged t groups (λ pid. false)) none

-- its counts, where no group has many members
pub few_first : (full : Table) (groups : GroupList) → HasFewMembers (2 ^ 32) groups → full ≡ first_table groups → (name : Term) (pid : Pid) → count_in (full name) pid ≤ 2 ^ 32
few_first full groups few is = few_merged (2 ^ 32) (2 ^ 32) (2 ^ 32) (λ name. None) full groups (λ pid. false) itself_le itself_le few (few_in_none (λ name. None) refl) is

-- what is told of that table
pub told_so : (full : Table) (groups : GroupList) (own : Node) (f g : NodeFault) → CantBegin full own f → f ≡ g → full ≡ first_table groups → CantBegin (first_table groups) own g
told_so full groups own f g told same is = subst (λ (t : Table). CantBegin t own g) is (subst (λ (f : NodeFault). CantBegin full own f) same told)
