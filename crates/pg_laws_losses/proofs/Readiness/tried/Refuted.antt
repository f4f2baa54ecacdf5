-- Of what each wrong word leaves, what is asked of the copies is false, and not only hard to prove.
use Rattle.std.proofs.Common.{◌≡◌, ℕ, Bool, true, false, not, ◌&&◌, [], ◌∷◌, Some, None, cond, refl, ap, sym, ◌∙◌}
use Rattle.std.specs.Cmp.{first_so, second_so}
use Rattle.std.specs.List.{list_all}
use Rattle.pg_term.specs.Same.{same_term}
use Rattle.pg_laws.specs.PgGroup.declared.update.Update.{Update}
use Rattle.pg_laws.specs.PgGroup.Value.{name_of}
use Rattle.pg_laws.specs.PgLock.Locks.{Locks, given_up, held, is_holder}
use Rattle.pg_laws.specs.PgStep.Attempts.{finish, is_asked, is_unasked, own_reference}
use Rattle.pg_laws.specs.PgStep.Nodes.{Node, Nodes, every}
use Rattle.pg_laws.specs.PgStep.State.{State, Status}
use Rattle.pg_laws.specs.PgStep.State.Status.{Unasked}
use Rattle.pg_laws.specs.PgStep.declared.command.OpId.{OpId}
use Rattle.pg_laws.proofs.references.Keys.{terms}
use Rattle.pg_laws.proofs.references.References.{numbered_same}

-- a node that was never asked is waited for: the retry is refused each time
pub unasked_missed : (own peer : Node) (st : Node → Status) → st peer ≡ Unasked
    → every (record { own = own; peers = peer ∷ [] }) (λ q. not (is_asked (st q)) && not (is_unasked (st q))) ≡ true → ⊥
unasked_missed own peer st unasked all =
    let others : list_all (λ q. not (is_asked (st q)) && not (is_unasked (st q))) (peer ∷ []) ≡ true =
    second_so (not (is_asked (st own)) && not (is_unasked (st own))) (list_all (λ q. not (is_asked (st q)) && not (is_unasked (st q))) (peer ∷ [])) all in
    let one : (not (is_asked (st peer)) && not (is_unasked (st peer))) ≡ true = first_so (not (is_asked (st peer)) && not (is_unasked (st peer))) true others in
    let none : (not (is_asked (st peer)) && not (is_unasked (st peer))) ≡ false = ap (λ v. not (is_asked v) && not (is_unasked v)) unasked in
    absurd (cc (sym one ∙ none))

-- a loss counts as the replies of all: the update is ended that another never had
pub counts_all : (own peer : Node) → every (record { own = own; peers = peer ∷ [] }) (λ q. true) ≡ false → ⊥
counts_all own peer missing = absurd (cc missing)

-- the lock is freed while a reply is missing
pub freed_early : (m : Nodes) (k : ℕ) (op : OpId) (u : Update) (c : ℕ) (s : State) → s.locks (name_of u) ≡ Some (own_reference m c)
    → (finish m k op u c s).state.locks ≡ s.locks → ⊥
unfolding held
freed_early m k op u c s held_ same =
    let holds : is_holder (s.locks (name_of u)) (own_reference m c) ≡ true = ap (λ o. is_holder o (own_reference m c)) held_ ∙ numbered_same m.own c in
    let gone : (finish m k op u c s).state.locks (name_of u) ≡ None = ap (λ b. given_up b s.locks (name_of u) (name_of u)) holds ∙ free (same_term (name_of u) (name_of u)) (terms.refl (name_of u)) in
    absurd (cc (sym held_ ∙ (sym (ap (λ (f : Locks). f (name_of u)) same) ∙ gone)))
  where
    free : (b : Bool) → b ≡ true → cond b None (s.locks (name_of u)) ≡ None
    free true e = refl
    free false e = absurd (cc e)

-- the update is answered once the node itself has it
pub answered_alone : (own peer : Node) (replied : Node → Bool) → replied own ≡ true → replied peer ≡ false
    → (replied own ≡ true → every (record { own = own; peers = peer ∷ [] }) replied ≡ true) → ⊥
answered_alone own peer replied has missing all =
    let others : list_all replied (peer ∷ []) ≡ true = second_so (replied own) (list_all replied (peer ∷ [])) (all has) in
    let one : replied peer ≡ true = first_so (replied peer) true others in
    absurd (cc (sym one ∙ missing))
