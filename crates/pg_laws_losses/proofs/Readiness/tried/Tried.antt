-- What the laws need of the copies, proved of each as of the machine's own.
use Rattle.std.proofs.Common.{◌≡◌, ◌≢◌, ℕ, Bool, true, false, not, ◌&&◌, ◌||◌, cond, List, [], ◌∷◌}
use Rattle.std.proofs.Common.{Some, refl, ap, sym, ◌∙◌}
use Rattle.std.specs.List.{list_all, list_any}
use Rattle.std.proofs.lemmas.Bool.{and_from}
use Rattle.pg_term.specs.Same.{same_atom}
use Rattle.pg_laws.specs.PgGroup.declared.update.Update.{Update}
use Rattle.pg_laws.specs.PgStep.Attempts.{finish, is_asked}
use Rattle.pg_laws.specs.PgStep.Nodes.{Node, Nodes, all_of, every, is_node}
use Rattle.pg_laws.specs.PgStep.State.{State, Status}
use Rattle.pg_laws.specs.PgStep.State.Status.{Unasked}
use Rattle.pg_laws.specs.PgStep.State.Use.{Locking, Updating}
use Rattle.pg_laws.specs.PgStep.Turns.{becomes}
use Rattle.pg_laws.specs.PgStep.declared.command.OpId.{OpId}
use Rattle.pg_laws.specs.PgGroup.Functions.{upd}
use Rattle.pg_laws.proofs.references.Keys.{atoms, at_upd, upd_other}
use Rattle.pg_laws_losses.proofs.Readiness.tried.Copies.{copied_complete, copied_forgets, copied_replies_in}

all_pass : (test : Node → Bool) → ((q : Node) → test q ≡ true) → (xs : List Node) → list_all test xs ≡ true
all_pass test each [] = refl
all_pass test each (x ∷ xs) = and_from (test x) (list_all test xs) (each x) (all_pass test each xs)

one_fails : (test : Node → Bool) (q : Node) (xs : List Node) → list_any (same_atom q) xs ≡ true → test q ≡ false → list_all test xs ≡ false
one_fails test q [] there fails = absurd (cc)
one_fails test q (x ∷ xs) there fails = go (same_atom q x) refl there (λ rest. one_fails test q xs rest fails)
  where
    never : (b : Bool) → (b && false) ≡ false
    never true = refl
    never false = refl

    go : (b : Bool) → same_atom q x ≡ b → (b || list_any (same_atom q) xs) ≡ true
        → (list_any (same_atom q) xs ≡ true → list_all test xs ≡ false) → (test x && list_all test xs) ≡ false
    go true same _ _ = ap (λ c. c && list_all test xs) (ap test (sym (atoms.is q x same)) ∙ fails)
    go false _ rest later = ap (λ c. test x && c) (later rest) ∙ never (test x)

-- where the node that was lost was asked alone, the command is ready, and waits for none that it never asked
pub asked_alone : (m : Nodes) (peer : Node) (op : OpId) (u : Update) (first : Node) (st : Node → Status)
    → ((q : Node) → peer ≢ q → st q ≡ Unasked) → copied_complete m (copied_forgets peer (Locking op u first st)) ≡ true
asked_alone m peer op u first st others = all_pass (λ q. not (is_asked (upd same_atom st peer Unasked q)))
    (λ q. at_upd same_atom atoms (λ v. not (is_asked v) ≡ true) st peer Unasked q (λ _. refl) (λ other. ap (λ v. not (is_asked v)) (others q other)))
    (all_of m)

-- a loss makes no command ready that waits for another
pub others_awaited : (m : Nodes) (peer q : Node) (op : OpId) (u : Update) (c : ℕ) (replied : Node → Bool) → peer ≢ q → is_node m q ≡ true
    → replied q ≡ false → copied_complete m (copied_forgets peer (Updating op u c replied)) ≡ false
others_awaited m peer q op u c replied other there missing = one_fails (upd same_atom replied peer false) q (all_of m) there
    (upd_other same_atom atoms replied peer false q other ∙ missing)

-- while a reply is missing no lock is freed
pub lock_stays : (m : Nodes) (k : ℕ) (op : OpId) (u : Update) (c : ℕ) (replied : Node → Bool) (s : State) → every m replied ≡ false
    → (copied_replies_in m k (Updating op u c replied) s).state.locks ≡ s.locks
lock_stays m k op u c replied s missing = ap (λ b. (cond b (finish m k op u c s) (becomes s)).state.locks) missing

-- and an update is answered only where each node that counts has replied
pub answered_by_all : (m : Nodes) (k : ℕ) (op : OpId) (u : Update) (c : ℕ) (replied : Node → Bool) (s : State)
    → (copied_replies_in m k (Updating op u c replied) s).reported.answered ≡ Some op → every m replied ≡ true
answered_by_all m k op u c replied s = go (every m replied)
  where
    go : (b : Bool) → (cond b (finish m k op u c s) (becomes s)).reported.answered ≡ Some op → b ≡ true
    go true e = refl
    go false e = absurd (cc e)
