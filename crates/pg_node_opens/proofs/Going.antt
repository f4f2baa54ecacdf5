-- What follows once answers are in goes by the outlook.
use Rattle.std.proofs.Common.{◌≡◌, ℕ, Bool, true, false, not, cond, nat_eq, List, [], ◌∷◌, ◌++◌, refl, ap, sym, ◌∙◌, subst}
use Rattle.std.proofs.Math.Path.{fun_ext}
use Rattle.std.proofs.lemmas.Bool.{eq-eqb}
use Rattle.pg_term.specs.Same.{same_atom}
use Rattle.pg_step.specs.PgGroup.declared.update.Update.{Update}
use Rattle.pg_step.specs.PgGroup.Functions.{upd}
use Rattle.pg_step.specs.PgGroup.Value.{name_of}
use Rattle.pg_step.specs.PgLock.Attempts.{after_round, does_wait}
use Rattle.pg_step.specs.declared.command.OpId.{OpId}
use Rattle.pg_step.specs.Nodes.{Node, Nodes, is_peer}
use Rattle.pg_step.specs.State.{State, Status, Use}
use Rattle.pg_step.specs.State.Use.{Locking}
use Rattle.pg_step.specs.Turns.{NodeTurn, nothing, becomes, and_then}
use Rattle.pg_step.specs.Peers.{would_grant}
use Rattle.pg_step.specs.Attempts.{none_missing, none_denied, all_granted, is_yes, round_of, with_asked}
use Rattle.pg_step.specs.Attempts.{ask, give_up, begin, replies_in, locks_in, go_on}
use Rattle.pg_node_opens.specs.Outlooks.{outlook_of, outlook_by, turn_by}
use Rattle.pg_node_opens.proofs.Rest.{waits_not, gives_up}

-- a function changed at a key, read there
upd_here : (f : ℕ → Use) (c : ℕ) (used : Use) → upd nat_eq f c used c ≡ used
unfolding upd
upd_here f c used = ap (λ b. cond b used (f c)) (eq-eqb c c refl)

app_nil : {A : Type 0} (xs : List A) → xs ++ [] ≡ xs
app_nil [] = refl
app_nil (x ∷ xs) = ap (λ z. x ∷ z) (app_nil xs)

module _ (m : Nodes) (apart : (q : Node) → is_peer m q ≡ true → same_atom m.own q ≡ false) (c : ℕ) (op : OpId) (update : Update) (first : Node) (st : Node → Status) (s : State) where
  abbrev asked : NodeTurn
  asked = ask m (λ q. true) c op update first st s

  -- the statuses once the rest was asked
  abbrev then : Node → Status
  then = with_asked m (λ q. true) st (would_grant m s (name_of update))

  asked_alone : and_then asked becomes ≡ asked
  asked_alone = λ i. record { state = asked.state; sends = fun_ext (λ q. app_nil (asked.sends q)) i; reported = nothing }

  abbrev begun : State → NodeTurn
  begun t = and_then (begin m c op update t) (λ r. replies_in m r.references (r.uses r.references) r)

  by_cases : (answered waits granted complete : Bool)
      → (waits ≡ false → granted ≡ false → complete ≡ true → and_then asked (give_up m c op update then) ≡ give_up m c op update st s)
      → cond answered (cond waits (give_up m c op update st s)
      (and_then asked (λ t. cond granted (begun t) (cond complete (give_up m c op update then t) (becomes t))))) (becomes s)
      ≡ turn_by (outlook_by answered (not waits) granted complete) m c op update first st s
  by_cases false waits granted complete denies = refl
  by_cases true true granted complete denies = refl
  by_cases true false true complete denies = refl
  by_cases true false false true denies = denies refl refl refl
  by_cases true false false false denies = asked_alone

  goes : go_on m c (Locking op update first st) s ≡ turn_by (outlook_of m (would_grant m s (name_of update)) (Locking op update first st)) m c op update first st s
  goes = ap (λ used. cond (none_missing m st) (cond (does_wait (after_round (round_of first st) (none_denied m st))) (give_up m c op update st s)
      (and_then asked (λ t. locks_in m c used t))) (becomes s)) (upd_here s.uses c (Locking op update first then))
      ∙ by_cases (none_missing m st) (does_wait (after_round (round_of first st) (none_denied m st))) (all_granted m then) (none_missing m then)
      (λ goes_on denied complete. gives_up m apart st c op update first s (sym (waits_not (is_yes (st first)) (none_denied m st)) ∙ ap not goes_on) complete denied)

pub goes_by_outlook : (m : Nodes) (c : ℕ) (op : OpId) (update : Update) (first : Node) (st : Node → Status) (s : State) (granted : Bool) → ((q : Node) → is_peer m q ≡ true → same_atom m.own q ≡ false) → would_grant m s (name_of update) ≡ granted
    → go_on m c (Locking op update first st) s ≡ turn_by (outlook_of m granted (Locking op update first st)) m c op update first st s
goes_by_outlook m c op update first st s granted apart e =
    subst (λ b. go_on m c (Locking op update first st) s ≡ turn_by (outlook_of m b (Locking op update first st)) m c op update first st s) e (goes m apart c op update first st s)
