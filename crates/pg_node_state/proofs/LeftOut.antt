-- Answers that are forgotten before an event, or after it.
use Rattle.std.proofs.Common.{◌≡◌, ◌≤◌, ◌∙◌, ℕ, Bool, true, false, cond, nat_eq, drop}
use Rattle.std.proofs.Common.{List, [], ◌∷◌, ◌++◌, length, Option, Some, None, refl, sym, ap, subst}
use Rattle.std.proofs.Math.Path.{fun_ext}
use Rattle.std.proofs.lemmas.Bool.{eqb-true, eq-eqb}
use Rattle.std.proofs.lemmas.List.{drop-append-le}
use Rattle.pg_node_ports.specs.PgGroup.Functions.{upd}
use Rattle.pg_node_ports.specs.PgStep.declared.answer.Answer.{Answer}
use Rattle.pg_node_ports.specs.PgStep.declared.command.OpId.{OpId}
use Rattle.pg_node_ports.specs.PgStep.Nodes.{Node}
use Rattle.pg_node_ports.specs.PgStep.State.{Response}
use Rattle.pg_node_ports.proofs.PgNodeOpens.Named.{clash}
use Rattle.pg_node_ports.proofs.PgGroup.Changes.{upd_at, upd_twice}
use Rattle.pg_node_state.specs.States.{Gave, left_at}

-- another port is looked at as it was
upd_apart : {A : Type 0} (f : ℕ → A) (k : ℕ) (x : A) (other : ℕ) → nat_eq k other ≡ false → upd nat_eq f k x other ≡ f other
unfolding upd
upd_apart f k x other apart = ap (λ b. cond b x (f other)) apart

-- two changes at different places go in either order
upd_swap : {A : Type 0} (f : ℕ → A) (j k : ℕ) (x y : A) → nat_eq j k ≡ false → upd nat_eq (upd nat_eq f j x) k y ≡ upd nat_eq (upd nat_eq f k y) j x
unfolding upd
upd_swap f j k x y apart = fun_ext (λ n. go n (nat_eq j n) (nat_eq k n) refl refl)
  where
    go : (n : ℕ) (a b : Bool) → nat_eq j n ≡ a → nat_eq k n ≡ b → cond (nat_eq k n) y (cond (nat_eq j n) x (f n)) ≡ cond (nat_eq j n) x (cond (nat_eq k n) y (f n))
    go n true true is_j is_k = absurd (clash (sym (eq-eqb j k (eqb-true j n is_j ∙ sym (eqb-true k n is_k))) ∙ apart))
    go n true false is_j is_k = (λ i. cond (is_k i) y (cond (is_j i) x (f n))) ∙ sym (λ i. cond (is_j i) x (cond (is_k i) y (f n)))
    go n false b is_j is_k = (λ i. cond (nat_eq k n) y (cond (is_j i) x (f n))) ∙ sym (λ i. cond (is_j i) x (cond (nat_eq k n) y (f n)))

module _ (answers : ℕ → List Answer) (port count : ℕ) (fits : count ≤ length (answers port)) where
  abbrev left : ℕ → List Answer
  left = left_at port count answers

  -- one more answer
  more : (k : ℕ) (answer : Answer) → left_at port count (upd nat_eq answers k (answers k ++ answer ∷ [])) ≡ upd nat_eq left k (left k ++ answer ∷ [])
  unfolding upd
  more k answer = go (nat_eq port k) refl
    where
      longer : ℕ → List Answer
      longer = upd nat_eq answers k (answers k ++ answer ∷ [])

      here : port ≡ k → left_at port count longer ≡ upd nat_eq left k (left k ++ answer ∷ [])
      here same = subst (λ n. left_at port count (upd nat_eq answers n (answers n ++ answer ∷ [])) ≡ upd nat_eq left n (left n ++ answer ∷ [])) same
          (ap (λ xs. upd nat_eq (upd nat_eq answers port (answers port ++ answer ∷ [])) port (drop count xs)) (upd_at nat_eq answers port (answers port ++ answer ∷ []) (eq-eqb port port refl))
          ∙ (upd_twice nat_eq answers port (answers port ++ answer ∷ []) (drop count (answers port ++ answer ∷ []))
          ∙ (ap (upd nat_eq answers port) (drop-append-le count (answers port) (answer ∷ []) fits)
          ∙ (sym (upd_twice nat_eq answers port (drop count (answers port)) (drop count (answers port) ++ answer ∷ []))
          ∙ ap (λ (xs : List Answer). upd nat_eq left port (xs ++ answer ∷ [])) (sym (upd_at nat_eq answers port (drop count (answers port)) (eq-eqb port port refl)))))))

      there : nat_eq port k ≡ false → left_at port count longer ≡ upd nat_eq left k (left k ++ answer ∷ [])
      there apart = ap (λ xs. upd nat_eq longer port (drop count xs)) (upd_apart answers k (answers k ++ answer ∷ []) port (other (nat_eq k port) refl))
          ∙ (sym (upd_swap answers port k (drop count (answers port)) (answers k ++ answer ∷ []) apart)
          ∙ ap (λ (xs : List Answer). upd nat_eq left k (xs ++ answer ∷ [])) (sym (upd_apart answers port (drop count (answers port)) k apart)))
        where
          other : (b : Bool) → nat_eq k port ≡ b → nat_eq k port ≡ false
          other false e = e
          other true e = absurd (clash (sym (eq-eqb port k (sym (eqb-true k port e))) ∙ apart))

      go : (b : Bool) → nat_eq port k ≡ b → left_at port count longer ≡ upd nat_eq left k (left k ++ answer ∷ [])
      go true e = here (eqb-true port k e)
      go false e = there e

  pub gave_left : (own : Node) (gave : Option (OpId × Response)) (later : ℕ → List Answer) → Gave own gave answers later → Gave own gave (left_at port count answers) (left_at port count later)
  gave_left own None later e = ap (left_at port count) e
  gave_left own (Some gave) later e = (e.0, e.1, ap (left_at port count) e.2 ∙ more gave.0.port (record { number = gave.0.number; reply = e.0 }))
