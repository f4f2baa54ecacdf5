-- The answers of a port, where one more is given.
use Rattle.std.proofs.Common.{◌≡◌, ℕ, Bool, true, false, cond, nat_eq, List, [], ◌∷◌, ◌++◌}
use Rattle.std.proofs.Common.{Option, Some, None, refl, sym, ap, ◌∙◌, subst, append-nil, ◌≢◌}
use Rattle.std.proofs.lemmas.Bool.{eq-eqb, ne_eqb, eqb-true}
use Rattle.pg_node_state.specs.PgGroup.Functions.{upd}
use Rattle.pg_node_state.specs.PgStep.Commands.{Answers}
use Rattle.pg_node_state.specs.PgStep.declared.answer.Answer.{Answer}
use Rattle.pg_node_state.specs.PgStep.declared.answer.Reply.{Reply}
use Rattle.pg_node_state.specs.PgStep.declared.command.OpId.{OpId}
use Rattle.pg_node_state.specs.PgStep.Nodes.{Node}
use Rattle.pg_node_state.specs.PgStep.State.{Response}
use Rattle.pg_node_state.specs.PgStep.Turns.{Report}
use Rattle.pg_laws_losses.specs.PgLaws.History.{answers_by, answer_at, answer_by}
use Rattle.pg_laws_losses.proofs.PgLaws.steps.Ways.{told_append}
use Rattle.pg_node_state.specs.States.{Gave}
use Rattle.pg_world_packets.specs.Worlds.{AreAnswers}

-- the answers of node j behind one more turn, of node i
pub answers_more : (j i port : ℕ) (reported : List (ℕ × Report)) (report : Report)
    → answers_by j (reported ++ (i, report) ∷ []) port ≡ answers_by j reported port ++ cond (nat_eq i j) (answer_at port report.gave) []
answers_more j i port reported report = told_append (answer_by j port) reported ((i, report) ∷ [])
    ∙ ap (λ zs. answers_by j reported port ++ zs) (append-nil (cond (nat_eq i j) (answer_at port report.gave) []))

pub answers_other : (j i port : ℕ) (reported : List (ℕ × Report)) (report : Report) → j ≢ i
    → answers_by j (reported ++ (i, report) ∷ []) port ≡ answers_by j reported port
answers_other j i port reported report other = answers_more j i port reported report
    ∙ (ap (λ b. answers_by j reported port ++ cond b (answer_at port report.gave) []) (ne_eqb i j (λ e. other (sym e))) ∙ append-nil (answers_by j reported port))

pub answers_own : (i port : ℕ) (reported : List (ℕ × Report)) (report : Report)
    → answers_by i (reported ++ (i, report) ∷ []) port ≡ answers_by i reported port ++ answer_at port report.gave
answers_own i port reported report = answers_more i i port reported report
    ∙ ap (λ b. answers_by i reported port ++ cond b (answer_at port report.gave) []) (eq-eqb i i refl)

-- one more answer
one_more : (own : Node) (given : List (ℕ × Response)) (answers : List Answer) (number : ℕ) (response : Response) (reply : Reply)
    → Answers own response reply → AreAnswers own given answers
    → AreAnswers own (given ++ (number, response) ∷ []) (answers ++ record { number = number; reply = reply } ∷ [])
one_more own [] [] number response reply is all = (refl, is, tt)
one_more own [] (answer ∷ answers) number response reply is all = absurd all
one_more own (gave ∷ given) [] number response reply is all = absurd all
one_more own (gave ∷ given) (answer ∷ answers) number response reply is all = (all.0, all.1, one_more own given answers number response reply is all.2)

pub answers_given : (own : Node) (gave : Option (OpId × Response)) (before after : ℕ → List Answer) (given : ℕ → List (ℕ × Response)) → Gave own gave before after
    → ((port : ℕ) → AreAnswers own (given port) (before port)) → (port : ℕ) → AreAnswers own (given port ++ answer_at port gave) (after port)
unfolding upd
answers_given own None before after given same all port = subst (λ (f : ℕ → List Answer). AreAnswers own (given port ++ []) (f port)) (sym same)
    (subst (λ (zs : List (ℕ × Response)). AreAnswers own zs (before port)) (sym (append-nil (given port))) (all port))
answers_given own (Some gave) before after given h all port =
    subst (λ (f : ℕ → List Answer). AreAnswers own (given port ++ cond (nat_eq gave.0.port port) ((gave.0.number, gave.1) ∷ []) []) (f port)) (sym h.2)
    (go (nat_eq gave.0.port port) (eqb-true gave.0.port port))
  where
    go : (b : Bool) → (b ≡ true → gave.0.port ≡ port)
        → AreAnswers own (given port ++ cond b ((gave.0.number, gave.1) ∷ []) []) (cond b (before gave.0.port ++ record { number = gave.0.number; reply = h.0 } ∷ []) (before port))
    go true is = subst (λ p. AreAnswers own (given port ++ (gave.0.number, gave.1) ∷ []) (before p ++ record { number = gave.0.number; reply = h.0 } ∷ [])) (sym (is refl))
        (one_more own (given port) (before port) gave.0.number gave.1 h.0 h.1 (all port))
    go false is = subst (λ (zs : List (ℕ × Response)). AreAnswers own zs (before port)) (sym (append-nil (given port))) (all port)
