-- The answers that a node gave by its acts are those that are reported of it.
use Rattle.std.proofs.Common.{◌≡◌, ℕ, Bool, true, false, cond, nat_eq, map, List, []}
use Rattle.std.proofs.Common.{◌∷◌, ◌++◌, refl, sym, ap, subst, append_assoc, append-nil}
use Rattle.pg_world.specs.PgStep.Machines.Runs.{reported_by}
use Rattle.pg_world.specs.PgLaws.History.{all_reported, answer_at, answers_by}
use Rattle.pg_cluster_judges.specs.Logs.{reports_of}
use Rattle.pg_world.specs.PgNodeOpens.Places.{name_at}
use Rattle.pg_node_run.specs.Acts.{Act, Standing, AllLead}
use Rattle.pg_world.specs.PgStep.Config.{Config}
use Rattle.pg_world.specs.PgStep.Nodes.{Node}
use Rattle.pg_world.specs.PgStep.State.{Response}
use Rattle.pg_world.specs.PgStep.Turns.{Report}
use Rattle.pg_cluster_judges.proofs.Turns.{act_at}
use Rattle.pg_world.specs.PgWorldPackets.Worlds.{AreAnswers}
use Rattle.pg_world.proofs.PgWorldPackets.Answering.{answers_given}

-- what a report tells of a port
abbrev pub given_at : ℕ → Report → List (ℕ × Response)
given_at port report = answer_at port report.gave

-- the answers of a node are told by its own reports
pub answers_reported : (i port : ℕ) (reported : List (ℕ × Report)) → answers_by i reported port ≡ all_reported (given_at port) (reported_by i reported)
answers_reported i port [] = refl
answers_reported i port (t ∷ ts) = go (nat_eq t.0 i) (answers_reported i port ts)
  where
    go : (b : Bool) → answers_by i ts port ≡ all_reported (given_at port) (reported_by i ts)
        → cond b (answer_at port t.1.gave) [] ++ answers_by i ts port ≡ all_reported (given_at port) (cond b (t.1 ∷ reported_by i ts) (reported_by i ts))
    go true e = ap (λ w. answer_at port t.1.gave ++ w) e
    go false e = e

-- the answers behind acts
pub answers_on : (config : Config) (i : ℕ) (names : List Node) (ports : ℕ) (a : Standing) (acts : List Act) (b : Standing) (given : ℕ → List (ℕ × Response)) → AllLead names ports a acts b
    → ((port : ℕ) → AreAnswers (name_at names 0) (given port) (a.answers port))
    → (port : ℕ) → AreAnswers (name_at names 0) (given port ++ all_reported (given_at port) (reports_of (map (act_at config i) acts))) (b.answers port)
answers_on config i names ports a [] b given lead all port =
    subst (λ (s : Standing). AreAnswers (name_at names 0) (given port ++ []) (s.answers port)) (sym lead)
    (subst (λ (zs : List (ℕ × Response)). AreAnswers (name_at names 0) zs (a.answers port)) (sym (append-nil (given port))) (all port))
answers_on config i names ports a (act ∷ acts) b given (m, lead, rest) all port =
    let gave = act.turn.reported.gave in
    subst (λ (zs : List (ℕ × Response)). AreAnswers (name_at names 0) zs (b.answers port))
    (append_assoc (given port) (answer_at port gave) (all_reported (given_at port) (reports_of (map (act_at config i) acts))))
    (answers_on config i names ports m acts b (λ q. given q ++ answer_at q gave) rest (answers_given (name_at names 0) gave a.answers m.answers given lead.answers all) port)
