use Rattle.std.proofs.Common.{◌≡◌, ◌↔◌, Bool, true, false, sym, ap, ◌∙◌}
use Rattle.std.specs.Prelude.{IsTrue}
use Rattle.std.specs.List.{list_any}
use Rattle.std.proofs.lemmas.Result.{IfOk-weaker}
use Rattle.pg_cluster.specs.PgClusterJudges.Judges.{Agree}
use Rattle.pg_cluster.specs.PgClusterJudges.Schedule.{NobodyLost}
use Rattle.pg_cluster.specs.PgClusterJudges.Survivors.{SurvivorsAgree}
use Rattle.pg_talk.proofs.Judging.{none_there}
use Rattle.pg_talk.proofs.verdict.agreement.Goals as goal

pub returns-then-is_any_lost-clause-nobody : goal.returns-then-is_any_lost-clause-nobody
returns-then-is_any_lost-clause-nobody c =
    let closed = c.args.closed.now in
    let some : list_any (λ (one : Bool). one) closed.lost.items ≡ true =
    sym (ap (list_any (λ (one : Bool). one)) c.as_slice.ensures.value) ∙ sym c.is_any_lost.ensures ∙ c.if-is_any_lost.true in
    IfOk-weaker c.survivors_agree.result (λ yes. IsTrue yes ↔ SurvivorsAgree closed.nodes.items closed.lost.items closed.logs.items)
    (λ yes. NobodyLost closed.lost.items → IsTrue yes ↔ Agree closed.nodes.items closed.logs.items)
    (λ yes survive nobody. let no : false ≡ true = sym (none_there closed.lost.items nobody) ∙ some in absurd (cc no)) c.survivors_agree.ensures
