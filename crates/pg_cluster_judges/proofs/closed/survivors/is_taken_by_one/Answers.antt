use Rattle.std.proofs.Common.{sym, ap, ◌∙◌, arith}
use Rattle.pg_world.specs.PgNodeState.States.{kept_by}
use Rattle.pg_cluster_judges.specs.Judges.{state_in}
use Rattle.pg_cluster_judges.proofs.Surviving.{any_survivor}
use Rattle.pg_cluster_judges.proofs.Surviving.{no_survivor}
use Rattle.pg_cluster_judges.proofs.closed.survivors.is_taken_by_one.Goals as goal

pub returns-then-ended : goal.returns-then-ended
returns-then-ended c =
    let pid = c.args.pid.now in
    sym (any_survivor (λ x. (state_in x).ended pid) c.args.lost.now c.args.nodes.now c.loop-place.place c.index-nodes-place.result c.loop-place-test.true (sym c.was_lost.ensures ∙ c.if-not-was_lost.true)
    (ap (λ x. (state_in x).ended pid) (sym c.index-nodes-place.is) ∙ (ap (λ s. (kept_by s).ended pid) (sym c.state.ensures) ∙ (sym c.ended.ensures ∙ c.if-ended.true))))

pub returns : goal.returns
returns c =
    let pid = c.args.pid.now in
    let past = c.loop-place-test.false in
    sym (no_survivor (λ x. (state_in x).ended pid) c.args.lost.now c.args.nodes.now (λ k d low kept. c.loop-place.invariant k d (omega (arith, low, past)) kept))
