use Rattle.std.proofs.Common.{sym, ap, ◌∙◌, arith}
use Rattle.pg_world.specs.PgNodeState.States.{kept_by}
use Rattle.pg_cluster_judges.specs.Judges.{state_in}
use Rattle.pg_cluster_judges.proofs.Surviving.{each_survivor}
use Rattle.pg_cluster_judges.proofs.Surviving.{not_each}
use Rattle.pg_cluster_judges.proofs.closed.survivors.is_taken_by_each.Goals as goal

pub returns-then-not-ended : goal.returns-then-not-ended
returns-then-not-ended c =
    let pid = c.args.pid.now in
    sym (not_each (λ x. (state_in x).ended pid) c.args.lost.now c.args.nodes.now c.loop-place.place c.index-nodes-place.result c.loop-place-test.true (sym c.was_lost.ensures ∙ c.if-not-was_lost.true)
    (ap (λ x. (state_in x).ended pid) (sym c.index-nodes-place.is) ∙ (ap (λ s. (kept_by s).ended pid) (sym c.state.ensures) ∙ (sym c.ended.ensures ∙ c.if-not-ended.true))))

pub returns : goal.returns
returns c =
    let pid = c.args.pid.now in
    let past = c.loop-place-test.false in
    sym (each_survivor (λ x. (state_in x).ended pid) c.args.lost.now c.args.nodes.now (λ k d low kept. c.loop-place.invariant k d (omega (arith, low, past)) kept))
