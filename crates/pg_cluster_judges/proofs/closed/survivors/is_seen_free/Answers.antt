use Rattle.std.proofs.Common.{rules, ◌≡◌, true}
use Rattle.std.proofs.Common.{sym, ap, ◌∙◌, arith}
use Rattle.std.specs.Prelude.{is_none}
use Rattle.pg_cluster_judges.specs.Judges.{state_in}
use Rattle.pg_cluster_judges.proofs.Surviving.{any_survivor}
use Rattle.pg_cluster_judges.proofs.Surviving.{no_survivor}
use Rattle.pg_cluster_judges.proofs.closed.survivors.is_seen_free.Goals as goal

pub returns-then-is_none : goal.returns-then-is_none
returns-then-is_none c =
    let name = c.args.name.now in
    let here : is_none ((state_in c.index-nodes-place.result).locks name) ≡ true = search rules in
    sym (any_survivor (λ x. is_none ((state_in x).locks name)) c.args.lost.now c.args.nodes.now c.loop-place.place c.index-nodes-place.result c.loop-place-test.true (sym c.was_lost.ensures ∙ c.if-not-was_lost.true)
    (ap (λ x. is_none ((state_in x).locks name)) (sym c.index-nodes-place.is) ∙ here))

pub returns : goal.returns
returns c =
    let name = c.args.name.now in
    let past = c.loop-place-test.false in
    sym (no_survivor (λ x. is_none ((state_in x).locks name)) c.args.lost.now c.args.nodes.now (λ k d low kept. c.loop-place.invariant k d (omega (arith, low, past)) kept))
