use Rattle.std.proofs.Common.{length}
use Rattle.std.proofs.Common.{sym, ap₂, ◌∙◌, arith}
use Rattle.std.specs.Prelude.{◌&&◌}
use Rattle.pg_cluster_judges.specs.Survivors.{is_loss_of}
use Rattle.pg_cluster_judges.specs.Survivors.{is_missing, was_lost}
use Rattle.pg_cluster_judges.proofs.Surviving.{any_found, any_none}
use Rattle.pg_cluster_judges.proofs.closed.survivors.is_loss_pending.Goals as goal

pub returns-then-misses_loss : goal.returns-then-misses_loss
returns-then-misses_loss c =
    let lost = c.args.lost.now in
    let logs = c.args.logs.now in
    sym (any_found (λ k. was_lost lost k && is_missing is_loss_of lost logs k) c.loop-node.node (length logs) c.loop-node-test.true
    (ap₂ (λ a b. a && b) (sym c.was_lost.ensures ∙ c.if-was_lost.true) (sym c.misses_loss.ensures ∙ c.if-misses_loss.true)))

pub returns : goal.returns
returns c =
    let lost = c.args.lost.now in
    let logs = c.args.logs.now in
    let past = c.loop-node-test.false in
    sym (any_none (λ k. was_lost lost k && is_missing is_loss_of lost logs k) (length logs) (λ k low. c.loop-node.invariant k (omega (arith, low, past))))
