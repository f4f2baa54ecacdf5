use Rattle.std.proofs.Common.{◌≡◌, ℕ, length, false}
use Rattle.std.proofs.Common.{not, sym, ap, ◌∙◌, arith}
use Rattle.std.specs.Prelude.{◌&&◌}
use Rattle.pg_world.specs.PgWorldPackets.Views.{peer_place}
use Rattle.pg_cluster_judges.specs.Survivors.{has_event, is_loss_of}
use Rattle.pg_cluster_judges.specs.Survivors.{log_at, was_lost}
use Rattle.pg_cluster_judges.proofs.Surviving.{any_found, any_none}
use Rattle.pg_cluster_judges.proofs.Surviving.{missing_here}
use Rattle.pg_cluster_judges.proofs.Surviving.{more_places}
use Rattle.pg_cluster_judges.proofs.closed.survivors.misses_loss.Goals as goal
use Rattle.pg_cluster_judges.proofs.closed.survivors.misses_loss.Goals.{else-not-was_lost-via-then-not-was_lost+else-not-saw}
use Rattle.pg_cluster_judges.proofs.closed.survivors.misses_loss.Goals.{else-not-was_lost-via-else-not-was_lost}

pub returns-then-not-saw : goal.returns-then-not-saw
returns-then-not-saw c =
    let lost = c.args.lost.now in
    let logs = c.args.logs.now in
    let place = c.loop-place.place in
    sym (any_found (λ k. not (was_lost lost k) && not (has_event (is_loss_of (peer_place k c.args.node)) (log_at logs k))) place (length logs) c.loop-place-test.true
    (missing_here is_loss_of lost logs c.args.node place c.place_among.result c.index-logs-place.result c.as_slice.result.now c.saw.result c.loop-place-test.true c.index-logs-place.is c.as_slice.ensures.value
    c.place_among.ensures c.saw.ensures (sym c.was_lost.ensures ∙ c.if-not-was_lost.true) ∙ ap not c.if-not-saw.true))

pub loop-place-preserved : goal.loop-place-preserved
loop-place-preserved c =
    let lost = c.args.lost.now in
    let logs = c.args.logs.now in
    let place = c.loop-place.place in
    let Q = λ (k : ℕ). (not (was_lost lost k) && not (has_event (is_loss_of (peer_place k c.args.node)) (log_at logs k))) ≡ false in
    more_places Q place c.loop-place.invariant (elim c.else-not-was_lost.branch [
      | else-not-was_lost-via-then-not-was_lost+else-not-saw w ↦
          missing_here is_loss_of lost logs c.args.node place w.place_among.result w.index-logs-place.result w.as_slice.result.now w.saw.result c.loop-place-test.true w.index-logs-place.is
          w.as_slice.ensures.value w.place_among.ensures w.saw.ensures (sym c.was_lost.ensures ∙ w.if-not-was_lost.true) ∙ ap not w.if-not-saw.false
      | else-not-was_lost-via-else-not-was_lost w ↦
          ap (λ b. not b && not (has_event (is_loss_of (peer_place place c.args.node)) (log_at logs place))) (sym c.was_lost.ensures ∙ w.if-not-was_lost.false)
    ])

pub returns : goal.returns
returns c =
    let lost = c.args.lost.now in
    let logs = c.args.logs.now in
    let past = c.loop-place-test.false in
    sym (any_none (λ k. not (was_lost lost k) && not (has_event (is_loss_of (peer_place k c.args.node)) (log_at logs k))) (length logs) (λ k low. c.loop-place.invariant k (omega (arith, low, past))))
