use Rattle.std.proofs.Common.{◌≡◌, ℕ, length, false}
use Rattle.std.proofs.Common.{not, sym, ap, ◌∙◌, arith}
use Rattle.std.specs.Prelude.{◌&&◌}
use Rattle.pg_world.specs.PgWorldPackets.Views.{peer_place}
use Rattle.pg_cluster_judges.specs.Survivors.{has_event}
use Rattle.pg_cluster_judges.specs.Survivors.{is_take_of, log_at, was_lost}
use Rattle.pg_cluster_judges.proofs.Surviving.{any_found, any_none}
use Rattle.pg_cluster_judges.proofs.Surviving.{missing_here}
use Rattle.pg_cluster_judges.proofs.Surviving.{more_places}
use Rattle.pg_cluster_judges.proofs.closed.survivors.misses_packets.Goals as goal
use Rattle.pg_cluster_judges.proofs.closed.survivors.misses_packets.Goals.{else-not-was_lost-via-then-not-was_lost+else-not-took}
use Rattle.pg_cluster_judges.proofs.closed.survivors.misses_packets.Goals.{else-not-was_lost-via-else-not-was_lost}

pub returns-then-not-took : goal.returns-then-not-took
returns-then-not-took c =
    let lost = c.args.lost.now in
    let logs = c.args.logs.now in
    let place = c.loop-place.place in
    sym (any_found (λ k. not (was_lost lost k) && not (has_event (is_take_of (peer_place k c.args.node)) (log_at logs k))) place (length logs) c.loop-place-test.true
    (missing_here is_take_of lost logs c.args.node place c.place_among.result c.index-logs-place.result c.as_slice.result.now c.took.result c.loop-place-test.true c.index-logs-place.is c.as_slice.ensures.value
    c.place_among.ensures c.took.ensures (sym c.was_lost.ensures ∙ c.if-not-was_lost.true) ∙ ap not c.if-not-took.true))

pub loop-place-preserved : goal.loop-place-preserved
loop-place-preserved c =
    let lost = c.args.lost.now in
    let logs = c.args.logs.now in
    let place = c.loop-place.place in
    let Q = λ (k : ℕ). (not (was_lost lost k) && not (has_event (is_take_of (peer_place k c.args.node)) (log_at logs k))) ≡ false in
    more_places Q place c.loop-place.invariant (elim c.else-not-was_lost.branch [
      | else-not-was_lost-via-then-not-was_lost+else-not-took w ↦
          missing_here is_take_of lost logs c.args.node place w.place_among.result w.index-logs-place.result w.as_slice.result.now w.took.result c.loop-place-test.true w.index-logs-place.is
          w.as_slice.ensures.value w.place_among.ensures w.took.ensures (sym c.was_lost.ensures ∙ w.if-not-was_lost.true) ∙ ap not w.if-not-took.false
      | else-not-was_lost-via-else-not-was_lost w ↦
          ap (λ b. not b && not (has_event (is_take_of (peer_place place c.args.node)) (log_at logs place))) (sym c.was_lost.ensures ∙ w.if-not-was_lost.false)
    ])

pub returns : goal.returns
returns c =
    let lost = c.args.lost.now in
    let logs = c.args.logs.now in
    let past = c.loop-place-test.false in
    sym (any_none (λ k. not (was_lost lost k) && not (has_event (is_take_of (peer_place k c.args.node)) (log_at logs k))) (length logs) (λ k low. c.loop-place.invariant k (omega (arith, low, past))))
