use Rattle.std.proofs.Common.{◌≡◌, ◌||◌, length, true}
use Rattle.std.proofs.Common.{sym, ap, ap₂, ◌∙◌, arith}
use Rattle.std.specs.Prelude.{◌&&◌}
use Rattle.pg_cluster_judges.specs.Survivors.{has_event, is_change_of}
use Rattle.pg_cluster_judges.specs.Survivors.{is_missing, is_take_of, log_at, was_lost}
use Rattle.pg_cluster_judges.proofs.Surviving.{any_found, any_none}
use Rattle.pg_cluster_judges.proofs.Surviving.{log_here}
use Rattle.pg_cluster_judges.proofs.Surviving.{or_right}
use Rattle.pg_cluster_judges.proofs.closed.survivors.is_of_lost.Goals as goal
use Rattle.pg_cluster_judges.proofs.closed.survivors.is_of_lost.Goals.{then-asks, else-asks}

pub returns-then-misses_packets : goal.returns-then-misses_packets
returns-then-misses_packets c =
    let lost = c.args.lost.now in
    let logs = c.args.logs.now in
    let name = c.args.name.now in
    let node = c.loop-node.node in
    let log = log_here logs node c.index-logs-node.result c.as_slice.result.now c.loop-node-test.true c.index-logs-node.is c.as_slice.ensures.value in
    let one : (has_event (is_change_of name) (log_at logs node) || is_missing is_take_of lost logs node) ≡ true = elim c.if-asks.branch [
      | then-asks w ↦ ap (λ b. b || is_missing is_take_of lost logs node) (sym (ap (has_event (is_change_of name)) log) ∙ (sym c.asks.ensures ∙ w.if-asks.true))
      | else-asks w ↦ or_right (has_event (is_change_of name) (log_at logs node)) (is_missing is_take_of lost logs node) (sym w.misses_packets.ensures ∙ (sym w.value-is ∙ c.if-misses_packets.true))
    ] in
    sym (any_found (λ k. was_lost lost k && (has_event (is_change_of name) (log_at logs k) || is_missing is_take_of lost logs k)) node (length logs) c.loop-node-test.true
    (ap₂ (λ a b. a && b) (sym c.was_lost.ensures ∙ c.if-was_lost.true) one))

pub returns : goal.returns
returns c =
    let lost = c.args.lost.now in
    let logs = c.args.logs.now in
    let name = c.args.name.now in
    let past = c.loop-node-test.false in
    sym (any_none (λ k. was_lost lost k && (has_event (is_change_of name) (log_at logs k) || is_missing is_take_of lost logs k)) (length logs)
    (λ k low. c.loop-node.invariant k (omega (arith, low, past))))
