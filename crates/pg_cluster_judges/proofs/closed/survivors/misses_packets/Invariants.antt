use Rattle.std.proofs.Common.{◌≡◌, ◌<◌, ℕ}
use Rattle.std.specs.Prelude.{false, ◌&&◌, not}
use Rattle.pg_world.specs.PgWorldPackets.Views.{peer_place}
use Rattle.pg_cluster_judges.specs.Survivors.{has_event}
use Rattle.pg_cluster_judges.specs.Survivors.{is_take_of, log_at, was_lost}
use Rattle.pg_cluster_judges.proofs.closed.survivors.misses_packets.Given as goal

abbrev pub invariant-loop-place : goal.invariant-loop-place
invariant-loop-place l = (k : ℕ) → k < l.place → (not (was_lost l.lost k) && not (has_event (is_take_of (peer_place k l.node)) (log_at l.logs k))) ≡ false
