-- The places of peers.
use Rattle.std.proofs.Common.{◌≡◌, ◌<◌, ◌+◌, ◌-◌, ◌^◌, ℕ, Bool, true, false, cond}
use Rattle.std.proofs.Common.{nat_lt, min}
use Rattle.std.proofs.Common.{refl, arith}
use Rattle.pg_world.specs.PgWorldPackets.Views.{place_of_peer}
use Rattle.pg_cluster_judges.specs.Schedule.{node_of_peer}

-- a place within 16 is the same as a machine word counts it
pub peer_within : (i peer : ℕ) → place_of_peer i peer < 17 → node_of_peer i peer ≡ place_of_peer i peer
peer_within i peer low = go (nat_lt peer i) low
  where
    go : (b : Bool) → cond {A = ℕ} b peer (peer + 1) < 17 → ◌≡◌ {A = ℕ} (cond b peer (min (peer + 1) (2 ^ 64 - 1))) (cond b peer (peer + 1))
    go true l = refl
    go false l = omega (arith, l)
