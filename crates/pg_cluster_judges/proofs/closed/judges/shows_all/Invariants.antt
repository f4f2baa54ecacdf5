use Rattle.std.proofs.Common.{◌≡◌, ◌<◌, ℕ}
use Rattle.std.specs.Prelude.{Some, slice_get}
use Rattle.pg_world.specs.Crossings.{node_of}
use Rattle.pg_world.specs.PgWorldPackets.FrameWorlds.{view_of}
use Rattle.pg_cluster_judges.proofs.closed.judges.shows_all.Given as goal

abbrev pub invariant-loop-place : goal.invariant-loop-place
invariant-loop-place l = (i : ℕ) (node : _) → i < l.place → slice_get l.nodes i ≡ Some node → slice_get (view_of l.world).traffic.nodes i ≡ Some (node_of node)
