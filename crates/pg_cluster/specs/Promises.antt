-- What the threads promise.
use Rattle.std.specs.Prelude.{ℕ, ◌≤◌}
use Rattle.pg_cluster_judges.specs.PgGroup.declared.table.GroupTable.{Ghosts}
use Rattle.pg_ring.specs.declared.ring_out.RingOut.{RingOut}
use Rattle.pg_ring.specs.declared.ring_in.RingIn.{RingIn}
use Rattle.pg_ring.specs.Ends.{Sends, Receives}
use Rattle.pg_cluster_judges.specs.PgNodeRun.declared.run.NodeRun.{NodeRun}
use Rattle.pg_cluster_judges.specs.PgNodeRun.declared.running.Ran.{Ran}
use Rattle.pg_cluster_judges.specs.PgNodeRun.Runs.{Runs, RanBy, Ended, stop_of}

-- Of so many bytes a ring takes in no more, and it gives no more. How many it does its ends find.
abbrev pub TakesIn : RingOut → ℕ → ℕ → Type 0
TakesIn end offered count = count ≤ offered

abbrev pub GivesUpTo : RingIn → ℕ → ℕ → Type 0
GivesUpTo end asked count = count ≤ asked

-- what a thread tells of the node that it was given
pub record RanAs {T K : Type 0} {g : Ghosts T} (run : NodeRun T RingOut RingIn K g) (limit : ℕ) (ran : Ran T RingOut RingIn K g) : Type 0 where
  pub runs : Runs Sends Receives run ran.run
  pub made : RanBy Sends Receives TakesIn GivesUpTo run ran
  pub turns : ran.turns ≤ limit
  pub short : ran.short ≤ ran.turns
  pub ended : Ended Receives (stop_of run) (stop_of ran.run) limit ran.turns
