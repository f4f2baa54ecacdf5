-- The threads of a cluster, and what comes back from them.
use Rattle.std.specs.Prelude.{◌≡◌, ℕ, ◌<◌, ◌≤◌, ◌+◌, Bool, false, List, [], Option}
use Rattle.std.specs.Prelude.{Some, None, get_or, length, map, slice_index_or}
use Rattle.std.specs.List.{All, AllByRecursion, flat_map}
use Rattle.std.specs.declared.thread.PromisedHandle.{PromisedHandle}
use Rattle.pg_cluster_judges.specs.PgIndex.declared.index_table.IndexTable.{IndexTable}
use Rattle.pg_cluster_judges.specs.PgIndex.contracts.index_table.IndexTableGroupTable.TheImpl.{ghosts}
use Rattle.pg_cluster_judges.specs.PgNode.Nodes.{held_by}
use Rattle.pg_cluster_judges.specs.PgNodeState.States.{names_of, state_of}
use Rattle.pg_ring.specs.declared.ring_out.RingOut.{RingOut}
use Rattle.pg_ring.specs.declared.ring_in.RingIn.{RingIn}
use Rattle.pg_ring.specs.declared.slot_in.SlotIn.{SlotIn}
use Rattle.pg_ring.specs.Ends.{bytes_room}
use Rattle.pg_ring.specs.Slots.{taken}
use Rattle.pg_cluster_judges.specs.PgNodeRun.declared.log.NodeEvent.{NodeEvent}
use Rattle.pg_cluster_judges.specs.PgNodeRun.declared.notices.Notice.{Notice}
use Rattle.pg_cluster_judges.specs.PgNodeRun.declared.port.Port.{Port}
use Rattle.pg_cluster_judges.specs.PgNodeRun.declared.run.NodeRun.{NodeRun}
use Rattle.pg_cluster_judges.specs.PgNodeRun.declared.running.Ran.{Ran}
use Rattle.pg_cluster_judges.specs.PgNodeRun.Follows.{node_of, peers_of, log_of}
use Rattle.pg_cluster_judges.specs.PgNodeRun.Ports.{IsUnused}
use Rattle.pg_cluster_judges.specs.PgNodeRun.Notices.{IsUntold}
use Rattle.pg_cluster_judges.specs.PgNodeRun.Runs.{linked_of, ports_at, notices_at, notices_of}
use Rattle.pg_cluster_judges.specs.declared.closed.TurnCount.{TurnCount}
use Rattle.pg_cluster.specs.declared.promise.RanFrom.{RanFrom}
use Rattle.pg_cluster_judges.specs.PgStep.Config.{Config}
use Rattle.pg_cluster_judges.specs.Apart.{End}
use Rattle.pg_cluster_judges.specs.PgWorld.BytesStart.{BytesBegin}
use Rattle.pg_cluster_judges.specs.PgWorld.Crossings.{idle_crossing}
use Rattle.pg_cluster_judges.specs.PgWorldAccount.Histories.{no_account}
use Rattle.pg_cluster_judges.specs.NodeOf.{NodeOf}
use Rattle.pg_cluster.specs.Ended.{AreWired, AllCrossed}
use Rattle.pg_cluster.specs.Notices.{IsOfLost}
use Rattle.pg_cluster_judges.specs.Schedule.{NobodyLost}
use Rattle.pg_cluster.specs.Promises.{RanAs}

-- these links are one to each peer of the node
abbrev pub HasLinks : List End → NodeOf → Type 0
HasLinks row node = length row + 1 ≡ length (names_of (held_by node))

-- a node as its thread runs it, and as it has run
abbrev pub RunOf : Type 0 → Type 0
RunOf K = NodeRun IndexTable RingOut RingIn K ghosts

abbrev pub RanOf : Type 0 → Type 0
RanOf K = Ran IndexTable RingOut RingIn K ghosts

abbrev pub Thread : Type 0 → Type 0
Thread K = PromisedHandle (RanOf K) (RanFrom K)

module _ {K : Type 0} where
  -- ---- nodes before they run, and once they have

  abbrev pub node_in : RunOf K → NodeOf
  node_in run = node_of (linked_of run)

  abbrev pub row_in : RunOf K → List End
  row_in run = peers_of (linked_of run)

  abbrev pub log_in : RunOf K → List (ℕ × NodeEvent)
  log_in run = log_of (linked_of run)

  -- the ports of these nodes, those of the first node first
  abbrev pub ports_of_runs : List (RunOf K) → List Port
  ports_of_runs runs = flat_map ports_at runs

  -- These are the nodes of a configuration as they start, each with a log in which nothing stands and ports that were not used, told of
  -- no loss, and with rings between each two.
  pub record AreMade (given : Config) (runs : List (RunOf K)) : Type 0 where
    pub count : length runs ≡ length given
    pub some : 0 < length given
    pub few : length given ≤ 16
    pub begins : BytesBegin given (idle_crossing (map node_in runs)) no_account
    pub unlogged : All (λ run. log_in run ≡ []) runs
    pub unused : All IsUnused (ports_of_runs runs)
    pub untold : All (λ run. IsUntold (notices_of run)) runs
    pub wired : AreWired (length runs) (map row_in runs)

  -- each ring from a node to another has room for so many bytes
  abbrev pub HaveRings : ℕ → List (RunOf K) → Type 0
  HaveRings room runs = All (λ run. All (λ peer. bytes_room peer.link ≡ room) (row_in run)) runs

  -- ---- threads

  -- the node of a thread as it began, and how many turns it makes at most
  abbrev pub begun_by : Thread K → RunOf K
  begun_by thread = thread.promise.run.value

  abbrev pub limit_of : Thread K → ℕ
  limit_of thread = thread.promise.limit

  -- Where the thread runs no more it was joined, and gave back what it promised.
  abbrev pub Holds : Thread K → Option (Thread K) → Option (RanOf K) → Type 0
  Holds started (Some thread) ran = Unit {0}
  Holds started None (Some ran) = RanAs (begun_by started) (limit_of started) ran
  Holds started None None = ⊥

  -- the thread that runs, or ran
  abbrev pub thread_or : Thread K → Option (Thread K) → Thread K
  thread_or started (Some thread) = thread
  thread_or started None = started

  -- thread i runs node i
  abbrev pub StartedWith : List (RunOf K) → ℕ → List (Thread K) → Type 0
  StartedWith runs limit threads =
      (length threads ≡ length runs)
      × ((i : ℕ) (run : RunOf K) (thread : Thread K) → i < length threads
      → (begun_by (slice_index_or threads i thread) ≡ slice_index_or runs i run) × (limit_of (slice_index_or threads i thread) ≡ limit))

  -- what came back from thread i is what it promised
  abbrev pub Joined : List (Thread K) → List (RanOf K) → Type 0
  Joined threads rans =
      (length rans ≡ length threads)
      × ((i : ℕ) (thread : Thread K) (ran : RanOf K) → i < length rans
      → RanAs (begun_by (slice_index_or threads i thread)) (limit_of (slice_index_or threads i thread)) (slice_index_or rans i ran))

  -- the rings of the nodes as the threads began, and as they ended
  abbrev pub rows_begun : List (Thread K) → List (List End)
  rows_begun threads = map (λ thread. row_in (begun_by thread)) threads

  abbrev pub rows_ended : List (RanOf K) → List (List End)
  rows_ended rans = map (λ ran. row_in ran.run) rans

  -- where the nodes are told of losses, as the threads began, and as they ended
  abbrev pub notices_begun : List (Thread K) → List (SlotIn Notice)
  notices_begun threads = map (λ thread. notices_at (begun_by thread)) threads

  abbrev pub notices_ended : List (RanOf K) → List (SlotIn Notice)
  notices_ended rans = map (λ ran. notices_at ran.run) rans

  -- the clocks of the nodes as the threads ended
  abbrev pub lasts_ended : List (RanOf K) → List ℕ
  lasts_ended rans = map (λ ran. (state_of (held_by (node_in ran.run))).clock) rans

  -- how many turns a node made as it ran, and how many of them were short
  abbrev pub turns_in : RanOf K → TurnCount
  turns_in ran = record { made = ran.turns; short = ran.short }

  -- Each thread ran its node, from where it began, to one of these nodes, with one of these logs, in so many turns; what crossed
  -- between each two is what was sent; the notices that came at each node are of nodes that were lost, with their clocks at last; and
  -- where no node was lost no notice of a loss came.
  pub record EndedWith (lost : List Bool) (threads : List (Thread K)) (nodes : List NodeOf) (logs : List (List (ℕ × NodeEvent))) (turns : List TurnCount) : Type 0 where
    pub rans : List (RanOf K)
    pub joined : Joined threads rans
    pub ended : nodes ≡ map (λ ran. node_in ran.run) rans
    pub logged : logs ≡ map (λ ran. log_in ran.run) rans
    pub counted : turns ≡ map turns_in rans
    pub crossed : AllCrossed (length threads) (rows_begun threads) (rows_ended rans)
    pub marked : length lost ≡ length threads
    pub told : (place : ℕ) (none : SlotIn Notice) → place < length lost
        → AllByRecursion (IsOfLost (length lost) (λ node. get_or lost node false) (λ node. get_or (lasts_ended rans) node 0) place) (taken (get_or (notices_ended rans) place none))
    pub untold : NobodyLost lost → All (λ inlet. taken inlet ≡ []) (notices_ended rans)
