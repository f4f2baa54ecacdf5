-- What a cluster is seen as.
use Rattle.std.specs.Prelude.{◌≡◌, ℕ, Bool, List, Some, map, slice_get}
use Rattle.pg_ring.specs.declared.slot_out.SlotOut.{SlotOut}
use Rattle.pg_cluster_judges.specs.PgNodeRun.declared.notices.Notice.{Notice}
use Rattle.pg_cluster.specs.declared.cluster.Cluster.{Cluster}
use Rattle.pg_cluster.specs.Members.{last_of, threads_in, losses_in}
use Rattle.pg_cluster.specs.Clients.{AllPairs}
use Rattle.pg_cluster.specs.Notices.{AllNotified, Told}
use Rattle.pg_cluster.specs.Threads.{Joined, RanOf, Thread, notices_ended}

-- the threads of a cluster, by the places of their nodes
abbrev pub threads_of : {K : Type 0} → Cluster K → List (Thread K)
threads_of cluster = threads_in cluster.members.items

-- where each of its nodes is told of losses, and the clock of each that was lost at last
abbrev pub tellers_of : {K : Type 0} → Cluster K → List (SlotOut Notice)
tellers_of cluster = cluster.tellers.items

abbrev pub lasts_of : {K : Type 0} → Cluster K → List ℕ
lasts_of cluster = map last_of cluster.members.items

-- Each other node was told that this one was lost, with its clock at last, and nothing else.
pub record AllTold {K : Type 0} (node : ℕ) (a b : Cluster K) : Type 0 where
  pub last : ℕ
  pub clock : slice_get (lasts_of b) node ≡ Some last
  pub told : AllNotified node last (tellers_of a) (tellers_of b)

-- What came of the notices at each node, as its thread ended, is, in order, the first of what the node was told.
pub record NoticesCame {K : Type 0} (tellers : List (SlotOut Notice)) (threads : List (Thread K)) : Type 0 where
  pub rans : List (RanOf K)
  pub joined : Joined threads rans
  pub told : AllPairs Told tellers (notices_ended rans)

-- which of its nodes were lost, by their places
abbrev pub lost_of : {K : Type 0} → Cluster K → List Bool
lost_of cluster = losses_in cluster.members.items
