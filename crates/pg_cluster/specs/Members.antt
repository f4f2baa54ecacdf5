-- What the nodes of a cluster are seen as.
use Rattle.std.specs.Prelude.{ℕ, Bool, List, Option, Some, None, is_none, map}
use Rattle.pg_cluster_judges.specs.PgNode.Nodes.{held_by}
use Rattle.pg_cluster_judges.specs.PgNodeState.States.{state_of}
use Rattle.pg_cluster.specs.declared.member.Member.{Member}
use Rattle.pg_cluster.specs.Threads.{RanOf, Thread, node_in, thread_or}

module _ {K : Type 0} where
  -- the thread of a node, as it was started
  abbrev pub thread_of : Member K → Thread K
  thread_of member = thread_or member.joined.value member.thread

  abbrev pub threads_in : List (Member K) → List (Thread K)
  threads_in members = map thread_of members

  -- whether a node was lost
  abbrev pub is_lost : Member K → Bool
  is_lost member = is_none member.thread

  abbrev pub losses_in : List (Member K) → List Bool
  losses_in members = map is_lost members

  -- the clock of a node at last, once its thread was joined
  abbrev pub last_in : Option (RanOf K) → ℕ
  last_in None = 0
  last_in (Some ran) = (state_of (held_by (node_in ran.run))).clock

  abbrev pub last_of : Member K → ℕ
  last_of member = last_in member.ran

  abbrev pub lasts_in : List (Member K) → List ℕ
  lasts_in members = map last_of members

  -- the clock of a node that has run
  abbrev pub clock_of : RanOf K → ℕ
  clock_of ran = (state_of (held_by (node_in ran.run))).clock
