-- What a node does for a peer, in words of what it leaves and sends.
use Rattle.std.specs.Prelude.{◌≡◌, ℕ, true, false, [], ◌∷◌, Some, None, Ok, cond}
use Rattle.pg_term.specs.declared.pid.Pid.{Pid}
use Rattle.pg_term.specs.declared.term.Term.{Term}
use Rattle.pg_term.specs.RefParts.{RefParts}
use Rattle.pg_message_types.specs.PgGroup.declared.update.Update.{Update}
use Rattle.pg_message_types.specs.PgGroup.declared.update.Update.TheVariants.{Join}
use Rattle.pg_message_types.specs.PgGroup.Table.{changed}
use Rattle.pg_message_types.specs.PgGroup.Value.{count_in, name_of}
use Rattle.pg_lock.specs.Locks.{is_holder}
use Rattle.pg_message_types.specs.declared.message.Message.TheVariants.{Reply}
use Rattle.pg_message_types.specs.declared.message.Said.{Said}
use Rattle.pg_message_types.specs.declared.message.Said.TheVariants.{Granted, Denied, Applied}
use Rattle.pg_multicall.specs.Gathered.{what_of}
use Rattle.pg_multicall.specs.declared.gather.Taken.TheVariants as what
use Rattle.pg_exchange.specs.GroupList.{GroupList, all_merged}
use Rattle.pg_step.specs.declared.answer.Odd.TheVariants.{Stranger, Double}
use Rattle.pg_step.specs.Attempts.{gathered, is_kind, reply_under, strange}
use Rattle.pg_step.specs.Nodes.{Node, Nodes}
use Rattle.pg_step.specs.Peers.{lock_request, lock_freed, update_request, exchange, process_end}
use Rattle.pg_step.specs.State.{State, Use, formed}

-- A request for a lock: granted exactly where the node is formed and the name has no holder.
pub record LockServed (m : Nodes) (peer : Node) (reference : RefParts) (name : Term) (s : State) : Type 0 where
  pub granted : formed m s ≡ true → s.locks name ≡ None
      → ((lock_request m peer reference name s).sends peer ≡ Reply reference Granted ∷ [])
      × ((lock_request m peer reference name s).state.locks name ≡ Some reference)
  pub unformed : formed m s ≡ false
      → ((lock_request m peer reference name s).sends peer ≡ Reply reference Denied ∷ [])
      × ((lock_request m peer reference name s).state ≡ s)
  pub taken : (holder : RefParts) → s.locks name ≡ Some holder
      → ((lock_request m peer reference name s).sends peer ≡ Reply reference Denied ∷ [])
      × ((lock_request m peer reference name s).state ≡ s)

-- A lock that is freed: by its holder alone.
pub record LockFreed (name : Term) (reference : RefParts) (s : State) : Type 0 where
  pub freed : is_holder (s.locks name) reference ≡ true → (lock_freed name reference s).state.locks name ≡ None
  pub kept : is_holder (s.locks name) reference ≡ false → (lock_freed name reference s).state ≡ s

-- An update of a peer: applied whoever holds the lock, and then answered. A join of a process that has ended adds nothing.
pub record UpdateServed (peer : Node) (reference : RefParts) (update : Update) (s : State) : Type 0 where
  pub applied : (update_request peer reference update s).state.table ≡ changed s.table update s.ended
  pub reported : (update_request peer reference update s).reported.applied ≡ Some update
  pub answered : (update_request peer reference update s).sends peer ≡ Reply reference Applied ∷ []
  pub ended : (name : Term) (pid : Pid) → update ≡ Join name pid → s.ended pid ≡ true
      → count_in ((update_request peer reference update s).state.table name) pid ≡ count_in (s.table name) pid

-- What a peer announces and ends.
pub record NewsTaken (peer : Node) (groups : GroupList) (pid : Pid) (s : State) : Type 0 where
  pub merged : (exchange peer groups s).state.table ≡ all_merged s.table groups s.ended
  pub counted : (exchange peer groups s).state.merged peer ≡ true
  pub ended : (process_end pid s).state.ended pid ≡ true
  pub gone : (name : Term) → count_in ((process_end pid s).state.table name) pid ≡ 0

-- A reply that nobody waits for changes nothing.
pub record OddReplies (used : Use) (m : Nodes) (peer : Node) (number : ℕ) (said : Said) (s : State) : Type 0 where
  pub stranger : what_of true (gathered used peer) ≡ what.Stranger → reply_under used m peer number said s ≡ Ok (strange Stranger s)
  pub double : what_of true (gathered used peer) ≡ what.Double → is_kind used said ≡ true → reply_under used m peer number said s ≡ Ok (strange Double s)
