-- What a node does for a peer: it answers a request for a lock or for an update, and it takes in what the peer tells
-- of a lock, of its groups or of a process (global:set_lock/2 and global:del_lock/1 of the global manual page, and
-- gen_server:multi_call/2 of the gen_server manual page, in this project's profile).
use Rattle.std.specs.Prelude.{Bool, true, false, not, ◌||◌, Some}
use Rattle.pg_term.specs.declared.pid.Pid.{Pid}
use Rattle.pg_term.specs.declared.term.Term.{Term}
use Rattle.pg_term.specs.RefParts.{RefParts}
use Rattle.pg_term.specs.Same.{same_atom, same_pid}
use Rattle.pg_message_types.specs.PgGroup.declared.update.Update.{Update}
use Rattle.pg_message_types.specs.PgGroup.Functions.{upd}
use Rattle.pg_message_types.specs.PgGroup.Table.{changed, without}
use Rattle.pg_lock.specs.Locks.{grants, after_ask, given_up, is_holder}
use Rattle.pg_message_types.specs.declared.message.Message.TheVariants.{Reply}
use Rattle.pg_message_types.specs.declared.message.Said.{Said}
use Rattle.pg_message_types.specs.declared.message.Said.TheVariants.{Granted, Denied, Applied}
use Rattle.pg_exchange.specs.GroupList.{GroupList, all_merged}
use Rattle.pg_step.specs.Nodes.{Node, Nodes, to_one}
use Rattle.pg_step.specs.State.{State, formed}
use Rattle.pg_step.specs.Turns.{NodeTurn, nothing, becomes, becomes_and_sends}

-- whether the node grants the lock of a name: it is formed, and the name has no holder
abbrev pub would_grant : Nodes → State → Term → Bool
would_grant m s name = grants (formed m s) s.locks name

abbrev pub verdict : Bool → Said
verdict true = Granted
verdict false = Denied

-- A request for a lock. Granted, the reference is the holder from now on; the peer is told true or false.
abbrev pub lock_request : Nodes → Node → RefParts → Term → State → NodeTurn
lock_request m p reference name s = becomes_and_sends
    (record s { locks = after_ask (would_grant m s name) s.locks name reference })
    (to_one p (Reply reference (verdict (would_grant m s name))))

-- A request for an update. The table is changed, whoever holds the lock (a join of a process that has ended adds
-- nothing), and the peer is told ok.
abbrev pub update_request : Node → RefParts → Update → State → NodeTurn
update_request p reference update s = record {
  state = record s { table = changed s.table update s.ended };
  sends = to_one p (Reply reference Applied);
  reported = record nothing { applied = Some update };
}

-- A lock is freed where this reference is its holder, and else nothing changes.
abbrev pub lock_freed : Term → RefParts → State → NodeTurn
lock_freed name reference s = becomes (record s { locks = given_up (is_holder (s.locks name) reference) s.locks name })

-- an exchange is refused that names another node than the one that sent it, or comes a second time
abbrev pub is_bad_exchange : Node → Node → State → Bool
is_bad_exchange p named s = not (same_atom named p) || s.merged p

-- The first groups of a peer. Each is merged: the greater count of each process that has not ended.
abbrev pub exchange : Node → GroupList → State → NodeTurn
exchange p groups s = becomes (record s { table = all_merged s.table groups s.ended; merged = upd same_atom s.merged p true })

-- the state after the end of a process: it is among the ended, and in no group
abbrev pub ended_in : Pid → State → State
ended_in pid s = record s { ended = upd same_pid s.ended pid true; table = without s.table pid }

-- The end of a process.
abbrev pub process_end : Pid → State → NodeTurn
process_end pid s = becomes (ended_in pid s)
