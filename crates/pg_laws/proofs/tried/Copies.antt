-- Single turns of the machine once more, word for word but for the tests over all nodes, which are written out.
-- Tried.antt proves of each what the laws need of the turn itself, and each edit of edits/ makes one of them a wrong
-- turn, of which that cannot be proved.
use Rattle.std.proofs.Common.{ℕ, ◌+◌, Bool, true, ◌&&◌, cond, nat_eq, List, [], ◌∷◌, Some, None}
use Rattle.std.specs.Prelude.{max}
use Rattle.std.specs.List.{list_all}
use Rattle.pg_term.specs.declared.pid.Pid.{Pid}
use Rattle.pg_term.specs.declared.term.Term.{Term}
use Rattle.pg_term.specs.RefParts.{RefParts}
use Rattle.pg_term.specs.Same.{same_atom, same_term}
use Rattle.pg_step.specs.PgGroup.declared.update.Update.{Update}
use Rattle.pg_step.specs.PgGroup.Functions.{upd}
use Rattle.pg_step.specs.PgGroup.Value.{Counts, Value, less, listed, name_of}
use Rattle.pg_step.specs.PgGroup.Table.{Table, changed}
use Rattle.pg_step.specs.PgLock.Attempts.{after_round, does_wait}
use Rattle.pg_step.specs.PgLock.Locks.{Locks, after_ask, given_up, is_free, is_holder}
use Rattle.pg_step.specs.PgExchange.GroupList.{GroupList}
use Rattle.pg_step.specs.PgMessageTypes.declared.message.Message.TheVariants.{Call, Reply}
use Rattle.pg_step.specs.PgMessageTypes.declared.message.Request.TheVariants.{Change}
use Rattle.pg_step.specs.PgMessageTypes.declared.message.Said.TheVariants.{Applied}
use Rattle.pg_step.specs.declared.command.OpId.{OpId}
use Rattle.pg_step.specs.Nodes.{Node, Nodes, all_of, to_one, to_peers}
use Rattle.pg_step.specs.State.{State, Status, Use, formed}
use Rattle.pg_step.specs.State.Status.{Unasked}
use Rattle.pg_step.specs.State.Use.{Locking, Owning, Updating}
use Rattle.pg_step.specs.State.Stage.{Asking, Changing}
use Rattle.pg_step.specs.Turns.{NodeTurn, nothing, becomes, becomes_and_sends, and_then}
use Rattle.pg_step.specs.Peers.{verdict}
use Rattle.pg_step.specs.Attempts.{same_op, own_reference, is_yes, none_denied, none_missing}
use Rattle.pg_step.specs.Attempts.{round_of, ask, give_up, finish, replies_in, locks_in, begin}

-- ---- what a peer asks for

abbrev pub copied_grants : Bool → Locks → Term → Bool
copied_grants formed locks name = formed && is_free (locks name)

abbrev pub copied_would_grant : Nodes → State → Term → Bool
copied_would_grant m s name = copied_grants (formed m s) s.locks name

abbrev pub copied_lock_request : Nodes → Node → RefParts → Term → State → NodeTurn
copied_lock_request m p reference name s = becomes_and_sends
    (record s { locks = after_ask (copied_would_grant m s name) s.locks name reference })
    (to_one p (Reply reference (verdict (copied_would_grant m s name))))

abbrev pub copied_update_request : Node → RefParts → Update → State → NodeTurn
copied_update_request p reference update s = record {
  state = record s { table = changed s.table update s.ended };
  sends = to_one p (Reply reference Applied);
  reported = record nothing { applied = Some update };
}

abbrev pub copied_lock_freed : Term → RefParts → State → NodeTurn
copied_lock_freed name reference s = becomes (record s { locks = given_up (is_holder (s.locks name) reference) s.locks name })

-- ---- an exchange

abbrev pub copied_greater : Counts → Counts → Counts
copied_greater f g pid = max (f pid) (g pid)

abbrev pub copied_merge : Value → Value → Value
copied_merge None w = w
copied_merge (Some f) None = Some f
copied_merge (Some f) (Some g) = Some (copied_greater f g)

abbrev pub copied_exchanged : Value → List Pid → (Pid → Bool) → Value
copied_exchanged v pids ended = copied_merge v (less (listed pids) ended)

abbrev pub copied_merged : Table → Term → List Pid → (Pid → Bool) → Table
copied_merged table name pids ended = upd same_term table name (copied_exchanged (table name) pids ended)

abbrev pub copied_all_merged : Table → GroupList → (Pid → Bool) → Table
copied_all_merged table [] ended = table
copied_all_merged table (group ∷ groups) ended = copied_all_merged (copied_merged table group.0 group.1 ended) groups ended

abbrev pub copied_exchange : Node → GroupList → State → NodeTurn
copied_exchange p groups s = becomes (record s { table = copied_all_merged s.table groups s.ended; merged = upd same_atom s.merged p true })

-- ---- an attempt

abbrev pub copied_new_attempt : Node → OpId → Update → State → NodeTurn
copied_new_attempt lead op update s = becomes (record s {
  references = s.references + 1;
  uses = upd nat_eq s.uses (s.references + 1) (Locking op update lead (λ q. Unasked));
  stages = upd same_op s.stages op (Asking (s.references + 1));
})

abbrev pub copied_begin : Nodes → ℕ → OpId → Update → State → NodeTurn
copied_begin m c op update s = record {
  state = record s {
    table = changed s.table update s.ended;
    references = s.references + 1;
    uses = upd nat_eq (upd nat_eq s.uses c (Owning (name_of update) (s.references + 1))) (s.references + 1) (Updating op update c (same_atom m.own));
    stages = upd same_op s.stages op (Changing (s.references + 1));
  };
  sends = to_peers m (λ q. true) (Call (own_reference m (s.references + 1)) (Change update));
  reported = record nothing { applied = Some update; began = Some (op, update) };
}

-- all have replied
abbrev pub copied_all_replied : Nodes → (Node → Bool) → Bool
copied_all_replied m replied = list_all replied (all_of m)

abbrev pub copied_replies_in : Nodes → ℕ → Use → State → NodeTurn
copied_replies_in m u (Updating op update c replied) s = cond (copied_all_replied m replied) (finish m u op update c s) (becomes s)
copied_replies_in m u _ s = becomes s

abbrev pub copied_all_granted : Nodes → (Node → Status) → Bool
copied_all_granted m st = list_all (λ q. is_yes (st q)) (all_of m)

abbrev pub copied_locks_in : Nodes → ℕ → Use → State → NodeTurn
copied_locks_in m c (Locking op update lead st) s =
    cond (copied_all_granted m st)
    (and_then (begin m c op update s) (λ t. replies_in m t.references (t.uses t.references) t))
    (cond (none_missing m st) (give_up m c op update st s) (becomes s))
copied_locks_in m c _ s = becomes s

-- what follows a round in which one has denied
abbrev pub copied_denied_round : Nodes → ℕ → OpId → Update → (Node → Status) → State → NodeTurn
copied_denied_round m c op update st s = give_up m c op update st s

abbrev pub copied_go_on : Nodes → ℕ → Use → State → NodeTurn
copied_go_on m c (Locking op update first st) s =
    cond (none_missing m st)
    (cond (does_wait (after_round (round_of first st) (none_denied m st))) (copied_denied_round m c op update st s)
    (and_then (ask m (λ q. true) c op update first st s) (λ t. locks_in m c (t.uses c) t)))
    (becomes s)
copied_go_on m c _ s = becomes s
