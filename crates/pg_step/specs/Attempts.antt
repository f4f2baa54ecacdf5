-- How a node carries out a change of its own: it takes the lock of the group at all nodes, sends the update to all nodes,
-- and frees the lock (global:trans/2 of the global manual page, around gen_server:multi_call/2, as pg2 does).
--
-- The lock is asked for in two rounds. The greatest node is asked alone; where it grants, the rest are asked at once.
use Rattle.std.specs.Prelude.{ℕ, ◌+◌, ◌-◌, Bool, true, false, not, ◌&&◌, cond}
use Rattle.std.specs.Prelude.{nat_eq, Option, Some, None, Result, Ok, Err}
use Rattle.pg_term.specs.RefParts.{RefParts, ref_eq}
use Rattle.pg_term.specs.Same.{same_atom}
use Rattle.pg_refs.specs.Numbered.{numbered, number_in}
use Rattle.pg_message_types.specs.PgGroup.declared.update.Update.{Update}
use Rattle.pg_message_types.specs.PgGroup.Functions.{upd}
use Rattle.pg_message_types.specs.PgGroup.Value.{name_of}
use Rattle.pg_message_types.specs.PgGroup.Table.{changed}
use Rattle.pg_lock.specs.Attempts.{after_round, does_wait}
use Rattle.pg_lock.specs.declared.attempt.Attempt.{Attempt}
use Rattle.pg_lock.specs.declared.attempt.Attempt.TheVariants.{AskingFirst, AskingRest}
use Rattle.pg_lock.specs.Locks.{after_ask, given_up, is_holder}
use Rattle.pg_message_types.specs.declared.message.Message.TheVariants.{Call, DelLock}
use Rattle.pg_message_types.specs.declared.message.Request.TheVariants.{SetLock, Change}
use Rattle.pg_message_types.specs.declared.message.Said.{Said}
use Rattle.pg_message_types.specs.declared.message.Said.TheVariants.{Granted, Denied, Applied}
use Rattle.pg_multicall.specs.Gathered.{Gathered, what_of}
use Rattle.pg_multicall.specs.declared.gather.Taken.{Taken}
use Rattle.pg_multicall.specs.declared.gather.Taken.TheVariants as what
use Rattle.pg_step.specs.declared.command.OpId.{OpId}
use Rattle.pg_step.specs.declared.answer.Reply.TheVariants as reply
use Rattle.pg_step.specs.declared.answer.Odd.{Odd}
use Rattle.pg_step.specs.declared.answer.Odd.TheVariants.{Stranger, Double}
use Rattle.pg_step.specs.Nodes.{Node, Nodes, every, greatest, is_node, to_peers}
use Rattle.pg_step.specs.State.{State, Status, Use, Stage}
use Rattle.pg_step.specs.State.Status.{Unasked, Asked, Yes, No}
use Rattle.pg_step.specs.State.Use.{Locking, Owning, Updating, Spent}
use Rattle.pg_step.specs.State.Stage.{Closed, Waiting, Asking, Changing}
use Rattle.pg_step.specs.State.Response.{Given}
use Rattle.pg_step.specs.Turns.{NodeTurn, nothing, becomes, becomes_and_sends, and_then}
use Rattle.pg_step.specs.Peers.{would_grant}
use Rattle.pg_step.specs.declared.refusal.Refusal.{Refusal}
use Rattle.pg_step.specs.declared.refusal.Refusal.TheVariants.{NotWaiting, NotAMessage}

-- ---- words

-- the reference of this number, as it travels
abbrev pub own_reference : Nodes → ℕ → RefParts
own_reference m c = numbered m.own c

abbrev pub same_op : OpId → OpId → Bool
same_op op other = nat_eq op.port other.port && nat_eq op.number other.number

abbrev pub is_unasked : Status → Bool
is_unasked Unasked = true
is_unasked _ = false

abbrev pub is_asked : Status → Bool
is_asked Asked = true
is_asked _ = false

abbrev pub is_yes : Status → Bool
is_yes Yes = true
is_yes _ = false

abbrev pub is_no : Status → Bool
is_no No = true
is_no _ = false

-- no answer is missing
abbrev pub none_missing : Nodes → (Node → Status) → Bool
none_missing m st = every m (λ q. not (is_asked (st q)))

abbrev pub none_denied : Nodes → (Node → Status) → Bool
none_denied m st = every m (λ q. not (is_no (st q)))

abbrev pub all_granted : Nodes → (Node → Status) → Bool
all_granted m st = every m (λ q. is_yes (st q))

-- ---- single turns

-- A new attempt has a new reference, and a node that is asked first.
abbrev pub new_attempt : Node → OpId → Update → State → NodeTurn
new_attempt first op update s = becomes (record s {
  references = s.references + 1;
  uses = upd nat_eq s.uses (s.references + 1) (Locking op update first (λ q. Unasked));
  stages = upd same_op s.stages op (Asking (s.references + 1));
})

-- those of some nodes that were not asked yet
abbrev pub asks : (Node → Bool) → (Node → Status) → Node → Bool
asks who st q = who q && is_unasked (st q)

abbrev pub own_verdict : Bool → Status
own_verdict true = Yes
own_verdict false = No

abbrev pub with_asked : Nodes → (Node → Bool) → (Node → Status) → Bool → Node → Status
with_asked m who st granted q =
    cond (is_node m q && asks who st q) (cond (same_atom m.own q) (own_verdict granted) Asked) (st q)

-- Asks some nodes for the lock, those that were not asked yet: the own node at once, by the rule for a peer's request,
-- and each peer by a call.
abbrev pub ask : Nodes → (Node → Bool) → ℕ → OpId → Update → Node → (Node → Status) → State → NodeTurn
ask m who c op update first st s = becomes_and_sends
    (record s {
      locks = after_ask (asks who st m.own && would_grant m s (name_of update)) s.locks (name_of update) (own_reference m c);
      uses = upd nat_eq s.uses c (Locking op update first (with_asked m who st (would_grant m s (name_of update))));
    })
    (to_peers m (asks who st) (Call (own_reference m c) (SetLock (name_of update))))

-- Gives the attempt up: frees the lock at each node that granted it. The command waits.
abbrev pub give_up : Nodes → ℕ → OpId → Update → (Node → Status) → State → NodeTurn
give_up m c op update st s = becomes_and_sends
    (record s {
      locks = given_up (is_yes (st m.own) && is_holder (s.locks (name_of update)) (own_reference m c)) s.locks (name_of update);
      uses = upd nat_eq s.uses c Spent;
      stages = upd same_op s.stages op (Waiting update);
    })
    (to_peers m (λ q. is_yes (st q)) (DelLock (name_of update) (own_reference m c)))

-- Begins the update, which has every grant: it has a new reference, changes the own table, and goes to every peer.
abbrev pub begin : Nodes → ℕ → OpId → Update → State → NodeTurn
begin m c op update s = record {
  state = record s {
    table = changed s.table update s.ended;
    references = s.references + 1;
    uses = upd nat_eq (upd nat_eq s.uses c (Owning (name_of update) (s.references + 1))) (s.references + 1) (Updating op update c (same_atom m.own));
    stages = upd same_op s.stages op (Changing (s.references + 1));
  };
  sends = to_peers m (λ q. true) (Call (own_reference m (s.references + 1)) (Change update));
  reported = record nothing { applied = Some update; began = Some (op, update) };
}

-- Ends the command, whose update every node has applied: the lock is freed everywhere, and the command answered ok.
abbrev pub finish : Nodes → ℕ → OpId → Update → ℕ → State → NodeTurn
finish m u op update c s = record {
  state = record s {
    locks = given_up (is_holder (s.locks (name_of update)) (own_reference m c)) s.locks (name_of update);
    uses = upd nat_eq (upd nat_eq s.uses c Spent) u Spent;
    opened = s.opened - 1;
    stages = upd same_op s.stages op Closed;
  };
  sends = to_peers m (λ q. true) (DelLock (name_of update) (own_reference m c));
  reported = record nothing { answered = Some op; gave = Some (op, Given reply.Ok) };
}

-- The answer of a node to the request for the lock is counted.
abbrev pub count_answer : ℕ → OpId → Update → Node → (Node → Status) → Node → Status → State → NodeTurn
count_answer c op update first st p answer s =
    becomes (record s { uses = upd nat_eq s.uses c (Locking op update first (upd same_atom st p answer)) })

-- The ok of a node is counted.
abbrev pub count_ok : ℕ → OpId → Update → ℕ → (Node → Bool) → Node → State → NodeTurn
count_ok u op update c replied p s =
    becomes (record s { uses = upd nat_eq s.uses u (Updating op update c (upd same_atom replied p true)) })

-- ---- what follows once answers are in

-- All replies to the update are in: the command ends.
abbrev pub replies_in : Nodes → ℕ → Use → State → NodeTurn
replies_in m u (Updating op update c replied) s = cond (every m replied) (finish m u op update c s) (becomes s)
replies_in m u _ s = becomes s

-- All answers to the request for the lock are in: where each is true the update begins, else the attempt is given up.
abbrev pub locks_in : Nodes → ℕ → Use → State → NodeTurn
locks_in m c (Locking op update first st) s =
    cond (all_granted m st)
    (and_then (begin m c op update s) (λ t. replies_in m t.references (t.uses t.references) t))
    (cond (none_missing m st) (give_up m c op update st s) (becomes s))
locks_in m c _ s = becomes s

-- the round that runs: the rest is asked once the one that was asked first has granted
abbrev pub round_of : Node → (Node → Status) → Attempt
round_of first st = cond (is_yes (st first)) AskingRest AskingFirst

-- The answers of the round are in: where one has denied the command waits, else those are asked that were not. Where none
-- is left to ask, all answers are in.
abbrev pub go_on : Nodes → ℕ → Use → State → NodeTurn
go_on m c (Locking op update first st) s =
    cond (none_missing m st)
    (cond (does_wait (after_round (round_of first st) (none_denied m st))) (give_up m c op update st s)
    (and_then (ask m (λ q. true) c op update first st s) (λ t. locks_in m c (t.uses c) t)))
    (becomes s)
go_on m c _ s = becomes s

-- An attempt: the greatest node is asked first, and alone.
abbrev pub attempt : Nodes → OpId → Update → State → NodeTurn
attempt m op update s =
    and_then (new_attempt (greatest m) op update s) (λ t.
    and_then (ask m (same_atom (greatest m)) t.references op update (greatest m) (λ q. Unasked) t) (λ r.
    go_on m t.references (r.uses t.references) r))

-- ---- a retry

-- all has come that a reference gathers
abbrev pub is_complete : Nodes → Use → Bool
is_complete m (Locking op update first st) = none_missing m st
is_complete m (Updating op update c replied) = every m replied
is_complete m _ = false

-- Whether a command waits for its retry: it has no attempt under way, or all has come that it gathers, as where the last
-- that it waited for was lost.
abbrev pub waits : Nodes → Stage → State → Bool
waits m (Waiting update) s = true
waits m (Asking c) s = is_complete m (s.uses c)
waits m (Changing n) s = is_complete m (s.uses n)
waits m Closed s = false

-- What a retry leads to: a new attempt, or what follows where all has come.
abbrev pub tried_again : Stage → Nodes → OpId → State → NodeTurn
tried_again (Waiting update) m op s = attempt m op update s
tried_again (Asking c) m op s = go_on m c (s.uses c) s
tried_again (Changing n) m op s = replies_in m n (s.uses n) s
tried_again Closed m op s = becomes s

-- A retry, of a command that waits.
abbrev pub retry : Nodes → OpId → State → Result NodeTurn Refusal
retry m op s = cond (waits m (s.stages op) s) (Ok (tried_again (s.stages op) m op s)) (Err NotWaiting)

-- ---- a reply

-- A reply that completes nothing.
abbrev pub strange : Odd → State → NodeTurn
strange odd s = record (becomes s) { reported = record nothing { odd = Some odd } }

-- the use of a reference: none, where it is not the node's own
abbrev pub use_of : Nodes → RefParts → State → Use
use_of m reference s = cond (ref_eq (own_reference m (number_in reference)) reference) (s.uses (number_in reference)) Spent

-- what came of one node in the running round of a request for a lock, by its status and whether it was asked first: in the
-- second round that one is not asked
abbrev pub lock_entry : Status → Bool → Option (Option Said)
lock_entry Unasked first = None
lock_entry Asked first = Some None
lock_entry Yes true = None
lock_entry Yes false = Some (Some Granted)
lock_entry No true = None
lock_entry No false = Some (Some Denied)

-- what is gathered under a reference
abbrev pub gathered : Use → Gathered Said
gathered (Locking op update first st) p = lock_entry (st p) (same_atom first p)
gathered (Updating op update c replied) p = Some (cond (replied p) (Some Applied) None)
gathered _ p = None

abbrev pub is_of_lock : Said → Bool
is_of_lock Applied = false
is_of_lock _ = true

-- a reply is of the kind that is gathered
abbrev pub is_kind : Use → Said → Bool
is_kind (Locking op update first st) said = is_of_lock said
is_kind (Updating op update c replied) said = not (is_of_lock said)
is_kind _ said = true

abbrev pub lock_status : Said → Status
lock_status Granted = Yes
lock_status _ = No

-- A counted reply, and what follows where all have come.
abbrev pub counted : Use → Nodes → Node → ℕ → Said → State → NodeTurn
counted (Locking op update first st) m p c said s =
    and_then (count_answer c op update first st p (lock_status said) s) (λ t. go_on m c (t.uses c) t)
counted (Updating op update c replied) m p u said s =
    and_then (count_ok u op update c replied p s) (λ t. replies_in m u (t.uses u) t)
counted _ m p c said s = becomes s

-- what a reply leads to, by what it is to the gathered call, and whether it is of the kind that is gathered
abbrev pub reply_by : Taken → Bool → Use → Nodes → Node → ℕ → Said → State → Result NodeTurn Refusal
reply_by what.Stranger kind used m p c said s = Ok (strange Stranger s)
reply_by what.Double true used m p c said s = Ok (strange Double s)
reply_by what.Counted true used m p c said s = Ok (counted used m p c said s)
reply_by taken false used m p c said s = Err NotAMessage

-- A reply under a reference that is used so, by the one rule of gathered calls.
abbrev pub reply_under : Use → Nodes → Node → ℕ → Said → State → Result NodeTurn Refusal
reply_under used m p c said s = reply_by (what_of true (gathered used p)) (is_kind used said) used m p c said s

-- A reply. Where no open command gathers for the reference it is a stranger's; where it is not of the kind that is
-- gathered, it is no message; where the peer has replied it is a double. Else it is counted.
abbrev pub reply_taken : Nodes → Node → RefParts → Said → State → Result NodeTurn Refusal
reply_taken m p reference said s = reply_under (use_of m reference s) m p (number_in reference) said s
