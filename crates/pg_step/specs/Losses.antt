-- What a node makes of the loss of a peer, once it has taken all that came from it.
use Rattle.std.specs.Prelude.{true, false}
use Rattle.pg_term.specs.Same.{same_atom}
use Rattle.pg_message_types.specs.PgGroup.Ended.{ended_with}
use Rattle.pg_message_types.specs.PgGroup.Functions.{upd}
use Rattle.pg_message_types.specs.PgGroup.Table.{without_node}
use Rattle.pg_lock.specs.Locks.{without_node as locks_without}
use Rattle.pg_step.specs.Nodes.{Node}
use Rattle.pg_step.specs.State.{State, Use}
use Rattle.pg_step.specs.State.Status.{Unasked}
use Rattle.pg_step.specs.State.Use.{Locking, Updating}
use Rattle.pg_step.specs.Turns.{NodeTurn, becomes}

-- what is gathered forgets the node: it is asked no more, and its reply stands no more
abbrev pub forgets : Node → Use → Use
forgets peer (Locking op update first st) = Locking op update first (upd same_atom st peer Unasked)
forgets peer (Updating op update c replied) = Updating op update c (upd same_atom replied peer false)
forgets peer used = used

-- A loss is seen: the peer counts no more. The locks of its references are free, its processes have ended and are in no
-- group, its exchange counts as taken, and what is gathered forgets it. Nothing is sent, answered or begun: a command that
-- waited for it alone waits for its retry.
abbrev pub see_loss : Node → State → NodeTurn
see_loss peer s = becomes (record s {
  table = without_node s.table peer;
  ended = ended_with s.ended peer;
  locks = locks_without s.locks peer;
  merged = upd same_atom s.merged peer true;
  lost = upd same_atom s.lost peer true;
  uses = λ c. forgets peer (s.uses c);
})
