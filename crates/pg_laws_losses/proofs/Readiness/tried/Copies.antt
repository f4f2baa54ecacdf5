-- What commands wait for where a node is lost, once more, word for word, each to be made wrong by an edit of edits/. What the laws need
-- of it is proved in `Tried`.
use Rattle.std.specs.Prelude.{ℕ, Bool, false, not, cond}
use Rattle.pg_term.specs.Same.{same_atom}
use Rattle.pg_laws.specs.PgGroup.Functions.{upd}
use Rattle.pg_laws.specs.PgStep.Attempts.{finish, is_asked}
use Rattle.pg_laws.specs.PgStep.Nodes.{Node, Nodes, every}
use Rattle.pg_laws.specs.PgStep.State.{State, Use}
use Rattle.pg_laws.specs.PgStep.State.Status.{Unasked}
use Rattle.pg_laws.specs.PgStep.State.Use.{Locking, Updating}
use Rattle.pg_laws.specs.PgStep.Turns.{NodeTurn, becomes}

-- all has come that a reference gathers
abbrev pub copied_complete : Nodes → Use → Bool
copied_complete m (Locking op update first st) = every m (λ q. not (is_asked (st q)))
copied_complete m (Updating op update c replied) = every m replied
copied_complete m used = false

-- what is gathered forgets a node whose loss is seen
abbrev pub copied_forgets : Node → Use → Use
copied_forgets peer (Locking op update first st) = Locking op update first (upd same_atom st peer Unasked)
copied_forgets peer (Updating op update c replied) = Updating op update c (upd same_atom replied peer false)
copied_forgets peer used = used

-- where all replies to an update are in, its command ends
abbrev pub copied_replies_in : Nodes → ℕ → Use → State → NodeTurn
copied_replies_in m u (Updating op update c replied) s = cond (every m replied) (finish m u op update c s) (becomes s)
copied_replies_in m u used s = becomes s
