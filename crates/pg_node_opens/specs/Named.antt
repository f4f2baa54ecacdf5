-- What the marks say of nodes by their names, and who is asked.
use Rattle.std.specs.Prelude.{ℕ, Bool, true, false, nat_lt, List}
use Rattle.pg_term.specs.Same.{same_atom}
use Rattle.pg_step.specs.Nodes.{Node}
use Rattle.pg_step.specs.State.{Status}
use Rattle.pg_step.specs.State.Status.{Unasked}
use Rattle.pg_node_opens.specs.declared.mark.Mark.{Mark}
use Rattle.pg_node_opens.specs.declared.mark.Asked.{Asked as Whom}
use Rattle.pg_node_opens.specs.declared.mark.Asked.TheVariants.{Nobody, One, All}
use Rattle.pg_node_opens.specs.Marks.{status_of, has_yes}
use Rattle.pg_node_opens.specs.Places.{name_at, reads}

-- of a request for the lock: a node that is not named was not asked
abbrev pub statuses : List Node → List Mark → Node → Status
statuses names marks = reads status_of Unasked names marks

-- of an update: who has applied it
abbrev pub replies : List Node → List Mark → Node → Bool
replies names marks = reads has_yes false names marks

-- who is asked
abbrev pub whom : List Node → Whom → Node → Bool
whom names Nobody q = false
whom names (One only) q = same_atom (name_at names only) q
whom names All q = true

-- who is asked has a place
abbrev pub has_place : Whom → ℕ → Bool
has_place Nobody places = true
has_place (One only) places = nat_lt only places
has_place All places = true
