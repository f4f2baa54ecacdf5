-- What a port sees of the lock of its group.
use Rattle.std.specs.Prelude.{◌≡◌, ℕ, Bool, true, not, cond, drop, List, Option, Some, None}
use Rattle.std.specs.List.{filter}
use Rattle.pg_term.specs.RefParts.{RefParts}
use Rattle.pg_term.specs.Same.{same_atom}
use Rattle.pg_term.specs.declared.term.Term.{Term}
use Rattle.pg_node.specs.PgNodeOpens.Places.{name_at}
use Rattle.pg_node.specs.PgStep.Attempts.{waits}
use Rattle.pg_node.specs.PgStep.Nodes.{Nodes}
use Rattle.pg_node.specs.PgStep.State.{State, formed}
use Rattle.pg_node.specs.PgStep.declared.command.Command.{Command}
use Rattle.pg_node.specs.PgStep.declared.command.Command.TheVariants.{Create, Delete, Join, Leave}
use Rattle.pg_node_process.specs.declared.desk.Numbered.{Numbered}
use Rattle.pg_node_process.specs.declared.retries.Seen.{Seen}
use Rattle.pg_node_process.specs.declared.retries.Seen.TheVariants.{Free, Own, Other}
use Rattle.pg_node_process.specs.Desks.{first_of}
use Rattle.pg_process.specs.Situations.{Setting, Situation, own_of}

-- the name of the group that a command changes
abbrev pub group_of : Command → Option Term
group_of (Create name) = Some name
group_of (Delete name) = Some name
group_of (Join name pid) = Some name
group_of (Leave name pid) = Some name
group_of command = None

-- the change of a port, or its next one
abbrev pub change_of : Option Numbered → List Numbered → Option Numbered
change_of (Some change) waiting = Some change
change_of None waiting = first_of waiting

-- the nodes that count
abbrev pub live_of : Setting → State → Nodes
live_of set s = record { own = name_at set.names 0; peers = filter (λ q. not (s.lost q)) (drop 1 set.names) }

abbrev pub held_seen : Setting → Option RefParts → Seen
held_seen set None = Free
held_seen set (Some reference) = cond (same_atom reference.node (own_of set)) Own Other

-- the node took the exchange of each peer
abbrev pub is_formed : Setting → Situation → Bool
is_formed set a = formed (live_of set a.node.state.state) a.node.state.state

-- a change of a port was denied its lock, and waits for its retry
abbrev pub IsDenied : Setting → Situation → ℕ → Type 0
IsDenied set a port = (number : ℕ) × (waits (live_of set a.node.state.state) (a.node.state.state.stages (record { port = port; number = number })) a.node.state.state ≡ true)

-- a node that is not formed grants no lock
abbrev pub lock_seen : Setting → Situation → Term → Seen
lock_seen set a name = cond (is_formed set a) (held_seen set (a.node.state.state.locks name)) Own

abbrev pub group_seen : Setting → Situation → Option Term → Seen
group_seen set a (Some name) = lock_seen set a name
group_seen set a None = Own

abbrev pub change_seen : Setting → Situation → Option Numbered → Seen
change_seen set a (Some change) = group_seen set a (group_of change.command)
change_seen set a None = Own

-- what a port sees of the lock of the group that its change is of, or its next one
abbrev pub seen_of : Setting → Situation → ℕ → Seen
seen_of set a port = change_seen set a (change_of (a.ports port).current (a.ports port).waiting)
