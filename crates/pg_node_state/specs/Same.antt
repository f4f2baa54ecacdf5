-- When two nodes are the same in all that is seen of them.
use Rattle.std.specs.Prelude.{◌≡◌}
use Rattle.pg_node_ports.specs.PgGroup.declared.table.GroupTable.{Ghosts}
use Rattle.pg_node_ports.specs.PgGroup.Ended.{ended_of}
use Rattle.pg_node_ports.specs.PgLock.Locks.{locks_of}
use Rattle.pg_node_ports.specs.PgEnds.Processes.{made_of}
use Rattle.pg_node_ports.specs.PgNodeOpens.Opens.{AreSame}
use Rattle.pg_node_state.specs.declared.state.NodeState.{NodeState}
use Rattle.pg_node_ports.specs.Same.{AreSamePorts}
use Rattle.pg_node_state.specs.Issued.{ports_of}
use Rattle.pg_node_state.specs.States.{names_of, kept_by, state_of, answers_of}

-- the same nodes by their names, the same state, and as many ports with the same answers
pub record AreSameNodes {T : Type 0} {g : Ghosts T} (one other : NodeState T g) : Type 0 where
  pub names : names_of one ≡ names_of other
  pub state : state_of one ≡ state_of other
  pub ports : ports_of one ≡ ports_of other
  pub answers : answers_of one ≡ answers_of other

-- the same but for their clocks
pub record AreAlike {T : Type 0} {g : Ghosts T} (one other : NodeState T g) : Type 0 where
  pub names : names_of one ≡ names_of other
  pub kept : kept_by one ≡ kept_by other
  pub ports : ports_of one ≡ ports_of other
  pub answers : answers_of one ≡ answers_of other

-- the same in each part but the clock and the table of groups
pub record AreSameBeside {T : Type 0} {g : Ghosts T} (one other : NodeState T g) : Type 0 where
  pub processes : made_of one.processes ≡ made_of other.processes
  pub ended : ended_of one.ended ≡ ended_of other.ended
  pub locks : locks_of one.locks ≡ locks_of other.locks
  pub formation : one.formation ≡ other.formation
  pub opens : AreSame one.opens other.opens
  pub ports : AreSamePorts one.ports.items other.ports.items
