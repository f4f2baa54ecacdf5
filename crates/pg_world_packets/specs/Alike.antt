-- When two worlds are alike: the same but for clocks and stamps.
use Rattle.std.specs.Prelude.{◌≡◌, ℕ, map, length, List}
use Rattle.pg_term.specs.declared.term.Term.{Term}
use Rattle.pg_node_state.specs.PgMessageTypes.declared.message.Message.{Message}
use Rattle.pg_node_state.specs.PgStep.Machines.Clocked.{Stamped, packets_of as unstamped}
use Rattle.pg_world_config.specs.Seen.{Seen}
use Rattle.pg_world_packets.specs.Views.{View}
use Rattle.pg_world_account.specs.Agreeing.{HaveSameUpdates, AreSameLost}

-- a node as it is seen, with its clock at 0
abbrev pub without_clock : Seen → Seen
without_clock node = record { names = node.names; ports = node.ports; state = record { clock = 0; state = node.state.state }; answers = node.answers }

-- what is said on each way
abbrev pub without_stamps : List (List (Stamped Message)) → List (List Message)
without_stamps ways = map unstamped ways

-- Two worlds as they are seen, and the nodes that each has lost, are alike: the same nodes but for their clocks, the same packets on
-- each way but for their stamps, the same of each group, and the same nodes lost.
pub record AreAlikeWorlds (one : View) (lost : List ℕ) (other : View) (others : List ℕ) : Type 0 where
  pub nodes : map without_clock one.traffic.nodes ≡ map without_clock other.traffic.nodes
  pub ways : map without_stamps one.traffic.ways ≡ map without_stamps other.traffic.ways
  pub updates : (name : Term) → HaveSameUpdates (length one.traffic.nodes) one.account other.account name
  pub losses : AreSameLost lost others

-- ---- worlds but for their nodes

-- the same in all but the nodes and the stamps
pub record AreAlikeBeside (one : View) (lost : List ℕ) (other : View) (others : List ℕ) : Type 0 where
  pub ways : map without_stamps one.traffic.ways ≡ map without_stamps other.traffic.ways
  pub updates : (name : Term) → HaveSameUpdates (length one.traffic.nodes) one.account other.account name
  pub losses : AreSameLost lost others
