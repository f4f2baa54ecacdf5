-- What the open commands of a node are seen as.
use Rattle.std.specs.Prelude.{◌≡◌, ℕ, ◌<◌, Bool, not, length, map, List, vec_len, vec_capacity}
use Rattle.std.specs.List.{IsDistinct, list_any}
use Rattle.pg_step.specs.declared.command.OpId.{OpId}
use Rattle.pg_step.specs.Nodes.{Node, Nodes}
use Rattle.pg_step.specs.State.{State, Use, Stage}
use Rattle.pg_step.specs.Turns.{NodeTurn}
use Rattle.pg_step.specs.Attempts.{same_op}
use Rattle.pg_node_opens.specs.declared.command.OpenCommand.{OpenCommand}
use Rattle.pg_node_opens.specs.declared.opens.Opens.{Opens}
use Rattle.pg_node_opens.specs.Places.{lost_in, live_in, whole_in}
use Rattle.pg_node_opens.specs.Commands.{uses_in, stages_in}
use Rattle.pg_node_opens.specs.Readings.{stage_seen, is_closed}

-- the nodes of the set by their places, the own one first
abbrev pub names_of : Opens → List Node
names_of opens = opens.names.items

abbrev pub whole_of : Opens → Nodes
whole_of opens = whole_in opens.names.items

-- whose loss was seen
abbrev pub lost_of : Opens → Node → Bool
lost_of opens = lost_in opens.names.items opens.lost.items

-- the nodes that count
abbrev pub live_of : Opens → Nodes
live_of opens = live_in opens.names.items opens.lost.items

-- how many references were made
abbrev pub references_of : Opens → ℕ
references_of opens = opens.references

-- what each reference is used for
abbrev pub uses_of : Opens → ℕ → Use
uses_of opens = uses_in opens.names.items opens.references opens.commands.items

-- how many commands are open
abbrev pub opened_of : Opens → ℕ
opened_of opens = length opens.commands.items

-- how each command stands
abbrev pub stages_of : Opens → OpId → Stage
stages_of opens = stages_in opens.commands.items

-- two nodes of one set keep the same of it and of their open commands
pub record AreSame (one other : Opens) : Type 0 where
  pub names : names_of one ≡ names_of other
  pub lost_peers : lost_of one ≡ lost_of other
  pub references : references_of one ≡ references_of other
  pub uses : uses_of one ≡ uses_of other
  pub opened : opened_of one ≡ opened_of other
  pub stages : stages_of one ≡ stages_of other

-- the open commands, by their places
abbrev pub ops_of : Opens → List OpId
ops_of opens = map (λ command. command.op) opens.commands.items

-- these commands are open, each stands among them once, and no other command is open
pub record AreListed (opens : Opens) (ops : List OpId) : Type 0 where
  pub count : length ops ≡ opened_of opens
  pub once : IsDistinct same_op ops
  pub open_ones : (op : OpId) → list_any (λ other. same_op other op) ops ≡ not (is_closed (stage_seen (stages_of opens op)))

-- a state of a node, as these lists say it
pub record Says (names : List Node) (lost : List Bool) (made : ℕ) (commands : List OpenCommand) (s : State) : Type 0 where
  pub references : s.references ≡ made
  pub uses : s.uses ≡ uses_in names made commands
  pub opened : s.opened ≡ length commands
  pub stages : s.stages ≡ stages_in commands
  pub lost_peers : s.lost ≡ lost_in names lost

-- a state of a node whose open commands these are
abbrev pub Shows : Opens → State → Type 0
Shows opens s = Says opens.names.items opens.lost.items opens.references opens.commands.items s

-- the open commands go as a turn of the node does, whatever else the node keeps
abbrev pub Follows : Opens → Opens → (State → NodeTurn) → Type 0
Follows old new turn = (s : State) → Shows old s → Shows new (turn s).state

-- one more command needs no memory
abbrev pub has_room : Opens → Type 0
has_room opens = vec_len opens.commands < vec_capacity opens.commands
