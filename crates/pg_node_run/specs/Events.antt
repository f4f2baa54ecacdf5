-- What came of an event that a node with its links was to make.
use Rattle.std.specs.Prelude.{◌≡◌, ◌+◌, ℕ, Bool, true, false, List, [], ◌∷◌, Option, Result, Ok, Err}
use Rattle.pg_node.specs.PgGroup.declared.table.GroupTable.{Ghosts}
use Rattle.pg_node.specs.declared.node.Node.{Node}
use Rattle.pg_node.specs.PgNodeState.declared.state.fault.NodeFault.{NodeFault}
use Rattle.pg_node.specs.PgNodeState.declared.state.fault.NodeFault.TheVariants.{Refused, OutOfMemory}
use Rattle.pg_node.specs.PgNodeState.Issued.{ports_of}
use Rattle.pg_node.specs.Nodes.{held_by, links_of, step_link, step_lose}
use Rattle.pg_node.specs.PgNodeState.States.{names_of, nodes_of, state_of}
use Rattle.pg_node.specs.PgNodeOpens.Places.{name_at}
use Rattle.pg_node_run.specs.declared.linked.LinkedNode.{LinkedNode}
use Rattle.pg_node_run.specs.Acts.{Act, Given, Took, Saw, Did}
use Rattle.pg_node_run.specs.Follows.{Follows}
use Rattle.pg_node.specs.PgStep.declared.refusal.Refusal.{Refusal}
use Rattle.pg_node.specs.PgStep.Step.{Action, TimedTurn, step_act}

-- ---- why one did not happen

-- the fault is the refusal that is told, or memory ran out
abbrev pub IsRefusedAs : Result TimedTurn Refusal → NodeFault → Type 0
IsRefusedAs told OutOfMemory = Unit {0}
IsRefusedAs (Err refusal) fault = fault ≡ Refused refusal
IsRefusedAs (Ok turn) fault = ⊥

-- the same of the next packet of a peer
abbrev pub IsFault : Result (Option TimedTurn) NodeFault → NodeFault → Type 0
IsFault told OutOfMemory = Unit {0}
IsFault told fault = told ≡ Err fault

-- what the step tells of an action of a node
abbrev pub told_of_action : {T : Type 0} {g : Ghosts T} → Node T g → Action → Result TimedTurn Refusal
told_of_action node action = step_act (nodes_of (held_by node)) (ports_of (held_by node)) action (state_of (held_by node))

-- what the step tells of the next packet of the peer at a place
abbrev pub told_of_peer : {T : Type 0} {g : Ghosts T} → Node T g → ℕ → Result (Option TimedTurn) NodeFault
told_of_peer node peer =
    step_link (nodes_of (held_by node)) (name_at (names_of (held_by node)) (peer + 1)) (links_of node peer) (state_of (held_by node))

-- what the step tells of the loss of the peer at a place, whose clock was this at last
abbrev pub told_of_loss : {T : Type 0} {g : Ghosts T} → Node T g → ℕ → ℕ → Result TimedTurn Refusal
told_of_loss node peer last = step_lose (name_at (names_of (held_by node)) (peer + 1)) last (links_of node peer) (state_of (held_by node))

-- ---- what happened

-- a packet of the peer at a place
abbrev pub IsOfPeer : ℕ → Given → Type 0
IsOfPeer peer (Took p x) = p ≡ peer
IsOfPeer peer (Saw p last) = ⊥
IsOfPeer peer (Did action) = ⊥

module _ {T L I : Type 0} {g : Ghosts T} (accepts : L → List ℕ → L → Type 0) (gives : I → List ℕ → I → Type 0) where
  -- one act with such an input
  pub record ActsOnce (Wanted : Given → Type 0) (a b : LinkedNode T L I g) : Type 0 where
    pub act : Act
    pub wanted : Wanted act.input
    pub follows : Follows accepts gives (act ∷ []) a b

  -- the next packet of the peer was taken, or nothing happened
  abbrev pub TookNext : ℕ → Result Bool NodeFault → LinkedNode T L I g → LinkedNode T L I g → Type 0
  TookNext peer (Ok true) a b = ActsOnce (IsOfPeer peer) a b
  TookNext peer (Ok false) a b = Follows accepts gives [] a b
  TookNext peer (Err fault) a b = Follows accepts gives [] a b

  -- what was given led to an act, or nothing happened
  abbrev pub Acted : {E : Type 0} → Given → Result (Unit {0}) E → LinkedNode T L I g → LinkedNode T L I g → Type 0
  Acted given (Ok done) a b = ActsOnce (λ input. input ≡ given) a b
  Acted given (Err fault) a b = Follows accepts gives [] a b
