-- What turns make of a node that runs.
use Rattle.std.specs.Prelude.{◌≡◌, ◌⊎◌, ◌<◌, ◌+◌, ℕ, Bool, length, List, [], ◌∷◌}
use Rattle.pg_node.specs.PgRing.declared.slot_in.SlotIn.{SlotIn}
use Rattle.pg_node.specs.PgGroup.declared.table.GroupTable.{Ghosts}
use Rattle.pg_node_run.specs.declared.linked.LinkedNode.{LinkedNode}
use Rattle.pg_node_run.specs.declared.notices.Notice.{Notice}
use Rattle.pg_node_run.specs.declared.notices.Notices.{Notices}
use Rattle.pg_node_run.specs.declared.pauses.Pauses.{Pauses}
use Rattle.pg_node_run.specs.declared.port.Port.{Port}
use Rattle.pg_node_run.specs.declared.run.NodeRun.{NodeRun}
use Rattle.pg_node_run.specs.declared.run.Turned.{Turned}
use Rattle.pg_node_run.specs.declared.run.Turned.TheVariants.{Whole, Short, Stopped}
use Rattle.pg_node_run.specs.declared.running.Ran.{Ran}
use Rattle.pg_node_run.specs.Notices.{NoticesGo, inlet_of}
use Rattle.pg_node_run.specs.Tries.{RetriedBy, TurnDid}
use Rattle.pg_node_run.specs.Turns.{ServesSeeing}

module _ {T L I K : Type 0} {g : Ghosts T} where
  -- the node with its links and its log
  abbrev pub linked_of : NodeRun T L I K g → LinkedNode T L I g
  linked_of run = run.linked

  abbrev pub ports_at : NodeRun T L I K g → List Port
  ports_at run = run.ports.items

  -- where the stop byte comes
  abbrev pub stop_of : NodeRun T L I K g → I
  stop_of run = run.stop

  -- what it was told of losses, and where
  abbrev pub notices_of : NodeRun T L I K g → Notices
  notices_of run = run.notices

  abbrev pub notices_at : NodeRun T L I K g → SlotIn Notice
  notices_at run = inlet_of run.notices

  -- the generator of its pauses
  abbrev pub generator_of : NodeRun T L I K g → K
  generator_of run = run.generator

  -- something moved or happened in the last turn
  abbrev pub busy_of : NodeRun T L I K g → Bool
  busy_of run = run.busy

  -- how its commands wait that were refused
  abbrev pub pauses_of : NodeRun T L I K g → Pauses
  pauses_of run = run.pauses

  -- Turns led from the one to the other. The losses that their acts saw are, in their order, the next of those that were told.
  pub record Runs (accepts : L → List ℕ → L → Type 0) (gives : I → List ℕ → I → Type 0) (a b : NodeRun T L I K g) : Type 0 where
    pub losses : List Notice
    pub serves : ServesSeeing accepts gives losses (linked_of a) (ports_at a) (linked_of b) (ports_at b)
    pub told : NoticesGo losses (notices_of a) (notices_of b)

module _ {I : Type 0} (gives : I → List ℕ → I → Type 0) where
  -- a turn is stopped where a stop byte came, and else none did
  abbrev pub TurnedTo : I → Turned → I → Type 0
  TurnedTo a Stopped b = (x : ℕ) × gives a (x ∷ []) b
  TurnedTo a Whole b = gives a [] b
  TurnedTo a Short b = gives a [] b

  -- all turns were made and no stop byte came, or it came
  abbrev pub Ended : I → I → ℕ → ℕ → Type 0
  Ended a b limit turns = ((turns ≡ limit) × gives a [] b) ⊎ ((turns < limit) × ((x : ℕ) × gives a (x ∷ []) b))

-- ---- turn by turn

-- how many of these turns were whole, and how many short
abbrev pub wholes : List Turned → ℕ
wholes [] = 0
wholes (Whole ∷ others) = wholes others + 1
wholes (Short ∷ others) = wholes others
wholes (Stopped ∷ others) = wholes others

abbrev pub shorts : List Turned → ℕ
shorts [] = 0
shorts (Whole ∷ others) = shorts others
shorts (Short ∷ others) = shorts others + 1
shorts (Stopped ∷ others) = shorts others

module _ {T L I K : Type 0} {g : Ghosts T} (accepts : L → List ℕ → L → Type 0) (gives : I → List ℕ → I → Type 0) (link_moves : L → ℕ → ℕ → Type 0)
    (inlet_moves : I → ℕ → ℕ → Type 0) where
  -- what a turn made of a node
  pub record TurnMade (turned : Turned) (a b : NodeRun T L I K g) : Type 0 where
    pub runs : Runs accepts gives a b
    pub stop : TurnedTo gives (stop_of a) turned (stop_of b)
    pub did : TurnDid accepts gives link_moves inlet_moves turned a b
    pub retried : RetriedBy accepts gives link_moves inlet_moves turned a b

  -- these turns, one after another
  abbrev pub TurnsMade : List Turned → NodeRun T L I K g → NodeRun T L I K g → Type 0
  TurnsMade [] a b = b ≡ a
  TurnsMade (turned ∷ others) a b = (m : NodeRun T L I K g) × TurnMade turned a m × TurnsMade others m b

  -- A node ran: it made so many turns, of which so many were short and the others whole, and then, if it was stopped, one in which
  -- nothing was done.
  pub record RanBy (run : NodeRun T L I K g) (ran : Ran T L I K g) : Type 0 where
    pub turned : List Turned
    pub last : NodeRun T L I K g
    pub made : TurnsMade turned run last
    pub short : shorts turned ≡ ran.short
    pub whole : wholes turned + ran.short ≡ ran.turns
    pub count : length turned ≡ ran.turns
    pub ends : (ran.run ≡ last) ⊎ TurnMade Stopped last ran.run
