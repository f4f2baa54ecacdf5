-- A node that follows from another by its events, and by the bytes that its links moved.
use Rattle.std.specs.Prelude.{◌≡◌, ◌≢◌, ◌⊎◌, ℕ, ◌+◌, ◌<◌, true, false, get_or, length, map, List, [], ◌∷◌, ◌++◌, Err}
use Rattle.pg_node.specs.PgGroup.declared.table.GroupTable.{Ghosts}
use Rattle.pg_node.specs.declared.node.Node.{Node}
use Rattle.pg_node.specs.PgNodeState.declared.state.fault.NodeFault.{NodeFault}
use Rattle.pg_node.specs.Bytes.{damages}
use Rattle.pg_node.specs.PgNodeState.Issued.{ports_of}
use Rattle.pg_node.specs.Links.{Link}
use Rattle.pg_node.specs.Nodes.{held_by, links_of, step_link}
use Rattle.pg_node.specs.PgNodeState.States.{names_of, state_of, answers_of}
use Rattle.pg_node.specs.PgNodeOpens.Places.{name_at, whole_in}
use Rattle.pg_node_run.specs.declared.log.NodeEvent.{NodeEvent}
use Rattle.pg_node_run.specs.declared.linked.LinkedNode.{LinkedNode}
use Rattle.pg_node_run.specs.declared.linked.Peer.{Peer}
use Rattle.pg_node_run.specs.Acts.{Act, Saw, Standing, AllLead, log_entry, frames_sent, frames_taken, losses_of}
use Rattle.pg_node.specs.PgStep.Nodes.{Node as Name}

-- ---- a node as it is seen

abbrev pub node_of : {T L I : Type 0} {g : Ghosts T} → LinkedNode T L I g → Node T g
node_of run = run.node

-- its links to its peers, by their places
abbrev pub peers_of : {T L I : Type 0} {g : Ghosts T} → LinkedNode T L I g → List (Peer L I)
peers_of run = run.peers.items

-- its events, the earliest first
abbrev pub log_of : {T L I : Type 0} {g : Ghosts T} → LinkedNode T L I g → List (ℕ × NodeEvent)
log_of run = run.log.items

abbrev pub standing_of : {T : Type 0} {g : Ghosts T} → Node T g → Standing
standing_of node = record { state = state_of (held_by node); answers = answers_of (held_by node) }

-- ---- how a link is damaged

-- a link that is not damaged, where these bytes came in and were not taken
abbrev pub sound_link : List ℕ → Link
sound_link unread = record { unread = unread; outbox = []; damaged = false }

-- The link to the peer at a place was marked in the course of these acts: behind those before, the node's step told of what was left
-- there a fault that damages the link. Those after took nothing there, and what came in since stands behind what was left.
pub record WasMarked (names : List Name) (ports place : ℕ) (acts : List Act) (a b : Standing) (unread : List ℕ) : Type 0 where
  pub before : List Act
  pub after : List Act
  pub cut : acts ≡ before ++ after
  pub middle : Standing
  pub led : AllLead names ports a before middle
  pub rest : AllLead names ports middle after b
  pub untaken : frames_taken place after ≡ []
  pub left : List ℕ
  pub later : List ℕ
  pub came : unread ≡ left ++ later
  pub fault : NodeFault
  pub told : step_link (whole_in names) (name_at names (place + 1)) (sound_link left) middle.state ≡ Err fault
  pub marks : damages fault ≡ true

-- ---- how a link is closed

-- The loss of the peer at a place was seen in the course of these acts: of what waited, and then was sent before, the link took in the
-- first, and the rest was dropped. It took in nothing more, and nothing waits, where nothing was sent from then on.
pub record WasClosed (place : ℕ) (acts : List Act) (outbox put outbox2 : List ℕ) : Type 0 where
  pub before : List Act
  pub saw : Act
  pub after : List Act
  pub cut : acts ≡ before ++ saw ∷ after
  pub last : ℕ
  pub is : saw.input ≡ Saw place last
  pub first : List ℕ
  pub later : List ℕ
  pub parts : put ≡ first ++ later
  pub dropped : List ℕ
  pub sent : first ++ dropped ≡ outbox ++ frames_sent place before
  pub silent : frames_sent place (saw ∷ after) ≡ [] → (later ≡ []) × (outbox2 ≡ [])

-- ---- which links move

module _ {L I : Type 0} where
  -- of the links to the peers, and of their inlets, at most the link to the peer at a place moved
  pub record LinkMoves (peer : ℕ) (peers peers2 : List (Peer L I)) : Type 0 where
    pub others : (place : ℕ) (none : Peer L I) → place ≢ peer → get_or peers2 place none ≡ get_or peers place none
    pub inlet : (none : Peer L I) → (get_or peers2 peer none).inlet ≡ (get_or peers peer none).inlet

  -- at most the inlet from it moved
  pub record InletMoves (peer : ℕ) (peers peers2 : List (Peer L I)) : Type 0 where
    pub others : (place : ℕ) (none : Peer L I) → place ≢ peer → get_or peers2 place none ≡ get_or peers place none
    pub link : (none : Peer L I) → (get_or peers2 peer none).link ≡ (get_or peers peer none).link

-- ---- what follows

module _ {L I : Type 0} (accepts : L → List ℕ → L → Type 0) (gives : I → List ℕ → I → Type 0) where
  -- What the links of a node to the peer at a place have moved in the course of these acts: what the link took in, and then what
  -- waits, is what waited, and then the frames that the acts sent there, unless they saw its loss, by which what waits is dropped;
  -- what was unread, and then what the inlet gave, is the frames that the acts took from there, and then what is unread.
  pub record HasMoved (place : ℕ) (acts : List Act) (bytes bytes2 : Link) (peer peer2 : Peer L I) : Type 0 where
    pub put : List ℕ
    pub accepted : accepts peer.link put peer2.link
    pub sent : losses_of place acts ≡ [] → put ++ bytes2.outbox ≡ bytes.outbox ++ frames_sent place acts
    pub closed : (losses_of place acts ≡ []) ⊎ WasClosed place acts bytes.outbox put bytes2.outbox
    -- where nothing waited and nothing was sent, nothing is put and nothing waits
    pub idle : bytes.outbox ≡ [] → frames_sent place acts ≡ [] → (put ≡ []) × (bytes2.outbox ≡ [])
    pub given : List ℕ
    pub gave : gives peer.inlet given peer2.inlet
    pub taken : bytes.unread ++ given ≡ frames_taken place acts ++ bytes2.unread
    -- a mark of damage lasts, and of a damaged link nothing is taken
    pub lasts : bytes.damaged ≡ true → bytes2.damaged ≡ true
    pub still : bytes.damaged ≡ true → frames_taken place acts ≡ []

  -- the same of all peers
  pub record HaveMoved (acts : List Act) (links links2 : ℕ → Link) (peers peers2 : List (Peer L I)) : Type 0 where
    pub len : length peers2 ≡ length peers
    pub each : (place : ℕ) (none : Peer L I) → place < length peers
        → HasMoved place acts (links place) (links2 place) (get_or peers place none) (get_or peers2 place none)

  -- A node came by these acts, and by what its links moved meanwhile, from what it was; its log keeps the acts. A link that is damaged
  -- was so before, or was marked in their course.
  pub record Follows {T : Type 0} {g : Ghosts T} (acts : List Act) (a b : LinkedNode T L I g) : Type 0 where
    pub names : names_of (held_by (node_of b)) ≡ names_of (held_by (node_of a))
    pub ports : ports_of (held_by (node_of b)) ≡ ports_of (held_by (node_of a))
    pub lead : AllLead (names_of (held_by (node_of a))) (ports_of (held_by (node_of a))) (standing_of (node_of a)) acts (standing_of (node_of b))
    pub log : log_of b ≡ log_of a ++ map log_entry acts
    pub moved : HaveMoved acts (links_of (node_of a)) (links_of (node_of b)) (peers_of a) (peers_of b)
    pub marked : (place : ℕ) → place < length (peers_of a) → (links_of (node_of b) place).damaged ≡ true
        → ((links_of (node_of a) place).damaged ≡ true)
        ⊎ WasMarked (names_of (held_by (node_of a))) (ports_of (held_by (node_of a))) place acts (standing_of (node_of a)) (standing_of (node_of b)) (links_of (node_of b) place).unread
