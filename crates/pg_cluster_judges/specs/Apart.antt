-- Nodes that ran apart, each with its own links, and the one run that they made together.
use Rattle.std.specs.Prelude.{◌≡◌, ℕ, ◌+◌, ◌<◌, true, false, get_or, length, map, slice_get, List, [], ◌++◌, Some}
use Rattle.pg_world.specs.PgGroup.declared.table.GroupTable.{Ghosts}
use Rattle.pg_world.specs.PgStep.Machines.Machine.{Event, Take, Do, start_of}
use Rattle.pg_world.specs.PgStep.Machines.Clocked.{plain}
use Rattle.pg_world.specs.PgStep.Machines.Places.{is_pair}
use Rattle.pg_world.specs.PgStep.Machines.Runs.{Leads, events_of}
use Rattle.pg_world.specs.PgStep.Config.{Config}
use Rattle.pg_world.specs.PgStep.FrameMachine.{frame_machine}
use Rattle.pg_world.specs.PgStep.Step.{Action, Issue, Retry}
use Rattle.pg_world.specs.PgLaws.Headline.{OneHistory}
use Rattle.pg_cluster_judges.specs.Merge.{merged_logs, seen_log}
use Rattle.pg_world.specs.PgNode.declared.node.Node.{Node}
use Rattle.pg_world.specs.PgNode.Nodes.{links_of}
use Rattle.pg_world.specs.PgRing.declared.ring_out.RingOut.{RingOut}
use Rattle.pg_world.specs.PgRing.declared.ring_in.RingIn.{RingIn}
use Rattle.pg_world.specs.PgRing.Ends.{Sends, Receives, bytes_sent, bytes_received}
use Rattle.pg_node_run.specs.declared.linked.LinkedNode.{LinkedNode}
use Rattle.pg_node_run.specs.declared.linked.Peer.{Peer}
use Rattle.pg_node_run.specs.declared.log.NodeEvent.{NodeEvent}
use Rattle.pg_node_run.specs.declared.log.NodeEvent.TheVariants as events
use Rattle.pg_node_run.specs.Acts.{Act, SawNone}
use Rattle.pg_node_run.specs.Follows.{Follows, node_of, peers_of, log_of}
use Rattle.pg_world.specs.Crossings.{ShowsBytes, idle_crossing, node_of as seen_node}
use Rattle.pg_world.specs.PgWorldPackets.Views.{peer_place, place_of_peer}
use Rattle.pg_world.specs.PgWorldAccount.Histories.{no_account}
use Rattle.pg_world.specs.PgWorldPackets.Worlds.{TimedFrameWorld, ShowsNode}

-- the event of all nodes that an entry in the log of node i tells; a loss is seen as the last notice of the peer is taken
abbrev pub event_at : ℕ → NodeEvent → Event Action
event_at i (events.Take peer) = Take i (place_of_peer i peer)
event_at i (events.Command port command) = Do i (Issue port command)
event_at i (events.Retry op) = Do i (Retry op)
event_at i (events.SeeLoss peer) = Take i (place_of_peer i peer)

-- the two ends at one node of the rings between it and another
abbrev pub End : Type 0
End = Peer RingOut RingIn

-- Nothing had gone over the ring from one node to another as they began. What the other had received in the end, and then what was
-- left in the ring, is what the one had sent.
pub record Crossed (from to from2 to2 : End) : Type 0 where
  pub unsent : bytes_sent from.link ≡ []
  pub unreceived : bytes_received to.inlet ≡ []
  pub left : List ℕ
  pub sent : bytes_received to2.inlet ++ left ≡ bytes_sent from2.link

-- a node with its links, which are ends of rings
abbrev pub Linked : (T : Type 0) → Ghosts T → Type 0
Linked T g = LinkedNode T RingOut RingIn g

module _ {T : Type 0} {g : Ghosts T} where
  -- the ends at node x of its rings to and from node y
  abbrev pub end_of : Linked T g → ℕ → ℕ → End → End
  end_of node x y none = get_or (peers_of node) (peer_place x y) none

  -- Each of these nodes of a configuration ran, by acts of its own and by what its links moved, from its start to its end, and what
  -- crossed between each two of them is what was sent.
  pub record HaveRun (config : Config) (nodes : List (Node T g)) (begun ended : ℕ → Linked T g) : Type 0 where
    pub starts : ShowsBytes config (idle_crossing nodes) no_account (start_of (frame_machine config))
    pub held : (i : ℕ) → i < length config → slice_get nodes i ≡ Some (node_of (begun i))
    pub unlogged : (i : ℕ) → i < length config → log_of (begun i) ≡ []
    pub linked : (i : ℕ) → i < length config → length (peers_of (begun i)) + 1 ≡ length config
    pub acts : ℕ → List Act
    pub follows : (i : ℕ) → i < length config → Follows Sends Receives (acts i) (begun i) (ended i)
    pub crossed : (x y : ℕ) (none : End) → is_pair (length config) x y ≡ true
        → Crossed (end_of (begun x) x y none) (end_of (begun y) y x none) (end_of (ended x) x y none) (end_of (ended y) y x none)

  -- None of their acts saw a loss.
  abbrev pub Unseen : (config : Config) (nodes : List (Node T g)) (begun ended : ℕ → Linked T g) → HaveRun config nodes begun ended → Type 0
  Unseen config nodes begun ended ran = (i : ℕ) → i < length config → SawNone (ran.acts i)

  -- They ran so, and none saw a loss.
  pub record RanApart (config : Config) (nodes : List (Node T g)) (begun ended : ℕ → Linked T g) : Type 0 where
    pub ran : HaveRun config nodes begun ended
    pub unseen : Unseen config nodes begun ended ran

  -- the events of all logs, merged in an order
  abbrev pub events_in : (ℕ → Linked T g) → List (ℕ × ℕ) → List (Event Action)
  events_in ended order = merged_logs (λ i. seen_log (event_at i) (log_of (ended i))) order

  -- These events are one run of the configuration from its start, in which each node does what its log tells. It leads to a world that
  -- shows each node as it ended, and of which the headline holds. No node has told of what came to it a fault that damages a link.
  pub record RanTogether (config : Config) (ended : ℕ → Linked T g) (events : List (Event Action)) : Type 0 where
    pub w : TimedFrameWorld
    pub leads : Leads (frame_machine config) (start_of (frame_machine config)) events w
    pub nodes : (i : ℕ) → i < length config → ShowsNode config w i (seen_node (node_of (ended i)))
    pub logs : (i : ℕ) → i < length config → events_of i events ≡ map (λ entry. event_at i entry.1) (log_of (ended i))
    pub history : OneHistory config events (plain w)
    -- no link is damaged
    pub sound : (x y : ℕ) → is_pair (length config) x y ≡ true → (links_of (node_of (ended x)) (peer_place x y)).damaged ≡ false
