-- A whole turn over rings in memory that does nothing, and what is left to do then.
use Rattle.std.specs.Prelude.{◌≡◌, ◌⊎◌, ◌<◌, ℕ, false, length, slice_get, [], IfSome, Some, None, Ok, Err}
use Rattle.pg_node.specs.PgGroup.declared.table.GroupTable.{Ghosts}
use Rattle.pg_node.specs.Bytes.{next_packet}
use Rattle.pg_node.specs.Nodes.{held_by, has_lost, links_of}
use Rattle.pg_node.specs.PgNodeState.declared.state.fault.NodeFault.{NodeFault}
use Rattle.pg_node.specs.PgRing.MemRing.{RingBytes, Grows, Loses, HasRoomFor, HasUnread, free_room}
use Rattle.pg_node_run.specs.declared.linked.Peer.{Peer}
use Rattle.pg_node_run.specs.declared.run.NodeRun.{NodeRun}
use Rattle.pg_node_run.specs.Events.{told_of_peer}
use Rattle.pg_node_run.specs.Follows.{log_of, node_of, peers_of}
use Rattle.pg_node_run.specs.Runs.{linked_of}
use Rattle.pg_node_run.specs.Tries.{ComesTo, HasDone}

-- the ends of the rings to a peer and from it
abbrev pub End : Type 0
End = Peer RingBytes RingBytes

module _ {T K : Type 0} {g : Ghosts T} where
  -- A whole turn that logged nothing, and moved no byte: as many wait in each outbox as before, and as many are unread.
  pub record IsStill (a b : NodeRun T RingBytes RingBytes K g) : Type 0 where
    pub came : ComesTo Grows Loses (linked_of a) (linked_of b)
    pub done : HasDone Grows Loses HasRoomFor HasUnread a b
    pub log : log_of (linked_of b) ≡ log_of (linked_of a)
    pub waiting : (peer : ℕ) → length (links_of (node_of (linked_of b)) peer).outbox ≡ length (links_of (node_of (linked_of a)) peer).outbox
    pub unread : (peer : ℕ) → length (links_of (node_of (linked_of b)) peer).unread ≡ length (links_of (node_of (linked_of a)) peer).unread

  -- the node counts on the peer at a place: its loss was not seen, and the link is not damaged
  pub record CountsOn (peer : ℕ) (b : NodeRun T RingBytes RingBytes K g) : Type 0 where
    pub there : peer < length (peers_of (linked_of b))
    pub unseen : has_lost (held_by (node_of (linked_of b))) peer ≡ false
    pub sound : (links_of (node_of (linked_of b)) peer).damaged ≡ false

  -- no whole packet of the peer is left, or the step refuses the next
  abbrev pub NoneLeft : ℕ → NodeRun T RingBytes RingBytes K g → Type 0
  NoneLeft peer b = (next_packet (links_of (node_of (linked_of b)) peer) ≡ Ok None) ⊎ ((fault : NodeFault) × (told_of_peer (node_of (linked_of b)) peer ≡ Err fault))

  -- Nothing is to do for the peer at a place.
  pub record HasNothingToDo (peer : ℕ) (a b : NodeRun T RingBytes RingBytes K g) : Type 0 where
    -- no byte is on the ring from the peer
    pub none_comes : IfSome (slice_get (peers_of (linked_of a)) peer) (λ (end : End). end.inlet.unread ≡ [])
    -- none waits to go there, or the ring there is full
    pub none_waits : ((links_of (node_of (linked_of a)) peer).outbox ≡ []) ⊎ IfSome (slice_get (peers_of (linked_of a)) peer) (λ (end : End). free_room end.link ≡ 0)
    pub none_left : NoneLeft peer b

  -- ---- two nodes of a round

  -- The ring of a node to the peer at a place is that from which another takes, and it has room for some byte.
  pub record AreJoined (peer other : ℕ) (from to : NodeRun T RingBytes RingBytes K g) : Type 0 where
    pub out : End
    pub into : End
    pub sends : slice_get (peers_of (linked_of from)) peer ≡ Some out
    pub takes : slice_get (peers_of (linked_of to)) other ≡ Some into
    pub one : out.link ≡ into.inlet
    pub room : 0 < out.link.capacity

  -- All that the one node has sent the other was taken: none of it waits, or is on the ring; and no whole packet of it is left.
  pub record AllTaken (peer other : ℕ) (from from2 to to2 : NodeRun T RingBytes RingBytes K g) : Type 0 where
    pub none_waits : (links_of (node_of (linked_of from)) peer).outbox ≡ []
    pub none_comes : IfSome (slice_get (peers_of (linked_of to)) other) (λ (end : End). end.inlet.unread ≡ [])
    pub none_left : NoneLeft other to2
