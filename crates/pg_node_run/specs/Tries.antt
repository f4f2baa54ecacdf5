-- What a whole turn has tried, and what was wanting in a short one.
use Rattle.std.specs.Prelude.{◌≡◌, ◌⊎◌, ◌<◌, ◌≤◌, ◌+◌, ◌-◌, ◌^◌, ℕ, Bool, true, false, List, []}
use Rattle.std.specs.Prelude.{◌∷◌, get_or, length, min, slice_get, None, IfSome, Result, Ok, IfErr}
use Rattle.pg_node.specs.PgGroup.declared.table.GroupTable.{Ghosts}
use Rattle.pg_node.specs.PgNodeState.declared.state.fault.NodeFault.{NodeFault}
use Rattle.pg_node.specs.PgNodeState.declared.state.fault.NodeFault.TheVariants.{Refused, OutOfMemory}
use Rattle.pg_node.specs.Bytes.{next_packet, is_drained}
use Rattle.pg_node.specs.declared.node.Node.{Node}
use Rattle.pg_node.specs.PgNodeState.Issued.{ports_of}
use Rattle.pg_node.specs.Nodes.{held_by, links_of, has_lost}
use Rattle.pg_node.specs.PgNodeState.Waiting.{is_ready}
use Rattle.pg_node.specs.PgNodeState.States.{answers_of, kept_by, live_of}
use Rattle.pg_node.specs.PgRing.Slots.{slots_left, taken}
use Rattle.pg_node_run.specs.declared.linked.LinkedNode.{LinkedNode}
use Rattle.pg_node_run.specs.declared.linked.Peer.{Peer}
use Rattle.pg_node_run.specs.declared.notices.Notice.{Notice}
use Rattle.pg_node_run.specs.declared.notices.Notices.{Notices}
use Rattle.pg_node_run.specs.declared.pauses.Pauses.{Pauses}
use Rattle.pg_node_run.specs.declared.port.Port.{Port}
use Rattle.pg_node_run.specs.declared.run.NodeRun.{NodeRun}
use Rattle.pg_node_run.specs.declared.run.Turned.{Turned}
use Rattle.pg_node_run.specs.declared.run.Turned.TheVariants.{Whole, Short, Stopped}
use Rattle.pg_node_run.specs.Acts.{Act, Did, Saw}
use Rattle.pg_node_run.specs.Events.{ActsOnce, TookNext, Acted, IsFault, IsRefusedAs}
use Rattle.pg_node_run.specs.Events.{told_of_action, told_of_loss, told_of_peer}
use Rattle.pg_node_run.specs.Follows.{Follows, node_of, peers_of, log_of}
use Rattle.pg_node_run.specs.Logs.{TurnLogs}
use Rattle.pg_node_run.specs.Notices.{inlet_of, kept_of}
use Rattle.pg_node_run.specs.Pauses.{Waits, is_due, wait_of}
use Rattle.pg_node_run.specs.Ports.{HandsMore, was_handed}
use Rattle.pg_node_run.specs.Served.{AreServed, AreHanded, LeavesAnswer}
use Rattle.pg_node.specs.PgStep.declared.command.Command.{Command}
use Rattle.pg_node.specs.PgStep.declared.command.OpId.{OpId}
use Rattle.pg_node.specs.PgStep.declared.refusal.Refusal.TheVariants.{ClockFull}
use Rattle.pg_node.specs.PgStep.Attempts.{waits}
use Rattle.pg_node.specs.PgStep.Step.{Issue, Retry}

-- neither memory nor the clock was wanting
abbrev pub IsNoWant : NodeFault → Type 0
IsNoWant OutOfMemory = ⊥
IsNoWant (Refused ClockFull) = ⊥
IsNoWant fault = Unit {0}

-- one of them was
abbrev pub IsWant : NodeFault → Type 0
IsWant OutOfMemory = Unit {0}
IsWant (Refused ClockFull) = Unit {0}
IsWant fault = ⊥

-- A part of a turn that may be refused: bytes of the peer at a place come in; its next packet is taken; the loss of which a notice tells
-- is seen; a command is carried out that came in at a port; it is listed which commands wait; a turn passes for one of them; one is tried
-- again.
pub data Part : Type 0 where
  Pulling : (peer : ℕ) → Part
  Taking : (peer : ℕ) → Part
  Seeing : Notice → Part
  Commanding : (port : ℕ) → Command → Part
  Listing : Part
  Passing : OpId → Part
  Retrying : OpId → Part

-- whether a command of a node waits to be tried again
abbrev pub waits_at : {T : Type 0} {g : Ghosts T} → Node T g → OpId → Bool
waits_at node op = waits (live_of (held_by node)) ((kept_by (held_by node)).stages op) (kept_by (held_by node))

-- whether all has come that it gathers
abbrev pub is_ready_at : {T : Type 0} {g : Ghosts T} → Node T g → OpId → Bool
is_ready_at node op = is_ready (live_of (held_by node)) ((kept_by (held_by node)).stages op) (kept_by (held_by node))

module _ {T L I : Type 0} {g : Ghosts T} (accepts : L → List ℕ → L → Type 0) (gives : I → List ℕ → I → Type 0) where
  -- it came by some acts
  abbrev pub ComesTo : LinkedNode T L I g → LinkedNode T L I g → Type 0
  ComesTo a b = (acts : List Act) × Follows accepts gives acts a b

  -- The fault is one that a part of a turn may tell of the node as it is.
  abbrev pub MayTell : LinkedNode T L I g → Part → NodeFault → Type 0
  MayTell a (Pulling peer) fault =
      (peer < length (peers_of a)) × (has_lost (held_by (node_of a)) peer ≡ false) × ((links_of (node_of a) peer).damaged ≡ false) × (fault ≡ OutOfMemory)
  MayTell a (Taking peer) fault = (peer < length (peers_of a)) × IsFault (told_of_peer (node_of a) peer) fault
  MayTell a (Seeing notice) fault = (notice.peer < length (peers_of a)) × IsRefusedAs (told_of_loss (node_of a) notice.peer notice.last) fault
  MayTell a (Commanding port command) fault = (port < ports_of (held_by (node_of a))) × IsRefusedAs (told_of_action (node_of a) (Issue port command)) fault
  MayTell a Listing fault = fault ≡ OutOfMemory
  MayTell a (Passing op) fault = fault ≡ OutOfMemory
  MayTell a (Retrying op) fault = (op.port < ports_of (held_by (node_of a))) × IsRefusedAs (told_of_action (node_of a) (Retry op)) fault

  -- At some time in between a part of a turn told that memory or the clock is wanting.
  pub record WasWanting (a b : LinkedNode T L I g) : Type 0 where
    pub before : LinkedNode T L I g
    pub first : ComesTo a before
    pub part : Part
    pub fault : NodeFault
    pub told : MayTell before part fault
    pub want : IsWant fault
    pub rest : ComesTo before b

  -- ---- bytes

  -- Of 4,096 bytes that its inlet was asked for so many came in of the peer at a place.
  pub record CameIn (moves : I → ℕ → ℕ → Type 0) (peer : ℕ) (a b : LinkedNode T L I g) : Type 0 where
    pub count : ℕ
    pub came : length (links_of (node_of b) peer).unread ≡ length (links_of (node_of a) peer).unread + count
    pub many : IfSome (slice_get (peers_of a) peer) (λ (p : Peer L I). moves p.inlet 4096 count)

  -- At some time in between the inlet from the peer at a place was asked for bytes, unless the loss of the peer was seen or its link is
  -- damaged.
  pub record HasPulled (moves : I → ℕ → ℕ → Type 0) (peer : ℕ) (a b : LinkedNode T L I g) : Type 0 where
    pub before : LinkedNode T L I g
    pub first : ComesTo a before
    pub after : LinkedNode T L I g
    pub moved : Follows accepts gives [] before after
    pub came : has_lost (held_by (node_of before)) peer ≡ false → (links_of (node_of before) peer).damaged ≡ false → CameIn moves peer before after
    pub rest : ComesTo after b

  -- the same of each peer
  abbrev pub HasPulledAll : (I → ℕ → ℕ → Type 0) → LinkedNode T L I g → LinkedNode T L I g → Type 0
  HasPulledAll moves a b = (peer : ℕ) → peer < length (peers_of a) → HasPulled moves peer a b

  -- What waited for the peer at a place was put, as much as the link to it took in; behind that no event happened.
  pub record HasPut (moves : L → ℕ → ℕ → Type 0) (peer : ℕ) (a b : LinkedNode T L I g) : Type 0 where
    pub before : LinkedNode T L I g
    pub first : ComesTo a before
    pub count : ℕ
    pub after : LinkedNode T L I g
    pub moved : Follows accepts gives [] before after
    pub put : length (links_of (node_of after) peer).outbox + count ≡ length (links_of (node_of before) peer).outbox
    pub many : IfSome (slice_get (peers_of before) peer) (λ (p : Peer L I). moves p.link (min (2 ^ 64 - 1) (length (links_of (node_of before) peer).outbox)) count)
    pub rest : Follows accepts gives [] after b

  -- the same of each peer
  abbrev pub HasPutAll : (L → ℕ → ℕ → Type 0) → LinkedNode T L I g → LinkedNode T L I g → Type 0
  HasPutAll moves a b = (peer : ℕ) → peer < length (peers_of a) → HasPut moves peer a b

  -- ---- packets

  -- At some time in between the next packet of the peer at a place was to be taken: it was, as its step tells; or none was whole; or the
  -- fault was told that its step tells, and it is neither a lack of memory nor of clock values.
  pub record HasTried (peer : ℕ) (a b : LinkedNode T L I g) : Type 0 where
    pub before : LinkedNode T L I g
    pub first : ComesTo a before
    pub taken : Result Bool NodeFault
    pub after : LinkedNode T L I g
    pub took : TookNext accepts gives peer taken before after
    pub none : taken ≡ Ok false → next_packet (links_of (node_of before) peer) ≡ Ok None
    pub fault : IfErr taken (IsFault (told_of_peer (node_of before) peer))
    pub no_want : IfErr taken IsNoWant
    pub rest : ComesTo after b

  -- the same of each peer
  abbrev pub HasTriedAll : LinkedNode T L I g → LinkedNode T L I g → Type 0
  HasTriedAll a b = (peer : ℕ) → peer < length (peers_of a) → HasTried peer a b

  -- ---- losses

  -- At some time in between more bytes of the peer at a place came in.
  pub record CameMore (peer : ℕ) (a b : LinkedNode T L I g) : Type 0 where
    pub before : LinkedNode T L I g
    pub first : ComesTo a before
    pub after : LinkedNode T L I g
    pub moved : Follows accepts gives [] before after
    pub more : length (links_of (node_of before) peer).unread < length (links_of (node_of after) peer).unread
    pub rest : ComesTo after b

  -- At some time in between the loss of which a notice tells was refused as the step tells, and neither for memory nor for the clock.
  pub record RefusedLoss (notice : Notice) (a b : LinkedNode T L I g) : Type 0 where
    pub before : LinkedNode T L I g
    pub first : ComesTo a before
    pub fault : NodeFault
    pub told : IsRefusedAs (told_of_loss (node_of before) notice.peer notice.last) fault
    pub no_want : IsNoWant fault
    pub rest : ComesTo before b

  -- the loss of which a notice tells is put off: there is no such peer, or more came in of it, or it was refused
  abbrev pub IsPutOff : Notice → LinkedNode T L I g → LinkedNode T L I g → Type 0
  IsPutOff notice a b = (length (peers_of a) ≤ notice.peer) ⊎ (CameMore notice.peer a b ⊎ RefusedLoss notice a b)

  -- It was looked for notices: that which is kept is put off; where none was kept before, one came, or none was found.
  pub record HasLooked (a : LinkedNode T L I g) (notices : Notices) (b : LinkedNode T L I g) (notices2 : Notices) : Type 0 where
    pub put_off : (notice : Notice) → kept_of notices2 ≡ notice ∷ [] → IsPutOff notice a b
    pub looked : kept_of notices ≡ []
        → (slots_left (inlet_of notices2) ≡ []) ⊎ (length (taken (inlet_of notices)) < length (taken (inlet_of notices2)))

  -- A loss was seen where the inlet from the peer gave nothing more and no whole frame of the peer was left, or its link was damaged.
  pub record SawDrained (moves : I → ℕ → ℕ → Type 0) (a b : LinkedNode T L I g) : Type 0 where
    pub notice : Notice
    pub before : LinkedNode T L I g
    pub first : ComesTo a before
    pub drained : LinkedNode T L I g
    pub moved : Follows accepts gives [] before drained
    pub nothing : ((links_of (node_of before) notice.peer).damaged ≡ true) ⊎ IfSome (slice_get (peers_of before) notice.peer) (λ (p : Peer L I). moves p.inlet 4096 0)
    pub is : is_drained (links_of (node_of drained) notice.peer) ≡ true
    pub after : LinkedNode T L I g
    pub saw : ActsOnce accepts gives (λ input. input ≡ Saw notice.peer notice.last) drained after
    pub rest : ComesTo after b

  -- ---- commands

  -- At some time in between a command that waits was to be tried again: it was, as its step tells; or the refusal was told that its step
  -- tells, and it is neither a lack of memory nor of clock values.
  pub record HasRetried (op : OpId) (a b : LinkedNode T L I g) : Type 0 where
    pub before : LinkedNode T L I g
    pub first : ComesTo a before
    pub outcome : Result (Unit {0}) NodeFault
    pub after : LinkedNode T L I g
    pub acted : Acted accepts gives (Did (Retry op)) outcome before after
    pub fault : IfErr outcome (IsRefusedAs (told_of_action (node_of before) (Retry op)))
    pub no_want : IfErr outcome IsNoWant
    pub rest : ComesTo after b

module _ {T L I K : Type 0} {g : Ghosts T} (accepts : L → List ℕ → L → Type 0) (gives : I → List ℕ → I → Type 0) (link_moves : L → ℕ → ℕ → Type 0)
    (inlet_moves : I → ℕ → ℕ → Type 0) where
  -- It has asked each inlet for bytes and tried to take of each peer, looked for notices, served each port, put what waited, and handed
  -- over answers as long as there was room.
  pub record HasDone (a b : NodeRun T L I K g) : Type 0 where
    pub pulled : HasPulledAll accepts gives inlet_moves a.linked b.linked
    pub took : HasTriedAll accepts gives a.linked b.linked
    pub looked : HasLooked accepts gives a.linked a.notices b.linked b.notices
    pub served : AreServed a.ports.items b.ports.items
    pub put : HasPutAll accepts gives link_moves a.linked b.linked
    pub handed : AreHanded (answers_of (held_by (node_of b.linked))) a.ports.items b.ports.items

  -- A part of it told that memory or the clock is wanting, or no copy of an answer was made.
  abbrev pub HasWanted : NodeRun T L I K g → NodeRun T L I K g → Type 0
  HasWanted a b = WasWanting accepts gives a.linked b.linked ⊎ LeavesAnswer (answers_of (held_by (node_of b.linked))) b.ports.items

  -- It fell short: something was wanting, and yet what waited was put.
  pub record DidInPart (a b : NodeRun T L I K g) : Type 0 where
    pub wanted : HasWanted a b
    pub put : HasPutAll accepts gives link_moves a.linked b.linked

  -- It did nothing: but for where the stop byte came all is as it was.
  pub record DidNothing (a b : NodeRun T L I K g) : Type 0 where
    pub linked : b.linked ≡ a.linked
    pub ports : b.ports ≡ a.ports
    pub notices : b.notices ≡ a.notices
    pub generator : b.generator ≡ a.generator
    pub pauses : b.pauses ≡ a.pauses
    pub busy : b.busy ≡ a.busy

  -- a whole turn has done what was there to be done, a short one a part of it, and one that is stopped nothing
  abbrev pub TurnDid : Turned → NodeRun T L I K g → NodeRun T L I K g → Type 0
  TurnDid Whole a b = HasDone a b
  TurnDid Short a b = DidInPart a b
  TurnDid Stopped a b = DidNothing a b

  -- How commands fared that wait: after the packets and commands that it took, and the loss that it saw if any, the turn looked at which
  -- wait. Of these a whole turn tried each that was due: ready, or its pause over. A turn passed for each of them that was not ready, and
  -- for no other; it tried none that was not due. Then the pause of a command is forgotten of which the turn handed over an answer; where
  -- none ever was it stays.
  pub record HasRetriedDue (whole : Bool) (a b : NodeRun T L I K g) : Type 0 where
    pub lost : Bool
    pub drained : lost ≡ true → SawDrained accepts gives inlet_moves a.linked b.linked
    pub middle : LinkedNode T L I g
    pub first : ComesTo accepts gives a.linked middle
    pub rest : ComesTo accepts gives middle b.linked
    pub tried : whole ≡ true → (op : OpId) → waits_at (node_of middle) op ≡ true → is_due (is_ready_at (node_of middle) op) (wait_of a.pauses op) ≡ true → HasRetried accepts gives op middle b.linked
    pub between : Pauses
    pub waits : (op : OpId) → waits_at (node_of middle) op ≡ true → Waits (is_ready_at (node_of middle) op) whole (wait_of a.pauses op) (wait_of between op)
    pub others : (op : OpId) → waits_at (node_of middle) op ≡ false → wait_of between op ≡ wait_of a.pauses op
    pub logs : TurnLogs lost (is_ready_at (node_of middle)) a.pauses between (log_of a.linked) (log_of middle) (log_of b.linked)
    pub forgot : (op : OpId) (none : Port) → was_handed op (get_or b.ports.items op.port none) ≡ false → wait_of b.pauses op ≡ wait_of between op
    pub answered : (op : OpId) (none : Port) → HandsMore op (get_or a.ports.items op.port none) (get_or b.ports.items op.port none) b.pauses

  -- the same of each turn; where it is stopped no command fares
  abbrev pub RetriedBy : Turned → NodeRun T L I K g → NodeRun T L I K g → Type 0
  RetriedBy Whole a b = HasRetriedDue true a b
  RetriedBy Short a b = HasRetriedDue false a b
  RetriedBy Stopped a b = (log_of b.linked ≡ log_of a.linked) × (b.pauses ≡ a.pauses)
