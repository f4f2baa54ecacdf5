-- A node without commands shows its own name in nothing that it answers.
use Rattle.std.proofs.Common.{◌≡◌, ◌+◌, ℕ, Bool, true, false, cond, max, nat_le, List, [], ◌∷◌}
use Rattle.std.proofs.Common.{Option, Some, None, Result, Ok, Err, refl, sym, ap, subst, ◌∙◌}
use Rattle.std.specs.Prelude.{⊤, IfOk, IfErr, IfSome}
use Rattle.std.specs.Io.KnownBytes.{Appends}
use Rattle.pg_term.specs.RefParts.{RefParts, ref_eq}
use Rattle.pg_node_state.specs.PgRefs.Numbered.{number_in}
use Rattle.pg_node_state.specs.PgFrame.Frames.{front_of, bodies_of, rest_of}
use Rattle.pg_node_state.specs.PgMessageTypes.declared.fault.MessageFault.{MessageFault}
use Rattle.pg_node_state.specs.PgMessageTypes.declared.message.Message.{Message}
use Rattle.pg_node_state.specs.PgMessageTypes.declared.message.Message.TheVariants.{Call, Reply, DelLock, Exchange, Down}
use Rattle.pg_node_state.specs.PgMessageTypes.declared.message.Request.TheVariants.{SetLock, Change}
use Rattle.pg_node_state.specs.PgMessageTypes.declared.message.Said.{Said}
use Rattle.pg_node_state.specs.PgMessageTypes.declared.packet.Packet.{Packet}
use Rattle.pg_node_state.specs.PgMessageTypes.Reading.{packet_spelled}
use Rattle.pg_node_state.specs.PgStep.declared.answer.Odd.TheVariants.{Stranger}
use Rattle.pg_node_state.specs.PgStep.declared.refusal.Refusal.{Refusal}
use Rattle.pg_node_state.specs.PgStep.declared.refusal.Refusal.TheVariants.{ClockFull, NotAMessage, NoSuchPlace}
use Rattle.pg_node_state.specs.PgStep.declared.refusal.Refusal.TheVariants.{NotWaiting, NodeLost, NotLost, NotDrained}
use Rattle.pg_node_state.specs.PgStep.Attempts.{own_reference, reply_taken, reply_under, strange}
use Rattle.pg_node_state.specs.PgStep.Nodes.{Node, Nodes}
use Rattle.pg_node_state.specs.PgStep.Peers.{is_bad_exchange, exchange}
use Rattle.pg_node_state.specs.PgStep.State.{Use, live_nodes}
use Rattle.pg_node_state.specs.PgStep.State as machine
use Rattle.pg_node_state.specs.PgStep.State.Use.{Fresh, Spent}
use Rattle.pg_node_state.specs.PgStep.Step.{TimedTurn, CLOCK_LIMIT, taken, at_clock, timed, step_take}
use Rattle.pg_node_state.specs.PgStep.Turns.{NodeTurn}
use Rattle.pg_node.specs.declared.replica.fault.ServeFault.{ServeFault}
use Rattle.pg_node.specs.Replicas.Causes.{AllAnswered, Cause, InTurn, Unread}
use Rattle.pg_node.specs.Replicas.Replica.{Pair, State, Answer, Run, start, nodes_of, turned}
use Rattle.pg_node.specs.Replicas.Replica.{taken_packet, taken_in, answered, goes_on, preceded, replica_run}
use Rattle.pg_node.specs.Replicas.Replica.{served, rest_fault, first_fault, frames_of, WroteFor, Serves}
use Rattle.pg_node_state.specs.PgNodeSends.Sent.{stamped_of}
use Rattle.pg_node.proofs.Replicas.Served.{cause_of}

-- no reference was made
abbrev Idle : machine.State → Type 0
Idle s = s.uses ≡ (λ c. Fresh)

-- ---- one message

abbrev is_own : Nodes → RefParts → Bool
is_own m reference = ref_eq (own_reference m (number_in reference)) reference

-- a reply is a stranger's
strange_reply : (m : Nodes) (p : Node) (reference : RefParts) (said : Said) (s : machine.State) → Idle s → reply_taken m p reference said s ≡ Ok (strange Stranger s)
strange_reply m p reference said s idle =
    ap (λ (uses : ℕ → Use). reply_under (cond (is_own m reference) (uses (number_in reference)) Spent) m p (number_in reference) said s) idle ∙ go (is_own m reference)
  where
    go : (b : Bool) → reply_under (cond b Fresh Spent) m p (number_in reference) said s ≡ Ok (strange Stranger s)
    go true = refl
    go false = refl

module _ (own other : Node) (peers : List Node) (p : Node) (s : machine.State) (idle : Idle s) where
  abbrev here : Nodes
  here = record { own = own; peers = peers }

  abbrev there : Nodes
  there = record { own = other; peers = peers }

  same_taken : (x : Message) → taken here p x s ≡ taken there p x s
  same_taken (Call reference (SetLock name)) = refl
  same_taken (Call reference (Change update)) = refl
  same_taken (Reply reference said) = strange_reply here p reference said s idle ∙ sym (strange_reply there p reference said s idle)
  same_taken (DelLock name reference) = refl
  same_taken (Exchange node groups) = refl
  same_taken (Down pid) = refl

  stays_idle : (x : Message) → IfOk (taken here p x s) (λ t. Idle t.state)
  stays_idle (Call reference (SetLock name)) = idle
  stays_idle (Call reference (Change update)) = idle
  stays_idle (Reply reference said) = subst (λ r. IfOk r (λ t. Idle t.state)) (sym (strange_reply here p reference said s idle)) idle
  stays_idle (DelLock name reference) = idle
  stays_idle (Exchange node groups) = go (is_bad_exchange p node s)
    where
      go : (b : Bool) → IfOk (cond b (Err NotAMessage) (Ok (exchange p groups s))) (λ t. Idle t.state)
      go true = tt
      go false = idle
  stays_idle (Down pid) = idle

timed_idle : (clock : ℕ) (r : Result NodeTurn Refusal) → IfOk r (λ t. Idle t.state) → IfOk (timed clock r) (λ t. Idle t.state.state)
timed_idle clock (Ok t) h = go (nat_le clock CLOCK_LIMIT)
  where
    go : (b : Bool) → IfOk (cond b (Ok (at_clock clock t)) (Err ClockFull)) (λ t. Idle t.state.state)
    go true = h
    go false = tt
timed_idle clock (Err refusal) h = go refusal
  where
    late : (b : Bool) (refusal : Refusal) → IfOk (cond b (Err refusal) (Err ClockFull)) (λ (t : TimedTurn). Idle t.state.state)
    late true refusal = tt
    late false refusal = tt

    go : (refusal : Refusal) → IfOk (timed clock (Err refusal)) (λ t. Idle t.state.state)
    go ClockFull = late (nat_le clock CLOCK_LIMIT) ClockFull
    go NotAMessage = late (nat_le clock CLOCK_LIMIT) NotAMessage
    go NotLost = late (nat_le clock CLOCK_LIMIT) NotLost
    go NotDrained = late (nat_le clock CLOCK_LIMIT) NotDrained
    go NoSuchPlace = tt
    go NotWaiting = tt
    go NodeLost = tt

-- ---- a packet, a body, and a stream

module _ (own other peer : Node) where
  abbrev one : Pair
  one = record { own = own; peer = peer }

  abbrev two : Pair
  two = record { own = other; peer = peer }

  -- the state of an answer, if there is one
  abbrev LeavesIdle : Result Answer ServeFault → Type 0
  LeavesIdle r = IfOk r (λ a. Idle a.state.state)

  same_turned : (r : Result TimedTurn Refusal) → turned one r ≡ turned two r
  same_turned (Ok t) = refl
  same_turned (Err refusal) = refl

  turned_idle : (r : Result TimedTurn Refusal) → IfOk r (λ t. Idle t.state.state) → LeavesIdle (turned one r)
  turned_idle (Ok t) h = h
  turned_idle (Err refusal) h = tt

  module _ (s : State) (idle : Idle s.state) where
    same_packet : (packet : Packet) → taken_packet one s packet ≡ taken_packet two s packet
    same_packet packet =
        ap (λ r. turned one (timed (max s.clock packet.stamp + 1) (cond (s.state.lost peer) (Err NodeLost) r)))
        (same_taken own other (live_nodes (nodes_of one) s.state).peers peer s.state idle packet.message)
        ∙ same_turned (step_take (nodes_of two) peer (stamped_of packet) s)

    packet_idle : (packet : Packet) → LeavesIdle (taken_packet one s packet)
    packet_idle packet = turned_idle (step_take (nodes_of one) peer (stamped_of packet) s) (timed_idle (max s.clock packet.stamp + 1) _ (go (s.state.lost peer)))
      where
        go : (b : Bool) → IfOk (cond b (Err NodeLost) (taken (live_nodes (nodes_of one) s.state) peer packet.message s.state)) (λ t. Idle t.state)
        go true = tt
        go false = stays_idle own other (live_nodes (nodes_of one) s.state).peers peer s.state idle packet.message

    same_body : (body : List ℕ) → answered one s body ≡ answered two s body
    unfolding answered
    same_body body = go (packet_spelled body)
      where
        go : (r : Result Packet MessageFault) → taken_in one s r ≡ taken_in two s r
        go (Ok packet) = same_packet packet
        go (Err fault) = refl

    body_idle : (body : List ℕ) → LeavesIdle (answered one s body)
    unfolding answered
    body_idle body = go (packet_spelled body)
      where
        go : (r : Result Packet MessageFault) → LeavesIdle (taken_in one s r)
        go (Ok packet) = packet_idle packet
        go (Err fault) = tt

  same_run : (s : State) (bodies : List (List ℕ)) → Idle s.state → replica_run one s bodies ≡ replica_run two s bodies
  same_run s [] idle = refl
  same_run s (body ∷ bodies) idle =
      go (answered one s body) (body_idle s idle body) (λ t h. same_run t bodies h) ∙ ap (λ r. goes_on s r (λ new. replica_run two new bodies)) (same_body s idle body)
    where
      go : (r : Result Answer ServeFault) → LeavesIdle r → ((t : State) → Idle t.state → replica_run one t bodies ≡ replica_run two t bodies)
          → goes_on s r (λ new. replica_run one new bodies) ≡ goes_on s r (λ new. replica_run two new bodies)
      go (Ok answer) h others = ap (preceded answer.sent) (others answer.state h)
      go (Err fault) h others = refl

  same_served : (bytes : List ℕ) → served one bytes ≡ served two bytes
  same_served bytes = ap (λ (r : Run). record { replies = r.replies; state = r.state; fault = first_fault r.fault (rest_fault (rest_of bytes) (front_of (rest_of bytes))) })
      (same_run start (bodies_of bytes) refl)

-- what was served under one name was served under any other
pub serves_any : (pair : Pair) (own peer : Node) (r before after : Option (List ℕ)) (result : Result (Unit {0}) ServeFault) → pair.peer ≡ peer
    → IfSome r (λ input. Serves pair before after input result) → IfSome r (λ input. Serves (record { own = own; peer = peer }) before after input result)
serves_any pair own peer None before after result same h = tt
serves_any pair own peer (Some input) before after result same h = subst (λ (p : Node). Serves (record { own = own; peer = p }) before after input result) same
    (record { output = h.output; wrote = h.wrote; is = subst (λ (r : Run). WroteFor r result h.output) (same_served pair.own own pair.peer input) h.is })

-- and what was answered was answered under any other
pub answered_any : (pair : Pair) (own peer : Node) (before after : Option (List ℕ)) (input : List ℕ) → pair.peer ≡ peer
    → AllAnswered pair before after input → AllAnswered (record { own = own; peer = peer }) before after input
answered_any pair own peer before after input same h = subst (λ (p : Node). AllAnswered (record { own = own; peer = p }) before after input) same
    (let e = same_run pair.own own pair.peer start (bodies_of input) refl in
    record { taken = subst (λ (r : Run). r.fault ≡ None) e h.taken; wrote = subst (λ (r : Run). Appends before after (frames_of r.replies)) e h.wrote })

pub cause_any : {R : Type 0} (B : Type 0) (gives : R → List ℕ → R → Type 0) (fails : R → R → Type 0) (old new : R) (pair : Pair) (own peer : Node) (before after : Option (List ℕ)) (result : Result (Unit {0}) ServeFault) → pair.peer ≡ peer
    → IfErr result (Cause (Unread gives fails old new (AllAnswered pair before after)) B)
    → IfErr result (Cause (Unread gives fails old new (AllAnswered (record { own = own; peer = peer }) before after)) B)
cause_any B gives fails old new pair own peer before after (Ok done) same h = tt
cause_any B gives fails old new pair own peer before after (Err fault) same h =
    cause_of (λ u. record { pieces = u.pieces; fact = answered_any pair own peer before after _ same u.fact; last = u.last }) (λ b. b) fault h

pub order_any : {R W : Type 0} (gives : R → List ℕ → R → Type 0) (flushed : W → Type 0) (contents : W → Option (List ℕ)) (old new : R) (first last : W) (pair : Pair) (own peer : Node) (result : Result (Unit {0}) ServeFault) → pair.peer ≡ peer
    → IfErr result (Cause ⊤ (InTurn gives flushed contents old new first last (λ w input. AllAnswered pair (contents first) (contents w) input)))
    → IfErr result (Cause ⊤ (InTurn gives flushed contents old new first last (λ w input. AllAnswered (record { own = own; peer = peer }) (contents first) (contents w) input)))
order_any gives flushed contents old new first last pair own peer (Ok done) same h = tt
order_any gives flushed contents old new first last pair own peer (Err fault) same h =
    cause_of (λ u. u) (λ (t : InTurn gives flushed contents old new first last (λ w input. AllAnswered pair (contents first) (contents w) input)). record {
      piece = t.piece;
      earlier = t.earlier;
      gave = t.gave;
      between = t.between;
      out = t.out;
      fact = answered_any pair own peer _ _ _ same t.fact;
      part = t.part;
      since = t.since;
    }) fault h
