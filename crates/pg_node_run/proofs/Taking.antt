-- What a packet that is taken, and an action, make of a node with its links.
use Rattle.std.proofs.Common.{◌≡◌, ◌≢◌, ◌<◌, ◌+◌, ◌∙◌, ◌⊎◌, ℕ, cond, take, length, List}
use Rattle.std.proofs.Common.{[], ◌∷◌, ◌++◌, refl, sym, ap, subst, inl, inr, append-nil}
use Rattle.std.specs.Prelude.{if◌then◌else◌, max, nat_eq, nat_le, Bool, true}
use Rattle.std.specs.Prelude.{false, Option, Some, None, Result, Ok, Err}
use Rattle.std.proofs.lemmas.Bool.{cases_eq, eq-eqb, ne_eqb}
use Rattle.pg_node.specs.PgFrame.declared.fault.TooLong as frame
use Rattle.pg_node.specs.PgFrame.Frames.{front_of, after_front}
use Rattle.pg_node.specs.PgGroup.declared.table.GroupTable.{Ghosts}
use Rattle.pg_node.specs.PgStep.Machines.Clocked.{Timed}
use Rattle.pg_node.specs.PgMessageTypes.declared.fault.MessageFault.{MessageFault}
use Rattle.pg_node.specs.PgMessageTypes.declared.packet.Packet.{Packet}
use Rattle.pg_node.specs.PgMessageTypes.Reading.{packet_spelled}
use Rattle.pg_node.specs.declared.node.Node.{Node}
use Rattle.pg_node.specs.PgNodeSends.Dones.{FramedDone}
use Rattle.pg_node.specs.PgNodeSends.Framed.{listed_of}
use Rattle.pg_node.specs.PgNodeState.declared.state.fault.NodeFault.{NodeFault}
use Rattle.pg_node.specs.PgNodeState.declared.state.fault.NodeFault.TheVariants.{Refused, OutOfMemory}
use Rattle.pg_node.specs.PgNodeState.declared.state.fault.NodeFault.TheVariants.{TooLong, Message, Damaged}
use Rattle.pg_node.specs.Bytes.{next_packet, packet_at, packet_in, passed, closed, is_drained}
use Rattle.pg_node.specs.PgNodeState.declared.state.NodeState.{NodeState}
use Rattle.pg_node.specs.PgNodeState.Issued.{ports_of}
use Rattle.pg_node.specs.PgNodeSends.Frames.{AreSmallFrames}
use Rattle.pg_node.specs.Links.{Link, at_link}
use Rattle.pg_node.specs.Nodes.{held_by, has_lost, links_of, sent_out, step_link, taken_as, taken_of, TakesNext}
use Rattle.pg_node.specs.PgNodeSends.Sendable.{AreSendable}
use Rattle.pg_node.specs.PgNodeState.States.{names_of, nodes_of, state_of, answers_of, step_see_loss, Gave, Comes}
use Rattle.pg_node.specs.PgNodeSends.Sent.{stamped_of}
use Rattle.pg_node.specs.PgNodeOpens.Places.{name_at}
use Rattle.pg_node_run.specs.declared.linked.LinkedNode.{LinkedNode}
use Rattle.pg_node_run.specs.Acts.{Act, Took, Saw, Did, event_of, is_from, loss_of}
use Rattle.pg_node_run.specs.Events.{ActsOnce, IsOfPeer, IsFault, told_of_loss}
use Rattle.pg_node_run.specs.Follows.{node_of, peers_of, log_of}
use Rattle.pg_node_run.proofs.Acting.{happened_by, acts_once}
use Rattle.pg_node_run.proofs.Fronts.{front_alone, front_alone_len, front_taken}
use Rattle.pg_node_run.proofs.Moving.{Closes, link_there, link_else, marks_kept}
use Rattle.pg_node.specs.PgStep.declared.answer.Answer.{Answer}
use Rattle.pg_node.specs.PgStep.declared.refusal.Refusal.{Refusal}
use Rattle.pg_node.specs.PgStep.Nodes.{Node as Name, Nodes}
use Rattle.pg_node.specs.PgStep.State.{State}
use Rattle.pg_node.specs.PgStep.declared.refusal.Refusal.TheVariants.{NodeLost, NotDrained, ClockFull}
use Rattle.pg_node.specs.PgStep.Losses.{see_loss}
use Rattle.pg_node.specs.PgStep.Step.{Action, TimedTurn, CLOCK_LIMIT, at_clock, step_take, step_act, timed}
use Rattle.pg_node.specs.PgStep.Turns.{NodeTurn}

-- ---- the next packet of a link

pub record IsNext (link : Link) (packet : Packet) : Type 0 where
  pub body : List ℕ
  pub front : front_of link.unread ≡ Ok (Some body)
  pub spelled : packet_spelled body ≡ Ok packet

-- it is of a link that is not damaged
untaken_of : (k : ℕ) (links : ℕ → Link) (packet : Packet) (came : List ℕ) (place : ℕ) → next_packet (links k) ≡ Ok (Some packet) → (links place).damaged ≡ true
    → cond (nat_eq k place) came [] ≡ []
untaken_of k links packet came place next damaged = go (cases_eq place k)
  where
    go : (place ≡ k) ⊎ (place ≢ k) → cond (nat_eq k place) came [] ≡ []
    go (inl e) =
        let none : Err Damaged ≡ Ok (Some packet) =
        sym (ap (λ d. if d then Err Damaged else packet_at (front_of (links k).unread)) (subst (λ j. (links j).damaged ≡ true) e damaged)) ∙ next in
        absurd (cc)
    go (inr n) = ap (λ b. cond b came []) (ne_eqb k place (λ e. n (sym e)))

undamaged : (d : Bool) (r : Result (Option Packet) NodeFault) (packet : Packet) → (if d then Err Damaged else r) ≡ Ok (Some packet) → r ≡ Ok (Some packet)
undamaged true r packet e = absurd (cc)
undamaged false r packet e = e

spelled_as : (r : Result Packet MessageFault) (packet : Packet) → packet_in r ≡ Ok (Some packet) → r ≡ Ok packet
spelled_as (Ok other) packet e = cc
spelled_as (Err fault) packet e = absurd (cc)

read_at : (r : Result (Option (List ℕ)) frame.TooLong) (packet : Packet) → packet_at r ≡ Ok (Some packet)
    → (body : List ℕ) × (r ≡ Ok (Some body)) × (packet_spelled body ≡ Ok packet)
read_at (Ok (Some body)) packet e = (body, refl, spelled_as (packet_spelled body) packet e)
read_at (Ok None) packet e = absurd (cc)
read_at (Err fault) packet e = absurd (cc)

pub next_is : (link : Link) (packet : Packet) → next_packet link ≡ Ok (Some packet) → IsNext link packet
next_is link packet e =
    let read = read_at (front_of link.unread) packet (undamaged link.damaged (packet_at (front_of link.unread)) packet e) in
    record { body = read.0; front = read.1; spelled = read.2 }

-- ---- what a node took

-- the packet that was taken, which was the next, and what it led to
pub record TookPacket (names : List Name) (set : Nodes) (p : Name) (link : Link) (done : FramedDone) (s0 s : Timed State) (before after : ℕ → List Answer) : Type 0 where
  pub packet : Packet
  pub next : next_packet link ≡ Ok (Some packet)
  pub came : Comes names (step_take set p (stamped_of packet) s0) (Ok done) s before after

module _ (names : List Name) (set : Nodes) (p : Name) (link : Link) (s0 s : Timed State) (before after : ℕ → List Answer) where
  pub took_packet : (done : FramedDone) → TakesNext names (step_link set p link s0) (Ok (Some done)) s0 s before after → TookPacket names set p link done s0 s before after
  took_packet done took = by_lost (s0.state.lost p) took
    where
      by_turn : (packet : Packet) (r : Result TimedTurn Refusal) → next_packet link ≡ Ok (Some packet) → step_take set p (stamped_of packet) s0 ≡ r
          → TakesNext names (taken_as r) (Ok (Some done)) s0 s before after → TookPacket names set p link done s0 s before after
      by_turn packet (Ok t) next is h = record { packet = packet; next = next; came = subst (λ r. Comes names r (Ok done) s before after) (sym is) h }
      by_turn packet (Err refusal) next is h = absurd (cc)

      by_read : (r : Result (Option Packet) NodeFault) → next_packet link ≡ r → TakesNext names (taken_of set p s0 r) (Ok (Some done)) s0 s before after
          → TookPacket names set p link done s0 s before after
      by_read (Ok (Some packet)) is h = by_turn packet (step_take set p (stamped_of packet) s0) is refl h
      by_read (Ok None) is h = absurd h
      by_read (Err (Refused x)) is h = absurd (cc)
      by_read (Err (Message x)) is h = absurd (cc)
      by_read (Err TooLong) is h = absurd (cc)
      by_read (Err Damaged) is h = absurd (cc)
      by_read (Err OutOfMemory) is h = absurd (cc)

      by_lost : (lost : Bool) → TakesNext names (cond lost (Err (Refused NodeLost)) (taken_of set p s0 (next_packet link))) (Ok (Some done)) s0 s before after
          → TookPacket names set p link done s0 s before after
      by_lost true h = absurd (cc)
      by_lost false h = by_read (next_packet link) refl h

  -- none was there, and nothing changed
  pub took_nothing : TakesNext names (step_link set p link s0) (Ok None) s0 s before after → (next_packet link ≡ Ok None) × ((s ≡ s0) × (after ≡ before))
  took_nothing took = by_lost (s0.state.lost p) took
    where
      by_turn : (r : Result TimedTurn Refusal) → TakesNext names (taken_as r) (Ok None) s0 s before after → ⊥
      by_turn (Ok t) h = h
      by_turn (Err refusal) h = absurd (cc)

      by_read : (r : Result (Option Packet) NodeFault) → next_packet link ≡ r → TakesNext names (taken_of set p s0 r) (Ok None) s0 s before after
          → (next_packet link ≡ Ok None) × ((s ≡ s0) × (after ≡ before))
      by_read (Ok (Some packet)) is h = absurd (by_turn (step_take set p (stamped_of packet) s0) h)
      by_read (Ok None) is h = (is, h)
      by_read (Err (Refused x)) is h = absurd (cc)
      by_read (Err (Message x)) is h = absurd (cc)
      by_read (Err TooLong) is h = absurd (cc)
      by_read (Err Damaged) is h = absurd (cc)
      by_read (Err OutOfMemory) is h = absurd (cc)

      by_lost : (lost : Bool) → TakesNext names (cond lost (Err (Refused NodeLost)) (taken_of set p s0 (next_packet link))) (Ok None) s0 s before after
          → (next_packet link ≡ Ok None) × ((s ≡ s0) × (after ≡ before))
      by_lost true h = absurd (cc)
      by_lost false h = by_read (next_packet link) refl h

  -- the fault is one that was told
  pub took_fault : (told : Result (Option TimedTurn) NodeFault) (fault : NodeFault) → TakesNext names told (Err fault) s0 s before after → IsFault told fault
  took_fault told OutOfMemory h = tt
  took_fault (Ok (Some t)) (Refused y) h = absurd h
  took_fault (Ok (Some t)) (Message y) h = absurd h
  took_fault (Ok (Some t)) TooLong h = absurd h
  took_fault (Ok (Some t)) Damaged h = absurd h
  took_fault (Ok None) (Refused y) h = absurd h
  took_fault (Ok None) (Message y) h = absurd h
  took_fault (Ok None) TooLong h = absurd h
  took_fault (Ok None) Damaged h = absurd h
  took_fault (Err (Refused x)) (Refused y) h = cc
  took_fault (Err (Refused x)) (Message y) h = absurd (cc)
  took_fault (Err (Refused x)) TooLong h = absurd (cc)
  took_fault (Err (Refused x)) Damaged h = absurd (cc)
  took_fault (Err (Message x)) (Refused y) h = absurd (cc)
  took_fault (Err (Message x)) (Message y) h = cc
  took_fault (Err (Message x)) TooLong h = absurd (cc)
  took_fault (Err (Message x)) Damaged h = absurd (cc)
  took_fault (Err TooLong) (Refused y) h = absurd (cc)
  took_fault (Err TooLong) (Message y) h = absurd (cc)
  took_fault (Err TooLong) TooLong h = refl
  took_fault (Err TooLong) Damaged h = absurd (cc)
  took_fault (Err Damaged) (Refused y) h = absurd (cc)
  took_fault (Err Damaged) (Message y) h = absurd (cc)
  took_fault (Err Damaged) TooLong h = absurd (cc)
  took_fault (Err Damaged) Damaged h = refl
  took_fault (Err OutOfMemory) (Refused y) h = absurd (cc)
  took_fault (Err OutOfMemory) (Message y) h = absurd (cc)
  took_fault (Err OutOfMemory) TooLong h = absurd (cc)
  took_fault (Err OutOfMemory) Damaged h = absurd (cc)

-- ---- the links behind it

passed_outbox : (k : ℕ) (links : ℕ → Link) (place : ℕ) → (at_link k passed links place).outbox ≡ (links place).outbox
passed_outbox k links place = go (cases_eq place k)
  where
    go : (place ≡ k) ⊎ (place ≢ k) → (at_link k passed links place).outbox ≡ (links place).outbox
    go (inl e) = subst (λ j. (at_link k passed links j).outbox ≡ (links j).outbox) (sym e) (ap (λ (l : Link). l.outbox) (link_there k passed links))
    go (inr n) = ap (λ (l : Link). l.outbox) (link_else k place passed links n)

taken_unread : (k : ℕ) (links links2 : ℕ → Link) (body : List ℕ) → ((place : ℕ) → (links2 place).unread ≡ (links place).unread) → front_of (links k).unread ≡ Ok (Some body)
    → (place : ℕ) → (links place).unread ≡ cond (nat_eq k place) (take (4 + length body) (links k).unread) [] ++ (at_link k passed links2 place).unread
taken_unread k links links2 body same front place = go (cases_eq place k)
  where
    go : (place ≡ k) ⊎ (place ≢ k) → (links place).unread ≡ cond (nat_eq k place) (take (4 + length body) (links k).unread) [] ++ (at_link k passed links2 place).unread
    go (inl e) = subst (λ j. (links j).unread ≡ cond (nat_eq k j) (take (4 + length body) (links k).unread) [] ++ (at_link k passed links2 j).unread) (sym e)
        (front_taken (links k).unread body front
        ∙ (ap (λ w. take (4 + length body) (links k).unread ++ after_front w) (sym (same k))
        ∙ (ap (λ (l : Link). take (4 + length body) (links k).unread ++ l.unread) (sym (link_there k passed links2))
        ∙ ap (λ b. cond b (take (4 + length body) (links k).unread) [] ++ (at_link k passed links2 k).unread) (sym (eq-eqb k k refl)))))
    go (inr n) = sym (same place)
        ∙ (ap (λ (l : Link). l.unread) (sym (link_else k place passed links2 n))
        ∙ ap (λ b. cond b (take (4 + length body) (links k).unread) [] ++ (at_link k passed links2 place).unread) (sym (ne_eqb k place (λ e. n (sym e)))))

-- ---- the loss of a peer

-- a loss is seen of the peer at a place, where nothing waits then, or of another
closes_there : {T L I : Type 0} {g : Ghosts T} (peer last : ℕ) (links : ℕ → Link) (place : ℕ) (act : Act) (b : LinkedNode T L I g) → act.input ≡ Saw peer last
    → links_of (node_of b) ≡ at_link peer closed links → Closes place act (links_of (node_of b) place)
closes_there peer last links place act b saw shut = go (cases_eq peer place)
  where
    go : (peer ≡ place) ⊎ (peer ≢ place) → Closes place act (links_of (node_of b) place)
    go (inl e) = inr (
      (last, saw ∙ ap (λ p. Saw p last) e),
      ap (λ (ls : ℕ → Link). (ls place).outbox) shut ∙ (ap (λ j. (at_link peer closed links j).outbox) (sym e) ∙ ap (λ (l : Link). l.outbox) (link_there peer closed links)),
    )
    go (inr n) = inl (ap (λ input. loss_of place input ++ []) saw ∙ ap (λ b. cond b (last ∷ []) [] ++ []) (ne_eqb peer place n))

-- the turn is one that is in time
in_time : (few : Bool) (t turn : TimedTurn) → cond few (Ok t) (Err ClockFull) ≡ Ok turn → t ≡ turn
in_time true t turn made = cc
in_time false t turn made = absurd (cc)

-- the turn of a loss
loss_turn : (lost : Bool) (clock : ℕ) (t : NodeTurn) (turn : TimedTurn) → timed clock (cond lost (Err NodeLost) (Ok t)) ≡ Ok turn → at_clock clock t ≡ turn
loss_turn true clock t turn made = absurd (cc)
loss_turn false clock t turn made = in_time (nat_le clock CLOCK_LIMIT) (at_clock clock t) turn made

-- where nothing is left of the peer, and its loss was not seen
not_refused : (lost drained : Bool) (r : Result TimedTurn Refusal) (turn : TimedTurn) → cond lost (Err NodeLost) (cond drained r (Err NotDrained)) ≡ Ok turn → r ≡ Ok turn
not_refused true drained r turn made = absurd (cc)
not_refused false true r turn made = made
not_refused false false r turn made = absurd (cc)

-- a peer of which no loss is seen is another than that of which one is
another : (place peer last : ℕ) → cond (nat_eq peer place) (last ∷ []) [] ++ [] ≡ [] → place ≢ peer
another place peer last none same =
    let there : (last ∷ []) ++ [] ≡ [] = ap (λ b. cond b (last ∷ []) [] ++ []) (sym (eq-eqb peer place (sym same))) ∙ none in
    absurd (cc)

closed_unread : (k : ℕ) (links : ℕ → Link) (place : ℕ) → (at_link k closed links place).unread ≡ (links place).unread
closed_unread k links place = go (cases_eq place k)
  where
    go : (place ≡ k) ⊎ (place ≢ k) → (at_link k closed links place).unread ≡ (links place).unread
    go (inl e) = subst (λ j. (at_link k closed links j).unread ≡ (links j).unread) (sym e) (ap (λ (l : Link). l.unread) (link_there k closed links))
    go (inr n) = ap (λ (l : Link). l.unread) (link_else k place closed links n)

module _ {T L I : Type 0} {g : Ghosts T} (accepts : L → List ℕ → L → Type 0) (gives : I → List ℕ → I → Type 0)
    (link_rests : (a : L) → accepts a [] a) (inlet_rests : (a : I) → gives a [] a) where
  abbrev Gives : LinkedNode T L I g → TimedTurn → NodeState T g → Type 0
  Gives a turn n = Gave (name_at (names_of (held_by (node_of a))) 0) turn.reported.gave (answers_of (held_by (node_of a))) (answers_of n)

  -- a packet was taken, and that was logged
  pub take_acts : (a b : LinkedNode T L I g) (m m2 : Node T g) (peer : ℕ) (packet : Packet) (done : FramedDone) → peer + 1 < length (names_of (held_by (node_of a))) → next_packet (links_of (node_of a) peer) ≡ Ok (Some packet)
      → Comes (names_of (held_by (node_of a)))
      (step_take (nodes_of (held_by (node_of a))) (name_at (names_of (held_by (node_of a))) (peer + 1)) (stamped_of packet) (state_of (held_by (node_of a))))
      (Ok done) (state_of (held_by m)) (answers_of (held_by (node_of a))) (answers_of (held_by m))
      → AreSendable (names_of (held_by (node_of a))) (listed_of done.sends) → AreSmallFrames (listed_of done.sends)
      → ((place : ℕ) → links_of m place ≡ at_link peer passed (sent_out (listed_of done.sends) (links_of (node_of a))) place)
      → names_of (held_by m) ≡ names_of (held_by (node_of a)) → ports_of (held_by m) ≡ ports_of (held_by (node_of a))
      → node_of b ≡ m2 → held_by m2 ≡ held_by m → links_of m2 ≡ links_of m → log_of b ≡ log_of a ++ ((state_of (held_by m2)).clock, event_of (Took peer (stamped_of packet))) ∷ [] → peers_of b ≡ peers_of a
      → ActsOnce accepts gives (IsOfPeer peer) a b
  take_acts a b m m2 peer packet done there next came fits small sent names ports node same wires log peers =
      let links = links_of (node_of a) in
      let happened = happened_by (names_of (held_by (node_of a)))
      (step_take (nodes_of (held_by (node_of a))) (name_at (names_of (held_by (node_of a))) (peer + 1)) (stamped_of packet) (state_of (held_by (node_of a))))
      done (state_of (held_by m)) (answers_of (held_by (node_of a))) (answers_of (held_by m)) came in
      let is = next_is (links peer) packet next in
      let act : Act = record { input = Took peer (stamped_of packet); turn = happened.turn; sends = (listed_of done.sends); came = take (4 + length is.body) (links peer).unread } in
      let held = ap held_by node ∙ same in
      let wired = ap links_of node ∙ wires in record {
        act = act;
        wanted = refl;
        follows = acts_once accepts gives link_rests inlet_rests a b act (ap names_of held ∙ names) (ap ports_of held ∙ ports)
            (record {
              there = there;
              made = happened.made;
              state = ap state_of held ∙ happened.happens.state;
              answers = subst (λ (n : NodeState T g). Gives a happened.turn n) (sym held) happened.happens.answers;
              sends = happened.happens.told.sends;
              fits = fits;
              small = small;
              came = record {
                body = is.body;
                packet = packet;
                front = front_alone (links peer).unread is.body is.front;
                alone = front_alone_len (links peer).unread is.body is.front;
                spelled = is.spelled;
                is = refl;
              };
            })
            (log ∙ ap (λ (n : Node T g). log_of a ++ ((state_of (held_by n)).clock, event_of (Took peer (stamped_of packet))) ∷ []) (sym node)) peers
            (λ place none. ap (λ (ls : ℕ → Link). (ls place).outbox) wired ∙ (ap (λ (l : Link). l.outbox) (sent place) ∙ passed_outbox peer (sent_out (listed_of done.sends) links) place))
            (λ place. inl refl)
            (λ place. taken_unread peer links (sent_out (listed_of done.sends) links) is.body (λ other. refl) is.front place
            ∙ (ap (λ (l : Link). cond (is_from place (Took peer (stamped_of packet))) (take (4 + length is.body) (links peer).unread) [] ++ l.unread) (sym (sent place))
            ∙ ap (λ (ls : ℕ → Link). cond (is_from place (Took peer (stamped_of packet))) (take (4 + length is.body) (links peer).unread) [] ++ (ls place).unread) (sym wired)))
            (λ place. ap (λ (ls : ℕ → Link). (ls place).damaged) wired
            ∙ (ap (λ (l : Link). l.damaged) (sent place) ∙ marks_kept peer passed (λ l. refl) (sent_out (listed_of done.sends) links) place))
            (λ place. untaken_of peer links packet act.came place next);
      }

  -- an action was made, and that was logged
  pub action_acts : (a b : LinkedNode T L I g) (m m2 : Node T g) (action : Action) (done : FramedDone)
      → Comes (names_of (held_by (node_of a)))
      (step_act (nodes_of (held_by (node_of a))) (ports_of (held_by (node_of a))) action (state_of (held_by (node_of a))))
      (Ok done) (state_of (held_by m)) (answers_of (held_by (node_of a))) (answers_of (held_by m))
      → AreSendable (names_of (held_by (node_of a))) (listed_of done.sends) → AreSmallFrames (listed_of done.sends)
      → ((place : ℕ) → links_of m place ≡ sent_out (listed_of done.sends) (links_of (node_of a)) place)
      → names_of (held_by m) ≡ names_of (held_by (node_of a)) → ports_of (held_by m) ≡ ports_of (held_by (node_of a))
      → node_of b ≡ m2 → held_by m2 ≡ held_by m → links_of m2 ≡ links_of m → log_of b ≡ log_of a ++ ((state_of (held_by m2)).clock, event_of (Did action)) ∷ [] → peers_of b ≡ peers_of a
      → ActsOnce accepts gives (λ input. input ≡ Did action) a b
  action_acts a b m m2 action done came fits small sent names ports node same wires log peers =
      let happened = happened_by (names_of (held_by (node_of a)))
      (step_act (nodes_of (held_by (node_of a))) (ports_of (held_by (node_of a))) action (state_of (held_by (node_of a))))
      done (state_of (held_by m)) (answers_of (held_by (node_of a))) (answers_of (held_by m)) came in
      let act : Act = record { input = Did action; turn = happened.turn; sends = (listed_of done.sends); came = [] } in
      let held = ap held_by node ∙ same in
      let wired = ap links_of node ∙ wires in record {
        act = act;
        wanted = refl;
        follows = acts_once accepts gives link_rests inlet_rests a b act (ap names_of held ∙ names) (ap ports_of held ∙ ports)
            (record {
              there = tt;
              made = happened.made;
              state = ap state_of held ∙ happened.happens.state;
              answers = subst (λ (n : NodeState T g). Gives a happened.turn n) (sym held) happened.happens.answers;
              sends = happened.happens.told.sends;
              fits = fits;
              small = small;
              came = refl;
            })
            (log ∙ ap (λ (n : Node T g). log_of a ++ ((state_of (held_by n)).clock, event_of (Did action)) ∷ []) (sym node)) peers
            (λ place none. ap (λ (ls : ℕ → Link). (ls place).outbox) wired ∙ ap (λ (l : Link). l.outbox) (sent place))
            (λ place. inl refl)
            (λ place. ap (λ (l : Link). l.unread) (sym (sent place)) ∙ ap (λ (ls : ℕ → Link). (ls place).unread) (sym wired))
            (λ place. ap (λ (ls : ℕ → Link). (ls place).damaged) wired ∙ ap (λ (l : Link). l.damaged) (sent place)) (λ place damaged. refl);
      }

  -- the loss of a peer was seen, and that was logged
  pub loss_acts : (a b : LinkedNode T L I g) (m m2 : Node T g) (peer last : ℕ) (done : FramedDone) → peer + 1 < length (names_of (held_by (node_of a)))
      → Comes (names_of (held_by (node_of a))) (told_of_loss (node_of a) peer last) (Ok done) (state_of (held_by m)) (answers_of (held_by (node_of a))) (answers_of (held_by m))
      → links_of m ≡ at_link peer closed (links_of (node_of a))
      → names_of (held_by m) ≡ names_of (held_by (node_of a)) → ports_of (held_by m) ≡ ports_of (held_by (node_of a))
      → node_of b ≡ m2 → held_by m2 ≡ held_by m → links_of m2 ≡ links_of m → log_of b ≡ log_of a ++ ((state_of (held_by m2)).clock, event_of (Saw peer last)) ∷ [] → peers_of b ≡ peers_of a
      → ActsOnce accepts gives (λ input. input ≡ Saw peer last) a b
  loss_acts a b m m2 peer last done there came shut names ports node same wires log peers =
      let links = links_of (node_of a) in
      let s = state_of (held_by (node_of a)) in
      let p = name_at (names_of (held_by (node_of a))) (peer + 1) in
      let happened = happened_by (names_of (held_by (node_of a))) (told_of_loss (node_of a) peer last) done (state_of (held_by m)) (answers_of (held_by (node_of a))) (answers_of (held_by m)) came in
      let made : step_see_loss p last s ≡ Ok happened.turn = not_refused (s.state.lost p) (is_drained (links peer)) (step_see_loss p last s) happened.turn happened.made in
      let is : at_clock (max s.clock last + 1) (see_loss p s.state) ≡ happened.turn = loss_turn (s.state.lost p) (max s.clock last + 1) (see_loss p s.state) happened.turn made in
      let act : Act = record { input = Saw peer last; turn = happened.turn; sends = []; came = [] } in
      let held = ap held_by node ∙ same in
      let wired = ap links_of node ∙ wires in record {
        act = act;
        wanted = refl;
        follows = acts_once accepts gives link_rests inlet_rests a b act (ap names_of held ∙ names) (ap ports_of held ∙ ports)
            (record {
              there = there;
              made = made;
              state = ap state_of held ∙ happened.happens.state;
              answers = subst (λ (n : NodeState T g). Gives a happened.turn n) (sym held) happened.happens.answers;
              sends = ap (λ (t : TimedTurn). t.sends) is;
              fits = record { each = tt; apart = tt; alike = tt };
              small = tt;
              came = refl;
            })
            (log ∙ ap (λ (n : Node T g). log_of a ++ ((state_of (held_by n)).clock, event_of (Saw peer last)) ∷ []) (sym node)) peers
            (λ place none. ap (λ (ls : ℕ → Link). (ls place).outbox) wired
            ∙ (ap (λ (ls : ℕ → Link). (ls place).outbox) shut
            ∙ (ap (λ (l : Link). l.outbox) (link_else peer place closed links (another place peer last none)) ∙ sym (append-nil (links place).outbox))))
            (λ place. closes_there peer last links place act b refl (wired ∙ shut))
            (λ place. sym (ap (λ (ls : ℕ → Link). (ls place).unread) wired ∙ (ap (λ (ls : ℕ → Link). (ls place).unread) shut ∙ closed_unread peer links place)))
            (λ place. ap (λ (ls : ℕ → Link). (ls place).damaged) wired ∙ (ap (λ (ls : ℕ → Link). (ls place).damaged) shut ∙ marks_kept peer closed (λ l. refl) links place))
            (λ place damaged. refl);
      }

-- a loss is seen where the link is drained
drained_by : (lost drained : Bool) (rest : Result TimedTurn Refusal) (turn : TimedTurn) → cond lost (Err NodeLost) (cond drained rest (Err NotDrained)) ≡ Ok turn → drained ≡ true
drained_by true drained rest turn made = absurd (cc)
drained_by false true rest turn made = refl
drained_by false false rest turn made = absurd (cc)

pub was_drained : {T : Type 0} {g : Ghosts T} (node : Node T g) (peer last : ℕ) (done : FramedDone) (s : Timed State) (before after : ℕ → List Answer)
    → Comes (names_of (held_by node)) (told_of_loss node peer last) (Ok done) s before after → is_drained (links_of node peer) ≡ true
was_drained node peer last done s before after came =
    let happened = happened_by (names_of (held_by node)) (told_of_loss node peer last) done s before after came in
    drained_by (has_lost (held_by node) peer) (is_drained (links_of node peer)) _ happened.turn happened.made
