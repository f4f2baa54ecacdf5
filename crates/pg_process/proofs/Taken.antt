-- What came of the next packet of a peer.
use Rattle.std.proofs.Common.{◌≡◌, ◌⊎◌, ◌<◌, ◌+◌, ◌∙◌, ℕ, suc, Bool, true, false, cond, take, length, get_or, List, [], ◌∷◌, ◌++◌, Option, Some, None, Result, Ok, Err, inl, inr, refl, sym, ap, subst, append-nil, arith}
use Rattle.std.specs.Prelude.{if◌then◌else◌, max}
use Rattle.std.specs.List.{AllByRecursion, flat_map}
use Rattle.std.proofs.lemmas.List.{get_or_default}
use Rattle.pg_node.specs.Bytes.{damages, next_packet, packet_at, packet_in, passed, marked}
use Rattle.pg_node.specs.Links.{Link, at_link}
use Rattle.pg_node.specs.Nodes.{held_by, links_of, read_next, sent_out, step_link, taken_as, taken_of, TakesNext}
use Rattle.pg_node.specs.PgFrame.declared.fault.TooLong as frame
use Rattle.pg_node.specs.PgFrame.Frames.{front_of, after_front}
use Rattle.pg_node.specs.PgMessageTypes.declared.fault.MessageFault.{MessageFault}
use Rattle.pg_node.specs.PgMessageTypes.declared.packet.Packet.{Packet}
use Rattle.pg_node.specs.PgMessageTypes.Reading.{packet_spelled}
use Rattle.pg_node.specs.PgNodeOpens.Places.{name_at, whole_in}
use Rattle.pg_node.specs.PgNodeSends.Dones.{FramedDone}
use Rattle.pg_node.specs.PgNodeSends.Framed.{listed_of}
use Rattle.pg_node.specs.PgNodeSends.Frames.{AreSmallFrames}
use Rattle.pg_node.specs.PgNodeSends.Sendable.{AreSendable}
use Rattle.pg_node.specs.PgNodeSends.Sent.{stamped_of}
use Rattle.pg_node.specs.PgNodeState.Issued.{ports_of}
use Rattle.pg_node.specs.PgNodeState.States.{names_of, state_of, answers_of, Gave}
use Rattle.pg_node.specs.PgNodeState.declared.state.fault.NodeFault.{NodeFault}
use Rattle.pg_node.specs.PgNodeState.declared.state.fault.NodeFault.TheVariants.{Refused, OutOfMemory, TooLong, Message, Damaged}
use Rattle.pg_node.specs.PgStep.Faults.{first_that_holds}
use Rattle.pg_node.specs.PgStep.Machines.Clocked.{Timed}
use Rattle.pg_node.specs.PgStep.Nodes.{Node as Name, Nodes}
use Rattle.pg_node.specs.PgStep.State.{State, live_nodes}
use Rattle.pg_node.specs.PgStep.Step.{TimedTurn, step_take}
use Rattle.pg_node.specs.PgStep.StepLaws.{refusal_of, is_full, is_no_message}
use Rattle.pg_node.specs.PgStep.declared.answer.Answer.{Answer}
use Rattle.pg_node.specs.PgStep.declared.refusal.Refusal.{Refusal}
use Rattle.pg_node.specs.PgStep.declared.refusal.Refusal.TheVariants.{NotAMessage, NoSuchPlace, NotWaiting, NodeLost, NotDrained, ClockFull, NotLost}
use Rattle.pg_node.proofs.PgNodeState.PgStep.Refusals.{takes_in_order}
use Rattle.pg_node_run.specs.Acts.{Act, Took as TookPacket}
use Rattle.pg_node_run.specs.Events.{IsFault}
use Rattle.pg_node_run.proofs.Acting.{happened_by}
use Rattle.pg_node_run.proofs.Fronts.{front_alone, front_alone_len, front_taken}
use Rattle.pg_node_run.proofs.Moving.{link_there}
use Rattle.pg_node_run.proofs.Taking.{next_is, took_packet}
use Rattle.pg_node_process.specs.Outputs.{IsFramed, Output, said as bytes_said}
use Rattle.pg_term.specs.declared.term.Term.{Term}
use Rattle.pg_process.specs.Chains.{Rests}
use Rattle.pg_process.specs.Deeds.{AsideSame, SaysTaken, Takes, Tells, fault_term, told_next}
use Rattle.pg_process.specs.Situations.{Setting, Situation, setting_of, situation_of}
use Rattle.pg_process.specs.Takings.{HasNone, TookOne, tells_full, tells_none}
use Rattle.pg_process.specs.declared.process.Process.{Process}

-- ---- a packet was taken

healthy : (damaged : Bool) (r : Result (Option Packet) NodeFault) (packet : Packet) → (if damaged then Err Damaged else r) ≡ Ok (Some packet) → damaged ≡ false
healthy true r packet e = absurd (cc)
healthy false r packet e = refl

-- an act takes the packet that is the next of the link
pub record TakesPacket (set : Setting) (a : Situation) (peer : ℕ) (act : Act) (b : Situation) : Type 0 where
  pub packet : Packet
  pub next : next_packet (a.links peer) ≡ Ok (Some packet)
  pub given : act.input ≡ TookPacket peer (stamped_of packet)
  pub takes : Takes set a peer act b

pub takes : (set : Setting) (a b : Situation) (peer : ℕ) (done : FramedDone) (s : Timed State) (x : ℕ → List Answer) (links : ℕ → Link)
    → peer + 1 < length set.names
    → TakesNext set.names (told_next set a peer) (Ok (Some done)) a.node.state s a.node.answers x
    → AreSendable set.names (listed_of done.sends) → AreSmallFrames (listed_of done.sends)
    → ((place : ℕ) → links place ≡ at_link peer passed (sent_out (listed_of done.sends) a.links) place)
    → b.node.state ≡ s → b.node.answers ≡ x → b.links ≡ links → AsideSame a b
    → (act : Act) × TakesPacket set a peer act b
takes set a b peer done s x links there event fits small sent state answers wires aside =
    let link = a.links peer in
    let p = name_at set.names (peer + 1) in
    let took = took_packet set.names (whole_in set.names) p link a.node.state s a.node.answers x done event in
    let happened = happened_by set.names (step_take (whole_in set.names) p (stamped_of took.packet) a.node.state) done s a.node.answers x took.came in
    let is = next_is link took.packet took.next in
    let front = take (4 + length is.body) link.unread in
    let after : (b.links peer).unread ≡ after_front link.unread = ap (λ (l : Link). l.unread)
    (ap (λ (ls : ℕ → Link). ls peer) wires ∙ (sent peer ∙ link_there peer passed (sent_out (listed_of done.sends) a.links))) in
    let act : Act = record { input = TookPacket peer (stamped_of took.packet); turn = happened.turn; sends = listed_of done.sends; came = front } in (
      act,
      record {
        packet = took.packet;
        next = took.next;
        given = refl;
        takes = record {
          leads = record {
            there = there;
            made = happened.made;
            state = state ∙ happened.happens.state;
            answers = subst (λ (y : ℕ → List Answer). Gave (name_at set.names 0) happened.turn.reported.gave a.node.answers y) (sym answers) happened.happens.answers;
            sends = happened.happens.told.sends;
            fits = fits;
            small = small;
            came = record {
              body = is.body;
              packet = took.packet;
              front = front_alone link.unread is.body is.front;
              alone = front_alone_len link.unread is.body is.front;
              spelled = is.spelled;
              is = refl;
            };
          };
          given = refl;
          sound = healthy link.damaged (packet_at (front_of link.unread)) took.packet took.next;
          taken = front_taken link.unread is.body is.front ∙ ap (λ w. front ++ w) (sym after);
          links = λ place. ap (λ (ls : ℕ → Link). ls place) wires ∙ sent place;
          aside = aside;
        };
      },
    )

-- ---- none was there

pub none_there : (lost : Bool) (link : Link) → next_packet link ≡ Ok None → (lost ≡ true) ⊎ ((link.damaged ≡ true) ⊎ (read_next lost link ≡ Ok None))
none_there true link e = inl refl
none_there false link e = inr (inr e)

module _ (m : Nodes) (p : Name) (link : Link) (s : Timed State) where
  -- the link is damaged, or the peer lost, where that is told
  pub damaged_told : step_link m p link s ≡ Err Damaged → link.damaged ≡ true
  damaged_told e = by_lost (s.state.lost p) e
    where
      by_turn : (r : Result TimedTurn Refusal) → taken_as r ≡ Err Damaged → ⊥
      by_turn (Ok t) h = cc
      by_turn (Err refusal) h = cc

      by_body : (r : Result Packet MessageFault) → taken_of m p s (packet_in r) ≡ Err Damaged → ⊥
      by_body (Ok packet) h = by_turn (step_take m p (stamped_of packet) s) h
      by_body (Err fault) h = cc

      by_front : (r : Result (Option (List ℕ)) frame.TooLong) → taken_of m p s (packet_at r) ≡ Err Damaged → ⊥
      by_front (Ok (Some body)) h = by_body (packet_spelled body) h
      by_front (Ok None) h = cc
      by_front (Err fault) h = cc

      by_mark : (damaged : Bool) → taken_of m p s (if damaged then Err Damaged else packet_at (front_of link.unread)) ≡ Err Damaged → damaged ≡ true
      by_mark true h = refl
      by_mark false h = absurd (by_front (front_of link.unread) h)

      by_lost : (lost : Bool) → cond lost (Err (Refused NodeLost)) (taken_of m p s (next_packet link)) ≡ Err Damaged → link.damaged ≡ true
      by_lost true h = absurd (cc)
      by_lost false h = by_mark link.damaged h

  lost_first : (lost full bad : Bool) → Some NodeLost ≡ first_that_holds ((lost, NodeLost) ∷ (full, ClockFull) ∷ (bad, NotAMessage) ∷ []) → lost ≡ true
  lost_first true full bad e = refl
  lost_first false true bad e = absurd (cc)
  lost_first false false true e = absurd (cc)
  lost_first false false false e = absurd (cc)

  pub lost_told : step_link m p link s ≡ Err (Refused NodeLost) → s.state.lost p ≡ true
  lost_told e = by_lost (s.state.lost p) refl e
    where
      by_turn : (packet : Packet) (r : Result TimedTurn Refusal) → step_take m p (stamped_of packet) s ≡ r → taken_as r ≡ Err (Refused NodeLost) → s.state.lost p ≡ true
      by_turn packet (Ok t) is h = absurd (cc)
      by_turn packet (Err refusal) is h =
          let same : refusal ≡ NodeLost = cc in
          lost_first (s.state.lost p) (is_full (max s.clock (stamped_of packet).stamp + 1)) (is_no_message (live_nodes m s.state) p (stamped_of packet).packet s.state)
          (sym (ap refusal_of is ∙ ap (λ (q : Refusal). Some q) same) ∙ takes_in_order m p (stamped_of packet) s)

      by_body : (r : Result Packet MessageFault) → taken_of m p s (packet_in r) ≡ Err (Refused NodeLost) → s.state.lost p ≡ true
      by_body (Ok packet) h = by_turn packet (step_take m p (stamped_of packet) s) refl h
      by_body (Err fault) h = absurd (cc)

      by_front : (r : Result (Option (List ℕ)) frame.TooLong) → taken_of m p s (packet_at r) ≡ Err (Refused NodeLost) → s.state.lost p ≡ true
      by_front (Ok (Some body)) h = by_body (packet_spelled body) h
      by_front (Ok None) h = absurd (cc)
      by_front (Err fault) h = absurd (cc)

      by_mark : (damaged : Bool) → taken_of m p s (if damaged then Err Damaged else packet_at (front_of link.unread)) ≡ Err (Refused NodeLost) → s.state.lost p ≡ true
      by_mark true h = absurd (cc)
      by_mark false h = by_front (front_of link.unread) h

      by_lost : (lost : Bool) → s.state.lost p ≡ lost → cond lost (Err (Refused NodeLost)) (taken_of m p s (next_packet link)) ≡ Err (Refused NodeLost) → s.state.lost p ≡ true
      by_lost true is h = is
      by_lost false is h = by_mark link.damaged h

-- ---- a fault was told

-- a fault that damages a link is told as it is
pub harm_told : (told : Result (Option TimedTurn) NodeFault) (fault : NodeFault) → IsFault told fault → damages fault ≡ true → told ≡ Err fault
harm_told told OutOfMemory is harm = absurd (cc)
harm_told told (Refused other) is harm = is
harm_told told (Message other) is harm = is
harm_told told TooLong is harm = is
harm_told told Damaged is harm = is

-- a fault tells that nothing is there, or that the clock is full
pub none_by : (told : Result (Option TimedTurn) NodeFault) (fault : NodeFault) → IsFault told fault → tells_none fault ≡ true → (told ≡ Err Damaged) ⊎ (told ≡ Err (Refused NodeLost))
none_by told OutOfMemory is none = absurd (cc)
none_by told (Refused NotAMessage) is none = absurd (cc)
none_by told (Refused NoSuchPlace) is none = absurd (cc)
none_by told (Refused NotWaiting) is none = absurd (cc)
none_by told (Refused NodeLost) is none = inr is
none_by told (Refused NotDrained) is none = absurd (cc)
none_by told (Refused ClockFull) is none = absurd (cc)
none_by told (Refused NotLost) is none = absurd (cc)
none_by told (Message other) is none = absurd (cc)
none_by told TooLong is none = absurd (cc)
none_by told Damaged is none = inl is

pub none_harms : (fault : NodeFault) → tells_none fault ≡ true → damages fault ≡ false
none_harms OutOfMemory none = absurd (cc)
none_harms (Refused NotAMessage) none = absurd (cc)
none_harms (Refused NoSuchPlace) none = refl
none_harms (Refused NotWaiting) none = refl
none_harms (Refused NodeLost) none = refl
none_harms (Refused NotDrained) none = refl
none_harms (Refused ClockFull) none = refl
none_harms (Refused NotLost) none = refl
none_harms (Message other) none = absurd (cc)
none_harms TooLong none = absurd (cc)
none_harms Damaged none = refl

pub full_by : (told : Result (Option TimedTurn) NodeFault) (fault : NodeFault) → IsFault told fault → tells_full fault ≡ true → told ≡ Err (Refused ClockFull)
full_by told OutOfMemory is full = absurd (cc)
full_by told (Refused NotAMessage) is full = absurd (cc)
full_by told (Refused NoSuchPlace) is full = absurd (cc)
full_by told (Refused NotWaiting) is full = absurd (cc)
full_by told (Refused NodeLost) is full = absurd (cc)
full_by told (Refused NotDrained) is full = absurd (cc)
full_by told (Refused ClockFull) is full = is
full_by told (Refused NotLost) is full = absurd (cc)
full_by told (Message other) is full = absurd (cc)
full_by told TooLong is full = absurd (cc)
full_by told Damaged is full = absurd (cc)

-- nothing is there where a fault tells so
pub none_left : (a : Process) (peer : ℕ) (fault : NodeFault) → IsFault (told_next (setting_of a) (situation_of a) peer) fault → tells_none fault ≡ true → HasNone peer a
none_left a peer fault is none = go (none_by (told_next (setting_of a) (situation_of a) peer) fault is none)
  where
    names : List Name
    names = names_of (held_by a.node)

    go : (told_next (setting_of a) (situation_of a) peer ≡ Err Damaged) ⊎ (told_next (setting_of a) (situation_of a) peer ≡ Err (Refused NodeLost)) → HasNone peer a
    go (inl e) = inr (inl (damaged_told (whole_in names) (name_at names (peer + 1)) (links_of a.node peer) (state_of (held_by a.node)) e))
    go (inr e) = inl (lost_told (whole_in names) (name_at names (peer + 1)) (links_of a.node peer) (state_of (held_by a.node)) e)

-- the name of a peer
next : (n : ℕ) → n + 1 ≡ suc n
next n = omega arith

pub peer_name : (names : List Name) (own : Name) (peers : List (List ℕ)) (peer : ℕ) (name : List ℕ) → names ≡ own ∷ peers → peer < length peers → name ≡ get_or peers peer name
    → name ≡ name_at names (peer + 1)
peer_name names own peers peer name is within here =
    here ∙ (get_or_default peers peer name [] within ∙ sym (ap (λ (ns : List Name). name_at ns (peer + 1)) is ∙ ap (λ k. name_at (own ∷ peers) k) (next peer)))

-- ---- deeds

-- another standing of the node, which is the same
situated : (a : Situation) (s : Timed State) (x : ℕ → List Answer) (links other : ℕ → Link) → s ≡ a.node.state → x ≡ a.node.answers → links ≡ other
    → ◌≡◌ {A = Situation} (record a { node = record { state = s; answers = x }; links = links }) (record a { links = other })
situated a s x links other e f g = λ i. record a { node = record { state = e i; answers = f i }; links = g i }

-- a packet was taken
pub took_one : (a b : Process) (peer : ℕ) (done : FramedDone) (s : Timed State) (x : ℕ → List Answer) (links : ℕ → Link) → peer < length a.peers.items
    → TakesNext (names_of (held_by a.node)) (told_next (setting_of a) (situation_of a) peer) (Ok (Some done)) (state_of (held_by a.node)) s (answers_of (held_by a.node)) x
    → AreSendable (names_of (held_by a.node)) (listed_of done.sends) → AreSmallFrames (listed_of done.sends)
    → ((place : ℕ) → links place ≡ at_link peer passed (sent_out (listed_of done.sends) (links_of a.node)) place)
    → state_of (held_by b.node) ≡ s → answers_of (held_by b.node) ≡ x → links_of b.node ≡ links
    → names_of (held_by b.node) ≡ names_of (held_by a.node) → ports_of (held_by b.node) ≡ ports_of (held_by a.node)
    → (said : List Output) → ((act : Act) → TakesPacket (setting_of a) (situation_of a) peer act (situation_of b) → SaysTaken (setting_of a) act (situation_of a) (situation_of b) said)
    → AllByRecursion IsFramed said
    → b.outlet.gathered.items ≡ a.outlet.gathered.items ++ flat_map bytes_said said → b.journal.gathered.items ≡ a.journal.gathered.items → AsideSame (situation_of a) (situation_of b)
    → TookOne peer a b
took_one a b peer done s x links within event fits small sent state answers wires names ports said says heard gathered journal aside =
    let there : peer + 1 < length (names_of (held_by a.node)) = omega (arith, ap (λ (ns : List Name). length ns) a.named, within) in
    let t = takes (setting_of a) (situation_of a) (situation_of b) peer done s x links there event fits small sent state answers wires aside in
    inl (
      t.0,
      record {
        said = said;
        does = (says t.0 t.1, t.1.takes);
        heard = heard;
        gathered = gathered;
        journal = journal ∙ sym (append-nil a.journal.gathered.items);
        setting = λ i. record { names = names i; ports = ports i };
      },
    )

-- nothing was
pub took_none : (a b : Process) → state_of (held_by b.node) ≡ state_of (held_by a.node) → answers_of (held_by b.node) ≡ answers_of (held_by a.node)
    → names_of (held_by b.node) ≡ names_of (held_by a.node) → ports_of (held_by b.node) ≡ ports_of (held_by a.node) → links_of b.node ≡ links_of a.node
    → b.outlet.gathered.items ≡ a.outlet.gathered.items → b.journal.gathered.items ≡ a.journal.gathered.items → AsideSame (situation_of a) (situation_of b) → b.told ≡ a.told
    → Rests a b
took_none a b state answers names ports links gathered journal aside told = record {
  same = λ i. record {
    node = record { state = state i; answers = answers i };
    links = links i;
    ports = aside.ports i;
    courtesies = aside.courtesies i;
    came = aside.came i;
    told = told i;
  };
  gathered = gathered;
  journal = journal;
  setting = λ i. record { names = names i; ports = ports i };
}

setting_is : (a : Process) (names : List Name) (ports : ℕ) → names ≡ names_of (held_by a.node) → ports ≡ ports_of (held_by a.node)
    → ◌≡◌ {A = Setting} (record { names = names; ports = ports }) (setting_of a)
setting_is a names ports e f = λ i. record { names = e i; ports = f i }

-- a fault was told
pub broke_one : (a b : Process) (peer : ℕ) (fault : NodeFault) (term : Term) (name : List ℕ) (s : Timed State) (x : ℕ → List Answer) (links : ℕ → Link)
    → peer < length a.peers.items → told_next (setting_of a) (situation_of a) peer ≡ Err fault → damages fault ≡ true
    → term ≡ fault_term name fault → name ≡ get_or a.peers.items peer name
    → ((outputs : List Output) × Tells term outputs × AllByRecursion IsFramed outputs × (b.outlet.gathered.items ≡ a.outlet.gathered.items ++ flat_map bytes_said outputs))
    → s ≡ state_of (held_by a.node) → x ≡ answers_of (held_by a.node) → links ≡ at_link peer (λ link. marked link fault) (links_of a.node)
    → situation_of b ≡ record (situation_of a) { node = record { state = s; answers = x }; links = links }
    → b.journal.gathered.items ≡ a.journal.gathered.items → (names : List Name) (ports : ℕ) → setting_of b ≡ record { names = names; ports = ports }
    → names ≡ names_of (held_by a.node) → ports ≡ ports_of (held_by a.node)
    → TookOne peer a b
broke_one a b peer fault term name s x links within told harms is here said state answers wires after journal names ports setting named counted =
    inr (
      fault,
      record {
        said = said.0;
        does = record {
          told = told;
          harms = harms;
          says = subst (λ t. Tells t said.0)
              (is ∙ ap (λ (n : List ℕ). fault_term n fault) (peer_name (names_of (held_by a.node)) (name_at (names_of (held_by a.node)) 0) a.peers.items peer name a.named within here)) said.1;
          after = after ∙ situated (situation_of a) s x links (at_link peer (λ link. marked link fault) (links_of a.node)) state answers wires;
        };
        heard = said.2;
        gathered = said.3;
        journal = journal ∙ sym (append-nil a.journal.gathered.items);
        setting = setting ∙ setting_is a names ports named counted;
      },
    )
