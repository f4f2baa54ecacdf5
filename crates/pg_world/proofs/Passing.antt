-- A packet that a node takes off the bytes that came.
use Rattle.std.proofs.Common.{◌≡◌, ◌≢◌, ◌+◌, ℕ, Bool, true, false, not, ◌||◌, cond, nat_eq, map, length, List, []}
use Rattle.std.proofs.Common.{◌∷◌, Option, Some, None, Result, Ok, Err, refl, sym, ap, ◌∙◌, inl, inr, ◌⊎◌, subst}
use Rattle.std.specs.Prelude.{slice_get, slice_set}
use Rattle.std.specs.List.{AllByRecursion}
use Rattle.std.proofs.Math.Path.{fun_ext}
use Rattle.std.proofs.lemmas.Bool.{cases_eq, eqb-true}
use Rattle.pg_world_packets.specs.PgFrame.declared.fault.TooLong.{TooLong}
use Rattle.pg_world_packets.specs.PgFrame.Frames.{front_of}
use Rattle.pg_world_packets.specs.PgGroup.Functions.{upd}
use Rattle.pg_world_packets.specs.PgMessageTypes.declared.fault.MessageFault.{MessageFault}
use Rattle.pg_world_packets.specs.PgMessageTypes.declared.message.Message.{Message}
use Rattle.pg_world_packets.specs.PgMessageTypes.declared.packet.Packet.{Packet}
use Rattle.pg_world_packets.specs.PgMessageTypes.Reading.{packet_spelled}
use Rattle.pg_world_packets.specs.PgStep.Machines.Places.{is_pair}
use Rattle.pg_world_packets.specs.PgStep.Machines.Machine.{Event, Take, Do, happens}
use Rattle.pg_world_packets.specs.PgStep.Machines.Clocked.{Timed, Stamped}
use Rattle.pg_world_packets.specs.PgFrame.Pieces.{piece_taken as bytes_taken}
use Rattle.pg_world_packets.specs.PgNodeOpens.Places.{whole_in, name_at as place_name}
use Rattle.pg_world_packets.specs.PgStep.declared.answer.Answer.{Answer}
use Rattle.pg_world_packets.specs.PgStep.declared.refusal.Refusal.{Refusal}
use Rattle.pg_world_packets.specs.PgStep.declared.refusal.Refusal.TheVariants.{NotAMessage, NoSuchPlace, NotWaiting}
use Rattle.pg_world_packets.specs.PgStep.declared.refusal.Refusal.TheVariants.{NodeLost, NotDrained, ClockFull, NotLost}
use Rattle.pg_world_packets.specs.PgStep.Config.{Config, name_at}
use Rattle.pg_world_packets.specs.PgStep.FrameMachine.{frame_machine}
use Rattle.pg_world_packets.specs.PgStep.State.{State}
use Rattle.pg_world_packets.specs.PgStep.Step.{Action, TimedTurn, step_take, step_act}
use Rattle.pg_world_packets.specs.PgNodeSends.contracts.framing.FramedOutgoing.TheImpl as frames
use Rattle.pg_world_packets.specs.PgNodeSends.Dones.{FramedDone}
use Rattle.pg_world_packets.specs.PgNodeSends.Framed.{listed_of}
use Rattle.pg_world_packets.specs.PgNodeState.declared.state.fault.NodeFault.{NodeFault}
use Rattle.pg_world_packets.specs.PgNodeState.declared.state.fault.NodeFault.TheVariants.{Refused, OutOfMemory, Message as BadMessage}
use Rattle.pg_world_packets.specs.PgNodeState.declared.state.fault.NodeFault.TheVariants.{TooLong as FrameTooLong, Damaged}
use Rattle.pg_node.specs.Bytes.{ReadsNext, damages, marked, packet_in, packet_at, next_packet}
use Rattle.pg_world_packets.specs.PgNodeSends.Frames.{AreSmallFrames}
use Rattle.pg_node.specs.Links.{Link, at_link}
use Rattle.pg_node.specs.Nodes.{read_next}
use Rattle.pg_world_packets.specs.PgNodeSends.Sendable.{AreSendable}
use Rattle.pg_world_packets.specs.PgNodeState.States.{Comes}
use Rattle.pg_world_packets.specs.PgNodeSends.Sent.{stamped_of}
use Rattle.pg_world_packets.specs.declared.effect.Effect.{Effect}
use Rattle.pg_world_packets.specs.declared.step.Stepped.TheVariants.{Happened}
use Rattle.pg_world_packets.specs.Effects.{effect_by}
use Rattle.pg_world.specs.Crossings.{Crossing, link_at, bytes_at, packet_as, packets_between, CanCross}
use Rattle.pg_world.specs.Crossings.{IsOnWay, IsWelcome, ShowsPast, ShowsBytesPast}
use Rattle.pg_world.proofs.Coming.{CameOverBytes}
use Rattle.pg_world_packets.proofs.Coming.{CameOf}
use Rattle.pg_world_packets.specs.PgWorldAccount.Losses.{is_lost}
use Rattle.pg_world_packets.specs.PgWorldAccount.Histories.{update_asked_by}
use Rattle.pg_world_packets.specs.PgWorldConfig.Seen.{Seen}
use Rattle.pg_world_packets.specs.Views.{peer_place}
use Rattle.pg_world_packets.specs.PgWorldAccount.Histories.{Account}
use Rattle.pg_world_packets.specs.Worlds.{TimedFrameWorld, ShowsNode}
use Rattle.pg_world.proofs.Crossed.{Acts, all_short, event_shown}
use Rattle.pg_world.proofs.Past.{Adds, ReadsFirst, ReadsLawful}
use Rattle.pg_world.proofs.Silent.{acts_silent, takes_silent}
use Rattle.pg_world_packets.proofs.PgStep.Machines.Steps.{happened}
use Rattle.pg_world_packets.proofs.Lossy.{lost_kept}
use Rattle.pg_world_packets.proofs.Recording.{Grew, updates_after}
use Rattle.pg_world_packets.proofs.Turning.{Left, pair_turned, pair_there, own_left}
use Rattle.pg_world_packets.proofs.Turning.{own_refused, taken_refused, taken_told, take_left}

-- ---- links

pub unmarked : (links : ℕ → Link) (k : ℕ) (fault : NodeFault) → damages fault ≡ false → at_link k (λ l. marked l fault) links ≡ links
unfolding upd
unmarked links k fault e = fun_ext (λ place. go place (nat_eq k place) (eqb-true k place))
  where
    go : (place : ℕ) (b : Bool) → (b ≡ true → k ≡ place) → cond b (marked (links k) fault) (links place) ≡ links place
    go place true is = ap (λ b. record (links k) { damaged = b || (links k).damaged }) e ∙ ap links (is refl)
    go place false is = refl

-- ---- the first packet

front_read : (r : Result (Option (List ℕ)) TooLong) (packet : Packet) → packet_at r ≡ Ok (Some packet) → (body : List ℕ) × (r ≡ Ok (Some body)) × (packet_spelled body ≡ Ok packet)
front_read (Ok (Some body)) packet e = (body, refl, go (packet_spelled body) e)
  where
    go : (q : Result Packet MessageFault) → packet_in q ≡ Ok (Some packet) → q ≡ Ok packet
    go (Ok other) f = let same : other ≡ packet = cc in ap (λ p. Ok p) same
    go (Err fault) f = absurd (cc)
front_read (Ok None) packet e = absurd (cc)
front_read (Err fault) packet e = absurd (cc)

none_read : (r : Result (Option (List ℕ)) TooLong) → packet_at r ≡ Ok None → r ≡ Ok None
none_read (Ok (Some body)) e = absurd (go (packet_spelled body) e)
  where
    go : (q : Result Packet MessageFault) → packet_in q ≡ Ok None → ⊥
    go (Ok other) f = absurd (cc)
    go (Err fault) f = absurd (cc)
none_read (Ok None) e = refl
none_read (Err fault) e = absurd (cc)

sound_next : (link : Link) → link.damaged ≡ false → next_packet link ≡ packet_at (front_of link.unread)
sound_next link e = ap (λ b. cond b (Err Damaged) (packet_at (front_of link.unread))) e

map_cons : (xs : List (Stamped Message)) (y : Packet) (ys : List Packet) → map packet_as xs ≡ y ∷ ys → (rest : List (Stamped Message)) × (xs ≡ stamped_of y ∷ rest) × (map packet_as rest ≡ ys)
map_cons [] y ys e = absurd (cc)
map_cons (x ∷ xs) y ys e =
    let first : packet_as x ≡ y = cc in
    let others : map packet_as xs ≡ ys = cc in
    (xs, ap (λ p. stamped_of p ∷ xs) first, others)

-- A packet that was read is the first that is on the way.
pub record FirstRead (lost : List ℕ) (w : TimedFrameWorld) (crossing : Crossing) (i p : ℕ) (packet : Packet) : Type 0 where
  pub rest : List (Stamped Message)
  pub begins : w.wire p i ≡ stamped_of packet ∷ rest
  pub left : (first : Packet) (others : List Packet) → packets_between w p i ≡ first ∷ others → IsOnWay (is_lost lost i) (is_lost lost p) others (bytes_taken (bytes_at crossing p i))

module _ (config : Config) (lost : List ℕ) (crossing : Crossing) (w : TimedFrameWorld) (i p : ℕ) (shows : ShowsPast config lost crossing w) (pair : is_pair (length crossing.nodes) i p ≡ true)
    (stays : is_lost lost i ≡ false) where
  there : is_pair (length config) i p ≡ true
  there = pair_there config crossing.nodes w i p shows.nodes pair

  back : is_pair (length config) p i ≡ true
  back = pair_turned (length config) i p there

  -- what is on the way to a node that is not lost
  on_way : IsOnWay false (is_lost lost p) (packets_between w p i) (bytes_at crossing p i)
  on_way = subst (λ b. IsOnWay b (is_lost lost p) (packets_between w p i) (bytes_at crossing p i)) stays (shows.ways p i back)

  pub first_read : ReadsFirst → (packet : Packet) → next_packet (link_at crossing i p) ≡ Ok (Some packet) → FirstRead lost w crossing i p packet
  first_read law packet front =
      let read = front_read (front_of (link_at crossing i p).unread) packet (sym (sound_next (link_at crossing i p) (shows.sound i p there)) ∙ front) in
      let first = law (is_lost lost p) (packets_between w p i) (bytes_at crossing p i) read.0 (all_short (packets_between w p i) (shows.cross p i back)) on_way read.1 in
      let crosses : CanCross first.first = (subst (λ (ps : List Packet). AllByRecursion CanCross ps) first.are (shows.cross p i back)).0 in
      let both : ◌≡◌ {A = Result Packet MessageFault} (Ok first.first) (Ok packet) = sym crosses.read ∙ (ap packet_spelled (sym first.is) ∙ read.2) in
      let same : first.first ≡ packet = cc in
      let begins = map_cons (w.wire p i) first.first first.others first.are in
      record {
        rest = begins.0;
        begins = begins.1 ∙ ap (λ q. stamped_of q ∷ begins.0) same;
        left = λ one others are. let more : first.others ≡ others = (let e : first.first ∷ first.others ≡ one ∷ others = sym first.are ∙ are in cc) in
            subst (λ b. IsOnWay b (is_lost lost p) others (bytes_taken (bytes_at crossing p i))) (sym stays)
            (subst (λ (ps : List Packet). IsOnWay false (is_lost lost p) ps (bytes_taken (bytes_at crossing p i))) more first.left);
      }

  -- whatever stands first can be read
  pub readable : ReadsFirst → ReadsLawful → (o : Option Packet) × (next_packet (link_at crossing i p) ≡ Ok o)
  readable law lawful = go (front_of (link_at crossing i p).unread) refl
    where
      is_next : next_packet (link_at crossing i p) ≡ packet_at (front_of (link_at crossing i p).unread)
      is_next = sound_next (link_at crossing i p) (shows.sound i p there)

      go : (r : Result (Option (List ℕ)) TooLong) → front_of (link_at crossing i p).unread ≡ r → (o : Option Packet) × (next_packet (link_at crossing i p) ≡ Ok o)
      go (Ok None) e = (None, is_next ∙ ap packet_at e)
      go (Ok (Some body)) e =
          let first = law (is_lost lost p) (packets_between w p i) (bytes_at crossing p i) body (all_short (packets_between w p i) (shows.cross p i back)) on_way e in
          let crosses : CanCross first.first = (subst (λ (ps : List Packet). AllByRecursion CanCross ps) first.are (shows.cross p i back)).0 in
          (Some first.first, is_next ∙ (ap packet_at e ∙ ap packet_in (ap packet_spelled first.is ∙ crosses.read)))
      go (Err fault) e = absurd (lawful (is_lost lost p) (packets_between w p i) (bytes_at crossing p i) (all_short (packets_between w p i) (shows.cross p i back)) on_way e)

-- ---- what an event leaves

-- what came of an event, from what it comes to with the world that it leaves
happened_as : (config : Config) (w : TimedFrameWorld) (e : Event Action) (did effect : Effect) → effect ≡ did → (One Other : TimedFrameWorld → Type 0)
    → ((v : TimedFrameWorld) → happens (frame_machine config) w e ≡ Some v → One v → Other v)
    → CameOf config w e (Ok (Happened did)) One → CameOverBytes config w e (Ok (Happened effect)) Other
happened_as config w e did effect same One Other f (made, (v, is, one)) = (made ∙ ap Some (sym same), (v, is, f v is one))

module _ (config : Config) (lost : List ℕ) (crossing crossing2 : Crossing) (account account2 : Account) (w : TimedFrameWorld) (shows : ShowsBytesPast config lost crossing account w) (adds : Adds) where
  -- something of its own
  module _ (i : ℕ) (stays : is_lost lost i ≡ false) (action : Action) (node after : Seen) (done : FramedDone) (here : slice_get crossing.nodes i ≡ Some node) (set : crossing2.nodes ≡ slice_set crossing.nodes i after)
      (names : after.names ≡ node.names) (ports : after.ports ≡ node.ports) (fits : AreSendable node.names (listed_of done.sends)) (small : AreSmallFrames (listed_of done.sends))
      (acts : Acts crossing crossing2 (Do i action) (listed_of done.sends)) (grew : Grew account account2 i None done.began) (effect : Effect) (did : effect ≡ effect_by done) where
    pub own_shown : Comes node.names (step_act (whole_in node.names) node.ports action node.state) (Ok done) after.state node.answers after.answers
        → CameOverBytes config w (Do i action) (Ok (Happened effect)) (ShowsBytesPast config lost crossing2 account2)
    own_shown comes = happened_as config w (Do i action) (effect_by done) effect did _ _ whole
        (own_left config crossing.nodes w i action node shows.traffic.nodes here crossing2.nodes after done set names ports fits comes)
      where
        its : ShowsNode config w i node
        its = shows.traffic.nodes.each i node here

        whole : (v : TimedFrameWorld) → happens (frame_machine config) w (Do i action) ≡ Some v → Left config crossing2.nodes (Do i action) (listed_of done.sends) None done.began w v → ShowsBytesPast config lost crossing2 account2 v
        whole v is left = record {
          traffic = event_shown config lost crossing crossing2 w v (Do i action) (listed_of done.sends) shows.traffic stays acts left.ways small adds
              (λ x y t. absurd t) (λ x y. inr (λ t. t)) (λ x y t. absurd t) (lost_kept config lost w v (Do i action) (happened (frame_machine config) w v (Do i action) is))
              (λ y to seen. acts_silent config shows.traffic.nodes.apart i y to node.names its.names node.state after.state (ap (λ (s : Timed State). s.state.lost (name_at config y)) (sym its.state) ∙ seen)
              done fits node.answers after.answers node.ports action comes) left.nodes;
          updates = updates_after account account2 w v i None done.began shows.updates grew left.records;
        }

  -- a packet that was read
  module _ (i p : ℕ) (stays : is_lost lost i ≡ false) (pair : is_pair (length crossing.nodes) i p ≡ true) (packet : Packet) (first : FirstRead lost w crossing i p packet) (node : Seen) (here : slice_get crossing.nodes i ≡ Some node) where
    module _ (after : Seen) (done : FramedDone) (set : crossing2.nodes ≡ slice_set crossing.nodes i after)
        (names : after.names ≡ node.names) (ports : after.ports ≡ node.ports) (fits : AreSendable node.names (listed_of done.sends)) (small : AreSmallFrames (listed_of done.sends))
        (acts : Acts crossing crossing2 (Take i p) (listed_of done.sends)) (grew : Grew account account2 i (update_asked_by packet.message) done.began) (effect : Effect) (did : effect ≡ effect_by done) where
      pub taken_shown : Comes node.names (step_take (whole_in node.names) (place_name node.names (peer_place i p + 1)) (stamped_of packet) node.state) (Ok done) after.state node.answers after.answers
          → CameOverBytes config w (Take i p) (Ok (Happened effect)) (ShowsBytesPast config lost crossing2 account2)
      taken_shown comes = happened_as config w (Take i p) (effect_by done) effect did _ _ whole
          (take_left config crossing.nodes w i p shows.traffic.nodes pair node here (stamped_of packet) first.rest first.begins crossing2.nodes after done set names ports fits comes)
        where
          takes : (x y : ℕ) → (p ≡ x) × (i ≡ y) → (one : Packet) (others : List Packet) → packets_between w x y ≡ one ∷ others → IsOnWay (is_lost lost y) (is_lost lost x) others (bytes_taken (bytes_at crossing x y))
          takes x y t one others are = subst (λ k. IsOnWay (is_lost lost y) (is_lost lost k) others (bytes_taken (bytes_at crossing k y))) t.0 (subst (λ k. IsOnWay (is_lost lost k) (is_lost lost p) others (bytes_taken (bytes_at crossing p k))) t.1
              (first.left one others ((λ j. packets_between w (t.0 j) (t.1 j)) ∙ are)))

          is_taken : (x y : ℕ) → ((p ≡ x) × (i ≡ y)) ⊎ ((p ≡ x) × (i ≡ y) → ⊥)
          is_taken x y = go (cases_eq p x) (cases_eq i y)
            where
              go : (p ≡ x) ⊎ (p ≢ x) → (i ≡ y) ⊎ (i ≢ y) → ((p ≡ x) × (i ≡ y)) ⊎ ((p ≡ x) × (i ≡ y) → ⊥)
              go (inl e) (inl d) = inl (e, d)
              go (inr n) d = inr (λ both. n both.0)
              go (inl e) (inr n) = inr (λ both. n both.1)

          its : ShowsNode config w i node
          its = shows.traffic.nodes.each i node here

          whole : (v : TimedFrameWorld) → happens (frame_machine config) w (Take i p) ≡ Some v → Left config crossing2.nodes (Take i p) (listed_of done.sends) (update_asked_by packet.message) done.began w v → ShowsBytesPast config lost crossing2 account2 v
          whole v is left = record {
            traffic = event_shown config lost crossing crossing2 w v (Take i p) (listed_of done.sends) shows.traffic stays acts left.ways small adds
                takes is_taken (λ x y t. sym t.1) (lost_kept config lost w v (Take i p) (happened (frame_machine config) w v (Take i p) is))
                (λ y to seen. takes_silent config shows.traffic.nodes.apart i y to node.names its.names node.state after.state (ap (λ (s : Timed State). s.state.lost (name_at config y)) (sym its.state) ∙ seen)
                done fits node.answers after.answers p (pair_there config crossing.nodes w i p shows.traffic.nodes pair) (stamped_of packet) comes) left.nodes;
            updates = updates_after account account2 w v i (update_asked_by packet.message) done.began shows.updates grew left.records;
          }

-- ---- what is refused

module _ (config : Config) (lost : List ℕ) (crossing : Crossing) (w : TimedFrameWorld) (shows : ShowsPast config lost crossing w) (Shown : TimedFrameWorld → Type 0) where
  -- something of its own
  pub own_err : (i : ℕ) (action : Action) (node : Seen) (s : Timed State) (after : ℕ → List Answer) → slice_get crossing.nodes i ≡ Some node → (fault : NodeFault)
      → Comes {h = frames.ghosts} node.names (step_act (whole_in node.names) node.ports action node.state) (Err fault) s node.answers after → Shown w → CameOverBytes config w (Do i action) (Err fault) Shown
  own_err i action node s after here OutOfMemory comes shown = shown
  own_err i action node s after here (Refused refusal) comes shown = (own_refused config crossing.nodes w i action node shows.nodes here frames.ghosts (Refused refusal) s node.answers after Shown comes, shown)
  own_err i action node s after here (BadMessage fault) comes shown = own_refused config crossing.nodes w i action node shows.nodes here frames.ghosts (BadMessage fault) s node.answers after Shown comes
  own_err i action node s after here FrameTooLong comes shown = own_refused config crossing.nodes w i action node shows.nodes here frames.ghosts FrameTooLong s node.answers after Shown comes
  own_err i action node s after here Damaged comes shown = own_refused config crossing.nodes w i action node shows.nodes here frames.ghosts Damaged s node.answers after Shown comes

  -- a packet that was read
  module _ (i p : ℕ) (pair : is_pair (length crossing.nodes) i p ≡ true) (packet : Packet) (first : FirstRead lost w crossing i p packet) (welcome : IsWelcome config w i p) (node : Seen) (here : slice_get crossing.nodes i ≡ Some node)
      (s : Timed State) (after : ℕ → List Answer) where
    step_there : Result TimedTurn Refusal
    step_there = step_take (whole_in node.names) (place_name node.names (peer_place i p + 1)) (stamped_of packet) node.state

    refused_by : (fault : NodeFault) → Comes {h = frames.ghosts} node.names (step_take (whole_in node.names) (place_name node.names (peer_place i p + 1)) (stamped_of packet) node.state) (Err fault) s node.answers after → CameOf config w (Take i p) (Err fault) Shown
    refused_by fault comes = taken_refused config crossing.nodes w i p shows.nodes pair node here (stamped_of packet) first.rest first.begins frames.ghosts fault s node.answers after Shown comes

    no_message : (r : Result TimedTurn Refusal) → Comes {h = frames.ghosts} node.names r (Err (Refused NotAMessage)) s node.answers after → r ≡ Err NotAMessage
    no_message (Ok t) comes = absurd comes
    no_message (Err refusal) comes = let same : refusal ≡ NotAMessage = cc in ap (λ (x : Refusal). Err x) same

    never : Comes {h = frames.ghosts} node.names (step_take (whole_in node.names) (place_name node.names (peer_place i p + 1)) (stamped_of packet) node.state) (Err (Refused NotAMessage)) s node.answers after → ⊥
    never comes = welcome (stamped_of packet) first.rest first.begins
        (sym (taken_told config crossing.nodes w i p shows.nodes pair node here (stamped_of packet) first.rest first.begins) ∙ no_message _ comes)

    pub take_err : (fault : NodeFault) → Comes {h = frames.ghosts} node.names (step_take (whole_in node.names) (place_name node.names (peer_place i p + 1)) (stamped_of packet) node.state) (Err fault) s node.answers after
        → (damages fault ≡ false → Shown w) → CameOverBytes config w (Take i p) (Err fault) Shown
    take_err OutOfMemory comes shown = shown refl
    take_err (Refused NotAMessage) comes shown = absurd (never comes)
    take_err (Refused NoSuchPlace) comes shown = (refused_by (Refused NoSuchPlace) comes, shown refl)
    take_err (Refused NotWaiting) comes shown = (refused_by (Refused NotWaiting) comes, shown refl)
    take_err (Refused NodeLost) comes shown = (refused_by (Refused NodeLost) comes, shown refl)
    take_err (Refused NotDrained) comes shown = (refused_by (Refused NotDrained) comes, shown refl)
    take_err (Refused ClockFull) comes shown = (refused_by (Refused ClockFull) comes, shown refl)
    take_err (Refused NotLost) comes shown = (refused_by (Refused NotLost) comes, shown refl)
    take_err (BadMessage fault) comes shown = refused_by (BadMessage fault) comes
    take_err FrameTooLong comes shown = refused_by FrameTooLong comes
    take_err Damaged comes shown = refused_by Damaged comes

    -- so no fault of what was read damages the link
    pub take_harmless : (fault : NodeFault) → Comes {h = frames.ghosts} node.names (step_take (whole_in node.names) (place_name node.names (peer_place i p + 1)) (stamped_of packet) node.state) (Err fault) s node.answers after
        → not (damages fault) ≡ true
    take_harmless OutOfMemory comes = refl
    take_harmless (Refused NotAMessage) comes = absurd (never comes)
    take_harmless (Refused NoSuchPlace) comes = refl
    take_harmless (Refused NotWaiting) comes = refl
    take_harmless (Refused NodeLost) comes = refl
    take_harmless (Refused NotDrained) comes = refl
    take_harmless (Refused ClockFull) comes = refl
    take_harmless (Refused NotLost) comes = refl
    take_harmless (BadMessage fault) comes = absurd (refused_by (BadMessage fault) comes)
    take_harmless FrameTooLong comes = absurd (refused_by FrameTooLong comes)
    take_harmless Damaged comes = refl

-- ---- what is read

pub tells_ok : (told : Result (Option Packet) NodeFault) (some : Option Packet) → ReadsNext told (Ok some) → told ≡ Ok some
tells_ok (Ok (Some packet)) some h = sym h
tells_ok (Ok None) some h = sym h
tells_ok (Err (BadMessage other)) some h = sym h
tells_ok (Err (Refused other)) some h = sym h
tells_ok (Err OutOfMemory) some h = sym h
tells_ok (Err FrameTooLong) some h = sym h
tells_ok (Err Damaged) some h = sym h

-- what was read is the next packet
pub read_ok : (lost : Bool) (link : Link) (some : Option Packet) → ReadsNext (read_next lost link) (Ok some) → next_packet link ≡ Ok some
read_ok true link some told = absurd (cc)
read_ok false link some told = tells_ok (next_packet link) some told

-- what can be read is refused only where memory runs out
pub only_memory : (o : Option Packet) (fault : NodeFault) → ReadsNext (Ok o) (Err fault) → fault ≡ OutOfMemory
only_memory (Some packet) OutOfMemory h = refl
only_memory (Some packet) (Refused refusal) h = absurd (cc)
only_memory (Some packet) (BadMessage fault) h = absurd (cc)
only_memory (Some packet) FrameTooLong h = absurd (cc)
only_memory (Some packet) Damaged h = absurd (cc)
only_memory None fault h = absurd (cc)

-- what came of a packet that could not be read
pub unread_err : (config : Config) (w : TimedFrameWorld) (e : Event Action) (fault : NodeFault) (Shown : TimedFrameWorld → Type 0) → fault ≡ OutOfMemory → Shown w → CameOverBytes config w e (Err fault) Shown
unread_err config w e fault Shown is shown = subst (λ f. CameOverBytes config w e (Err f) Shown) (sym is) shown

-- where a packet is on the way from a node whose loss was not seen, no more than memory is missing
pub unread_memory : (config : Config) (lost : List ℕ) (crossing : Crossing) (w : TimedFrameWorld) (i p : ℕ) → ShowsPast config lost crossing w → is_pair (length crossing.nodes) i p ≡ true → is_lost lost i ≡ false
    → ReadsFirst → ReadsLawful → (seen : Bool) (link : Link) → seen ≡ false → link ≡ link_at crossing i p → (fault : NodeFault) → ReadsNext (read_next seen link) (Err fault) → fault ≡ OutOfMemory
unread_memory config lost crossing w i p shows pair stays law lawful seen link unseen same fault told =
    let read = readable config lost crossing w i p shows pair stays law lawful in
    only_memory read.0 fault (subst (λ r. ReadsNext r (Err fault)) (ap next_packet same ∙ read.1) (subst (λ b. ReadsNext (read_next b link) (Err fault)) unseen told))
