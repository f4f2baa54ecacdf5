-- What has come of the frames of packets that can cross begins with that of the first of them, or with none that is whole. So a node
-- tells of it no fault that damages the link, unless it refuses that packet as no message.
use Rattle.std.proofs.Common.{◌≡◌, ◌∙◌, ℕ, Bool, true, false, cond, List, [], ◌∷◌, ◌++◌}
use Rattle.std.proofs.Common.{Option, Some, None, Result, Ok, Err, refl, sym, ap, subst}
use Rattle.pg_world.specs.PgFrame.declared.fault.TooLong as frame
use Rattle.pg_world.specs.PgFrame.Frames.{front_of, too_long}
use Rattle.pg_world.specs.PgFrame.Laws.{PiecesContinue, WrittenIsRead}
use Rattle.pg_world.specs.PgStep.Machines.Clocked.{Stamped, Timed}
use Rattle.pg_world.specs.PgMessageTypes.declared.message.Message.{Message}
use Rattle.pg_world.specs.PgMessageTypes.declared.packet.Packet.{Packet}
use Rattle.pg_world.specs.PgMessageTypes.Reading.{packet_spelled}
use Rattle.pg_world.specs.PgNode.Bytes.{damages, packet_in, packet_at}
use Rattle.pg_world.specs.PgNode.Nodes.{step_link, taken_as, taken_of}
use Rattle.pg_world.specs.PgNodeSends.Sent.{stamped_of}
use Rattle.pg_world.specs.PgNodeState.declared.state.fault.NodeFault.{NodeFault}
use Rattle.pg_world.specs.PgNodeState.declared.state.fault.NodeFault.TheVariants.{Refused}
use Rattle.pg_node_run.specs.Follows.{sound_link}
use Rattle.pg_world.specs.PgStep.Nodes.{Node, Nodes}
use Rattle.pg_world.specs.PgStep.State.{State}
use Rattle.pg_world.specs.PgStep.Step.{TimedTurn, step_take}
use Rattle.pg_world.specs.PgStep.declared.refusal.Refusal.{Refusal}
use Rattle.pg_world.specs.PgStep.declared.refusal.Refusal.TheVariants.{NotAMessage, NodeLost}
use Rattle.pg_cluster_judges.proofs.Sent.{frames_on, CanAllCross}
use Rattle.pg_world.specs.Crossings.{packet_as, written_of}

-- what is read there is nothing, or the first of these packets
abbrev IsFirst : Result (Option Packet) NodeFault → List (Stamped Message) → Type 0
IsFirst (Ok None) packets = Unit {0}
IsFirst (Ok (Some packet)) packets = (x : Stamped Message) × (rest : List (Stamped Message)) × (packets ≡ x ∷ rest) × (packet ≡ packet_as x)
IsFirst (Err fault) packets = ⊥

module _ (more : PiecesContinue) (read : WrittenIsRead) where
  first_front : (x : Stamped Message) (xs : List (Stamped Message)) → CanAllCross (x ∷ xs) → front_of (frames_on (x ∷ xs)) ≡ Ok (Some (written_of (packet_as x)))
  first_front x xs can = read.front (written_of (packet_as x)) (frames_on xs) can.0.fits

  is_first : (left later : List ℕ) (packets : List (Stamped Message)) → CanAllCross packets → left ++ later ≡ frames_on packets → IsFirst (packet_at (front_of left)) packets
  is_first left later packets can e = go (front_of left) refl packets can e
    where
      go : (front : Result (Option (List ℕ)) frame.TooLong) → front_of left ≡ front → (packets : List (Stamped Message)) → CanAllCross packets → left ++ later ≡ frames_on packets → IsFirst (packet_at front) packets
      go (Ok None) is packets can e = tt
      go (Ok (Some body)) is [] can e =
          let there : front_of [] ≡ Ok (Some body) = ap front_of (sym e) ∙ more.front left later body is in
          let none : front_of [] ≡ Ok None = read.nothing.0 in
          absurd (cc)
      go (Ok (Some body)) is (x ∷ xs) can e =
          let there : front_of (frames_on (x ∷ xs)) ≡ Ok (Some body) = ap front_of (sym e) ∙ more.front left later body is in
          let first : front_of (frames_on (x ∷ xs)) ≡ Ok (Some (written_of (packet_as x))) = first_front x xs can in
          let same : body ≡ written_of (packet_as x) = cc in
          subst (λ r. IsFirst (packet_in r) (x ∷ xs)) (sym (ap packet_spelled same ∙ can.0.read)) (x, xs, refl, refl)
      go (Err fault) is [] can e =
          let there : front_of [] ≡ Err too_long = ap front_of (sym e) ∙ more.overlong left later is in
          let none : front_of [] ≡ Ok None = read.nothing.0 in
          absurd (cc)
      go (Err fault) is (x ∷ xs) can e =
          let there : front_of (frames_on (x ∷ xs)) ≡ Err too_long = ap front_of (sym e) ∙ more.overlong left later is in
          let first : front_of (frames_on (x ∷ xs)) ≡ Ok (Some (written_of (packet_as x))) = first_front x xs can in
          absurd (cc)

  -- ---- a fault

  -- of refusals one damages the link
  the_refusal : (refusal : Refusal) → damages (Refused refusal) ≡ true → refusal ≡ NotAMessage
  the_refusal NotAMessage marks = refl
  the_refusal _ marks = absurd (cc)

  refused_so : (r : Result TimedTurn Refusal) (fault : NodeFault) → taken_as r ≡ Err fault → damages fault ≡ true → r ≡ Err NotAMessage
  refused_so (Ok t) fault e marks = absurd (cc)
  refused_so (Err refusal) fault e marks =
      let same : fault ≡ Refused refusal = cc in
      ap (λ z. Err z) (the_refusal refusal (ap damages (sym same) ∙ marks))

  -- a fault that damages the link is that the first packet is no message
  pub refused_first : (m : Nodes) (p : Node) (s : Timed State) (left later : List ℕ) (packets : List (Stamped Message)) (fault : NodeFault) → CanAllCross packets → left ++ later ≡ frames_on packets
      → step_link m p (sound_link left) s ≡ Err fault → damages fault ≡ true
      → (x : Stamped Message) × (rest : List (Stamped Message)) × (packets ≡ x ∷ rest) × (step_take m p x s ≡ Err NotAMessage)
  refused_first m p s left later packets fault can e told marks = go (s.state.lost p) (packet_at (front_of left)) (is_first left later packets can e) told
    where
      go : (b : Bool) (next : Result (Option Packet) NodeFault) → IsFirst next packets → ◌≡◌ {A = Result (Option TimedTurn) NodeFault} (cond b (Err (Refused NodeLost)) (taken_of m p s next)) (Err fault)
          → (x : Stamped Message) × (rest : List (Stamped Message)) × (packets ≡ x ∷ rest) × (step_take m p x s ≡ Err NotAMessage)
      go true next n f =
          let same : fault ≡ Refused NodeLost = cc in
          let never : false ≡ true = ap damages (sym same) ∙ marks in
          absurd (cc)
      go false (Ok None) n f = absurd (cc)
      go false (Ok (Some packet)) n f =
          let refused = refused_so (step_take m p (stamped_of packet) s) fault f marks in
          (n.0, n.1, n.2, subst (λ z. step_take m p (stamped_of z) s ≡ Err NotAMessage) n.3 refused)
      go false (Err told) n f = absurd n
