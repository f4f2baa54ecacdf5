-- What a node took of another are the first packets of those whose frames came.
use Rattle.std.proofs.Common.{◌≡◌, ◌≢◌, ◌∙◌, ℕ, Bool, true, false, cond, nat_eq, map, List, [], ◌∷◌}
use Rattle.std.proofs.Common.{◌++◌, Some, None, Ok, Result, refl, sym, ap, subst, append_assoc, arith}
use Rattle.std.specs.List.{flat_map}
use Rattle.std.proofs.Math.ListN.{drop_of_length-le}
use Rattle.pg_world.specs.PgFrame.Frames.{frame, front_of, behind}
use Rattle.pg_world.specs.PgFrame.Laws.{PiecesContinue, WrittenIsRead}
use Rattle.pg_world.specs.PgMessageTypes.declared.message.Message.{Message}
use Rattle.pg_world.specs.PgMessageTypes.declared.packet.Packet.{Packet}
use Rattle.pg_world.specs.PgMessageTypes.Reading.{packet_spelled}
use Rattle.pg_world.specs.PgStep.Machines.Clocked.{Stamped}
use Rattle.pg_cluster_judges.specs.Logs.{packet_from, taken_from}
use Rattle.pg_world.specs.PgNodeSends.Sent.{stamped_of}
use Rattle.pg_node_run.specs.Acts.{Act, Given, Took, Saw, Did, Came, IsFrameOf, Standing, AllLead, is_from, frames_taken}
use Rattle.pg_world.specs.PgStep.Config.{Config}
use Rattle.pg_world.specs.PgStep.Nodes.{Node}
use Rattle.pg_cluster_judges.proofs.Sent.{frames_on, CanAllCross}
use Rattle.pg_cluster_judges.proofs.Turns.{act_at, input_at}
use Rattle.pg_world.specs.Crossings.{packet_as, written_of}
use Rattle.pg_world.specs.PgWorldPackets.Views.{peer_place}
use Rattle.pg_world.proofs.PgWorldPackets.Peering.{same_place}

-- the packet of an input, where it is one of the peer at a place
abbrev pub packet_of_peer : ℕ → Given → List (Stamped Message)
packet_of_peer place (Took p x) = cond (nat_eq p place) (x ∷ []) []
packet_of_peer place (Saw p last) = []
packet_of_peer place (Did action) = []

-- the packets that were taken of the peer at a place
abbrev pub packets_taken : ℕ → List Act → List (Stamped Message)
packets_taken place acts = flat_map (λ act. packet_of_peer place act.input) acts

-- What is left of packets, and of the bytes that are their frames, once the first of them are taken.
pub record Leaves (packets first : List (Stamped Message)) (bytes : List ℕ) : Type 0 where
  pub left : List (Stamped Message)
  pub are : packets ≡ first ++ left
  pub bytes_are : bytes ≡ frames_on left

-- the first of them are taken, and then others
one_then_more : (packets first second : List (Stamped Message)) (middle rest : List ℕ) (one : Leaves packets first middle) → Leaves one.left second rest → Leaves packets (first ++ second) rest
one_then_more packets first second middle rest one more = record {
  left = more.left;
  are = one.are ∙ (ap (λ zs. first ++ zs) more.are ∙ sym (append_assoc first second more.left));
  bytes_are = more.bytes_are;
}

one_value : {E : Type 0} (r : Result Packet E) (a b : Packet) → r ≡ Ok a → r ≡ Ok b → a ≡ b
one_value r a b e d = cc

-- a link can carry what is left too
pub left_can_cross : (first left : List (Stamped Message)) → CanAllCross (first ++ left) → CanAllCross left
left_can_cross [] left can = can
left_can_cross (x ∷ first) left can = left_can_cross first left can.1

module _ (more : PiecesContinue) (read : WrittenIsRead) where
  -- A frame that came whole is that of the first packet.
  one_frame : (came rest : List ℕ) (x : Stamped Message) (packets : List (Stamped Message)) → IsFrameOf came x → CanAllCross packets
      → came ++ rest ≡ frames_on packets → Leaves packets (x ∷ []) rest
  one_frame came rest x packets is can e = go packets can (ap front_of (sym e) ∙ more.front came rest is.body is.front) e
    where
      go : (packets : List (Stamped Message)) → CanAllCross packets → front_of (frames_on packets) ≡ Ok (Some is.body) → came ++ rest ≡ frames_on packets → Leaves packets (x ∷ []) rest
      go [] can front e = let none : front_of [] ≡ Ok None = read.nothing.0 in absurd (cc)
      go (y ∷ ys) can front e =
          let first : front_of (frame (written_of (packet_as y)) ++ frames_on ys) ≡ Ok (Some (written_of (packet_as y))) =
          read.front (written_of (packet_as y)) (frames_on ys) can.0.fits in
          let body : is.body ≡ written_of (packet_as y) = cc in
          let packet : is.packet ≡ packet_as y = one_value (packet_spelled is.body) is.packet (packet_as y) is.spelled (ap packet_spelled body ∙ can.0.read) in
          let same : x ≡ y = sym is.is ∙ ap stamped_of packet in
          let alone : behind is.body came ≡ [] = drop_of_length-le came (let n = is.alone in omega (arith, n)) in record {
            left = ys;
            are = ap (λ z. z ∷ ys) (sym same);
            bytes_are = ap (λ w. w ++ rest) (sym alone)
                ∙ (sym (more.behind came rest is.body is.front)
                ∙ (ap (behind is.body) e
                ∙ (ap (λ b. behind b (frames_on (y ∷ ys))) body ∙ read.behind (written_of (packet_as y)) (frames_on ys) can.0.fits)));
          }

  -- what an act took of the peer at a place
  one_act : (place : ℕ) (input : Given) (came rest : List ℕ) (packets : List (Stamped Message)) → Came input came → CanAllCross packets
      → cond (is_from place input) came [] ++ rest ≡ frames_on packets → Leaves packets (packet_of_peer place input) rest
  one_act place (Saw p last) came rest packets is can e = record { left = packets; are = refl; bytes_are = e }
  one_act place (Did action) came rest packets is can e = record { left = packets; are = refl; bytes_are = e }
  one_act place (Took p x) came rest packets is can e = go (nat_eq p place) e
    where
      go : (b : Bool) → cond b came [] ++ rest ≡ frames_on packets → Leaves packets (cond b (x ∷ []) []) rest
      go true e = one_frame came rest x packets is can e
      go false e = record { left = packets; are = refl; bytes_are = e }

  -- what acts took of the peer at a place
  pub all_acts : (names : List Node) (ports place : ℕ) (a : Standing) (acts : List Act) (b : Standing) (rest : List ℕ) (packets : List (Stamped Message)) → AllLead names ports a acts b
      → CanAllCross packets → frames_taken place acts ++ rest ≡ frames_on packets → Leaves packets (packets_taken place acts) rest
  all_acts names ports place a [] b rest packets lead can e = record { left = packets; are = refl; bytes_are = e }
  all_acts names ports place a (act ∷ acts) b rest packets (m, lead, later) can e =
      let came = cond (is_from place act.input) act.came [] in
      let first = packet_of_peer place act.input in
      let one : Leaves packets first (frames_taken place acts ++ rest) =
      one_act place act.input act.came (frames_taken place acts ++ rest) packets lead.came can (sym (append_assoc came (frames_taken place acts) rest) ∙ e) in
      let can_left : CanAllCross one.left = left_can_cross first one.left (subst CanAllCross one.are can) in
      one_then_more packets first (packets_taken place acts) (frames_taken place acts ++ rest) rest one (all_acts names ports place m acts b rest one.left later can_left one.bytes_are)

-- what node y took of node x, as the machine tells it
one_taken : (config : Config) (x y : ℕ) → x ≢ y → (act : Act) → packet_from x (act_at config y act).input ≡ packet_of_peer (peer_place y x) act.input
one_taken config x y other act = go act.input
  where
    go : (input : Given) → packet_from x (input_at y input) ≡ packet_of_peer (peer_place y x) input
    go (Took p z) = ap (λ b. cond b (z ∷ []) []) (same_place y x p other)
    go (Saw p last) = refl
    go (Did action) = refl

pub taken_alike : (config : Config) (x y : ℕ) → x ≢ y → (acts : List Act) → taken_from x (map (act_at config y) acts) ≡ packets_taken (peer_place y x) acts
taken_alike config x y other [] = refl
taken_alike config x y other (act ∷ acts) = λ j. one_taken config x y other act j ++ taken_alike config x y other acts j
