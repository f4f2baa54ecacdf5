-- What the one peer is sent, and what a packet leads to by what came of it.
use Rattle.std.proofs.Common.{◌≡◌, ◌<◌, ◌+◌, ◌++◌, ℕ, zero, suc, true, cond, nat_eq, map, List, [], ◌∷◌}
use Rattle.std.proofs.Common.{length, Result, Ok, Err, Some, refl, sym, ap, subst, ◌∙◌, append-nil, arith}
use Rattle.std.specs.Prelude.{slice_get}
use Rattle.std.specs.List.{AllByRecursion}
use Rattle.std.proofs.lemmas.Cmp.{nat_list_eq_equiv}
use Rattle.pg_term.specs.Same.{same_atom}
use Rattle.pg_node_state.specs.PgFrame.Frames.{frame}
use Rattle.pg_node_state.specs.PgMessageTypes.declared.packet.Packet.{Packet}
use Rattle.pg_node_state.specs.PgNodeOpens.Places.{name_at, whole_in}
use Rattle.pg_node_state.specs.PgStep.declared.answer.Answer.{Answer as Given}
use Rattle.pg_node_state.specs.PgStep.declared.refusal.Refusal.{Refusal}
use Rattle.pg_node_state.specs.PgStep.declared.refusal.Refusal.TheVariants.{ClockFull, NotAMessage, NoSuchPlace}
use Rattle.pg_node_state.specs.PgStep.declared.refusal.Refusal.TheVariants.{NotWaiting, NodeLost, NotLost, NotDrained}
use Rattle.pg_node_state.specs.PgStep.Nodes.{Node, Nodes}
use Rattle.pg_node_state.specs.PgStep.Step.{TimedTurn, step_take}
use Rattle.pg_node_state.specs.PgNodeSends.contracts.sends.VecTuple2UsizePacketOutgoing.TheImpl as packets
use Rattle.pg_node_state.specs.PgNodeSends.Dones.{PacketsDone}
use Rattle.pg_node_state.specs.declared.state.fault.NodeFault.{NodeFault}
use Rattle.pg_node_state.specs.declared.state.fault.NodeFault.TheVariants.{Refused, OutOfMemory}
use Rattle.pg_node_state.specs.declared.state.fault.NodeFault.TheVariants.{Message, TooLong, Damaged}
use Rattle.pg_node.specs.Replicas.Fault.{refused_as, untaken_as, Refuses}
use Rattle.pg_node_state.specs.PgMessageWriter.Frames.{frame_of}
use Rattle.pg_node_state.specs.PgNodeSends.Frames.{frames_to}
use Rattle.pg_node_state.specs.PgNodeSends.Sendable.{FitLinks, IsSendable, Ascends, AreSendable}
use Rattle.pg_node.specs.Replicas.Replica.{State, AnswersServed, nodes_of, frames_of, body_sent}
use Rattle.pg_node.specs.Replicas.Replica.{bodies_to, pair_in, taken_packet, turned}
use Rattle.pg_node_state.specs.States.{Comes}
use Rattle.pg_node_state.specs.PgNodeSends.Sent.{sends_in, stamped_of}

self_same : (peer : Node) → same_atom peer peer ≡ true
self_same = nat_list_eq_equiv.refl

-- the frames that go to the place of the one peer are those of what is sent to its name
frames_sent : (own peer : Node) (sends : List (ℕ × Packet)) → AllByRecursion (IsSendable (own ∷ peer ∷ [])) sends
    → frames_to sends 0 ≡ frames_of (map body_sent (sends_in (own ∷ peer ∷ []) sends peer))
unfolding frame
frames_sent own peer [] each = refl
frames_sent own peer (sent ∷ others) each = go sent.0 each.0.place (frames_sent own peer others each.1)
  where
    go : (place : ℕ) → place + 1 < 2 → frames_to others 0 ≡ frames_of (map body_sent (sends_in (own ∷ peer ∷ []) others peer))
        → cond (nat_eq place 0) (frame_of sent.1) [] ++ frames_to others 0
        ≡ frames_of (map body_sent (cond (same_atom (name_at (own ∷ peer ∷ []) (place + 1)) peer) (stamped_of sent.1 ∷ []) [] ++ sends_in (own ∷ peer ∷ []) others peer))
    go zero within same = ap (λ (bytes : List ℕ). frame_of sent.1 ++ bytes) same
        ∙ ap (λ b. frames_of (map body_sent (cond b (stamped_of sent.1 ∷ []) [] ++ sends_in (own ∷ peer ∷ []) others peer))) (sym (self_same peer))
    go (suc n) within same = absurd (omega (arith, within))

-- two nodes are a pair
set_is : (names : List Node) → length names ≡ 2 → whole_in names ≡ nodes_of (pair_in names)
set_is [] two = absurd (cc)
set_is (own ∷ []) two = absurd (cc)
set_is (own ∷ peer ∷ []) two = refl
set_is (own ∷ peer ∷ next ∷ names) two = absurd (cc)

module _ (names : List Node) (two : length names ≡ 2) (s : State) (packet : Packet) (s1 : State) (before after : ℕ → List Given) where
  abbrev told : Result TimedTurn Refusal
  told = step_take (whole_in names) (name_at names 1) (stamped_of packet) s

  taken_is : turned (pair_in names) told ≡ taken_packet (pair_in names) s packet
  taken_is = ap (λ (m : Nodes). turned (pair_in names) (step_take m (name_at names 1) (stamped_of packet) s)) (set_is names two)

  all_frames : (names : List Node) → length names ≡ 2 → (sends : List (ℕ × Packet)) → AllByRecursion (IsSendable names) sends
      → frames_to sends 0 ≡ frames_of (map body_sent (sends_in names sends (name_at names 1)))
  all_frames [] two sends each = absurd (cc)
  all_frames (own ∷ []) two sends each = absurd (cc)
  all_frames (own ∷ peer ∷ []) two sends each = frames_sent own peer sends each
  all_frames (own ∷ peer ∷ next ∷ names) two sends each = absurd (cc)

  -- a packet that was taken
  pub answers : (done : PacketsDone) (out0 out1 : List ℕ) → Comes names told (Ok done) s1 before after → AreSendable names done.sends.items
      → out1 ≡ out0 ++ frames_to done.sends.items 0 → AnswersServed (taken_packet (pair_in names) s packet) s1 out0 out1
  answers done out0 out1 comes fits out = subst (λ r. AnswersServed r s1 out0 out1) taken_is (go told comes)
    where
      go : (r : Result TimedTurn Refusal) → Comes names r (Ok done) s1 before after → AnswersServed (turned (pair_in names) r) s1 out0 out1
      go (Ok t) h = record {
        sent = bodies_to (pair_in names) t;
        is = ap (λ (u : State). Ok (record { state = u; sent = bodies_to (pair_in names) t })) (sym h.state);
        output = out ∙ ap (λ (bytes : List ℕ). out0 ++ bytes) (all_frames names two done.sends.items fits.each
            ∙ ap (λ f. frames_of (map body_sent (f (name_at names 1)))) h.told.sends);
      }
      go (Err refusal) h = absurd (cc)

  -- a packet that was not taken
  pub refuses : (fault : NodeFault) → Comes {h = packets.ghosts} names told (Err fault) s1 before after → Refuses (taken_packet (pair_in names) s packet) (untaken_as fault)
  refuses fault comes = subst (λ r. Refuses r (untaken_as fault)) taken_is (go told fault comes)
    where
      its_own : (refusal : Refusal) → Refuses (turned (pair_in names) (Err refusal)) (refused_as refusal)
      its_own ClockFull = refl
      its_own NotAMessage = refl
      its_own NoSuchPlace = refl
      its_own NotWaiting = refl
      its_own NodeLost = refl
      its_own NotLost = refl
      its_own NotDrained = refl

      same_fault : (refusal : Refusal) (fault : NodeFault) → ◌≡◌ {A = Result PacketsDone NodeFault} (Err fault) (Err (Refused refusal)) → fault ≡ Refused refusal
      same_fault refusal fault e = cc

      go : (r : Result TimedTurn Refusal) (fault : NodeFault) → Comes {h = packets.ghosts} names r (Err fault) s1 before after → Refuses (turned (pair_in names) r) (untaken_as fault)
      go (Ok t) OutOfMemory h = tt
      go (Ok t) (Refused refusal) h = absurd h
      go (Ok t) (Message other) h = absurd h
      go (Ok t) TooLong h = absurd h
      go (Ok t) Damaged h = absurd h
      go (Err refusal) fault h = subst (λ f. Refuses (turned (pair_in names) (Err refusal)) (untaken_as f)) (sym (same_fault refusal fault h)) (its_own refusal)

-- what fits one link is one packet at most
pub one_packet : (sends : List (ℕ × Packet)) (sent : ℕ × Packet) → FitLinks 1 sends → slice_get sends 0 ≡ Some sent → frames_to sends 0 ≡ frame_of sent.1
one_packet [] sent fit is = absurd (cc)
one_packet (first ∷ others) sent fit is = go first.0 fit.2.each.0.place others (fit.2.each.1) fit.2.apart.1 ∙ ap (λ (p : ℕ × Packet). frame_of p.1) (same first sent is)
  where
    same : (x y : ℕ × Packet) → Some x ≡ Some y → x ≡ y
    same x y e = cc

    go : (place : ℕ) → place + 1 < length fit.0 → (others : List (ℕ × Packet)) → AllByRecursion (IsSendable fit.0) others → Ascends (place + 1) others
        → cond (nat_eq place 0) (frame_of first.1) [] ++ frames_to others 0 ≡ frame_of first.1
    go zero within [] each ascends = append-nil (frame_of first.1)
    go zero within (next ∷ others) each ascends = absurd (omega (arith, fit.1, each.0.place, ascends.0))
    go (suc n) within others each ascends = absurd (omega (arith, within, fit.1))
