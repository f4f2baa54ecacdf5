-- The events of a node over bytes, from those of its parts.
use Rattle.std.proofs.Common.{◌≡◌, ◌<◌, ℕ, Bool, true, false, not, ◌||◌, ◌&&◌, cond, nat_eq, List, length}
use Rattle.std.proofs.Common.{get_or, Option, Some, None, Result, Ok, Err, refl, sym, ap, subst, ◌∙◌, ◌⊎◌, inl, inr}
use Rattle.std.specs.Prelude.{◌↔◌, if◌then◌else◌, slice_set}
use Rattle.std.proofs.Math.Path.{fun_ext}
use Rattle.std.proofs.lemmas.Bool.{eqb-true}
use Rattle.pg_node_state.specs.PgFrame.declared.fault.TooLong as frame
use Rattle.pg_node_state.specs.PgFrame.Frames.{front_of}
use Rattle.pg_node_state.specs.PgGroup.Functions.{upd}
use Rattle.pg_node_state.specs.PgStep.Machines.Clocked.{Timed}
use Rattle.pg_node_state.specs.PgMessageTypes.declared.fault.MessageFault.{MessageFault}
use Rattle.pg_node_state.specs.PgMessageTypes.declared.packet.Packet.{Packet}
use Rattle.pg_node_state.specs.PgMessageTypes.Reading.{packet_spelled}
use Rattle.pg_node_state.specs.PgStep.declared.answer.Answer.{Answer}
use Rattle.pg_node_state.specs.PgStep.declared.refusal.Refusal.{Refusal}
use Rattle.pg_node_state.specs.PgStep.declared.refusal.Refusal.TheVariants.{NodeLost}
use Rattle.pg_node_state.specs.PgStep.Nodes.{Node as Name, Nodes}
use Rattle.pg_node_state.specs.PgStep.State.{State}
use Rattle.pg_node_state.specs.PgStep.Step.{TimedTurn, step_take}
use Rattle.pg_node.specs.declared.node.wire.Wire.{Wire}
use Rattle.pg_node_state.specs.PgNodeSends.Dones.{FramedDone}
use Rattle.pg_node_state.specs.declared.state.fault.NodeFault.{NodeFault}
use Rattle.pg_node_state.specs.declared.state.fault.NodeFault.TheVariants.{Refused, OutOfMemory}
use Rattle.pg_node_state.specs.declared.state.fault.NodeFault.TheVariants.{Message, TooLong, Damaged}
use Rattle.pg_node_state.specs.NodeFault.{from_message}
use Rattle.pg_message_reader.specs.Names.{NeedsNames}
use Rattle.pg_node.specs.Bytes.{ReadsNext, IsSeenBroken, next_packet, packet_at, packet_in, damages, marked, passed, is_none, is_idle}
use Rattle.pg_node_state.specs.PgNodeSends.Frames.{frames_to}
use Rattle.pg_node_state.specs.PgNodeSends.contracts.framing.FramedOutgoing.TheImpl as frames
use Rattle.pg_node.specs.Links.{Link, link_of, links_in, at_link, with_more}
use Rattle.pg_node.specs.Nodes.{read_next, taken_as, taken_of, step_link, TakesNext, sent_out}
use Rattle.pg_node_state.specs.States.{fault_or_memory, Comes}
use Rattle.pg_node_state.specs.PgNodeSends.Sent.{stamped_of}
use Rattle.pg_node_state.proofs.PgNodeOpens.Named.{clash}
use Rattle.pg_node.proofs.Linked.{one_link}

-- a fault that damages nothing marks nothing
pub unmarked : (links : ℕ → Link) (peer : ℕ) (fault : NodeFault) → damages fault ≡ false → at_link peer (λ l. marked l fault) links ≡ links
unfolding upd
unmarked links peer fault e = fun_ext (λ place. go place (nat_eq peer place) (eqb-true peer place))
  where
    go : (place : ℕ) (b : Bool) → (b ≡ true → peer ≡ place) → cond b (marked (links peer) fault) (links place) ≡ links place
    go place true is = ap (λ b. record (links peer) { damaged = b || (links peer).damaged }) e ∙ ap links (is refl)
    go place false is = refl

-- room was made, packets were sent, and the frame was taken out
pub sent_links : (w0 w1 w2 : List Wire) (sends : List (ℕ × Packet)) (peer : ℕ) (old new : Wire) → links_in w1 ≡ links_in w0 → ((place : ℕ) → links_in w2 place ≡ with_more (links_in w1 place) (frames_to sends place))
    → peer < length w2 → old ≡ get_or w2 peer old → link_of new ≡ passed (link_of old)
    → (place : ℕ) → links_in (slice_set w2 peer new) place ≡ at_link peer passed (sent_out sends (links_in w0)) place
sent_links w0 w1 w2 sends peer old new same sent within here is place = ap (λ (f : ℕ → Link). f place) (one_link w2 peer old new passed within here is
    ∙ ap (at_link peer passed) (fun_ext (λ k. sent k ∙ ap (λ (f : ℕ → Link). with_more (f k) (frames_to sends k)) same)))

abbrev as_some : Result FramedDone NodeFault → Result (Option FramedDone) NodeFault
as_some (Ok done) = Ok (Some done)
as_some (Err fault) = Err fault

abbrev as_none : Result (Option Packet) NodeFault → Result (Option FramedDone) NodeFault
as_none (Ok packet) = Ok None
as_none (Err fault) = Err fault

-- the same was done
pub same_done : (one other : FramedDone) → ◌≡◌ {A = Result (Option FramedDone) NodeFault} (Ok (Some one)) (Ok (Some other)) → one ≡ other
same_done one other e = ap (λ (r : Result (Option FramedDone) NodeFault). go r) e
  where
    go : Result (Option FramedDone) NodeFault → FramedDone
    go (Ok (Some done)) = done
    go (Ok None) = one
    go (Err fault) = one

module _ (names : List Name) (s0 s : Timed State) (before after : ℕ → List Answer) where
  -- what is told where there is no room is told of the event
  pub no_room : (r : Result TimedTurn Refusal) → Comes {h = frames.ghosts} names r (Err (fault_or_memory r)) s before after
  no_room (Ok t) = tt
  no_room (Err refusal) = refl

  pub takes_ok : (r : Result TimedTurn Refusal) (done : FramedDone) → Comes names r (Ok done) s before after → TakesNext names (taken_as r) (Ok (Some done)) s0 s before after
  takes_ok (Ok t) done h = h
  takes_ok (Err refusal) done h = absurd (cc)

  pub takes_err : (r : Result TimedTurn Refusal) (fault : NodeFault) → Comes {h = frames.ghosts} names r (Err fault) s before after → TakesNext names (taken_as r) (Err fault) s0 s before after
  takes_err (Ok t) OutOfMemory h = tt
  takes_err (Ok t) (Refused refusal) h = h
  takes_err (Ok t) (Message fault) h = h
  takes_err (Ok t) TooLong h = h
  takes_err (Ok t) Damaged h = h
  takes_err (Err refusal) OutOfMemory h = tt
  takes_err (Err refusal) (Refused other) h = ap (λ (r : Result FramedDone NodeFault). as_some r) h
  takes_err (Err refusal) (Message fault) h = ap (λ (r : Result FramedDone NodeFault). as_some r) h
  takes_err (Err refusal) TooLong h = ap (λ (r : Result FramedDone NodeFault). as_some r) h
  takes_err (Err refusal) Damaged h = ap (λ (r : Result FramedDone NodeFault). as_some r) h

  memory_out : (r : Result TimedTurn Refusal) → TakesNext names (taken_as r) (Err OutOfMemory) s0 s before after
  memory_out (Ok t) = tt
  memory_out (Err refusal) = tt

  -- no packet was read
  pub next_err : (m : Nodes) (p : Name) (told : Result (Option Packet) NodeFault) (fault : NodeFault) → ReadsNext told (Err fault) → TakesNext names (taken_of m p s0 told) (Err fault) s0 s before after
  next_err m p (Ok (Some packet)) OutOfMemory h = memory_out (step_take m p (stamped_of packet) s0)
  next_err m p (Ok (Some packet)) (Refused refusal) h = absurd (cc)
  next_err m p (Ok (Some packet)) (Message fault) h = absurd (cc)
  next_err m p (Ok (Some packet)) TooLong h = absurd (cc)
  next_err m p (Ok (Some packet)) Damaged h = absurd (cc)
  next_err m p (Ok None) fault h = absurd (cc)
  next_err m p (Err (Message other)) OutOfMemory h = tt
  next_err m p (Err (Message other)) (Refused refusal) h = ap (λ (r : Result (Option Packet) NodeFault). as_none r) h
  next_err m p (Err (Message other)) (Message fault) h = ap (λ (r : Result (Option Packet) NodeFault). as_none r) h
  next_err m p (Err (Message other)) TooLong h = ap (λ (r : Result (Option Packet) NodeFault). as_none r) h
  next_err m p (Err (Message other)) Damaged h = ap (λ (r : Result (Option Packet) NodeFault). as_none r) h
  next_err m p (Err (Refused other)) OutOfMemory h = tt
  next_err m p (Err (Refused other)) (Refused refusal) h = ap (λ (r : Result (Option Packet) NodeFault). as_none r) h
  next_err m p (Err (Refused other)) (Message fault) h = ap (λ (r : Result (Option Packet) NodeFault). as_none r) h
  next_err m p (Err (Refused other)) TooLong h = ap (λ (r : Result (Option Packet) NodeFault). as_none r) h
  next_err m p (Err (Refused other)) Damaged h = ap (λ (r : Result (Option Packet) NodeFault). as_none r) h
  next_err m p (Err OutOfMemory) fault h = ap (λ (r : Result (Option Packet) NodeFault). as_none r) h
  next_err m p (Err TooLong) fault h = ap (λ (r : Result (Option Packet) NodeFault). as_none r) h
  next_err m p (Err Damaged) fault h = ap (λ (r : Result (Option Packet) NodeFault). as_none r) h

-- what was read is what is told
pub tells_ok : (told : Result (Option Packet) NodeFault) (some : Option Packet) → ReadsNext told (Ok some) → told ≡ Ok some
tells_ok (Ok (Some packet)) some h = sym h
tells_ok (Ok None) some h = sym h
tells_ok (Err (Message other)) some h = sym h
tells_ok (Err (Refused other)) some h = sym h
tells_ok (Err OutOfMemory) some h = sym h
tells_ok (Err TooLong) some h = sym h
tells_ok (Err Damaged) some h = sym h

-- what was read of a peer whose loss was not seen is the next packet
pub read_is : (lost : Bool) (link : Link) (some : Option Packet) → read_next lost link ≡ Ok some → (lost ≡ false) × (next_packet link ≡ Ok some)
read_is true link some e = absurd (cc)
read_is false link some e = (refl, e)

-- where its loss was seen the fault tells that
pub lost_err : (lost : Bool) (link : Link) (fault : NodeFault) → lost ≡ true → ReadsNext (read_next lost link) (Err fault) → ◌≡◌ {A = Result (Option FramedDone) NodeFault} (Err fault) (Err (Refused NodeLost))
lost_err true link fault is h = ap (λ (r : Result (Option Packet) NodeFault). as_none r) h
lost_err false link fault is h = absurd (cc)

-- nothing is read there
pub lost_ok : (lost : Bool) (link : Link) (some : Option Packet) → lost ≡ true → read_next lost link ≡ Ok some → ⊥
lost_ok lost link some is e = clash (sym is ∙ (read_is lost link some e).0)

-- what the next packet of a peer leads to, by what is read
pub step_read : (m : Nodes) (p : Name) (link : Link) (s : Timed State) → step_link m p link s ≡ taken_of m p s (read_next (s.state.lost p) link)
step_read m p link s = go (s.state.lost p)
  where
    go : (lost : Bool) → cond lost (Err (Refused NodeLost)) (taken_of m p s (next_packet link)) ≡ taken_of m p s (read_next lost link)
    go true = refl
    go false = refl

some_packet : (r : Result Packet MessageFault) → packet_in r ≡ Ok None → ⊥
some_packet (Ok packet) e = cc
some_packet (Err fault) e = cc

idle_front : (damaged : Bool) (front : Result (Option (List ℕ)) frame.TooLong) → ((not damaged && is_none front) ≡ true) ↔ ((if damaged then Err Damaged else packet_at front) ≡ Ok None)
idle_front true front = (λ e. absurd (cc), λ e. absurd (cc))
idle_front false (Ok None) = (λ e. refl, λ e. refl)
idle_front false (Ok (Some body)) = (λ e. absurd (cc), λ e. absurd (some_packet (packet_spelled body) e))
idle_front false (Err fault) = (λ e. absurd (cc), λ e. absurd (cc))

-- no packet is there exactly where the link is idle
pub idle_next : (link : Link) (b : Bool) → b ≡ is_idle link → (b ≡ true) ↔ (next_packet link ≡ Ok None)
idle_next link b is = subst (λ (x : Bool). (x ≡ true) ↔ (next_packet link ≡ Ok None)) (sym is) (idle_front link.damaged (front_of link.unread))

-- ---- a body that is seen to be no packet

body_in : List ℕ → Result (Option (List ℕ)) frame.TooLong → List ℕ
body_in none (Ok (Some body)) = body
body_in none (Ok None) = none
body_in none (Err fault) = none

told_in : MessageFault → Result Packet MessageFault → MessageFault
told_in none (Ok packet) = none
told_in none (Err fault) = fault

err_of : NodeFault → Result (Option Packet) NodeFault
err_of fault = Err fault

-- its fault is told, where it is told of a body unless names are needed
pub broken_told : (link : Link) (body : List ℕ) (e fault : MessageFault) (r : NodeFault) → front_of link.unread ≡ Ok (Some body)
    → ((f : MessageFault) → packet_spelled body ≡ Err f → NeedsNames body ⊎ (◌≡◌ {A = Result Packet MessageFault} (Err e) (Err f)))
    → r ≡ from_message e → IsSeenBroken link fault → ◌≡◌ {A = Result (Option Packet) NodeFault} (Err r) (Err (from_message fault))
unfolding body_in told_in err_of
broken_told link body e fault r front told is seen = go (told fault (subst (λ b. packet_spelled b ≡ Err fault) same seen.spelled))
  where
    same : seen.body ≡ body
    same = ap (body_in body) (sym seen.front ∙ front)

    go : NeedsNames body ⊎ (◌≡◌ {A = Result Packet MessageFault} (Err e) (Err fault)) → ◌≡◌ {A = Result (Option Packet) NodeFault} (Err r) (Err (from_message fault))
    go (inl needs) = absurd (seen.plain (subst NeedsNames (sym same) needs))
    go (inr h) = ap err_of (is ∙ ap from_message (ap (told_in e) h))
