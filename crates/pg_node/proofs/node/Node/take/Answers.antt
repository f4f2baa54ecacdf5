use Rattle.std.proofs.Common.{◌≡◌, ◌+◌, ◌∙◌, ℕ, Some, Ok, Err, sym, ap, subst}
use Rattle.pg_node_state.specs.PgMessageTypes.declared.packet.Packet.{Packet}
use Rattle.pg_node_state.specs.PgNodeOpens.Places.{name_at}
use Rattle.pg_message_reader.specs.Own.{own_reply}
use Rattle.pg_node_state.specs.PgStep.Step.{step_take}
use Rattle.pg_node_state.specs.PgNodeSends.Dones.{FramedDone}
use Rattle.pg_node_state.specs.PgNodeSends.Framed.{listed_of}
use Rattle.pg_node_state.specs.PgNodeSends.Frames.{AreSmallFrames}
use Rattle.pg_node.specs.Bytes.{passed}
use Rattle.pg_node.specs.Links.{links_in, at_link}
use Rattle.pg_node.specs.Nodes.{has_lost, taken_of, TakesNext, sent_out}
use Rattle.pg_node_state.specs.PgNodeSends.Sendable.{AreSendable}
use Rattle.pg_node_state.specs.States.{names_of, nodes_of, state_of, answers_of}
use Rattle.pg_node_state.specs.PgNodeSends.Sent.{stamped_of}
use Rattle.pg_node.proofs.Events.{same_done, takes_ok, takes_err, read_is, lost_ok, step_read}
use Rattle.pg_node.proofs.node.Node.take.Goals as goal

pub take_own_reply-requires-clause-next : goal.take_own_reply-requires-clause-next
take_own_reply-requires-clause-next g c =
    let old = c.args.self.now in
    (read_is (has_lost old.state c.args.peer) (links_in old.wires.items c.args.peer) (Some (own_reply (name_at (names_of old.state) 0) c.in-Some.reply)) c.in-Some.ensures).1

pub returns-in-Ok-clause-event : goal.returns-in-Ok-clause-event
returns-in-Ok-clause-event g c =
    let old = c.args.self.now in
    let node = old.state in
    let after = c.take_own_reply.new.self.state in
    let p = name_at (names_of node) (c.args.peer + 1) in
    let link = links_in old.wires.items c.args.peer in
    let packet : Packet = own_reply (name_at (names_of node) 0) c.in-Some.reply in
    subst (λ r. TakesNext (names_of node) r (Ok (Some c.in-Ok.done)) (state_of node) (state_of after) (answers_of node) (answers_of after))
    (sym (step_read (nodes_of node) p link (state_of node) ∙ ap (taken_of (nodes_of node) p (state_of node)) c.in-Some.ensures))
    (takes_ok (names_of node) (state_of node) (state_of after) (answers_of node) (answers_of after) (step_take (nodes_of node) p (stamped_of packet) (state_of node)) c.in-Ok.done c.in-Ok.ensures.event)

pub returns-in-Err-clause-event : goal.returns-in-Err-clause-event
returns-in-Err-clause-event g c =
    let old = c.args.self.now in
    let node = old.state in
    let after = c.take_own_reply.new.self.state in
    let p = name_at (names_of node) (c.args.peer + 1) in
    let link = links_in old.wires.items c.args.peer in
    let packet : Packet = own_reply (name_at (names_of node) 0) c.in-Some.reply in
    subst (λ r. TakesNext (names_of node) r (Err c.in-Err.fault) (state_of node) (state_of after) (answers_of node) (answers_of after))
    (sym (step_read (nodes_of node) p link (state_of node) ∙ ap (taken_of (nodes_of node) p (state_of node)) c.in-Some.ensures))
    (takes_err (names_of node) (state_of node) (state_of after) (answers_of node) (answers_of after) (step_take (nodes_of node) p (stamped_of packet) (state_of node)) c.in-Err.fault c.in-Err.ensures.event)

pub returns-in-Ok-clause-sent : goal.returns-in-Ok-clause-sent
returns-in-Ok-clause-sent g c = λ done is.
    let same = same_done c.in-Ok.done done is in
    subst (λ (d : FramedDone). (place : ℕ) → links_in c.take_own_reply.new.self.wires.items place ≡ at_link c.args.peer passed (sent_out (listed_of d.sends) (links_in c.args.self.now.wires.items)) place) same c.in-Ok.ensures.sent

pub returns-in-Ok-clause-small : goal.returns-in-Ok-clause-small
returns-in-Ok-clause-small g c = λ done is. let same = same_done c.in-Ok.done done is in subst (λ (d : FramedDone). AreSmallFrames (listed_of d.sends)) same c.in-Ok.ensures.small

pub returns-in-Ok-clause-fits : goal.returns-in-Ok-clause-fits
returns-in-Ok-clause-fits g c = λ done is. let same = same_done c.in-Ok.done done is in subst (λ (d : FramedDone). AreSendable (names_of c.args.self.now.state) (listed_of d.sends)) same c.in-Ok.ensures.fits

pub returns-in-Ok-clause-lost : goal.returns-in-Ok-clause-lost
returns-in-Ok-clause-lost g c = λ gone.
    let old = c.args.self.now in
    absurd (lost_ok (has_lost old.state c.args.peer) (links_in old.wires.items c.args.peer) (Some (own_reply (name_at (names_of old.state) 0) c.in-Some.reply)) gone c.in-Some.ensures)

pub returns-in-Err-clause-lost : goal.returns-in-Err-clause-lost
returns-in-Err-clause-lost g c = λ gone.
    let old = c.args.self.now in
    absurd (lost_ok (has_lost old.state c.args.peer) (links_in old.wires.items c.args.peer) (Some (own_reply (name_at (names_of old.state) 0) c.in-Some.reply)) gone c.in-Some.ensures)
