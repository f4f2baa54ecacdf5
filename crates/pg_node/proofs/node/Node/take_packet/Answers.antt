use Rattle.std.proofs.Common.{◌≡◌, ◌+◌, ◌^◌, ◌∙◌, ℕ, Option, Ok, Err, sym, ap, subst}
use Rattle.std.specs.Prelude.{IfErr, IfSome}
use Rattle.pg_node_state.specs.PgMessageTypes.declared.packet.Packet.{Packet}
use Rattle.pg_node_state.specs.PgMessageTypes.Members.{IsShort}
use Rattle.pg_node_state.specs.PgNodeOpens.Places.{name_at}
use Rattle.pg_node.specs.Bytes.{next_packet, marked, passed}
use Rattle.pg_node.specs.Links.{Link, links_in, at_link}
use Rattle.pg_node.specs.Nodes.{has_lost, read_next, step_link, taken_of, TakesNext, sent_out}
use Rattle.pg_node_state.specs.PgNodeSends.Sendable.{AreSendable}
use Rattle.pg_node_state.specs.States.{names_of, nodes_of, state_of, answers_of, Stays}
use Rattle.pg_node_state.specs.PgNodeSends.Framed.{listed_of}
use Rattle.pg_node.proofs.Events.{tells_ok, next_err, read_is, lost_ok, lost_err, step_read}
use Rattle.pg_node.proofs.node.Node.take_packet.Goals as goal

pub take_next-requires-clause-few : goal.take_next-requires-clause-few
take_next-requires-clause-few g c = λ packet is. subst (λ (o : Option Packet). IfSome o (λ p. IsShort (2 ^ 32) p.message)) is c.in-Ok.ensures.few

pub take_next-requires-clause-next : goal.take_next-requires-clause-next
take_next-requires-clause-next g c =
    let old = c.args.self.now in
    ap (λ (links : ℕ → Link). next_packet (links c.args.peer)) c.in-Ok.ensures.same
    ∙ (read_is (has_lost old.state c.args.peer) (links_in old.wires.items c.args.peer) c.in-Ok.next (tells_ok _ c.in-Ok.next c.in-Ok.ensures.told)).1

pub returns-in-Ok-clause-event : goal.returns-in-Ok-clause-event
returns-in-Ok-clause-event g c =
    let old = c.args.self.now in
    let node = old.state in
    let p = name_at (names_of node) (c.args.peer + 1) in
    let link = links_in old.wires.items c.args.peer in
    let result = c.take_next.result in
    let after = c.take_next.new.self.state in
    let read : read_next (has_lost node c.args.peer) link ≡ Ok c.in-Ok.next = tells_ok _ c.in-Ok.next c.in-Ok.ensures.told in
    subst (λ r. TakesNext (names_of node) r result (state_of node) (state_of after) (answers_of node) (answers_of after))
    (sym (step_read (nodes_of node) p link (state_of node) ∙ ap (taken_of (nodes_of node) p (state_of node)) read))
    (subst (λ s. TakesNext (names_of s) (taken_of (nodes_of s) (name_at (names_of s) (c.args.peer + 1)) (state_of s) (Ok c.in-Ok.next)) result (state_of s) (state_of after) (answers_of s) (answers_of after))
    c.next.ensures.state c.take_next.ensures.event)

pub returns-in-Ok-clause-sent : goal.returns-in-Ok-clause-sent
returns-in-Ok-clause-sent g c = λ done is place.
    c.take_next.ensures.sent done is place ∙ ap (λ (links : ℕ → Link). at_link c.args.peer passed (sent_out (listed_of done.sends) links) place) c.in-Ok.ensures.same

pub returns-in-Ok-clause-none : goal.returns-in-Ok-clause-none
returns-in-Ok-clause-none g c = λ is. c.take_next.ensures.none is ∙ c.in-Ok.ensures.same

pub returns-in-Ok-clause-marked : goal.returns-in-Ok-clause-marked
returns-in-Ok-clause-marked g c =
    subst (λ (links : ℕ → Link). IfErr c.take_next.result (λ fault. links_in c.take_next.new.self.wires.items ≡ at_link c.args.peer (λ l. marked l fault) links)) c.in-Ok.ensures.same c.take_next.ensures.marked

pub returns-in-Err-clause-event : goal.returns-in-Err-clause-event
returns-in-Err-clause-event g c =
    let old = c.args.self.now in
    let node = old.state in
    let after = c.next.new.self.state in
    let p = name_at (names_of node) (c.args.peer + 1) in
    let link = links_in old.wires.items c.args.peer in
    let fault = c.in-Err.fault in
    subst (λ s. TakesNext (names_of node) (step_link (nodes_of node) p link (state_of node)) (Err fault) (state_of node) (state_of s) (answers_of node) (answers_of s)) (sym c.next.ensures.state)
    (subst (λ r. TakesNext (names_of node) r (Err fault) (state_of node) (state_of node) (answers_of node) (answers_of node)) (sym (step_read (nodes_of node) p link (state_of node)))
    (next_err (names_of node) (state_of node) (state_of node) (answers_of node) (answers_of node) (nodes_of node) p (read_next (has_lost node c.args.peer) link) fault c.in-Err.ensures.told))

pub returns-in-Ok-clause-stays : goal.returns-in-Ok-clause-stays
returns-in-Ok-clause-stays g c = subst (λ s. Stays s c.take_next.new.self.state c.take_next.result) c.next.ensures.state c.take_next.ensures.stays

pub returns-in-Ok-clause-fits : goal.returns-in-Ok-clause-fits
returns-in-Ok-clause-fits g c = λ done is. subst (λ s. AreSendable (names_of s) (listed_of done.sends)) c.next.ensures.state (c.take_next.ensures.fits done is)

pub returns-in-Ok-clause-lost : goal.returns-in-Ok-clause-lost
returns-in-Ok-clause-lost g c = λ gone.
    let old = c.args.self.now in
    absurd (lost_ok (has_lost old.state c.args.peer) (links_in old.wires.items c.args.peer) c.in-Ok.next gone (tells_ok _ c.in-Ok.next c.in-Ok.ensures.told))

pub returns-in-Err-clause-lost : goal.returns-in-Err-clause-lost
returns-in-Err-clause-lost g c = λ gone.
    let old = c.args.self.now in
    lost_err (has_lost old.state c.args.peer) (links_in old.wires.items c.args.peer) c.in-Err.fault gone c.in-Err.ensures.told
