use Rattle.std.proofs.Common.{◌≡◌, ◌+◌, Option, Some, None, Ok, Err, refl, sym, subst}
use Rattle.pg_node_state.specs.PgMessageTypes.declared.packet.Packet.{Packet}
use Rattle.pg_node_state.specs.PgNodeOpens.Places.{name_at}
use Rattle.pg_node_state.specs.PgStep.Step.{step_take}
use Rattle.pg_node_state.specs.PgNodeSends.Dones.{FramedDone}
use Rattle.pg_node.specs.Bytes.{next_packet}
use Rattle.pg_node_state.specs.PgNodeSends.Framed.{listed_of}
use Rattle.pg_node_state.specs.PgNodeSends.Frames.{AreSmallFrames}
use Rattle.pg_node.specs.Links.{links_in}
use Rattle.pg_node.specs.Nodes.{taken_of, TakesNext}
use Rattle.pg_node_state.specs.PgNodeSends.Sendable.{AreSendable}
use Rattle.pg_node_state.specs.States.{names_of, nodes_of, state_of, answers_of}
use Rattle.pg_node_state.specs.PgNodeSends.Sent.{stamped_of}
use Rattle.pg_node.proofs.Events.{same_done, takes_ok, takes_err}
use Rattle.pg_node.proofs.node.Node.take_next.Goals as goal

pub take_owned-requires-clause-next : goal.take_owned-requires-clause-next
take_owned-requires-clause-next g c = subst (λ (next : Option Packet). next_packet (links_in c.args.self.now.wires.items c.args.peer) ≡ Ok next) c.in-Some.is c.requires.next

pub returns-in-None-clause-event : goal.returns-in-None-clause-event
returns-in-None-clause-event g c =
    let old = c.args.self.now.state in
    subst (λ (next : Option Packet). TakesNext (names_of old) (taken_of (nodes_of old) (name_at (names_of old) (c.args.peer + 1)) (state_of old) (Ok next)) (Ok None) (state_of old) (state_of old) (answers_of old) (answers_of old))
    (sym c.in-None.is) (refl, refl)

pub returns-in-Ok-clause-event : goal.returns-in-Ok-clause-event
returns-in-Ok-clause-event g c =
    let old = c.args.self.now.state in
    let new = c.take_owned.new.self.state in
    subst (λ (next : Option Packet). TakesNext (names_of old) (taken_of (nodes_of old) (name_at (names_of old) (c.args.peer + 1)) (state_of old) (Ok next)) (Ok (Some c.in-Ok.done)) (state_of old) (state_of new) (answers_of old) (answers_of new))
    (sym c.in-Some.is) (takes_ok (names_of old) (state_of old) (state_of new) (answers_of old) (answers_of new) (step_take (nodes_of old) (name_at (names_of old) (c.args.peer + 1)) (stamped_of c.in-Some.packet) (state_of old)) c.in-Ok.done c.in-Ok.ensures.event)

pub returns-in-Err-clause-event : goal.returns-in-Err-clause-event
returns-in-Err-clause-event g c =
    let old = c.args.self.now.state in
    let new = c.take_owned.new.self.state in
    subst (λ (next : Option Packet). TakesNext (names_of old) (taken_of (nodes_of old) (name_at (names_of old) (c.args.peer + 1)) (state_of old) (Ok next)) (Err c.in-Err.fault) (state_of old) (state_of new) (answers_of old) (answers_of new))
    (sym c.in-Some.is) (takes_err (names_of old) (state_of old) (state_of new) (answers_of old) (answers_of new) (step_take (nodes_of old) (name_at (names_of old) (c.args.peer + 1)) (stamped_of c.in-Some.packet) (state_of old)) c.in-Err.fault c.in-Err.ensures.event)

pub returns-in-Ok-clause-small : goal.returns-in-Ok-clause-small
returns-in-Ok-clause-small g c = λ done is. let same = same_done c.in-Ok.done done is in subst (λ (d : FramedDone). AreSmallFrames (listed_of d.sends)) same c.in-Ok.ensures.small

pub returns-in-Ok-clause-fits : goal.returns-in-Ok-clause-fits
returns-in-Ok-clause-fits g c = λ done is. let same = same_done c.in-Ok.done done is in subst (λ (d : FramedDone). AreSendable (names_of c.args.self.now.state) (listed_of d.sends)) same c.in-Ok.ensures.fits
