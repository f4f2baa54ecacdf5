use Rattle.std.proofs.lemmas.List.{length-set}
use Rattle.std.specs.Prelude.{slice_set}
use Rattle.std.proofs.Common.{◌≡◌, ◌<◌, ◌+◌, ◌∙◌, List, Err, length, sym, ap, subst, arith}
use Rattle.pg_node.specs.Bytes.{marked}
use Rattle.pg_node_state.specs.PgNodeSends.Framed.{listed_of}
use Rattle.pg_node.specs.Links.{at_link}
use Rattle.pg_node_state.specs.PgStep.Nodes.{Node}
use Rattle.pg_node_state.specs.Issued.{ports_of}
use Rattle.pg_node_state.specs.PgNodeOpens.Places.{name_at}
use Rattle.pg_node_state.specs.PgNodeSends.Sent.{stamped_of}
use Rattle.pg_node_state.specs.PgNodeSends.contracts.framing.FramedOutgoing.TheImpl as frames
use Rattle.pg_node_state.specs.PgStep.Step.{step_take}
use Rattle.pg_node_state.specs.States.{names_of, nodes_of, state_of, answers_of, forgotten_of, Comes}
use Rattle.pg_node.proofs.Linked.{one_link, still_room}
use Rattle.pg_node.proofs.Events.{no_room, sent_links}
use Rattle.pg_node.proofs.node.Node.take_read.Goals as goal

pub returns-in-Err-take_as-clause-marked : goal.returns-in-Err-take_as-clause-marked
returns-in-Err-take_as-clause-marked g c =
    let wires = c.make_room.new.wires.items in
    let within : c.args.peer < length wires = omega (arith, c.args.self.now.linked, c.requires.place, c.make_room.ensures.len) in
    one_link wires c.args.peer c.index_mut-wire-in-Err-take_as.result.now c.mark-in-Err-take_as.new.self (λ l. marked l c.in-Err-take_as.fault) within c.index_mut-wire-in-Err-take_as.ensures.value c.mark-in-Err-take_as.ensures.marked
    ∙ ap (at_link c.args.peer (λ l. marked l c.in-Err-take_as.fault)) c.make_room.ensures.same

pub returns-in-Ok-take_as-clause-sent : goal.returns-in-Ok-take_as-clause-sent
returns-in-Ok-take_as-clause-sent g c =
    let w0 = c.args.self.now.wires.items in
    let w1 = c.make_room.new.wires.items in
    let w2 = c.send_all.new.wires.items in
    let within : c.args.peer < length w2 = omega (arith, c.args.self.now.linked, c.requires.place, c.make_room.ensures.len, c.send_all.ensures.len) in
    λ place. sent_links w0 w1 w2 (listed_of c.in-Ok-take_as.done.sends) c.args.peer c.index_mut-wire.result.now c.pass.new.self c.make_room.ensures.same c.send_all.ensures.sent within c.index_mut-wire.ensures.value c.pass.ensures.passed place

pub returns-in-Ok-take_as-clause-small : goal.returns-in-Ok-take_as-clause-small
returns-in-Ok-take_as-clause-small g c = c.send_all.ensures.small

pub invariant_of-self-in-Ok-take_as : goal.invariant_of-self-in-Ok-take_as
invariant_of-self-in-Ok-take_as g c =
    let wires = c.send_all.new.wires.items in
    let within : c.args.peer < length wires = omega (arith, c.args.self.now.linked, c.requires.place, c.make_room.ensures.len, c.send_all.ensures.len) in
    let same = ap (λ (names : List Node). length names) c.take_as.ensures.stays.names in
    let linked : length (slice_set wires c.args.peer c.pass.new.self) + 1 ≡ length (names_of c.take_as.new.self) = omega (arith, length-set wires c.args.peer c.pass.new.self, c.args.self.now.linked, c.make_room.ensures.len, c.send_all.ensures.len, same) in
    record {
      linked = linked;
      passage = c.args.self.now.passage;
      room = λ is. still_room wires c.args.peer c.index_mut-wire.result.now c.pass.new.self within c.index_mut-wire.ensures.value (omega (arith, c.pass.ensures.room)) (c.send_all.ensures.known is);
    }

pub invariant_of-self-in-Err-take_as : goal.invariant_of-self-in-Err-take_as
invariant_of-self-in-Err-take_as g c =
    let wires = c.make_room.new.wires.items in
    let within : c.args.peer < length wires = omega (arith, c.args.self.now.linked, c.requires.place, c.make_room.ensures.len) in
    let same = ap (λ (names : List Node). length names) c.take_as.ensures.stays.names in
    let linked : length (slice_set wires c.args.peer c.mark-in-Err-take_as.new.self) + 1 ≡ length (names_of c.take_as.new.self) = omega (arith, length-set wires c.args.peer c.mark-in-Err-take_as.new.self, c.args.self.now.linked, c.make_room.ensures.len, same) in
    record {
      linked = linked;
      passage = c.args.self.now.passage;
      room = λ is. still_room wires c.args.peer c.index_mut-wire-in-Err-take_as.result.now c.mark-in-Err-take_as.new.self within c.index_mut-wire-in-Err-take_as.ensures.value (omega (arith, c.mark-in-Err-take_as.ensures.room)) (c.make_room.ensures.known is);
    }

pub returns-in-Err-clause-event : goal.returns-in-Err-clause-event
returns-in-Err-clause-event g c =
    let node = c.args.self.now.state in
    let after = c.mark.new.self.state in
    let told = step_take (nodes_of node) (name_at (names_of node) (c.args.peer + 1)) (stamped_of c.args.packet.now) (state_of node) in
    subst (λ fault. Comes {h = frames.ghosts} (names_of node) told (Err fault) (state_of after) (answers_of node) (answers_of after)) (sym c.take_fault_or_memory-fault.ensures)
    (no_room (names_of node) (state_of node) (state_of after) (answers_of node) (answers_of after) told)

pub returns-in-Err-clause-marked : goal.returns-in-Err-clause-marked
returns-in-Err-clause-marked g c = c.mark.ensures.marked ∙ ap (at_link c.args.peer (λ l. marked l c.take_fault_or_memory-fault.result)) c.make_room.ensures.same

pub returns-in-Err-clause-stays : goal.returns-in-Err-clause-stays
returns-in-Err-clause-stays g c =
    let same = c.mark.ensures.state in
    record { state = ap state_of same; answers = ap answers_of same; names = ap names_of same; ports = ap ports_of same; forgotten = ap forgotten_of same }
