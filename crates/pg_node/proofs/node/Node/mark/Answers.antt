use Rattle.std.specs.Prelude.{slice_set}
use Rattle.std.proofs.lemmas.List.{length-set}
use Rattle.std.proofs.Common.{◌≡◌, ◌<◌, ◌+◌, length, arith}
use Rattle.pg_node.specs.Bytes.{marked}
use Rattle.pg_node_state.specs.States.{names_of}
use Rattle.pg_node.proofs.Linked.{one_link, still_room}
use Rattle.pg_node.proofs.node.Node.mark.Goals as goal

pub returns-clause-marked : goal.returns-clause-marked
returns-clause-marked g c =
    let wires = c.args.self.now.wires.items in
    let within : c.args.peer < length wires = omega (arith, c.args.self.now.linked, c.requires.place) in
    one_link wires c.args.peer c.index_mut-wire.result.now c.mark.new.self (λ l. marked l c.args.fault) within c.index_mut-wire.ensures.value c.mark.ensures.marked

pub invariant_of-self : goal.invariant_of-self
invariant_of-self g c =
    let wires = c.args.self.now.wires.items in
    let within : c.args.peer < length wires = omega (arith, c.args.self.now.linked, c.requires.place) in
    let linked : length (slice_set wires c.args.peer c.mark.new.self) + 1 ≡ length (names_of c.args.self.now.state) = omega (arith, length-set wires c.args.peer c.mark.new.self, c.args.self.now.linked) in
    record {
      linked = linked;
      passage = c.args.self.now.passage;
      room = λ is. still_room wires c.args.peer c.index_mut-wire.result.now c.mark.new.self within c.index_mut-wire.ensures.value (omega (arith, c.mark.ensures.room)) (c.args.self.now.room is);
    }
