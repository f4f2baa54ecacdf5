use Rattle.std.proofs.Common.{◌≡◌, ◌<◌, ◌≤◌, ◌+◌, length, take, refl, sym, arith, subst}
use Rattle.std.specs.Prelude.{min, slice_set}
use Rattle.std.proofs.lemmas.List.{length-set}
use Rattle.pg_node_state.specs.States.{names_of}
use Rattle.pg_node.specs.Links.{Link, link_of, idle_link, links_in, without_front}
use Rattle.pg_node.proofs.Linked.{part_here, one_link, still_room}
use Rattle.pg_node.proofs.node.Node.put.Goals as goal

pub returns : goal.returns
returns g c =
    let wires = c.args.self.now.wires.items in
    let wire = c.index_mut-wire.result.now in
    let count = c.put.result in
    let within : c.args.peer < length wires = omega (arith, c.args.self.now.linked, c.requires.place) in
    let here : links_in wires c.args.peer ≡ link_of wire = part_here link_of idle_link wires c.args.peer wire within c.index_mut-wire.ensures.value in
    record {
      within = c.put.ensures.within;
      some = subst (λ (link : Link). count ≤ length link.outbox) (sym here) c.put.ensures.some;
      moved = subst (λ (link : Link). g.L.Link.accepts c.args.link.now (take count link.outbox) c.put.new.link) (sym here) c.put.ensures.moved;
      many = subst (λ (link : Link). g.L.Link.moves c.args.link.now (min c.args.max (length link.outbox)) count) (sym here) c.put.ensures.many;
      rest = one_link wires c.args.peer wire c.put.new.self (λ link. without_front link count) within c.index_mut-wire.ensures.value c.put.ensures.rest;
      state = refl;
      buffer = refl;
    }

pub invariant_of-self : goal.invariant_of-self
invariant_of-self g c =
    let wires = c.args.self.now.wires.items in
    let within : c.args.peer < length wires = omega (arith, c.args.self.now.linked, c.requires.place) in
    let linked : length (slice_set wires c.args.peer c.put.new.self) + 1 ≡ length (names_of c.args.self.now.state) = omega (arith, length-set wires c.args.peer c.put.new.self, c.args.self.now.linked) in
    record {
      linked = linked;
      passage = c.args.self.now.passage;
      room = λ is. still_room wires c.args.peer c.index_mut-wire.result.now c.put.new.self within c.index_mut-wire.ensures.value (omega (arith, c.put.ensures.room)) (c.args.self.now.room is);
    }
