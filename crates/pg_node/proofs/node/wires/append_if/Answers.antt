use Rattle.std.proofs.Common.{◌∙◌, ◌&&◌, [], nat_eq, cond, sym, ap}
use Rattle.pg_node.specs.Links.{links_in, with_more}
use Rattle.pg_node.proofs.Linked.{appended_there, room_past, room_here}
use Rattle.pg_node.proofs.node.wires.append_if.Goals as goal

pub append-requires-clause-room : goal.append-requires-clause-room
append-requires-clause-room c =
    room_here c.args.wires.now.items c.args.peer c.index_mut-wire.result.now (c.requires.place c.if-marked.true) c.index_mut-wire.ensures.value (c.requires.room c.if-marked.true)

pub returns-then-marked-clause-sent : goal.returns-then-marked-clause-sent
returns-then-marked-clause-sent c = λ place.
    let wires = c.args.wires.now.items in
    let frame = c.args.frame.now in
    appended_there wires c.args.peer c.index_mut-wire.result.now c.append.new.self frame (c.requires.place c.if-marked.true) c.index_mut-wire.ensures.value c.append.ensures place
    ∙ ap (λ b. with_more (links_in wires place) (cond (b && nat_eq c.args.peer place) frame [])) (sym c.if-marked.true)

pub returns-then-marked-clause-others : goal.returns-then-marked-clause-others
returns-then-marked-clause-others c = room_past c.args.wires.now.items c.args.peer c.append.new.self (c.requires.place c.if-marked.true)
