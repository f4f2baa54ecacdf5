use Rattle.std.specs.Prelude.{slice_set}
use Rattle.std.proofs.lemmas.List.{length-set}
use Rattle.std.proofs.Common.{◌≡◌, ◌+◌, ◌<◌, ◌∙◌, length, sym, ap, arith}
use Rattle.pg_node.specs.Links.{Link, link_of, idle_link, links_in, with_fed}
use Rattle.pg_node.proofs.Linked.{part_here, one_link, same_links, if_ok, on_err, still_room}
use Rattle.pg_node_state.specs.States.{names_of}
use Rattle.pg_node_state.proofs.PgNodeOpens.Named.{clash}
use Rattle.pg_node.proofs.node.Node.pull.Goals as goal

pub returns-then-is_lost-clause-damaged : goal.returns-then-is_lost-clause-damaged
returns-then-is_lost-clause-damaged g c stays is = absurd (clash (sym (sym c.is_lost.ensures ∙ c.if-is_lost.true) ∙ stays))

pub returns-then-is_lost-clause-memory : goal.returns-then-is_lost-clause-memory
returns-then-is_lost-clause-memory g c stays is = absurd (clash (sym (sym c.is_lost.ensures ∙ c.if-is_lost.true) ∙ stays))

pub returns-clause-lost : goal.returns-clause-lost
returns-clause-lost g c gone = absurd (clash (sym gone ∙ (sym c.is_lost.ensures ∙ c.if-is_lost.false)))

pub returns-clause-damaged : goal.returns-clause-damaged
returns-clause-damaged g c stays is =
    let wires = c.args.self.now.wires.items in
    let within : c.args.peer < length wires = omega (arith, c.args.self.now.linked, c.requires.place) in
    let here : links_in wires c.args.peer ≡ link_of c.index_mut-wire.result.now = part_here link_of idle_link wires c.args.peer c.index_mut-wire.result.now within c.index_mut-wire.ensures.value in
    c.pull_some.ensures.damaged (sym (ap (λ (link : Link). link.damaged) here) ∙ is)

pub returns-clause-memory : goal.returns-clause-memory
returns-clause-memory g c stays is =
    let wires = c.args.self.now.wires.items in
    let within : c.args.peer < length wires = omega (arith, c.args.self.now.linked, c.requires.place) in
    let here : links_in wires c.args.peer ≡ link_of c.index_mut-wire.result.now = part_here link_of idle_link wires c.args.peer c.index_mut-wire.result.now within c.index_mut-wire.ensures.value in
    c.pull_some.ensures.memory (sym (ap (λ (link : Link). link.damaged) here) ∙ is)

pub returns-clause-err : goal.returns-clause-err
returns-clause-err g c =
    let wires = c.args.self.now.wires.items in
    let within : c.args.peer < length wires = omega (arith, c.args.self.now.linked, c.requires.place) in
    on_err c.pull_some.result _ _ (same_links wires c.args.peer c.index_mut-wire.result.now c.pull_some.new.wire within c.index_mut-wire.ensures.value) c.pull_some.ensures.err

pub returns-clause-fed : goal.returns-clause-fed
returns-clause-fed g c =
    let wires = c.args.self.now.wires.items in
    let within : c.args.peer < length wires = omega (arith, c.args.self.now.linked, c.requires.place) in
    if_ok c.pull_some.result _ _ _ (λ count fed more. (fed.0, fed.1, fed.2, one_link wires c.args.peer c.index_mut-wire.result.now c.pull_some.new.wire (λ link. with_fed link fed.0) within c.index_mut-wire.ensures.value fed.3)) c.pull_some.ensures.fed c.pull_some.ensures.within

pub invariant_of-self-2 : goal.invariant_of-self-2
invariant_of-self-2 g c =
    let wires = c.args.self.now.wires.items in
    let new = c.pull_some.new.wire in
    let within : c.args.peer < length wires = omega (arith, c.args.self.now.linked, c.requires.place) in
    let linked : length (slice_set wires c.args.peer new) + 1 ≡ length (names_of c.args.self.now.state) = omega (arith, length-set wires c.args.peer new, c.args.self.now.linked) in
    record {
      linked = linked;
      passage = c.pull_some.ensures.len ∙ c.args.self.now.passage;
      room = λ is. still_room wires c.args.peer c.index_mut-wire.result.now new within c.index_mut-wire.ensures.value (omega (arith, c.pull_some.ensures.room)) (c.args.self.now.room is);
    }
