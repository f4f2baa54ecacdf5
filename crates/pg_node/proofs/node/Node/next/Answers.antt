use Rattle.std.specs.Prelude.{slice_set}
use Rattle.std.proofs.lemmas.List.{length-set}
use Rattle.pg_node_state.specs.States.{names_of}
use Rattle.std.proofs.Common.{◌≡◌, ◌+◌, ◌<◌, ◌∙◌, Err, length, refl, sym, arith, subst}
use Rattle.pg_node_state.specs.PgStep.declared.refusal.Refusal.TheVariants.{NodeLost}
use Rattle.pg_node_state.specs.declared.state.fault.NodeFault.{NodeFault}
use Rattle.pg_node_state.specs.declared.state.fault.NodeFault.TheVariants.{Refused}
use Rattle.pg_node.specs.Bytes.{ReadsNext, IsSeenBroken, next_packet, marked}
use Rattle.pg_node.specs.Links.{Link, link_of, idle_link, links_in}
use Rattle.pg_node.specs.Nodes.{read_next}
use Rattle.pg_node.proofs.Events.{unmarked}
use Rattle.pg_node.proofs.Linked.{part_here, same_links, one_link, on_ok, as_err, still_room}
use Rattle.pg_node.proofs.node.Node.next.Goals as goal

pub returns-then-is_lost-clause-told : goal.returns-then-is_lost-clause-told
returns-then-is_lost-clause-told g c =
    subst (λ lost. ReadsNext (read_next lost (links_in c.args.self.now.wires.items c.args.peer)) (Err (Refused NodeLost))) (sym (sym c.is_lost.ensures ∙ c.if-is_lost.true)) refl

pub returns-then-is_lost-clause-marked : goal.returns-then-is_lost-clause-marked
returns-then-is_lost-clause-marked g c = sym (unmarked (links_in c.args.self.now.wires.items) c.args.peer (Refused NodeLost) refl)

pub returns-clause-told : goal.returns-clause-told
returns-clause-told g c =
    let wires = c.args.self.now.wires.items in
    let within : c.args.peer < length wires = omega (arith, c.args.self.now.linked, c.requires.place) in
    let next = subst (λ (link : Link). ReadsNext (next_packet link) c.next.result) (sym (part_here link_of idle_link wires c.args.peer c.index_mut-wire.result.now within c.index_mut-wire.ensures.value)) c.next.ensures.told in
    subst (λ lost. ReadsNext (read_next lost (links_in wires c.args.peer)) c.next.result) (sym (sym c.is_lost.ensures ∙ c.if-is_lost.false)) next

pub returns-clause-same : goal.returns-clause-same
returns-clause-same g c =
    let wires = c.args.self.now.wires.items in
    let within : c.args.peer < length wires = omega (arith, c.args.self.now.linked, c.requires.place) in
    on_ok c.next.result _ _ (same_links wires c.args.peer c.index_mut-wire.result.now c.next.new.self within c.index_mut-wire.ensures.value) c.next.ensures.same

pub returns-clause-marked : goal.returns-clause-marked
returns-clause-marked g c =
    let wires = c.args.self.now.wires.items in
    let within : c.args.peer < length wires = omega (arith, c.args.self.now.linked, c.requires.place) in
    as_err c.next.result _ _ (λ (fault : NodeFault) is. one_link wires c.args.peer c.index_mut-wire.result.now c.next.new.self (λ l. marked l fault) within c.index_mut-wire.ensures.value is) c.next.ensures.marked

pub invariant_of-self : goal.invariant_of-self
invariant_of-self g c =
    let wires = c.args.self.now.wires.items in
    let within : c.args.peer < length wires = omega (arith, c.args.self.now.linked, c.requires.place) in
    let linked : length (slice_set wires c.args.peer c.next.new.self) + 1 ≡ length (names_of c.args.self.now.state) = omega (arith, length-set wires c.args.peer c.next.new.self, c.args.self.now.linked) in
    record {
      linked = linked;
      passage = c.args.self.now.passage;
      room = λ is. still_room wires c.args.peer c.index_mut-wire.result.now c.next.new.self within c.index_mut-wire.ensures.value (omega (arith, c.next.ensures.room)) (c.args.self.now.room is);
    }

pub returns-clause-broken : goal.returns-clause-broken
returns-clause-broken g c = λ fault here seen.
    let wires = c.args.self.now.wires.items in
    let within : c.args.peer < length wires = omega (arith, c.args.self.now.linked, c.requires.place) in
    c.next.ensures.broken fault (subst (λ (link : Link). IsSeenBroken link fault) (part_here link_of idle_link wires c.args.peer c.index_mut-wire.result.now within c.index_mut-wire.ensures.value) seen)
