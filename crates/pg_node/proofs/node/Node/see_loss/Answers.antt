use Rattle.std.specs.Prelude.{slice_set}
use Rattle.std.proofs.lemmas.List.{length-set}
use Rattle.pg_node_state.specs.PgStep.Nodes.{Node}
use Rattle.std.proofs.Common.{◌≡◌, List, ◌<◌, ◌+◌, ◌∙◌, cond, length, Result, Ok, Err, refl, sym, ap, arith, subst}
use Rattle.pg_node_state.specs.PgNodeOpens.Places.{name_at}
use Rattle.pg_node_state.specs.PgStep.declared.refusal.Refusal.{Refusal}
use Rattle.pg_node_state.specs.PgStep.declared.refusal.Refusal.TheVariants.{NodeLost, NotDrained}
use Rattle.pg_node_state.specs.PgStep.Step.{TimedTurn}
use Rattle.pg_node_state.specs.PgNodeSends.contracts.framing.FramedOutgoing.TheImpl as frames
use Rattle.pg_node_state.specs.declared.state.fault.NodeFault.TheVariants.{Refused}
use Rattle.pg_node.specs.Bytes.{closed, is_drained}
use Rattle.pg_node.specs.Links.{link_of, idle_link}
use Rattle.pg_node_state.specs.States.{names_of, state_of, answers_of, step_see_loss, Comes}
use Rattle.pg_node.proofs.Linked.{part_here, one_link, still_room}
use Rattle.pg_node.proofs.node.Node.see_loss.Goals as goal

pub returns-then-not-is_drained-clause-event : goal.returns-then-not-is_drained-clause-event
returns-then-not-is_drained-clause-event g c =
    let node = c.args.self.now.state in
    let wires = c.args.self.now.wires.items in
    let within : c.args.peer < length wires = omega (arith, c.args.self.now.linked, c.requires.place) in
    let drained = ap is_drained (part_here link_of idle_link wires c.args.peer c.index.result.now within c.index.ensures) ∙ (sym c.is_drained.ensures ∙ c.if-not-is_drained.true) in
    let told = step_see_loss (name_at (names_of node) (c.args.peer + 1)) c.args.last (state_of node) in
    subst (λ (r : Result TimedTurn Refusal). Comes {h = frames.ghosts} (names_of node) r (Err (Refused NotDrained)) (state_of node) (answers_of node) (answers_of node)) (λ i. sym (λ j. cond ((sym c.is_lost.ensures ∙ c.if-is_lost.false) j) (Err NodeLost) (cond (drained j) told (Err NotDrained))) i) refl

pub returns-in-Ok-clause-event : goal.returns-in-Ok-clause-event
returns-in-Ok-clause-event g c =
    let node = c.args.self.now.state in
    let wires = c.args.self.now.wires.items in
    let within : c.args.peer < length wires = omega (arith, c.args.self.now.linked, c.requires.place) in
    let drained = ap is_drained (part_here link_of idle_link wires c.args.peer c.index.result.now within c.index.ensures) ∙ (sym c.is_drained.ensures ∙ c.if-not-is_drained.false) in
    let told = step_see_loss (name_at (names_of node) (c.args.peer + 1)) c.args.last (state_of node) in
    subst (λ (r : Result TimedTurn Refusal). Comes {h = frames.ghosts} (names_of node) r (Ok c.in-Ok.done) (state_of c.see_loss_as.new.self) (answers_of node) (answers_of c.see_loss_as.new.self)) (sym (λ j. cond ((sym c.is_lost.ensures ∙ c.if-is_lost.false) j) (Err NodeLost) (cond (drained j) told (Err NotDrained)))) c.in-Ok.ensures.event

pub returns-in-Err-clause-event : goal.returns-in-Err-clause-event
returns-in-Err-clause-event g c =
    let node = c.args.self.now.state in
    let wires = c.args.self.now.wires.items in
    let within : c.args.peer < length wires = omega (arith, c.args.self.now.linked, c.requires.place) in
    let drained = ap is_drained (part_here link_of idle_link wires c.args.peer c.index.result.now within c.index.ensures) ∙ (sym c.is_drained.ensures ∙ c.if-not-is_drained.false) in
    let told = step_see_loss (name_at (names_of node) (c.args.peer + 1)) c.args.last (state_of node) in
    subst (λ (r : Result TimedTurn Refusal). Comes {h = frames.ghosts} (names_of node) r (Err c.in-Err.fault) (state_of c.see_loss_as.new.self) (answers_of node) (answers_of c.see_loss_as.new.self)) (sym (λ j. cond ((sym c.is_lost.ensures ∙ c.if-is_lost.false) j) (Err NodeLost) (cond (drained j) told (Err NotDrained)))) c.in-Err.ensures.event

pub returns-in-Ok-clause-closed : goal.returns-in-Ok-clause-closed
returns-in-Ok-clause-closed g c =
    let wires = c.args.self.now.wires.items in
    let within : c.args.peer < length wires = omega (arith, c.args.self.now.linked, c.requires.place) in
    one_link wires c.args.peer c.index_mut-wire.result.now c.close.new.self closed within c.index_mut-wire.ensures.value c.close.ensures.closed

pub invariant_of-self : goal.invariant_of-self
invariant_of-self g c =
    let wires = c.args.self.now.wires.items in
    let within : c.args.peer < length wires = omega (arith, c.args.self.now.linked, c.requires.place) in
    let linked : length (slice_set wires c.args.peer c.close.new.self) + 1 ≡ length (names_of c.see_loss_as.new.self) = omega (arith, length-set wires c.args.peer c.close.new.self, c.args.self.now.linked, ap (λ (names : List Node). length names) c.see_loss_as.ensures.stays.names) in
    record {
      linked = linked;
      passage = c.args.self.now.passage;
      room = λ is. still_room wires c.args.peer c.index_mut-wire.result.now c.close.new.self within c.index_mut-wire.ensures.value (c.close.ensures.room) (c.args.self.now.room is);
    }
