use Rattle.std.proofs.Common.{◌+◌, Option, None, Ok, ap, arith, refl, subst, sym}
use Rattle.pg_node.specs.Nodes.{held_by, has_lost, links_of, TakesNext}
use Rattle.pg_node.specs.PgNodeSends.Dones.{FramedDone}
use Rattle.pg_node.specs.PgNodeState.declared.state.fault.NodeFault.TheVariants.{OutOfMemory}
use Rattle.pg_node.specs.PgNodeState.States.{names_of, nodes_of, state_of, answers_of}
use Rattle.pg_node.specs.PgNodeOpens.Places.{name_at}
use Rattle.pg_node.proofs.Events.{read_is, unmarked}
use Rattle.pg_node_run.proofs.Acting.{fault_done, log_after, nothing_done, nothing_held}
use Rattle.pg_node_run.proofs.Following.{follows_itself}
use Rattle.pg_node_run.proofs.Taking.{take_acts, took_fault, took_nothing, took_packet}
use Rattle.pg_node_run.specs.Events.{told_of_peer}
use Rattle.pg_node_run.proofs.linked.LinkedNode.take.Goals as goal

pub returns-then-is_idle-clause-took : goal.returns-then-is_idle-clause-took
returns-then-is_idle-clause-took g c = follows_itself g.L.Link.accepts g.I.Inlet.gives g.met.L.Link.rests g.met.I.Inlet.rests c.args.self.now

pub returns-then-is_idle-clause-none : goal.returns-then-is_idle-clause-none
returns-then-is_idle-clause-none g c = λ is.
    let n = c.args.self.now.node in
    (read_is (has_lost (held_by n) c.args.peer) (links_of n c.args.peer) None (c.is_idle.ensures.0 c.if-is_idle.true)).1

pub returns-then-is_err-clause-took : goal.returns-then-is_err-clause-took
returns-then-is_err-clause-took g c =
    nothing_held g.L.Link.accepts g.I.Inlet.gives g.met.L.Link.rests g.met.I.Inlet.rests c.args.self.now _ refl c.reserve.ensures.items refl refl

pub returns-then-is_err-clause-marked : goal.returns-then-is_err-clause-marked
returns-then-is_err-clause-marked g c = sym (unmarked (links_of c.args.self.now.node) c.args.peer OutOfMemory refl)

pub returns-in-Ok-Some-clause-took : goal.returns-in-Ok-Some-clause-took
returns-in-Ok-Some-clause-took g c =
    let n = c.args.self.now.node in
    let m = c.take.new.self in
    let p = name_at (names_of (held_by n)) (c.args.peer + 1) in
    let took = took_packet (names_of (held_by n)) (nodes_of (held_by n)) p (links_of n c.args.peer) (state_of (held_by n)) (state_of (held_by m)) (answers_of (held_by n)) (answers_of (held_by m)) c.in-Ok-Some.done (subst (λ (o : Option FramedDone). TakesNext (names_of (held_by n)) (told_of_peer n c.args.peer) (Ok o) (state_of (held_by n)) (state_of (held_by m)) (answers_of (held_by n)) (answers_of (held_by m)))
    c.in-Ok-Some.field-0-is c.in-Ok-Some.ensures.event) in
    take_acts g.L.Link.accepts g.I.Inlet.gives g.met.L.Link.rests g.met.I.Inlet.rests c.args.self.now c.keep.new.self m c.reuse.new.self c.args.peer took.packet c.in-Ok-Some.done
    (omega (arith, c.requires.place, c.args.self.now.linked)) took.next took.came
    (c.in-Ok-Some.ensures.fits c.in-Ok-Some.done (ap (λ o. Ok o) c.in-Ok-Some.field-0-is)) (c.in-Ok-Some.ensures.small c.in-Ok-Some.done (ap (λ o. Ok o) c.in-Ok-Some.field-0-is)) (c.in-Ok-Some.ensures.sent c.in-Ok-Some.done (ap (λ o. Ok o) c.in-Ok-Some.field-0-is)) c.take.ensures.stays.names c.take.ensures.stays.ports
    c.keep.ensures.node c.reuse.ensures.held c.reuse.ensures.links (log_after _ _ _ _ c.keep.ensures.log c.reserve.ensures.items) c.keep.ensures.peers

pub returns-in-Ok-None-clause-took : goal.returns-in-Ok-None-clause-took
returns-in-Ok-None-clause-took g c =
    let n = c.args.self.now.node in
    let m = c.take.new.self in
    let p = name_at (names_of (held_by n)) (c.args.peer + 1) in
    let took = took_nothing (names_of (held_by n)) (nodes_of (held_by n)) p (links_of n c.args.peer) (state_of (held_by n)) (state_of (held_by m)) (answers_of (held_by n)) (answers_of (held_by m)) (subst (λ (o : Option FramedDone). TakesNext (names_of (held_by n)) (told_of_peer n c.args.peer) (Ok o) (state_of (held_by n)) (state_of (held_by m)) (answers_of (held_by n)) (answers_of (held_by m)))
    c.in-Ok-None.field-0-is c.in-Ok-None.ensures.event) in
    nothing_done g.L.Link.accepts g.I.Inlet.gives g.met.L.Link.rests g.met.I.Inlet.rests c.args.self.now _ c.take.ensures.stays.names c.take.ensures.stays.ports took.1.0 took.1.1
    c.reserve.ensures.items refl (c.in-Ok-None.ensures.none (ap (λ o. Ok o) c.in-Ok-None.field-0-is))

pub returns-in-Ok-None-clause-none : goal.returns-in-Ok-None-clause-none
returns-in-Ok-None-clause-none g c = λ is.
    let n = c.args.self.now.node in
    let m = c.take.new.self in
    let p = name_at (names_of (held_by n)) (c.args.peer + 1) in
    (took_nothing (names_of (held_by n)) (nodes_of (held_by n)) p (links_of n c.args.peer) (state_of (held_by n)) (state_of (held_by m)) (answers_of (held_by n)) (answers_of (held_by m)) (subst (λ (o : Option FramedDone). TakesNext (names_of (held_by n)) (told_of_peer n c.args.peer) (Ok o) (state_of (held_by n)) (state_of (held_by m)) (answers_of (held_by n)) (answers_of (held_by m)))
    c.in-Ok-None.field-0-is c.in-Ok-None.ensures.event)).0

pub returns-in-Err-clause-took : goal.returns-in-Err-clause-took
returns-in-Err-clause-took g c =
    let n = c.args.self.now.node in
    let m = c.take.new.self in
    let p = name_at (names_of (held_by n)) (c.args.peer + 1) in
    fault_done g.L.Link.accepts g.I.Inlet.gives g.met.L.Link.rests g.met.I.Inlet.rests c.args.self.now _ c.args.peer c.in-Err.fault c.take.ensures.stays.names c.take.ensures.stays.ports c.in-Err.ensures.stays.state
    c.in-Err.ensures.stays.answers c.reserve.ensures.items refl c.in-Err.ensures.marked
    (took_fault (names_of (held_by n)) (nodes_of (held_by n)) p (links_of n c.args.peer) (state_of (held_by n)) (state_of (held_by m)) (answers_of (held_by n)) (answers_of (held_by m)) (told_of_peer n c.args.peer) c.in-Err.fault c.in-Err.ensures.event)

pub returns-in-Err-clause-fault : goal.returns-in-Err-clause-fault
returns-in-Err-clause-fault g c =
    let n = c.args.self.now.node in
    let m = c.take.new.self in
    let p = name_at (names_of (held_by n)) (c.args.peer + 1) in
    took_fault (names_of (held_by n)) (nodes_of (held_by n)) p (links_of n c.args.peer) (state_of (held_by n)) (state_of (held_by m)) (answers_of (held_by n)) (answers_of (held_by m)) (told_of_peer n c.args.peer) c.in-Err.fault c.in-Err.ensures.event
