use Rattle.std.proofs.Common.{refl, arith}
use Rattle.pg_node.specs.Nodes.{held_by}
use Rattle.pg_node.specs.PgNodeState.States.{names_of, state_of, answers_of}
use Rattle.pg_node_run.specs.Events.{told_of_loss}
use Rattle.pg_node_run.proofs.Acting.{nothing_done, nothing_held, refused_as, log_after}
use Rattle.pg_node_run.proofs.Taking.{loss_acts, was_drained}
use Rattle.pg_node_run.proofs.linked.LinkedNode.see_loss.Goals as goal

pub returns-then-is_err-clause-acted : goal.returns-then-is_err-clause-acted
returns-then-is_err-clause-acted g c =
    nothing_held g.L.Link.accepts g.I.Inlet.gives g.met.L.Link.rests g.met.I.Inlet.rests c.args.self.now _ refl c.reserve.ensures.items refl refl

pub returns-in-Ok-clause-acted : goal.returns-in-Ok-clause-acted
returns-in-Ok-clause-acted g c =
    loss_acts g.L.Link.accepts g.I.Inlet.gives g.met.L.Link.rests g.met.I.Inlet.rests c.args.self.now c.keep.new.self c.see_loss.new.self c.reuse.new.self c.args.peer c.args.last _
    (omega (arith, c.requires.place, c.args.self.now.linked)) c.in-Ok.ensures.event c.in-Ok.ensures.closed c.see_loss.ensures.stays.names c.see_loss.ensures.stays.ports c.keep.ensures.node c.reuse.ensures.held c.reuse.ensures.links
    (log_after _ _ _ _ c.keep.ensures.log c.reserve.ensures.items) c.keep.ensures.peers

pub returns-in-Err-clause-acted : goal.returns-in-Err-clause-acted
returns-in-Err-clause-acted g c =
    nothing_done g.L.Link.accepts g.I.Inlet.gives g.met.L.Link.rests g.met.I.Inlet.rests c.args.self.now _ c.see_loss.ensures.stays.names c.see_loss.ensures.stays.ports c.in-Err.ensures.stays.state c.in-Err.ensures.stays.answers c.reserve.ensures.items refl c.in-Err.ensures.kept

pub returns-in-Err-clause-fault : goal.returns-in-Err-clause-fault
returns-in-Err-clause-fault g c =
    let n = c.args.self.now.node in
    let told = told_of_loss n c.args.peer c.args.last in
    let s = state_of (held_by c.see_loss.new.self) in
    let after = answers_of (held_by c.see_loss.new.self) in
    refused_as (names_of (held_by n)) told c.in-Err.fault s (answers_of (held_by n)) after
    c.in-Err.ensures.event

pub returns-in-Ok-clause-drained : goal.returns-in-Ok-clause-drained
returns-in-Ok-clause-drained g c =
    let n = c.args.self.now.node in
    let m = c.see_loss.new.self in
    was_drained n c.args.peer c.args.last _ (state_of (held_by m)) (answers_of (held_by n)) (answers_of (held_by m)) c.in-Ok.ensures.event
