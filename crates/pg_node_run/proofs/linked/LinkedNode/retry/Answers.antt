use Rattle.std.proofs.Common.{refl}
use Rattle.pg_node.specs.Nodes.{held_by}
use Rattle.pg_node.specs.PgNodeState.States.{names_of, state_of, answers_of}
use Rattle.pg_node_run.specs.Events.{told_of_action}
use Rattle.pg_node_run.proofs.Acting.{nothing_done, nothing_held, refused_as, log_after}
use Rattle.pg_node_run.proofs.Taking.{action_acts}
use Rattle.pg_node_run.proofs.linked.LinkedNode.retry.Goals as goal
use Rattle.pg_node.specs.PgStep.Step.{Retry}

pub returns-then-is_err-clause-acted : goal.returns-then-is_err-clause-acted
returns-then-is_err-clause-acted g c =
    nothing_held g.L.Link.accepts g.I.Inlet.gives g.met.L.Link.rests g.met.I.Inlet.rests c.args.self.now _ refl c.reserve.ensures.items refl refl

pub returns-in-Ok-clause-acted : goal.returns-in-Ok-clause-acted
returns-in-Ok-clause-acted g c =
    action_acts g.L.Link.accepts g.I.Inlet.gives g.met.L.Link.rests g.met.I.Inlet.rests c.args.self.now c.keep.new.self c.retry.new.self c.reuse.new.self (Retry c.args.op) _
    c.in-Ok.ensures.event c.in-Ok.ensures.fits c.in-Ok.ensures.small c.in-Ok.ensures.sent c.retry.ensures.stays.names c.retry.ensures.stays.ports c.keep.ensures.node c.reuse.ensures.held c.reuse.ensures.links
    (log_after _ _ _ _ c.keep.ensures.log c.reserve.ensures.items) c.keep.ensures.peers

pub returns-in-Err-clause-acted : goal.returns-in-Err-clause-acted
returns-in-Err-clause-acted g c =
    nothing_done g.L.Link.accepts g.I.Inlet.gives g.met.L.Link.rests g.met.I.Inlet.rests c.args.self.now _ c.retry.ensures.stays.names c.retry.ensures.stays.ports c.in-Err.ensures.stays.state c.in-Err.ensures.stays.answers c.reserve.ensures.items refl c.in-Err.ensures.kept

pub returns-in-Err-clause-fault : goal.returns-in-Err-clause-fault
returns-in-Err-clause-fault g c =
    let n = c.args.self.now.node in
    refused_as (names_of (held_by n)) (told_of_action n (Retry c.args.op)) c.in-Err.fault (state_of (held_by c.retry.new.self)) (answers_of (held_by n)) (answers_of (held_by c.retry.new.self)) c.in-Err.ensures.event
