use Rattle.std.proofs.Common.{Ok, refl, subst}
use Rattle.pg_node.specs.Nodes.{held_by}
use Rattle.pg_node.specs.PgNodeState.Issued.{ports_of}
use Rattle.pg_node.specs.PgNodeState.States.{names_of, nodes_of, state_of, answers_of, Comes}
use Rattle.pg_node_run.proofs.Acting.{nothing_done, nothing_held, log_after}
use Rattle.pg_node_run.proofs.Taking.{action_acts}
use Rattle.pg_node_run.proofs.linked.LinkedNode.command_held.Goals as goal
use Rattle.pg_node.specs.PgStep.declared.command.Command.{Command}
use Rattle.pg_node.specs.PgStep.Step.{Issue, step_act}

pub returns-then-is_err-clause-acted : goal.returns-then-is_err-clause-acted
returns-then-is_err-clause-acted g c =
    nothing_held g.L.Link.accepts g.I.Inlet.gives g.met.L.Link.rests g.met.I.Inlet.rests c.args.self.now _ refl c.reserve.ensures.items refl refl

pub returns-in-Ok-clause-acted : goal.returns-in-Ok-clause-acted
returns-in-Ok-clause-acted g c =
    let n = c.args.self.now.node in
    let m = c.command.new.self in
    let came = subst
    (λ (command : Command). Comes (names_of (held_by n)) (step_act (nodes_of (held_by n)) (ports_of (held_by n)) (Issue c.args.port command) (state_of (held_by n))) (Ok c.in-Ok.done)
    (state_of (held_by m)) (answers_of (held_by n)) (answers_of (held_by m))) c.get.ensures c.in-Ok.ensures.event in
    action_acts g.L.Link.accepts g.I.Inlet.gives g.met.L.Link.rests g.met.I.Inlet.rests c.args.self.now c.keep.new.self c.command.new.self c.reuse.new.self (Issue c.args.port c.args.command) _
    came c.in-Ok.ensures.fits c.in-Ok.ensures.small c.in-Ok.ensures.sent c.command.ensures.stays.names c.command.ensures.stays.ports c.keep.ensures.node c.reuse.ensures.held c.reuse.ensures.links
    (log_after _ _ _ _ c.keep.ensures.log c.reserve.ensures.items) c.keep.ensures.peers

pub returns-in-Err-clause-acted : goal.returns-in-Err-clause-acted
returns-in-Err-clause-acted g c =
    nothing_done g.L.Link.accepts g.I.Inlet.gives g.met.L.Link.rests g.met.I.Inlet.rests c.args.self.now _ c.command.ensures.stays.names c.command.ensures.stays.ports c.in-Err.ensures.stays.state c.in-Err.ensures.stays.answers c.reserve.ensures.items refl c.in-Err.ensures.kept
