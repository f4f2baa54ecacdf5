use Rattle.std.proofs.Common.{◌≡◌, ◌∙◌, ap, arith}
use Rattle.pg_node.specs.PgNodeState.Issued.{ports_of}
use Rattle.pg_node.specs.Nodes.{held_by}
use Rattle.pg_node_run.specs.Follows.{node_of}
use Rattle.pg_node_run.proofs.GoingOn.{goes_itself, goes_on, goes_by_retry}
use Rattle.pg_node_run.proofs.Retrying.{retried_ok, retried_err, retried_nowhere, retried_between}
use Rattle.pg_node_run.proofs.Trying.{stays}
use Rattle.pg_node_run.proofs.Wanting.{not_both, retrying_wants}
use Rattle.pg_node_run.proofs.retries.retry_of.Goals as goal

pub returns-then-from-port_count-clause-goes : goal.returns-then-from-port_count-clause-goes
returns-then-from-port_count-clause-goes g c = goes_itself g.L.Link.accepts g.I.Inlet.gives g.met.L.Link.rests g.met.I.Inlet.rests c.args.linked.now

pub returns-then-from-port_count-clause-tried : goal.returns-then-from-port_count-clause-tried
returns-then-from-port_count-clause-tried g c = λ whole.
    let count : c.port_count.result ≡ ports_of (held_by (node_of c.args.linked.now)) = c.port_count.ensures ∙ ap ports_of (c.state.ensures ∙ ap held_by c.node.ensures) in
    let past = c.if-from-port_count.true in
    let port = c.from.ensures in
    retried_nowhere g.L.Link.accepts g.I.Inlet.gives g.met.L.Link.rests g.met.I.Inlet.rests g.met.L.Link.composes g.met.I.Inlet.composes c.args.op c.args.linked.now (omega (arith, count, past, port))

pub returns-in-Ok-clause-goes : goal.returns-in-Ok-clause-goes
returns-in-Ok-clause-goes g c =
    goes_on g.L.Link.accepts g.I.Inlet.gives g.met.L.Link.composes g.met.I.Inlet.composes c.args.linked.now c.retry.new.self c.put_waiting.new.self
    (goes_by_retry g.L.Link.accepts g.I.Inlet.gives c.args.op c.retry.result c.args.linked.now c.retry.new.self c.retry.ensures.acted) c.put_waiting.ensures.goes

pub returns-in-Ok-clause-tried : goal.returns-in-Ok-clause-tried
returns-in-Ok-clause-tried g c = λ whole.
    retried_between g.L.Link.accepts g.I.Inlet.gives g.met.L.Link.rests g.met.I.Inlet.rests g.met.L.Link.composes g.met.I.Inlet.composes c.args.op c.args.linked.now c.args.linked.now c.retry.new.self c.put_waiting.new.self (stays g.L.Link.accepts g.I.Inlet.gives g.met.L.Link.rests g.met.I.Inlet.rests g.met.L.Link.composes g.met.I.Inlet.composes c.args.linked.now)
    (retried_ok g.L.Link.accepts g.I.Inlet.gives g.met.L.Link.rests g.met.I.Inlet.rests g.met.L.Link.composes g.met.I.Inlet.composes c.args.op c.retry.result _ c.args.linked.now c.retry.new.self c.in-Ok.is c.retry.ensures.acted) (c.put_waiting.ensures.goes.acts, c.put_waiting.ensures.goes.follows)

pub returns-in-Err-clause-tried : goal.returns-in-Err-clause-tried
returns-in-Err-clause-tried g c = λ whole.
    retried_err g.L.Link.accepts g.I.Inlet.gives g.met.L.Link.rests g.met.I.Inlet.rests g.met.L.Link.composes g.met.I.Inlet.composes c.args.op c.retry.result c.in-Err.fault c.args.linked.now c.retry.new.self c.in-Err.is c.retry.ensures.acted c.retry.ensures.fault (c.of-in-Err.ensures.no_want whole)

pub returns-then-from-port_count-clause-wanting : goal.returns-then-from-port_count-clause-wanting
returns-then-from-port_count-clause-wanting g c = λ short. not_both _ c.idle.ensures.whole short

pub returns-in-Ok-clause-wanting : goal.returns-in-Ok-clause-wanting
returns-in-Ok-clause-wanting g c = λ short. absurd (c.of.ensures.want short)

pub returns-in-Err-clause-wanting : goal.returns-in-Err-clause-wanting
returns-in-Err-clause-wanting g c = λ short.
    let count : c.port_count.result ≡ ports_of (held_by (node_of c.args.linked.now)) = c.port_count.ensures ∙ ap ports_of (c.state.ensures ∙ ap held_by c.node.ensures) in
    let below = c.if-from-port_count.false in
    let port = c.from.ensures in
    retrying_wants g.L.Link.accepts g.I.Inlet.gives g.met.L.Link.rests g.met.I.Inlet.rests g.met.L.Link.composes g.met.I.Inlet.composes c.args.op c.retry.result c.in-Err.fault c.args.linked.now c.retry.new.self (omega (arith, count, below, port))
    c.in-Err.is c.retry.ensures.acted c.retry.ensures.fault (c.of-in-Err.ensures.want short)
