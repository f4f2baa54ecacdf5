use Rattle.std.proofs.Common.{◌∙◌, refl}
use Rattle.pg_node_run.proofs.Following.{follows_itself}
use Rattle.pg_node_run.proofs.GoingOn.{goes_by_none}
use Rattle.pg_node_run.proofs.Logging.{logs_none}
use Rattle.pg_node_run.proofs.Wanting.{none_on}
use Rattle.pg_node_run.proofs.linked.LinkedNode.put_waiting.Goals as goal

pub loop-peer-init : goal.loop-peer-init
loop-peer-init g c = (follows_itself g.L.Link.accepts g.I.Inlet.gives g.met.L.Link.rests g.met.I.Inlet.rests c.args.self.now, refl)

pub loop-peer-preserved : goal.loop-peer-preserved
loop-peer-preserved g c =
    let was = c.loop-peer.invariant in
    let a = c.args.self.now in
    let b = c.loop-peer.self in
    let d = c.put.new.self in
    let put = c.put.ensures.follows in (
      none_on g.L.Link.accepts g.I.Inlet.gives g.met.L.Link.rests g.met.I.Inlet.rests g.met.L.Link.composes g.met.I.Inlet.composes a b d was.0 put,
      logs_none g.L.Link.accepts g.I.Inlet.gives b d put ∙ was.1,
    )

pub returns-clause-goes : goal.returns-clause-goes
returns-clause-goes g c = goes_by_none g.L.Link.accepts g.I.Inlet.gives c.args.self.now c.loop-peer.self c.loop-peer.invariant.0
