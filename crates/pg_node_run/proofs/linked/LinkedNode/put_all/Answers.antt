use Rattle.std.proofs.Common.{◌∙◌, arith, refl}
use Rattle.pg_node_run.proofs.Following.{follows_itself}
use Rattle.pg_node_run.proofs.GoingOn.{goes_by_none}
use Rattle.pg_node_run.proofs.Logging.{logs_none}
use Rattle.pg_node_run.proofs.Wanting.{none_on, put_more, put_one}
use Rattle.pg_node_run.proofs.linked.LinkedNode.put_all.Goals as goal

pub loop-peer-init : goal.loop-peer-init
loop-peer-init g c = (
  follows_itself g.L.Link.accepts g.I.Inlet.gives g.met.L.Link.rests g.met.I.Inlet.rests c.args.self.now,
  refl,
  λ peer low. absurd (omega (arith, low)),
  c.idle-phase.ensures.whole,
)

pub loop-peer-preserved : goal.loop-peer-preserved
loop-peer-preserved g c =
    let was = c.loop-peer.invariant in
    let a = c.args.self.now in
    let b = c.loop-peer.self in
    let d = c.put-count.new.self in
    let put = c.put-count.ensures in (
      none_on g.L.Link.accepts g.I.Inlet.gives g.met.L.Link.rests g.met.I.Inlet.rests g.met.L.Link.composes g.met.I.Inlet.composes a b d was.0 put.follows,
      logs_none g.L.Link.accepts g.I.Inlet.gives b d put.follows ∙ was.1,
      put_more g.L.Link.accepts g.I.Inlet.gives g.met.L.Link.rests g.met.I.Inlet.rests g.met.L.Link.composes g.met.I.Inlet.composes g.L.Link.moves c.loop-peer.peer a b d was.0 put.follows was.2
          (put_one g.L.Link.accepts g.I.Inlet.gives g.met.L.Link.rests g.met.I.Inlet.rests g.met.L.Link.composes g.met.I.Inlet.composes g.L.Link.moves c.loop-peer.peer c.put-count.result b d put.follows put.count put.many),
      c.and-phase.ensures.both was.3 c.of.ensures.none,
    )

pub returns-clause-goes : goal.returns-clause-goes
returns-clause-goes g c = goes_by_none g.L.Link.accepts g.I.Inlet.gives c.args.self.now c.loop-peer.self c.loop-peer.invariant.0
