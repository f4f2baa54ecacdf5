use Rattle.std.proofs.Common.{arith, refl}
use Rattle.pg_node_run.proofs.GoingOn.{goes_itself, goes_on}
use Rattle.pg_node_run.proofs.Logging.{logs_on, logs_same}
use Rattle.pg_node_run.proofs.Trying.{tried_more}
use Rattle.pg_node_run.proofs.Wanting.{not_both, pulled_more, wanting_on}
use Rattle.pg_node_run.specs.Follows.{log_of}
use Rattle.pg_node_run.specs.Logs.{IsTake}
use Rattle.pg_node_run.proofs.linked.LinkedNode.take_all.Goals as goal

pub loop-peer-init : goal.loop-peer-init
loop-peer-init g c = (
  goes_itself g.L.Link.accepts g.I.Inlet.gives g.met.L.Link.rests g.met.I.Inlet.rests c.args.self.now,
  λ whole peer low. absurd (omega (arith, low)),
  logs_same IsTake (log_of c.args.self.now) (log_of c.args.self.now) refl,
  λ whole peer low. absurd (omega (arith, low)),
  λ short. not_both _ c.idle-phase.ensures.whole short,
)

pub loop-peer-preserved : goal.loop-peer-preserved
loop-peer-preserved g c =
    let was = c.loop-peer.invariant in
    let a = c.args.self.now in
    let b = c.loop-peer.self in
    let d = c.pull_and_take.new.self in (
      goes_on g.L.Link.accepts g.I.Inlet.gives g.met.L.Link.composes g.met.I.Inlet.composes a b d was.0 c.pull_and_take.ensures.goes,
      λ whole. tried_more g.L.Link.accepts g.I.Inlet.gives g.met.L.Link.rests g.met.I.Inlet.rests g.met.L.Link.composes g.met.I.Inlet.composes c.loop-peer.peer a b d
          (was.0.acts, was.0.follows) (c.pull_and_take.ensures.goes.acts, c.pull_and_take.ensures.goes.follows) (was.1 (c.and-phase.ensures.first whole)) (c.pull_and_take.ensures.tried (c.and-phase.ensures.second whole)),
      logs_on IsTake (log_of a) (log_of b) (log_of d) was.2 c.pull_and_take.ensures.logs,
      λ whole. pulled_more g.L.Link.accepts g.I.Inlet.gives g.met.L.Link.rests g.met.I.Inlet.rests g.met.L.Link.composes g.met.I.Inlet.composes g.I.Inlet.moves c.loop-peer.peer a b d
          (was.0.acts, was.0.follows) (c.pull_and_take.ensures.goes.acts, c.pull_and_take.ensures.goes.follows) (was.3 (c.and-phase.ensures.first whole)) (c.pull_and_take.ensures.pulled (c.and-phase.ensures.second whole)),
      wanting_on g.L.Link.accepts g.I.Inlet.gives g.met.L.Link.rests g.met.I.Inlet.rests g.met.L.Link.composes g.met.I.Inlet.composes _ _ _ a b d c.and-phase.ensures.either
          (was.0.acts, was.0.follows) (c.pull_and_take.ensures.goes.acts, c.pull_and_take.ensures.goes.follows) was.4 c.pull_and_take.ensures.wanting,
    )
