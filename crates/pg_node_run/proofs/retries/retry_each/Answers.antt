use Rattle.std.proofs.Common.{◌<◌, ◌∙◌, ap, get_or, length, arith}
use Rattle.std.specs.Prelude.{false}
use Rattle.std.proofs.lemmas.List.{get_or-map}
use Rattle.std.proofs.lemmas.Option.{slice_get-get_or, slice_get_within}
use Rattle.pg_node_run.specs.Follows.{log_of, node_of}
use Rattle.pg_node_run.specs.Tries.{is_ready_at}
use Rattle.pg_node_run.proofs.GoingOn.{goes_itself, goes_on}
use Rattle.pg_node_run.proofs.Retrying.{logs_due, none_at, retried_first, retried_next_marked}
use Rattle.pg_node_run.proofs.Wanting.{not_both, wanting_on}
use Rattle.pg_node_run.proofs.retries.retry_each.Goals as goal

pub loop-place-init : goal.loop-place-init
loop-place-init g c = (
  retried_first g.L.Link.accepts g.I.Inlet.gives g.met.L.Link.rests g.met.I.Inlet.rests g.met.L.Link.composes g.met.I.Inlet.composes c.args.ops.now (is_ready_at (node_of c.args.linked.now)) _ c.args.pauses.now c.args.linked.now
      (goes_itself g.L.Link.accepts g.I.Inlet.gives g.met.L.Link.rests g.met.I.Inlet.rests c.args.linked.now),
  λ short. not_both _ c.idle-phase.ensures.whole short,
)

pub loop-place-preserved : goal.loop-place-preserved
loop-place-preserved g c =
    let a = c.args.linked.now in
    let b = c.loop-place.linked in
    let d = c.retry_when_due.new.linked in
    let was = c.loop-place.invariant.0 in
    let step = c.retry_when_due.ensures in (
      retried_next_marked g.L.Link.accepts g.I.Inlet.gives g.met.L.Link.rests g.met.I.Inlet.rests g.met.L.Link.composes g.met.I.Inlet.composes c.args.ops.now c.requires.once c.loop-place.place _ (is_ready_at (node_of a)) _ _ _ _
          c.args.pauses.now c.loop-place.pauses c.retry_when_due.new.pauses a b d (slice_get-get_or c.args.ops.now c.loop-place.place _ c.loop-place-test.true)
          (ap (λ bs. get_or bs c.loop-place.place false) c.requires.ready ∙ get_or-map (is_ready_at (node_of a)) c.args.ops.now c.loop-place.place (record { port = 0; number = 0 }) false c.loop-place-test.true)
          c.and-phase.ensures.first c.and-phase.ensures.second was
          (goes_on g.L.Link.accepts g.I.Inlet.gives g.met.L.Link.composes g.met.I.Inlet.composes a b d was.goes step.goes)
          step.goes step.tried step.waits step.logs step.spared step.others,
      wanting_on g.L.Link.accepts g.I.Inlet.gives g.met.L.Link.rests g.met.I.Inlet.rests g.met.L.Link.composes g.met.I.Inlet.composes _ _ _ a b d c.and-phase.ensures.either
          (was.goes.acts, was.goes.follows) (step.goes.acts, step.goes.follows) c.loop-place.invariant.1 step.wanting,
    )

pub returns-clause-tried : goal.returns-clause-tried
returns-clause-tried g c = λ whole k op there due.
    let within : k < length c.args.ops.now = slice_get_within c.args.ops.now k op there in
    let past = c.loop-place-test.false in
    c.loop-place.invariant.0.tried whole k op (omega (arith, within, past)) there due

pub returns-clause-waits : goal.returns-clause-waits
returns-clause-waits g c = λ k op there.
    let within : k < length c.args.ops.now = slice_get_within c.args.ops.now k op there in
    let past = c.loop-place-test.false in
    c.loop-place.invariant.0.waits k op (omega (arith, within, past)) there

pub returns-clause-others : goal.returns-clause-others
returns-clause-others g c = λ op none. c.loop-place.invariant.0.others op (λ k low there. none_at op c.args.ops.now none k there)

pub returns-clause-logs : goal.returns-clause-logs
returns-clause-logs g c =
    logs_due c.args.ops.now c.loop-place.place (is_ready_at (node_of c.args.linked.now)) c.args.pauses.now c.loop-place.pauses (log_of c.args.linked.now) (log_of c.loop-place.linked) c.loop-place.invariant.0.logs
