use Rattle.pg_node_run.proofs.Forgetting.{all_forget_none, all_forget_on}
use Rattle.pg_node_run.proofs.GoingOn.{goes_itself, serves_going, serves_on}
use Rattle.pg_node.specs.Nodes.{held_by}
use Rattle.pg_node.specs.PgNodeState.States.{answers_of}
use Rattle.pg_node_run.proofs.Served.{holds_first, holds_next, keep_on, keep_themselves, leaves_next}
use Rattle.pg_node_run.proofs.Wanting.{not_both}
use Rattle.pg_node_run.specs.Ports.{HandsAll}
use Rattle.std.proofs.Common.{arith}
use Rattle.pg_node_run.proofs.serving.hand_all.Goals as goal

pub loop-port-init : goal.loop-port-init
loop-port-init g c = (
  serves_going g.L.Link.accepts g.I.Inlet.gives c.args.linked.now c.args.linked.now c.args.ports.now.items (goes_itself g.L.Link.accepts g.I.Inlet.gives g.met.L.Link.rests g.met.I.Inlet.rests c.args.linked.now),
  keep_themselves c.args.ports.now.items,
  all_forget_none c.args.ports.now.items c.args.pauses.now,
  holds_first (λ place a b. HandsAll (answers_of (held_by c.args.linked.now.node) place) a b) _ c.args.ports.now.items,
  λ short. not_both _ c.idle-phase.ensures.whole short,
)

pub loop-port-preserved : goal.loop-port-preserved
loop-port-preserved g c = (
  serves_on g.L.Link.accepts g.I.Inlet.gives g.met.L.Link.composes g.met.I.Inlet.composes c.args.linked.now c.args.linked.now c.args.linked.now c.args.ports.now.items c.loop-port.ports.items c.hand_of.new.ports.items c.loop-port.invariant.0 c.hand_of.ensures.serves,
  keep_on c.args.ports.now.items c.loop-port.ports.items c.hand_of.new.ports.items c.loop-port.invariant.1 c.hand_of.ensures.kept,
  all_forget_on c.args.ports.now.items c.loop-port.ports.items c.hand_of.new.ports.items c.args.pauses.now c.loop-port.pauses c.hand_of.new.pauses c.loop-port.invariant.2 c.hand_of.ensures.forgets,
  holds_next (λ place a b. HandsAll (answers_of (held_by c.args.linked.now.node) place) a b) c.loop-port.port _ _ _ c.args.ports.now.items c.loop-port.ports.items c.hand_of.new.ports.items
      c.and-phase.ensures.first c.and-phase.ensures.second c.loop-port.invariant.3 c.hand_of.ensures.all c.hand_of.ensures.others,
  leaves_next (answers_of (held_by c.args.linked.now.node)) c.loop-port.port _ _ _ c.loop-port.ports.items c.hand_of.new.ports.items c.and-phase.ensures.either c.loop-port.invariant.4 c.hand_of.ensures.left
      c.hand_of.ensures.others,
)

pub returns-clause-left : goal.returns-clause-left
returns-clause-left g c = λ short.
    let at = c.loop-port.invariant.4 short in
    let low = at.low in
    let most = c.loop-port.auto.port-end in
    let count = c.len-port-end.ensures in
    let size = c.args.ports.now.ok.0 in
    let same = c.loop-port.invariant.0.served.len in
    record { place = at.port; within = omega (arith, low, most, count, size, same); left = at.left }
