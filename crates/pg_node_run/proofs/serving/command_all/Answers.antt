use Rattle.std.proofs.Common.{refl}
use Rattle.pg_node_run.specs.Follows.{log_of}
use Rattle.pg_node_run.specs.Logs.{IsCommand}
use Rattle.pg_node_run.proofs.Logging.{logs_on, logs_same}
use Rattle.pg_node_run.proofs.GoingOn.{goes_itself, serves_going, serves_on}
use Rattle.pg_node_run.proofs.Served.{hand_none_itself, hand_none_on, holds_first, holds_next}
use Rattle.pg_node_run.proofs.Wanting.{not_both, wanting_on}
use Rattle.pg_node_run.specs.Ports.{IsPortServed}
use Rattle.pg_node_run.proofs.serving.command_all.Goals as goal

pub loop-port-init : goal.loop-port-init
loop-port-init g c = (
  serves_going g.L.Link.accepts g.I.Inlet.gives c.args.linked.now c.args.linked.now c.args.ports.now.items (goes_itself g.L.Link.accepts g.I.Inlet.gives g.met.L.Link.rests g.met.I.Inlet.rests c.args.linked.now),
  holds_first (λ place a b. IsPortServed a b) _ c.args.ports.now.items,
  logs_same IsCommand (log_of c.args.linked.now) (log_of c.args.linked.now) refl,
  λ short. not_both _ c.idle-phase.ensures.whole short,
  hand_none_itself c.args.ports.now.items,
)

pub loop-port-preserved : goal.loop-port-preserved
loop-port-preserved g c = (
  serves_on g.L.Link.accepts g.I.Inlet.gives g.met.L.Link.composes g.met.I.Inlet.composes c.args.linked.now c.loop-port.linked c.command_of.new.linked c.args.ports.now.items c.loop-port.ports.items c.command_of.new.ports.items c.loop-port.invariant.0 c.command_of.ensures.serves,
  holds_next (λ place a b. IsPortServed a b) c.loop-port.port _ _ _ c.args.ports.now.items c.loop-port.ports.items c.command_of.new.ports.items c.and-phase.ensures.first c.and-phase.ensures.second c.loop-port.invariant.1 c.command_of.ensures.served c.command_of.ensures.others,
  logs_on IsCommand (log_of c.args.linked.now) (log_of c.loop-port.linked) (log_of c.command_of.new.linked) c.loop-port.invariant.2 c.command_of.ensures.logs,
  wanting_on g.L.Link.accepts g.I.Inlet.gives g.met.L.Link.rests g.met.I.Inlet.rests g.met.L.Link.composes g.met.I.Inlet.composes _ _ _ c.args.linked.now c.loop-port.linked c.command_of.new.linked c.and-phase.ensures.either
      (c.loop-port.invariant.0.acts, c.loop-port.invariant.0.follows) (c.command_of.ensures.serves.acts, c.command_of.ensures.serves.follows) c.loop-port.invariant.3 c.command_of.ensures.wanting,
  hand_none_on c.args.ports.now.items c.loop-port.ports.items c.command_of.new.ports.items c.loop-port.invariant.4 c.command_of.ensures.count,
)
