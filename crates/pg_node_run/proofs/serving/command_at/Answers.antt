use Rattle.std.proofs.Common.{◌<◌, length, subst, sym}
use Rattle.pg_node_run.specs.Turns.{ServesPort, Serves}
use Rattle.pg_node_run.proofs.GoingOn.{serves_going, serves_on, serves_one}
use Rattle.pg_node_run.specs.Follows.{log_of}
use Rattle.pg_node_run.specs.Logs.{IsCommand}
use Rattle.pg_node_run.proofs.Logging.{logs_still}
use Rattle.pg_node_run.proofs.Served.{hand_none_at, served_at}
use Rattle.pg_node_run.proofs.Trying.{stays}
use Rattle.pg_node_run.proofs.Wanting.{wanting_between}
use Rattle.pg_node_run.proofs.serving.command_at.Goals as goal

pub returns-then-phase-clause-serves : goal.returns-then-phase-clause-serves
returns-then-phase-clause-serves g c =
    let served : Serves g.L.Link.accepts g.I.Inlet.gives c.args.linked.now c.args.ports.now.items c.serve-phase.new.linked _ =
    serves_one g.L.Link.accepts g.I.Inlet.gives c.args.linked.now c.serve-phase.new.linked c.args.ports.now.items c.from.result c.index_mut-port.result.now c.serve-phase.new.port
    (subst (λ k. k < length c.args.ports.now.items) (sym c.from.ensures) c.requires.place) c.index_mut-port.ensures.value
    (subst (λ k. ServesPort g.L.Link.accepts g.I.Inlet.gives k c.args.linked.now c.index_mut-port.result.now c.serve-phase.new.linked c.serve-phase.new.port) (sym c.from.ensures) c.serve-phase.ensures.serves)
    in
    serves_on g.L.Link.accepts g.I.Inlet.gives g.met.L.Link.composes g.met.I.Inlet.composes c.args.linked.now c.serve-phase.new.linked c.put_waiting.new.self c.args.ports.now.items _ _
    served (serves_going g.L.Link.accepts g.I.Inlet.gives c.serve-phase.new.linked c.put_waiting.new.self _ c.put_waiting.ensures.goes)

pub returns-else-phase-clause-serves : goal.returns-else-phase-clause-serves
returns-else-phase-clause-serves g c =
    serves_one g.L.Link.accepts g.I.Inlet.gives c.args.linked.now c.serve-phase.new.linked c.args.ports.now.items c.from.result c.index_mut-port.result.now c.serve-phase.new.port
    (subst (λ k. k < length c.args.ports.now.items) (sym c.from.ensures) c.requires.place) c.index_mut-port.ensures.value
    (subst (λ k. ServesPort g.L.Link.accepts g.I.Inlet.gives k c.args.linked.now c.index_mut-port.result.now c.serve-phase.new.linked c.serve-phase.new.port) (sym c.from.ensures) c.serve-phase.ensures.serves)

pub returns-then-phase-clause-logs : goal.returns-then-phase-clause-logs
returns-then-phase-clause-logs g c =
    logs_still IsCommand (log_of c.args.linked.now) (log_of c.serve-phase.new.linked) (log_of c.put_waiting.new.self) c.serve-phase.ensures.logs c.put_waiting.ensures.log

pub returns-then-phase-clause-count : goal.returns-then-phase-clause-count
returns-then-phase-clause-count g c =
    hand_none_at c.args.ports.now.items c.from.result c.index_mut-port.result.now c.serve-phase.new.port
    (subst (λ k. k < length c.args.ports.now.items) (sym c.from.ensures) c.requires.place) c.index_mut-port.ensures.value c.serve-phase.ensures.handed c.serve-phase.ensures.count

pub returns-else-phase-clause-count : goal.returns-else-phase-clause-count
returns-else-phase-clause-count g c =
    hand_none_at c.args.ports.now.items c.from.result c.index_mut-port.result.now c.serve-phase.new.port
    (subst (λ k. k < length c.args.ports.now.items) (sym c.from.ensures) c.requires.place) c.index_mut-port.ensures.value c.serve-phase.ensures.handed c.serve-phase.ensures.count

pub returns-then-phase-clause-wanting : goal.returns-then-phase-clause-wanting
returns-then-phase-clause-wanting g c = λ short.
    let a = c.args.linked.now in
    wanting_between g.L.Link.accepts g.I.Inlet.gives g.met.L.Link.rests g.met.I.Inlet.rests g.met.L.Link.composes g.met.I.Inlet.composes a a c.serve-phase.new.linked c.put_waiting.new.self (stays g.L.Link.accepts g.I.Inlet.gives g.met.L.Link.rests g.met.I.Inlet.rests g.met.L.Link.composes g.met.I.Inlet.composes a)
    (c.serve-phase.ensures.wanting short) (c.put_waiting.ensures.goes.acts, c.put_waiting.ensures.goes.follows)

pub returns-else-phase-clause-wanting : goal.returns-else-phase-clause-wanting
returns-else-phase-clause-wanting g c = c.serve-phase.ensures.wanting

pub returns-then-phase-clause-served : goal.returns-then-phase-clause-served
returns-then-phase-clause-served g c = λ whole.
    served_at c.args.ports.now.items c.from.result c.args.place c.index_mut-port.result.now c.serve-phase.new.port c.from.ensures
    (subst (λ k. k < length c.args.ports.now.items) (sym c.from.ensures) c.requires.place) c.index_mut-port.ensures.value (c.serve-phase.ensures.served whole)

pub returns-else-phase-clause-served : goal.returns-else-phase-clause-served
returns-else-phase-clause-served g c = λ whole.
    served_at c.args.ports.now.items c.from.result c.args.place c.index_mut-port.result.now c.serve-phase.new.port c.from.ensures
    (subst (λ k. k < length c.args.ports.now.items) (sym c.from.ensures) c.requires.place) c.index_mut-port.ensures.value (c.serve-phase.ensures.served whole)
