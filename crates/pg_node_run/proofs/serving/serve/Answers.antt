use Rattle.std.proofs.Common.{◌∙◌, List, [], ◌∷◌, ap, refl}
use Rattle.pg_node_run.specs.declared.port.Asked.{Asked}
use Rattle.pg_node.specs.PgStep.declared.command.Command.{Command}
use Rattle.pg_node_run.specs.Follows.{log_of}
use Rattle.pg_node_run.specs.Logs.{IsCommand}
use Rattle.pg_node_run.proofs.Logging.{logs_command, logs_same}
use Rattle.pg_node_run.proofs.GoingOn.{served_none, served_command, served_kept}
use Rattle.pg_node_run.proofs.Served.{serves_all, no_command_refused}
use Rattle.pg_node_run.proofs.Wanting.{commanding_wants, not_both}
use Rattle.pg_node_run.proofs.serving.serve.Goals as goal

-- the command that is handed back, to be kept
abbrev again : Asked → Command → List Asked
again next command = record { command = command; polled = next.polled } ∷ []

pub returns-in-None-clause-serves : goal.returns-in-None-clause-serves
returns-in-None-clause-serves g c =
    served_none g.L.Link.accepts g.I.Inlet.gives g.met.L.Link.rests g.met.I.Inlet.rests c.args.place c.args.linked.now c.args.port.now c.next.new.self c.next.ensures.same c.in-None.ensures.none c.next.ensures.handed c.next.ensures.count

pub returns-in-None-clause-served : goal.returns-in-None-clause-served
returns-in-None-clause-served g c = λ whole. c.in-None.ensures.served

pub returns-in-Ok-clause-serves : goal.returns-in-Ok-clause-serves
returns-in-Ok-clause-serves g c =
    served_command g.L.Link.accepts g.I.Inlet.gives c.args.place _ c.command.result c.args.linked.now c.command.new.self c.args.port.now c.next.new.self
    c.next.ensures.same c.in-Some.ensures.some.came c.in-Some.ensures.some.none c.next.ensures.handed c.next.ensures.count c.in-Some.ensures.waited _ c.in-Ok.is c.command.ensures.acted

pub returns-in-Ok-clause-served : goal.returns-in-Ok-clause-served
returns-in-Ok-clause-served g c = λ whole. serves_all c.args.port.now c.next.new.self c.in-Some.ensures.some.none c.next.ensures.looked

pub returns-in-Err-clause-serves : goal.returns-in-Err-clause-serves
returns-in-Err-clause-serves g c =
    served_kept g.L.Link.accepts g.I.Inlet.gives c.args.place _ _ c.command.result c.args.linked.now c.command.new.self c.args.port.now c.next.new.self c.keep.new.self
    c.next.ensures.same c.in-Some.ensures.some.came c.next.ensures.handed c.next.ensures.count c.in-Err.is c.command.ensures.acted
    c.keep.ensures.same c.keep.ensures.asked (c.keep.ensures.kept ∙ ap (again c.in-Some.field-0) c.in-Err.ensures.back) c.keep.ensures.handed c.keep.ensures.count

pub returns-in-Err-clause-served : goal.returns-in-Err-clause-served
returns-in-Err-clause-served g c = λ whole. absurd (no_command_refused c.args.linked.now.node c.args.place _ _ c.requires c.in-Err.ensures.fault (c.of-in-Err.ensures.no_want whole))

pub returns-in-None-clause-logs : goal.returns-in-None-clause-logs
returns-in-None-clause-logs g c = logs_same IsCommand (log_of c.args.linked.now) (log_of c.args.linked.now) refl

pub returns-in-Ok-clause-logs : goal.returns-in-Ok-clause-logs
returns-in-Ok-clause-logs g c = logs_command g.L.Link.accepts g.I.Inlet.gives c.args.place _ c.command.result c.args.linked.now c.command.new.self c.command.ensures.acted

pub returns-in-Err-clause-logs : goal.returns-in-Err-clause-logs
returns-in-Err-clause-logs g c = logs_command g.L.Link.accepts g.I.Inlet.gives c.args.place _ c.command.result c.args.linked.now c.command.new.self c.command.ensures.acted

pub returns-in-None-clause-wanting : goal.returns-in-None-clause-wanting
returns-in-None-clause-wanting g c = λ short. not_both _ c.idle.ensures.whole short

pub returns-in-Ok-clause-wanting : goal.returns-in-Ok-clause-wanting
returns-in-Ok-clause-wanting g c = λ short. absurd (c.of.ensures.want short)

pub returns-in-Err-clause-wanting : goal.returns-in-Err-clause-wanting
returns-in-Err-clause-wanting g c = λ short.
    commanding_wants g.L.Link.accepts g.I.Inlet.gives g.met.L.Link.rests g.met.I.Inlet.rests g.met.L.Link.composes g.met.I.Inlet.composes c.args.place _ c.command.result _ c.args.linked.now c.command.new.self c.requires
    c.in-Err.is c.command.ensures.acted c.in-Err.ensures.fault (c.of-in-Err.ensures.want short)
