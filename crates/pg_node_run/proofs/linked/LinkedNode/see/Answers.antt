use Rattle.pg_node_run.proofs.GoingOn.{saw_it, saw_nothing}
use Rattle.pg_node_run.proofs.Logging.{logs_saw, logs_saw_nothing}
use Rattle.pg_node_run.proofs.Wanting.{refused_loss, seeing_wants}
use Rattle.pg_node_run.specs.Acts.{Saw}
use Rattle.pg_node_run.specs.Events.{Acted}
use Rattle.std.proofs.Common.{subst}
use Rattle.pg_node_run.proofs.linked.LinkedNode.see.Goals as goal

pub returns-in-Ok-clause-sees : goal.returns-in-Ok-clause-sees
returns-in-Ok-clause-sees g c = saw_it g.L.Link.accepts g.I.Inlet.gives c.args.notice c.see_loss.result c.args.self.now c.see_loss.new.self _ c.in-Ok.is c.see_loss.ensures.acted

pub returns-in-Err-clause-sees : goal.returns-in-Err-clause-sees
returns-in-Err-clause-sees g c = saw_nothing g.L.Link.accepts g.I.Inlet.gives c.args.notice c.see_loss.result c.args.self.now c.see_loss.new.self _ c.in-Err.is c.see_loss.ensures.acted

pub returns-in-Ok-clause-logs : goal.returns-in-Ok-clause-logs
returns-in-Ok-clause-logs g c = logs_saw g.L.Link.accepts g.I.Inlet.gives c.args.notice c.see_loss.result c.args.self.now c.see_loss.new.self _ c.in-Ok.is c.see_loss.ensures.acted

pub returns-in-Err-clause-logs : goal.returns-in-Err-clause-logs
returns-in-Err-clause-logs g c = logs_saw_nothing g.L.Link.accepts g.I.Inlet.gives c.args.notice c.see_loss.result c.args.self.now c.see_loss.new.self _ c.in-Err.is c.see_loss.ensures.acted

pub returns-in-Ok-clause-saw : goal.returns-in-Ok-clause-saw
returns-in-Ok-clause-saw g c = subst (λ x. Acted g.L.Link.accepts g.I.Inlet.gives (Saw c.args.notice.peer c.args.notice.last) x c.args.self.now c.see_loss.new.self) c.in-Ok.is c.see_loss.ensures.acted

pub returns-in-Err-clause-refused : goal.returns-in-Err-clause-refused
returns-in-Err-clause-refused g c = λ no_want.
    refused_loss g.L.Link.accepts g.I.Inlet.gives g.met.L.Link.rests g.met.I.Inlet.rests g.met.L.Link.composes g.met.I.Inlet.composes c.args.notice c.see_loss.result _ c.args.self.now c.see_loss.new.self
    c.in-Err.is c.see_loss.ensures.acted c.see_loss.ensures.fault no_want

pub returns-in-Err-clause-wanting : goal.returns-in-Err-clause-wanting
returns-in-Err-clause-wanting g c = λ want.
    seeing_wants g.L.Link.accepts g.I.Inlet.gives g.met.L.Link.rests g.met.I.Inlet.rests g.met.L.Link.composes g.met.I.Inlet.composes c.args.notice c.see_loss.result _ c.args.self.now c.see_loss.new.self
    c.requires.place c.in-Err.is c.see_loss.ensures.acted c.see_loss.ensures.fault want
