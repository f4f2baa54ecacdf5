use Rattle.pg_node_run.proofs.GoingOn.{goes_itself}
use Rattle.pg_node_run.proofs.Wanting.{not_both, passing_wants}
use Rattle.pg_node_run.proofs.retries.retry_when_due.Goals as goal

pub returns-in-Ok-false-clause-goes : goal.returns-in-Ok-false-clause-goes
returns-in-Ok-false-clause-goes g c = goes_itself g.L.Link.accepts g.I.Inlet.gives g.met.L.Link.rests g.met.I.Inlet.rests c.args.linked.now

pub returns-in-Err-clause-goes : goal.returns-in-Err-clause-goes
returns-in-Err-clause-goes g c = goes_itself g.L.Link.accepts g.I.Inlet.gives g.met.L.Link.rests g.met.I.Inlet.rests c.args.linked.now

pub returns-then-ready-clause-tried : goal.returns-then-ready-clause-tried
returns-then-ready-clause-tried g c = λ whole due. c.retry_of.ensures.tried whole

pub returns-in-Ok-true-clause-tried : goal.returns-in-Ok-true-clause-tried
returns-in-Ok-true-clause-tried g c = λ whole due. c.retry_of-in-Ok-true.ensures.tried whole

pub returns-in-Ok-false-clause-wanting : goal.returns-in-Ok-false-clause-wanting
returns-in-Ok-false-clause-wanting g c = λ short. not_both _ c.idle.ensures.whole short

pub returns-in-Err-clause-wanting : goal.returns-in-Err-clause-wanting
returns-in-Err-clause-wanting g c = λ short. passing_wants g.L.Link.accepts g.I.Inlet.gives g.met.L.Link.rests g.met.I.Inlet.rests g.met.L.Link.composes g.met.I.Inlet.composes c.args.op c.args.linked.now
