use Rattle.std.proofs.Common.{refl}
use Rattle.pg_node_run.specs.Follows.{log_of, node_of}
use Rattle.pg_node_run.specs.Logs.{IsDueRetry}
use Rattle.pg_node_run.specs.Tries.{is_ready_at}
use Rattle.pg_node_run.proofs.GoingOn.{goes_itself}
use Rattle.pg_node_run.proofs.Logging.{logs_same}
use Rattle.pg_node_run.proofs.Pausing.{waits_still}
use Rattle.pg_node_run.proofs.Wanting.{listing_wants}
use Rattle.pg_node_run.proofs.retries.retry_listed.Goals as goal

pub returns-in-Err-clause-goes : goal.returns-in-Err-clause-goes
returns-in-Err-clause-goes g c = goes_itself g.L.Link.accepts g.I.Inlet.gives g.met.L.Link.rests g.met.I.Inlet.rests c.args.linked.now

pub returns-in-Err-clause-waits : goal.returns-in-Err-clause-waits
returns-in-Err-clause-waits g c = λ k op there. waits_still (is_ready_at (node_of c.args.linked.now) op) c.of.result.whole (λ whole. c.of.ensures.no_want whole) _ _ refl

pub returns-in-Err-clause-logs : goal.returns-in-Err-clause-logs
returns-in-Err-clause-logs g c = logs_same (IsDueRetry (is_ready_at (node_of c.args.linked.now)) c.args.pauses.now c.args.pauses.now) (log_of c.args.linked.now) (log_of c.args.linked.now) refl

pub returns-in-Err-clause-wanting : goal.returns-in-Err-clause-wanting
returns-in-Err-clause-wanting g c = λ short. listing_wants g.L.Link.accepts g.I.Inlet.gives g.met.L.Link.rests g.met.I.Inlet.rests g.met.L.Link.composes g.met.I.Inlet.composes c.args.linked.now
