use Rattle.std.proofs.Common.{refl}
use Rattle.pg_node_run.specs.Follows.{log_of}
use Rattle.pg_node_run.specs.Logs.{IsCommand}
use Rattle.pg_node_run.proofs.Logging.{logs_same}
use Rattle.pg_node_run.proofs.GoingOn.{goes_itself, serves_going}
use Rattle.pg_node_run.proofs.Served.{hand_none_itself}
use Rattle.pg_node_run.proofs.Wanting.{not_both}
use Rattle.pg_node_run.proofs.serving.command_of.Goals as goal

pub returns-in-Err-clause-serves : goal.returns-in-Err-clause-serves
returns-in-Err-clause-serves g c = serves_going g.L.Link.accepts g.I.Inlet.gives c.args.linked.now c.args.linked.now c.args.ports.now.items (goes_itself g.L.Link.accepts g.I.Inlet.gives g.met.L.Link.rests g.met.I.Inlet.rests c.args.linked.now)

pub returns-in-Err-clause-others : goal.returns-in-Err-clause-others
returns-in-Err-clause-others g c = λ other none apart. refl

pub returns-in-Err-clause-logs : goal.returns-in-Err-clause-logs
returns-in-Err-clause-logs g c = logs_same IsCommand (log_of c.args.linked.now) (log_of c.args.linked.now) refl

pub returns-in-Err-clause-wanting : goal.returns-in-Err-clause-wanting
returns-in-Err-clause-wanting g c = λ short. not_both _ c.idle.ensures.whole short

pub returns-in-Err-clause-count : goal.returns-in-Err-clause-count
returns-in-Err-clause-count g c = hand_none_itself c.args.ports.now.items
