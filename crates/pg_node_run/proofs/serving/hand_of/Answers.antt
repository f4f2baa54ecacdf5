use Rattle.pg_node_run.proofs.Forgetting.{all_forget_none}
use Rattle.pg_node_run.proofs.GoingOn.{goes_itself, serves_going}
use Rattle.pg_node_run.proofs.Served.{keep_themselves}
use Rattle.std.proofs.Common.{refl}
use Rattle.pg_node_run.proofs.Wanting.{not_both}
use Rattle.pg_node_run.proofs.serving.hand_of.Goals as goal

pub returns-in-Err-clause-serves : goal.returns-in-Err-clause-serves
returns-in-Err-clause-serves g c = serves_going g.L.Link.accepts g.I.Inlet.gives c.args.linked.now c.args.linked.now c.args.ports.now.items (goes_itself g.L.Link.accepts g.I.Inlet.gives g.met.L.Link.rests g.met.I.Inlet.rests c.args.linked.now)

pub returns-in-Err-clause-kept : goal.returns-in-Err-clause-kept
returns-in-Err-clause-kept g c = keep_themselves c.args.ports.now.items

pub returns-in-Err-clause-forgets : goal.returns-in-Err-clause-forgets
returns-in-Err-clause-forgets g c = all_forget_none c.args.ports.now.items c.args.pauses.now

pub returns-in-Err-clause-left : goal.returns-in-Err-clause-left
returns-in-Err-clause-left g c = λ short. not_both _ c.idle.ensures.whole short

pub returns-in-Err-clause-others : goal.returns-in-Err-clause-others
returns-in-Err-clause-others g c = λ other none apart. refl
