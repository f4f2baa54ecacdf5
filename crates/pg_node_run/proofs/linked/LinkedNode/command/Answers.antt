use Rattle.std.proofs.Common.{refl, subst}
use Rattle.pg_node_run.specs.Acts.{Did}
use Rattle.pg_node_run.specs.Events.{Acted}
use Rattle.pg_node_run.proofs.Acting.{nothing_held}
use Rattle.pg_node_run.proofs.linked.LinkedNode.command.Goals as goal
use Rattle.pg_node.specs.PgStep.declared.command.Command.{Command}
use Rattle.pg_node.specs.PgStep.Step.{Issue}

pub returns-in-Ok-clause-acted : goal.returns-in-Ok-clause-acted
returns-in-Ok-clause-acted g c =
    subst (λ (command : Command). Acted g.L.Link.accepts g.I.Inlet.gives (Did (Issue c.args.port command)) c.command_held.result c.args.self.now c.command_held.new.self)
    c.in-Ok.ensures.ok c.command_held.ensures.acted

pub returns-in-Err-clause-acted : goal.returns-in-Err-clause-acted
returns-in-Err-clause-acted g c = nothing_held g.L.Link.accepts g.I.Inlet.gives g.met.L.Link.rests g.met.I.Inlet.rests c.args.self.now _ refl refl refl refl
