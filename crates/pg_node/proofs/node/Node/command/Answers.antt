use Rattle.std.proofs.Common.{◌∙◌, ℕ, ap}
use Rattle.pg_node_state.specs.PgNodeSends.Framed.{listed_of}
use Rattle.pg_node_state.specs.PgNodeSends.Frames.{frames_to}
use Rattle.pg_node.specs.Links.{Link, with_more}
use Rattle.pg_node.proofs.node.Node.command.Goals as goal

pub returns-in-Ok-command_as-clause-sent : goal.returns-in-Ok-command_as-clause-sent
returns-in-Ok-command_as-clause-sent g c = λ place. c.send_all.ensures.sent place
    ∙ ap (λ (f : ℕ → Link). with_more (f place) (frames_to (listed_of c.in-Ok-command_as.done.sends) place)) c.make_room.ensures.same

pub returns-in-Ok-command_as-clause-small : goal.returns-in-Ok-command_as-clause-small
returns-in-Ok-command_as-clause-small g c = c.send_all.ensures.small
