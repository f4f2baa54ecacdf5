use Rattle.std.proofs.Common.{ap, ◌∙◌, ◌+◌, List}
use Rattle.pg_node_opens.specs.PgStep.Machines.Clocked.{Stamped, stamped}
use Rattle.pg_node_opens.specs.PgMessageTypes.declared.message.Message.{Message}
use Rattle.pg_node_opens.specs.PgMessageTypes.declared.message.Message.TheVariants.{Reply}
use Rattle.pg_node_opens.specs.PgMessageTypes.declared.message.Said.{Said}
use Rattle.pg_node_opens.specs.Places.{name_at}
use Rattle.pg_node_opens.specs.PgStep.Nodes.{Node, to_one}
use Rattle.pg_node_opens.specs.PgStep.Peers.{verdict}
use Rattle.pg_node_sends.proofs.served.lock_for_peer.Goals as goal

pub returns-in-Ok-clause-sends : goal.returns-in-Ok-clause-sends
returns-in-Ok-clause-sends g c = λ names.
    let replied : Said → Node → List (Stamped Message) = λ s q. stamped c.args.clock (to_one (name_at names (c.args.peer + 1)) (Reply c.args.reference.now s) q) in
    c.in_ok-done.ensures.sends names ∙ ap replied (c.verdict.ensures ∙ ap verdict c.grants-granted.ensures)
