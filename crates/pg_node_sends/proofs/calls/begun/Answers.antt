use Rattle.std.proofs.Common.{◌≡◌, ◌∙◌, ◌+◌, true, sym, ap}
use Rattle.pg_node_opens.specs.PgStep.Machines.Clocked.{stamped}
use Rattle.pg_node_opens.specs.PgMessageTypes.declared.message.Message.TheVariants as messages
use Rattle.pg_node_opens.specs.PgMessageTypes.declared.message.Request.TheVariants as requests
use Rattle.pg_node_opens.specs.Opens.{live_of, names_of}
use Rattle.pg_node_opens.specs.Readings.{update_of}
use Rattle.pg_node_opens.specs.PgStep.Attempts.{own_reference}
use Rattle.pg_node_opens.specs.PgStep.Nodes.{to_peers}
use Rattle.pg_node_sends.specs.Sent.{sends_in}
use Rattle.pg_node_sends.proofs.Updates.{update_is}
use Rattle.pg_node_sends.proofs.calls.begun.Goals as goal

pub returns-in-Ok-clause-sends : goal.returns-in-Ok-clause-sends
returns-in-Ok-clause-sends g c =
    let opens = c.args.opens.now in
    λ op update first st is.
    let changed : c.update_under-update.result.now ≡ update = update_is c.update_under-update.result.now update (sym c.update_under-update.ensures ∙ ap update_of is) in
    let call = c.own_under-call.ensures ∙ ap (λ n. own_reference (live_of opens) (n + 1)) c.references.ensures in
    ap (sends_in (names_of opens)) c.done_with.ensures.sends ∙ (c.in_ok-sends.ensures.sends
    ∙ (λ i q. stamped c.args.clock (to_peers (live_of opens) (λ p. true) (messages.Call (call i) (requests.Change (changed i))) q)))
