use Rattle.std.proofs.Common.{◌∙◌, ◌+◌, true, sym, ap}
use Rattle.pg_node_opens.specs.PgGroup.Value.{name_of}
use Rattle.pg_node_opens.specs.PgStep.Machines.Clocked.{stamped}
use Rattle.pg_node_opens.specs.PgMessageTypes.declared.message.Message.TheVariants as messages
use Rattle.pg_node_opens.specs.PgMessageTypes.declared.message.Request.TheVariants as requests
use Rattle.pg_node_opens.specs.Opens.{names_of, live_of}
use Rattle.pg_node_opens.specs.PgStep.Attempts.{own_reference}
use Rattle.pg_node_opens.specs.PgStep.Nodes.{to_peers}
use Rattle.pg_node_sends.specs.Sent.{sends_in}
use Rattle.pg_node_sends.proofs.Updates.{same_update}
use Rattle.pg_node_sends.proofs.first.all_asked.Goals as goal

pub returns-clause-sends : goal.returns-clause-sends
returns-clause-sends g c =
    let opens = c.args.opens.now in
    λ update is.
    let name = c.name-name.ensures ∙ ap name_of (same_update c.waiting_under.result.now update (sym c.waiting_under.ensures ∙ is)) in
    let lock = c.own_under-lock.ensures ∙ ap (λ n. own_reference (live_of opens) (n + 1)) c.references.ensures in
    ap (sends_in (names_of opens)) c.done_with.ensures.sends ∙ (c.in_ok-sends.ensures.sends
    ∙ (λ i q. stamped c.args.clock (to_peers (live_of opens) (λ p. true) (messages.Call (lock i) (requests.SetLock (name i))) q)))
