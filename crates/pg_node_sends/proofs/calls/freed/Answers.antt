use Rattle.std.proofs.Common.{◌≡◌, ◌∙◌, sym, ap}
use Rattle.pg_node_opens.specs.PgGroup.Value.{name_of}
use Rattle.pg_node_opens.specs.PgStep.Machines.Clocked.{stamped}
use Rattle.pg_node_opens.specs.PgMessageTypes.declared.message.Message.TheVariants as messages
use Rattle.pg_node_opens.specs.Opens.{live_of, names_of}
use Rattle.pg_node_opens.specs.Readings.{update_of}
use Rattle.pg_node_opens.specs.PgStep.Attempts.{is_yes}
use Rattle.pg_node_opens.specs.PgStep.Nodes.{to_peers}
use Rattle.pg_node_sends.specs.Sent.{sends_in}
use Rattle.pg_node_sends.proofs.Updates.{update_is}
use Rattle.pg_node_sends.proofs.calls.freed.Goals as goal

pub returns-clause-sends : goal.returns-clause-sends
returns-clause-sends g c =
    let opens = c.args.opens.now in
    λ op update first st is.
    let changed : c.update_under-update.result.now ≡ update = update_is c.update_under-update.result.now update (sym c.update_under-update.ensures ∙ ap update_of is) in
    let lock = c.own_under.ensures in
    ap (sends_in (names_of opens)) c.done_with.ensures.sends ∙ (c.in_ok-sends.ensures.sends op update first st is
    ∙ (λ i q. stamped c.args.clock (to_peers (live_of opens) (λ p. is_yes (st p)) (messages.DelLock ((c.name.ensures ∙ ap name_of changed) i) (lock i)) q)))
