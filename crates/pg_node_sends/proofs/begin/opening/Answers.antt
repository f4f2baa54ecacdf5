use Rattle.pg_node_opens.specs.Opens.{names_of, live_of}
use Rattle.pg_node_sends.specs.Sent.{sends_in}
use Rattle.pg_node_sends.proofs.Announcing.{announced}
use Rattle.pg_node_sends.proofs.begin.opening.Goals as goal

pub returns-clause-announces : goal.returns-clause-announces
returns-clause-announces g c =
    announced c.copies_to_live-sends.result (λ sends. sends_in (names_of c.args.opens.now) sends.items) (g.T.GroupTable.contents c.args.table.now) (live_of c.args.opens.now) c.in_ok-packet.packet c.in_ok-packet.ensures c.copies_to_live-sends.ensures.sends
