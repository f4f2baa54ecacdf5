use Rattle.std.proofs.Common.{not, ap, ◌∙◌, arith}
use Rattle.pg_node_ports.proofs.PgNodeOpens.Asking.{peer_left}
use Rattle.pg_node_state.proofs.state.NodeState.attempt.Goals as goal

pub ask_greatest-requires-clause-peer : goal.ask_greatest-requires-clause-peer
ask_greatest-requires-clause-peer g c =
    let opens = c.args.self.now.opens in
    peer_left opens.names.items opens.lost.items opens.apart opens.places c.greatest-first.result c.greatest-first.ensures.within (omega arith) ∙ ap not c.greatest-first.ensures.counts
