use Rattle.std.proofs.Common.{◌≡◌, arith}
use Rattle.pg_node_state.specs.PgNodeOpens.Places.{name_at}
use Rattle.pg_node.specs.Links.{links_in}
use Rattle.pg_node_state.specs.States.{names_of, kept_by}
use Rattle.pg_node.proofs.Begun.{begins_so}
use Rattle.pg_node.proofs.node.begun.opening_wires.Goals as goal

pub returns-clause-begun : goal.returns-clause-begun
returns-clause-begun g c = λ peers same.
    let count : c.peer_count.result ≡ peers = let known = c.peer_count.ensures in omega (arith, same, known) in
    begins_so c.opened_wires-wires.result (λ wires. links_in wires.items) (kept_by c.args.state.now).table (name_at (names_of c.args.state.now) 0) c.peer_count.result peers c.in-Ok.packet count c.in-Ok.ensures
    c.opened_wires-wires.ensures.body c.opened_wires-wires.ensures.opened
