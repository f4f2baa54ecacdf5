use Rattle.std.proofs.Common.{◌∙◌, ap, sym}
use Rattle.pg_node_ports.specs.PgGroup.Value.{name_of}
use Rattle.pg_node_ports.specs.PgLock.Locks.{locks_of, grants}
use Rattle.pg_node_ports.specs.PgNodeOpens.Opens.{lost_of}
use Rattle.pg_node_state.specs.States.{names_of}
use Rattle.pg_node_sends.proofs.Updates.{same_update}
use Rattle.pg_node_state.proofs.Formed.{formed_is}
use Rattle.pg_node_state.proofs.state.NodeState.would_grant_to.Goals as goal

pub returns : goal.returns
returns g c = λ update is.
    let node = c.args.self.now in
    let name = c.name-name.ensures ∙ ap name_of (same_update c.waiting_under.result.now update (sym c.waiting_under.ensures ∙ is)) in
    let formed = c.formed.ensures ∙ formed_is (names_of node) (lost_of node.opens) node.formation node.opens.apart node.peers node.forgotten in
    c.grants.ensures ∙ (λ i. grants (formed i) (locks_of node.locks) (name i))
