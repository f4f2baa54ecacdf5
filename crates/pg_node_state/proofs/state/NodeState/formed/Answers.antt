use Rattle.std.proofs.Common.{◌∙◌}
use Rattle.pg_node_ports.specs.PgNodeOpens.Opens.{lost_of}
use Rattle.pg_node_state.specs.States.{names_of}
use Rattle.pg_node_state.proofs.Formed.{formed_is}
use Rattle.pg_node_state.proofs.state.NodeState.formed.Goals as goal

pub returns : goal.returns
returns g c =
    let old = c.args.self.now in
    c.formed.ensures ∙ formed_is (names_of old) (lost_of old.opens) old.formation old.opens.apart old.peers old.forgotten
