use Rattle.std.proofs.Common.{length}
use Rattle.pg_node_state.specs.PgNodeOpens.Places.{name_at}
use Rattle.pg_node_state.specs.States.{names_of, kept_by}
use Rattle.pg_node.specs.Links.{links_in}
use Rattle.pg_node.proofs.Begun.{memory_alone}
use Rattle.pg_node.proofs.node.Node.opened.Goals as goal

pub returns-in-Err-clause-fault : goal.returns-in-Err-clause-fault
returns-in-Err-clause-fault g c =
    let wires = c.in-Some.wires.items in
    memory_alone (kept_by c.args.state).table (name_at (names_of c.args.state) 0) (length wires) (links_in wires) (c.in-Some.ensures.begun (length wires) c.in-Some.ensures.len)
