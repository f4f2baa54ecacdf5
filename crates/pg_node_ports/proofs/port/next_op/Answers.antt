use Rattle.std.proofs.Common.{◌+◌, sym, arith}
use Rattle.pg_node_ports.proofs.Answered.{count_there}
use Rattle.pg_node_ports.proofs.port.next_op.Goals as goal

pub overflow_add-result : goal.overflow_add-result
overflow_add-result c =
    let here = count_there c.args.ports.now.items c.args.port c.from.result c.index-entry.result.now c.index-entry.result.now c.from.ensures c.requires.place c.index-entry.ensures in
    omega (arith, here, c.requires.few)

pub returns : goal.returns
returns c =
    let here = count_there c.args.ports.now.items c.args.port c.from.result c.index-entry.result.now c.index-entry.result.now c.from.ensures c.requires.place c.index-entry.ensures in
    λ i. record { port = c.args.port; number = sym here i + 1 }
