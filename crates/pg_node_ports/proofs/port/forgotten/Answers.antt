use Rattle.std.proofs.Common.{sym}
use Rattle.pg_node_ports.proofs.Answered.{forgotten_there}
use Rattle.pg_node_ports.proofs.port.forgotten.Goals as goal

pub returns : goal.returns
returns c = sym (forgotten_there c.args.ports.now.items c.args.port c.from.result c.index-entry.result.now c.index-entry.result.now c.from.ensures c.requires.place c.index-entry.ensures)
