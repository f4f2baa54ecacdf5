use Rattle.std.proofs.Common.{sym, ◌∙◌}
use Rattle.pg_node_ports.proofs.Answered.{answers_there}
use Rattle.pg_node_state.proofs.state.NodeState.answers.Goals as goal

pub returns : goal.returns
returns g c = c.as_slice.ensures.value ∙ sym (answers_there c.args.self.now.ports.items c.args.port c.from.result c.index-entry.result.now c.index-entry.result.now c.from.ensures c.requires.place c.index-entry.ensures)
